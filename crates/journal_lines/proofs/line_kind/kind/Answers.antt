use Rattle.std.proofs.Common.{arith, sym}
use Rattle.journal_lines.proofs.KindLemmas.{blank_shows, block_first}
use Rattle.journal_lines.proofs.line_kind.kind.Goals as goal

pub returns-then-is_blank_line-clause-indented : goal.returns-then-is_blank_line-clause-indented
returns-then-is_blank_line-clause-indented c =
    λ blank some. absurd (omega (arith, some, blank_shows c.args.line.now (sym c.if-is_blank_line.ensures)))

pub returns-then-is_block_start-clause-header : goal.returns-then-is_block_start-clause-header
returns-then-is_block_start-clause-header c =
    λ digit. absurd (let not_so = block_first c.args.line.now (sym c.if-is_block_start.ensures) in cc)

pub returns-then-is_block_start-clause-indented : goal.returns-then-is_block_start-clause-indented
returns-then-is_block_start-clause-indented c =
    λ blank some. absurd (let not_so = block_first c.args.line.now (sym c.if-is_block_start.ensures) in cc)
