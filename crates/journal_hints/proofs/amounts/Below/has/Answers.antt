use Rattle.std.proofs.Common.{◌≡◌, true, false, rules, arith}
use Rattle.std.specs.Prelude.{◌&&◌}
use Rattle.journal_lines.specs.LineKind.{kind_of}
use Rattle.journal_hints.specs.OddAmount.{is_next, is_inner}
use Rattle.journal_hints.proofs.BelowLemmas.{at_header, at_other}
use Rattle.journal_hints.proofs.amounts.Below.has.Goals as goal
use Rattle.journal_hints.proofs.amounts.Below.has.Goals.{in_default-via-then-self-lt1}
use Rattle.journal_hints.proofs.amounts.Below.has.Goals.{in_default-via-in-len1-up+else-head-number}
use Rattle.journal_hints.proofs.amounts.Below.has.Goals.{then-self, else-self}

pub returns-in-len1-up : goal.returns-in-len1-up
returns-in-len1-up c = λ rest.
    let heads = c.args.self.now.heads.now in
    let next : is_next heads c.args.number ≡ true = first_of (search rules, grind arith) in
    at_header heads c.args.self.now.inside (c.args.number, c.args.line.now) rest next

pub returns-after-self : goal.returns-after-self
returns-after-self c = λ rest.
    let heads = c.args.self.now.heads.now in
    let inside = c.args.self.now.inside in
    let next : is_next heads c.args.number ≡ false = elim c.in_default.branch [
      | in_default-via-then-self-lt1 w ↦ first_of (search rules, grind arith)
      | in_default-via-in-len1-up+else-head-number w ↦ first_of (search rules, grind arith)
    ] in
    let below : c.if-self.self ≡ (inside && is_inner (kind_of c.args.line.now)) = elim c.if-self.branch [
      | then-self w ↦ first_of (search rules, grind arith)
      | else-self w ↦ first_of (search rules, grind arith)
    ] in
    at_other heads inside c.if-self.self (c.args.number, c.args.line.now) rest next below
