use Rattle.std.proofs.Common.{rules}
use Rattle.clap.specs.Matches.{found_of}
use Rattle.clap.specs.Walk.{rows_of}
use Rattle.sqlite_wal.specs.Files.{image_at}
use Rattle.treasury.specs.OverFileParts.{spoken}
use Rattle.treasury.proofs.ServingLemmas.{told_served, told_unwritten}
use Rattle.treasury.proofs.words.do_serve.Goals as goal

pub returns-then-is_unwritten-clause-served : goal.returns-then-is_unwritten-clause-served
returns-then-is_unwritten-clause-served g c =
    told_unwritten _ (image_at g.S.Start) g.W.Write.contents c.args.output.now c.serve_over_file-said.new.output
    c.unwritten.result (rows_of (found_of c.args.values.now))
    c.serve_over_file-said.result.ending (spoken c.serve_over_file-said.result.said) c.serve_over_file-said.result.left
    c.serve_over_file-said.ensures.announced c.serve_over_file-said.ensures.says
    (search rules) c.unwritten.ensures

pub returns-clause-served : goal.returns-clause-served
returns-clause-served g c =
    told_served _ (image_at g.S.Start) g.W.Write.contents c.args.output.now c.serve_over_file-said.new.output
    c.write_answer-status.new.output c.write_answer-status.result
    (rows_of (found_of c.args.values.now))
    c.serve_over_file-said.result.ending (spoken c.serve_over_file-said.result.said) c.serve_over_file-said.result.left
    c.serve_over_file-said.ensures.announced c.serve_over_file-said.ensures.says
    (search rules)
    c.write_answer-status.ensures
