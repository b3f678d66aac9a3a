use Rattle.clap.specs.Matches.{found_of}
use Rattle.clap.specs.Walk.{rows_of}
use Rattle.treasury.specs.OverFileParts.{spoken}
use Rattle.treasury.proofs.OverFileLemmas.{word_told}
use Rattle.treasury.proofs.words.do_over_file.Goals as goal

pub returns-clause-told : goal.returns-clause-told
returns-clause-told g c =
    word_told _ _ g.W.Write.contents c.args.output.now c.write_answer-status.new.output c.write_answer-status.result
    c.args.word.now (rows_of (found_of c.args.values.now)) (spoken c.answer_over_file-said.result.said)
    c.answer_over_file-said.result.left c.write_answer-status.ensures c.answer_over_file-said.ensures
