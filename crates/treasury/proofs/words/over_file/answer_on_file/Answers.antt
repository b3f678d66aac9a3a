use Rattle.std.proofs.Common.{refl, inl, inr}
use Rattle.std.specs.Cow.{cow_slice_items}
use Rattle.treasury.specs.OverFile.{cannot_be_used, is_answered}
use Rattle.treasury.proofs.OverFileLemmas.{answers_over, may_have_done}
use Rattle.treasury.proofs.words.over_file.answer_on_file.Goals as goal

pub returns-in-Ok-clause-says : goal.returns-in-Ok-clause-says
returns-in-Ok-clause-says g c = λ image started.
    is_answered (answers_over _ image c.args.request.now c.args.treasury c.answer_word-said.new.treasury
    (cow_slice_items c.answer_word-said.result.answer) c.answer_word-said.result.is_refused c.in-Ok.files
    started c.answer_word-said.ensures.says c.in-Ok.ensures)

pub returns-in-Err-clause-says : goal.returns-in-Err-clause-says
returns-in-Err-clause-says g c = λ image started.
    cannot_be_used c.refused_file.ensures
    (may_have_done _ g.met.D.Disk.seen_may_stay image c.args.request.now c.args.treasury
    c.answer_word-said.new.treasury (cow_slice_items c.answer_word-said.result.answer)
    c.answer_word-said.result.is_refused c.in-Err.store started c.answer_word-said.ensures.says
    c.answer_word-said.ensures.left c.in-Err.ensures)

pub returns-in-Ok-clause-touched : goal.returns-in-Ok-clause-touched
returns-in-Ok-clause-touched g c = inl (c.in-Ok.files, refl)

pub returns-in-Err-clause-touched : goal.returns-in-Err-clause-touched
returns-in-Err-clause-touched g c = inr (c.in-Err.store, refl)
