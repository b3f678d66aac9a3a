use Rattle.std.proofs.Math.Logic.{∥∥₁_map}
use Rattle.treasury_state.specs.Federation.{Federation}
use Rattle.treasury_store.specs.Store.{empty_state}
use Rattle.treasury_files.specs.Left.{HoldsOf}
use Rattle.treasury_api.specs.History.{KeepBooksTo}
use Rattle.treasury.specs.OverFile.{AreToldBut, turns_of_told}
use Rattle.treasury.proofs.FileLemmas.{holds_of, shows_of, shows_nothing, found_closed, answers_file, keeps_file}
use Rattle.treasury.proofs.ToldLemmas.{told_run}
use Rattle.treasury.proofs.laws.files_law.Goals as goal

pub returns-clause-shown : goal.returns-clause-shown
returns-clause-shown g c = shows_of _

pub returns-clause-holds : goal.returns-clause-holds
returns-clause-holds g c = holds_of

pub returns-clause-begun : goal.returns-clause-begun
returns-clause-begun g c start left made next clean none may =
    found_closed _ start left next empty_state (made.closed, made.is_left, made.makes clean none) may

pub returns-clause-begun_new : goal.returns-clause-begun_new
returns-clause-begun_new g c start left made next clean empty may =
    returns-clause-begun g c start left made next clean
    (shows_nothing _ start made.opened empty (made.found clean) (made.serves clean)) may

pub returns-clause-answered : goal.returns-clause-answered
returns-clause-answered g c = answers_file _

pub returns-clause-books : goal.returns-clause-books
returns-clause-books g c start words end f holds told =
    let kept = answers_file _ start words end f holds told in
    (kept.0, kept.1, c.words_law.ensures.headline f words kept.0 holds.good kept.1, kept.2)

pub returns-clause-kept : goal.returns-clause-kept
returns-clause-kept g c = keeps_file _

pub returns-clause-headline : goal.returns-clause-headline
returns-clause-headline g c start words end f holds told =
    ∥∥₁_map (keeps_file _ start words end f holds told) (λ kept.
    let run = told_run f words kept.0 kept.1 in
    let r : (last : Federation) × (told : AreToldBut f words last)
    × KeepBooksTo f (turns_of_told f words last told) last × HoldsOf end last = (
      kept.0,
      kept.1,
      (run.0, run.1, c.headline_law.ensures f (turns_of_told f words kept.0 kept.1) holds.good run.0),
      kept.2,
    ) in r)
