use Rattle.treasury.specs.Word.{turns_of_words}
use Rattle.treasury.proofs.ToldLemmas.{words_run, refused_leaves}
use Rattle.treasury.proofs.laws.words_law.Goals as goal

pub returns-clause-headline : goal.returns-clause-headline
returns-clause-headline c f words end good told =
    let run = words_run f words end told in
    (run.0, run.1, c.headline_law.ensures f (turns_of_words f words end told) good run.0)

pub returns-clause-refused : goal.returns-clause-refused
returns-clause-refused c = refused_leaves
