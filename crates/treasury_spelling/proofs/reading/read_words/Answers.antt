use Rattle.treasury_spelling.proofs.WordLemmas.{words_taken, words_misplaced, misplaced_fails, named_rows, fails_by}
use Rattle.treasury_spelling.proofs.reading.read_words.Goals as goal

pub returns-in-Err-try_get_matches_from_mut-clause-fails : goal.returns-in-Err-try_get_matches_from_mut-clause-fails
returns-in-Err-try_get_matches_from_mut-clause-fails c =
    fails_by _ _ _ c.in-Ok.ensures c.in-Err-try_get_matches_from_mut.ensures.kinds

pub returns-in-None-clause-named : goal.returns-in-None-clause-named
returns-in-None-clause-named c =
    named_rows _ _ c.in-Ok-try_get_matches_from_mut.matches c.in-Ok.ensures
    c.in-Ok-try_get_matches_from_mut.ensures.ok.2

pub returns-in-None-clause-taken : goal.returns-in-None-clause-taken
returns-in-None-clause-taken c =
    words_taken _ _ c.in-Ok-try_get_matches_from_mut.matches c.in-Ok.ensures
    c.in-Ok-try_get_matches_from_mut.ensures.kinds
    (named_rows _ _ c.in-Ok-try_get_matches_from_mut.matches c.in-Ok.ensures
    c.in-Ok-try_get_matches_from_mut.ensures.ok.2) c.in-None.ensures

pub returns-clause-fails : goal.returns-clause-fails
returns-clause-fails c =
    misplaced_fails _ c.in-Some.kind c.place_error.result
    (words_misplaced _ _ c.in-Ok-try_get_matches_from_mut.matches c.in-Some.kind c.in-Ok.ensures
    c.in-Ok-try_get_matches_from_mut.ensures.kinds
    (named_rows _ _ c.in-Ok-try_get_matches_from_mut.matches c.in-Ok.ensures
    c.in-Ok-try_get_matches_from_mut.ensures.ok.2) c.in-Some.ensures) c.place_error.ensures
