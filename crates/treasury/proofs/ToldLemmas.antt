-- Words over a file, one after another: their commands are a run of the machine of commands.
use Rattle.std.proofs.Common.{◌≡◌, List, [], ◌∷◌, true, ℕ, sym, inl, inr}
use Rattle.treasury_state.specs.Federation.{Federation}
use Rattle.treasury_requests.specs.declared.request.Spelled.{Spelled}
use Rattle.treasury_api.specs.Step.{Standing}
use Rattle.treasury.specs.Word.{AnswersWord, Told, AreTold, turns_of_words}
use Rattle.treasury.specs.OverFile.{AreToldBut, turns_of_told}
use Rattle.treasury_api.proofs.OneRequestLemmas.{IsRunTo, request_run, request_leaves}

pub words_run : (f : Federation) (words : List Told) (end : Federation) (told : AreTold f words end)
    → IsRunTo f (turns_of_words f words end told) end
words_run f [] end same = (tt, same)
words_run f (w ∷ ws) end (mid, (reply, (answers, refused)), rest) =
    request_run f w.request _ reply mid (turns_of_words mid.now ws end rest) end answers
    (words_run mid.now ws end rest)

pub refused_leaves : (s : Standing) (request : Spelled) (text : List ℕ) (t : Standing)
    → AnswersWord s request text true t → t.now ≡ s.now
refused_leaves s request text t (reply, (answers, refused)) =
    request_leaves s request _ reply t answers (sym refused)

-- the same where some of the words are refused and leave the state
pub told_run : (f : Federation) (words : List Told) (end : Federation) (told : AreToldBut f words end)
    → IsRunTo f (turns_of_told f words end told) end
told_run f [] end same = (tt, same)
told_run f (w ∷ ws) end (inl (mid, (reply, (answers, refused)), rest)) =
    request_run f w.request _ reply mid (turns_of_told mid.now ws end rest) end answers
    (told_run mid.now ws end rest)
told_run f (w ∷ ws) end (inr (refused, rest)) = told_run f ws end rest
