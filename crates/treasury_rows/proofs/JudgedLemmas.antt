-- what is judged of branches, one by one
use Rattle.std.proofs.Common.{◌≡◌, ◌<◌, ◌+◌, ◌∙◌, ap, sym, subst, ℕ, List, [], ◌∷◌, ◌++◌, length, take, get_or}
use Rattle.std.proofs.Common.{Option, Some, None, Result}
use Rattle.std.specs.Prelude.{IfOk, MatchOption}
use Rattle.std.proofs.lemmas.Result.{IfOk-weaker}
use Rattle.std.proofs.lemmas.List.{take_more}
use Rattle.book_core.specs.declared.entry.Entry.{Entry}
use Rattle.treasury_state.specs.Federation.{Branch}
use Rattle.treasury_rows.specs.declared.judging.Judged.{Judged}
use Rattle.treasury_rows.specs.Judged.{IsJudged, AreJudged}

judged_push : {L : Type 0} (book : L → List Entry) (bs : List Branch) (js : List (Judged L)) (b : Branch) (j : Judged L)
    → AreJudged book bs js → IsJudged book b j → AreJudged book (bs ++ b ∷ []) (js ++ j ∷ [])
judged_push book [] [] b j h k = (k, tt)
judged_push book (x ∷ bs) (y ∷ js) b j h k = (h.0, judged_push book bs js b j h.1 k)
judged_push book [] (y ∷ js) b j h k = absurd h
judged_push book (x ∷ bs) [] b j h k = absurd h

-- with the branch at the next place
pub judged_more : {L : Type 0} (book : L → List Entry) (bs : List Branch) (js : List (Judged L)) (i : ℕ) (b : Branch)
    (j : Judged L) → i < length bs → b ≡ get_or bs i b → AreJudged book (take i bs) js → IsJudged book b j
    → AreJudged book (take (i + 1) bs) (js ++ j ∷ [])
judged_more book bs js i b j high here h k =
    subst (λ (xs : List Branch). AreJudged book xs (js ++ j ∷ []))
    (sym (take_more bs i b high ∙ ap (λ (x : Branch). take i bs ++ x ∷ []) (sym here)))
    (judged_push book (take i bs) js b j h k)

-- the first branch that is left, and the first that is left of what was judged
pub judged_first : {L : Type 0} (book : L → List Entry) (bs rest : List Branch) (b : Branch) (js left : List (Judged L))
    (j : Judged L) → bs ≡ b ∷ rest → js ≡ j ∷ left → AreJudged book bs js
    → IsJudged book b j × AreJudged book rest left
judged_first book bs rest b js left j e g h =
    subst (AreJudged book (b ∷ rest)) g (subst (λ (xs : List Branch). AreJudged book xs js) e h)

-- what is judged in other words
pub judged_weaker : {X E : Type 0} (r : Result (Option X) E) (P Q : Type 0) (R S : X → Type 0) → (Q → P)
    → ((x : X) → R x → S x) → IfOk r (λ (o : Option X). MatchOption o (P → ⊥) R)
    → IfOk r (λ (o : Option X). MatchOption o (Q → ⊥) S)
judged_weaker {X = X} r P Q R S back on h =
    IfOk-weaker r (λ (o : Option X). MatchOption o (P → ⊥) R) (λ (o : Option X). MatchOption o (Q → ⊥) S) each h
  where
    each : (o : Option X) → MatchOption o (P → ⊥) R → MatchOption o (Q → ⊥) S
    each None k = λ q. k (back q)
    each (Some x) k = on x k
