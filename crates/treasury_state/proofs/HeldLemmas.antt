-- marks that records have
use Rattle.std.proofs.Common.{◌≡◌, ℕ, Bool, true, false, ◌||◌, cond, List, [], ◌∷◌, ◌++◌, refl, ap, ◌∙◌, sym, Option}
use Rattle.std.proofs.Common.{Some, None}
use Rattle.std.specs.Option.{option_or}
use Rattle.std.specs.Str.{bytes_eq}
use Rattle.std.proofs.lemmas.List.Folds.{find-append}
use Rattle.money_core.proofs.BytesLemmas.{same_bytes, other_bytes}
use Rattle.treasury_state.specs.declared.record.Record.{Record}
use Rattle.treasury_state.specs.Mark.{has_mark, is_held, held, HaveOwnMarks}

pub none_tail : (r : Record) (o : Option Record) (t : Bool) → cond t (Some r) o ≡ None → (t ≡ false) × (o ≡ None)
none_tail r o true e = absurd cc
none_tail r o false e = (refl, e)

or_none : (o : Option Record) → option_or o None ≡ o
or_none None = refl
or_none (Some r) = refl

-- one more record
pub held_push : (rs : List Record) (r : Record) (m : List ℕ) → held rs r.mark ≡ None
    → held (rs ++ r ∷ []) m ≡ cond (bytes_eq r.mark m) (Some r) (held rs m)
held_push rs r m n = find-append (has_mark m) rs (r ∷ []) ∙ by_test (bytes_eq r.mark m) refl
  where
    by_test : (t : Bool) → bytes_eq r.mark m ≡ t
        → option_or (held rs m) (cond t (Some r) None) ≡ cond t (Some r) (held rs m)
    by_test true e = ap (λ (k : List ℕ). option_or (held rs k) (Some r)) (sym (same_bytes r.mark m e)) ∙ ap
        (λ (o : Option Record). option_or o (Some r)) n
    by_test false e = or_none (held rs m)

pub own_push : (rs : List Record) (r : Record) → HaveOwnMarks rs → held rs r.mark ≡ None → HaveOwnMarks (rs ++ r ∷ [])
own_push [] r h n = (refl, tt)
own_push (x ∷ xs) r h n =
    let k = none_tail x (held xs r.mark) (bytes_eq x.mark r.mark) n in (
      held_push xs r x.mark k.1 ∙ ap (λ (b : Bool). cond b (Some r) (held xs x.mark)) (other_bytes x.mark r.mark k.0) ∙
          h.0,
      own_push xs r h.1 k.1,
    )

-- a mark that no record has
not_held_at : (r : Record) (o : Option Record) (t u : Bool) → (t || u) ≡ false → (u ≡ false → o ≡ None)
    → cond t (Some r) o ≡ None
not_held_at r o true u e h = absurd cc
not_held_at r o false u e h = h e

pub not_held : (rs : List Record) (m : List ℕ) → is_held rs m ≡ false → held rs m ≡ None
not_held [] m e = refl
not_held (r ∷ rs) m e = not_held_at r (held rs m) (bytes_eq r.mark m) (is_held rs m) e (not_held rs m)
