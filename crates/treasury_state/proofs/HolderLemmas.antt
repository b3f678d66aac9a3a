-- which record holds a mark
use Rattle.std.proofs.Common.{◌≡◌, ℕ, Bool, true, false, ◌||◌, cond, List, [], ◌∷◌, refl, Option, Some, None}
use Rattle.std.proofs.lemmas.Bool.{or_from}
use Rattle.std.specs.Prelude.{IfSome}
use Rattle.std.specs.List.{AllByRecursion}
use Rattle.std.specs.Str.{bytes_eq}
use Rattle.treasury_state.specs.declared.record.Record.{Record}
use Rattle.treasury_state.specs.Mark.{is_held, held}
use Rattle.treasury_state.proofs.HeldLemmas.{none_tail}

-- what holds of all holds of the holder
held_at : (P : Record → Type 0) (r : Record) (o : Option Record) (t : Bool) → P r → IfSome o P
    → IfSome (cond t (Some r) o) P
held_at P r o true p h = p
held_at P r o false p h = h

pub held_all : (P : Record → Type 0) (rs : List Record) (m : List ℕ) → AllByRecursion P rs → IfSome (held rs m) P
held_all P [] m h = tt
held_all P (r ∷ rs) m h = held_at P r (held rs m) (bytes_eq r.mark m) h.0 (held_all P rs m h.1)

pub is_held_if_None : (rs : List Record) (m : List ℕ) → held rs m ≡ None → is_held rs m ≡ false
is_held_if_None [] m e = refl
is_held_if_None (r ∷ rs) m e = let k = none_tail r (held rs m) (bytes_eq r.mark m) e in or_from (bytes_eq r.mark m)
    (is_held rs m) k.0 (is_held_if_None rs m k.1)

holding_at : (r x : Record) (o : Option Record) (t u : Bool) → cond t (Some r) o ≡ Some x → (o ≡ Some x → u ≡ true)
    → (t || u) ≡ true
holding_at r x o true u e h = refl
holding_at r x o false u e h = h e

pub is_held_if_Some : (rs : List Record) (m : List ℕ) (x : Record) → held rs m ≡ Some x → is_held rs m ≡ true
is_held_if_Some [] m x e = absurd cc
is_held_if_Some (r ∷ rs) m x e =
    holding_at r x (held rs m) (bytes_eq r.mark m) (is_held rs m) e (is_held_if_Some rs m x)
