-- what is found of one more item of a list, and of the rest, and what is said of a pair
use Rattle.std.proofs.Common.{◌≡◌, ◌<◌, ◌+◌, ◌∙◌, ℕ, List, [], ◌∷◌, ◌++◌, length, drop, get_or, ap, sym, append_assoc}
use Rattle.std.proofs.Common.{Option, Some, None}
use Rattle.std.specs.Prelude.{decimal, slice_get}
use Rattle.std.specs.List.{flat_map}
use Rattle.treasury_state.specs.declared.record.Record.{Record}
use Rattle.treasury_messages.specs.Pieces.{header_values}
use Rattle.treasury_messages.specs.Said.{Said, says}
use Rattle.import_notes.specs.declared.edited.Edited.{Edited}
use Rattle.import_notes.specs.Edited.{edited_kind, edited_if, edited_said}
use Rattle.import_notes.specs.Imported.{Imported}
use Rattle.money_core.proofs.ListLemmas.{drop_at}

pub found_next : {X Y : Type 0} (f : X → List Y) (xs : List X) (i : ℕ) (x : X) (old more all : List Y) → i < length xs
    → x ≡ get_or xs i x → more ≡ old ++ f x → old ++ flat_map f (drop i xs) ≡ all
    → more ++ flat_map f (drop (i + 1) xs) ≡ all
found_next {X = X} {Y = Y} f xs i x old more all h is put before =
    let rest = flat_map f (drop (i + 1) xs) in
    ap (λ (ys : List Y). ys ++ rest) put
    ∙ append_assoc old (f x) rest
    ∙ sym (ap (λ (ys : List X). old ++ flat_map f ys) (drop_at xs i x h is))
    ∙ before

-- ---- what is said of a pair
pub no_new : (it : Imported) (line : Record → ℕ) (e : Edited) → slice_get it.new e.new ≡ None
    → edited_said it line e ≡ []
unfolding edited_said
no_new it line e none =
    ap (λ (o : Option Record). edited_if it.source line e o (slice_get it.held e.held)) none

pub no_held : (it : Imported) (line : Record → ℕ) (e : Edited) (new : Record) → slice_get it.new e.new ≡ Some new
    → slice_get it.held e.held ≡ None → edited_said it line e ≡ []
unfolding edited_said
no_held it line e new some none =
    ap (λ (o : Option Record). edited_if it.source line e o (slice_get it.held e.held)) some
    ∙ ap (λ (o : Option Record). edited_if it.source line e (Some new) o) none

pub both_there : (it : Imported) (line : Record → ℕ) (e : Edited) (new held : Record) (n : ℕ) → n ≡ line new
    → slice_get it.new e.new ≡ Some new → slice_get it.held e.held ≡ Some held
    → says (edited_kind e.likeness) (it.source ∷ decimal n ∷ header_values new.txn
    ++ (decimal (e.held + 1) ∷ header_values held.txn)) ∷ [] ≡ edited_said it line e
unfolding edited_said
both_there it line e new held n is some known =
    ap (λ (k : ℕ). says (edited_kind e.likeness) (it.source ∷ decimal k ∷ header_values new.txn
    ++ (decimal (e.held + 1) ∷ header_values held.txn)) ∷ []) is
    ∙ sym (ap (λ (o : Option Record). edited_if it.source line e o (slice_get it.held e.held)) some
    ∙ ap (λ (o : Option Record). edited_if it.source line e (Some new) o) known)
