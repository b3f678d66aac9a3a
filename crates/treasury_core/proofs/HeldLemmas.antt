-- marks that records have
use Rattle.std.proofs.Common.{◌≡◌, ℕ, Bool, true, false, ◌||◌, ◌&&◌, List, [], ◌∷◌, ◌++◌, refl}
use Rattle.std.specs.Str.{bytes_eq}
use Rattle.money_core.specs.declared.style.Style.{Style}
use Rattle.journal_format.specs.CanonicalText.{body_text}
use Rattle.treasury_state.specs.declared.record.Record.{Record}
use Rattle.treasury_state.specs.Mark.{is_held, is_repeat}

-- what more records hold, the first of them may hold
fewer_held_at : (t u v : Bool) → (t || u) ≡ false → (u ≡ false → v ≡ false) → (t || v) ≡ false
fewer_held_at true u v e h = absurd cc
fewer_held_at false u v e h = h e

pub fewer_held : (rs more : List Record) (m : List ℕ) → is_held (rs ++ more) m ≡ false → is_held rs m ≡ false
fewer_held [] more m e = refl
fewer_held (r ∷ rs) more m e =
    fewer_held_at (bytes_eq r.mark m) (is_held (rs ++ more) m) (is_held rs m) e (fewer_held rs more m)

-- a repeat is held
repeat_held_at : (t s a b : Bool) → ((t && s) || a) ≡ true → (a ≡ true → b ≡ true) → (t || b) ≡ true
repeat_held_at true s a b e h = refl
repeat_held_at false s a b e h = h e

pub repeat_held : (styles : List Style) (rs : List Record) (r : Record) → is_repeat styles rs r ≡ true
    → is_held rs r.mark ≡ true
repeat_held styles [] r e = absurd cc
repeat_held styles (h ∷ hs) r e =
    repeat_held_at (bytes_eq h.mark r.mark) (bytes_eq (body_text styles h.txn) (body_text styles r.txn))
    (is_repeat styles hs r) (is_held hs r.mark) e (repeat_held styles hs r)
