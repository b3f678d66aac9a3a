-- What is left of the room that a text may take.
use Rattle.std.proofs.Common.{◌≡◌, ◌≤◌, ◌<◌, ◌+◌, ◌-◌, ◌++◌, ℕ, List, [], ◌∷◌, Bool, true, false, ◌&&◌, length, take}
use Rattle.std.proofs.Common.{get_or, arith, refl, ap, ◌∙◌, sym, append-nil, inl, inr, Some, None, nat_le}
use Rattle.std.proofs.Common.{length-append}
use Rattle.std.specs.Prelude.{is_some}
use Rattle.std.specs.List.{flat_map}
use Rattle.std.proofs.lemmas.Bool.{cases_Bool, le-leb, lt-leb, leb-true, leb-false}
use Rattle.std.proofs.lemmas.List.{take_more}
use Rattle.std.proofs.lemmas.Grind.{flat_map-append}
use Rattle.journal_format.specs.Room.{room_behind}

-- a test that holds anyway
pub and_kept : (a b : Bool) → b ≡ true → a ≡ a && b
and_kept true b h = sym h
and_kept false b h = refl

pub room_none : (room n : ℕ) → room < n → room_behind room n ≡ None
unfolding room_behind
room_none room n h = rw (lt-leb n room h) refl

pub room_some : (room n left : ℕ) → left + n ≡ room → room_behind room n ≡ Some left
unfolding room_behind
room_some room n left h =
    let fits : n ≤ room = omega arith in
    let rest : room - n ≡ left = omega arith in
    rw (le-leb n room fits, rest) refl

pub room_is : (room n : ℕ) → is_some (room_behind room n) ≡ nat_le n room
unfolding room_behind
room_is room n = elim (cases_Bool (nat_le n room)) [
  | inl fits ↦ rw fits refl
  | inr over ↦ rw over refl
]

pub room_found : (room n left : ℕ) → room_behind room n ≡ Some left → left + n ≡ room
unfolding room_behind
room_found room n left h = elim (cases_Bool (nat_le n room)) [
  | inl fits ↦ (let e : Some (room - n) ≡ Some left = (rw fits at h) in let d : room - n ≡ left =
      cc in omega (arith, leb-true n room fits))
  | inr over ↦ (let e : None ≡ Some left = (rw over at h) in absurd cc)
]

pub room_missed : (room n : ℕ) → room_behind room n ≡ None → room < n
unfolding room_behind
room_missed room n h = elim (cases_Bool (nat_le n room)) [
  | inl fits ↦ (let e : Some (room - n) ≡ None = (rw fits at h) in absurd cc)
  | inr over ↦ leb-false n room over
]

-- room for two parts
pub room_twice : (room n m : ℕ) → n ≤ room → room_behind (room - n) m ≡ room_behind room (n + m)
room_twice room n m h = elim (cases_Bool (nat_le m (room - n))) [
  | inl fits ↦ (let k = leb-true m (room - n) fits in
      room_some (room - n) m ((room - n) - m) (omega (arith, k)) ∙ sym
      (room_some room (n + m) ((room - n) - m) (omega (arith, k, h))))
  | inr over ↦ (let k = leb-false m (room - n) over in room_none (room - n) m k ∙ sym
      (room_none room (n + m) (omega (arith, k, h))))
]

-- one part more of a list
pub parts_next : {X : Type 0} (f : X → List ℕ) (xs : List X) (i : ℕ) (x : X) → i < length xs → x ≡ get_or xs i x
    → length (flat_map f (take (i + 1) xs)) ≡ length (flat_map f (take i xs)) + length (f x)
parts_next f xs i x h e =
    ap (λ (ys : List _). length (flat_map f ys)) (take_more xs i x h)
    ∙ (ap length (flat_map-append f (take i xs) (get_or xs i x ∷ []))
    ∙ (length-append (flat_map f (take i xs)) (f (get_or xs i x) ++ [])
    ∙ ap (λ (y : _). length (flat_map f (take i xs)) + length y) (append-nil (f (get_or xs i x)) ∙ ap f (sym e))))

-- a test of a sum by its parts
pub sum_fits : (h c p most left : ℕ) → h ≤ most → left + c ≡ most - h → nat_le p left ≡ nat_le (h + (c + p)) most
sum_fits h c p most left k e = elim (cases_Bool (nat_le p left)) [
  | inl fits ↦ fits ∙ sym (le-leb (h + (c + p)) most (omega (arith, k, e, leb-true p left fits)))
  | inr over ↦ over ∙ sym (lt-leb (h + (c + p)) most (omega (arith, k, e, leb-false p left over)))
]
