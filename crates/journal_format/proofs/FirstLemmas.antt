-- The first fault of a list, and answers that are refused.
use Rattle.std.proofs.Common.{◌≡◌, ◌++◌, List, [], ◌∷◌, ◌∙◌, sym, Result, Ok, Err}
use Rattle.std.proofs.Common.{inl, inr}
use Rattle.std.specs.Prelude.{⊤}
use Rattle.money_core.specs.declared.cause.Cause.{Cause}
use Rattle.journal_format.specs.LineFaults.{LineFault, IsFirst}

-- a list has one first fault at most
pub one_first : (list : List LineFault) (c d : Cause) → IsFirst list c → IsFirst list d → c ≡ d
one_first [] c d h k = absurd h
one_first (f ∷ rest) c d (inl h) (inl k) = h.1 ∙ sym k.1
one_first (f ∷ rest) c d (inl h) (inr k) = absurd (k.0 h.0)
one_first (f ∷ rest) c d (inr h) (inl k) = absurd (h.0 k.0)
one_first (f ∷ rest) c d (inr h) (inr k) = one_first rest c d h.1 k.1

-- none of these faults is there
abbrev pub AreNone : List LineFault → Type 0
AreNone [] = ⊤
AreNone (f ∷ rest) = (¬ f.1) × AreNone rest

-- a front of faults that are not there is passed over, and a first fault of a front is that of the whole
pub first_behind_none : (fs rest : List LineFault) (c : Cause) → AreNone fs → IsFirst rest c → IsFirst (fs ++ rest) c
first_behind_none [] rest c none h = h
first_behind_none (f ∷ fs) rest c none h = inr (none.0, first_behind_none fs rest c none.1 h)

pub first_in_front : (fs rest : List LineFault) (c : Cause) → IsFirst fs c → IsFirst (fs ++ rest) c
first_in_front [] rest c h = absurd h
first_in_front (f ∷ fs) rest c (inl h) = inl h
first_in_front (f ∷ fs) rest c (inr h) = inr (h.0, first_in_front fs rest c h.1)

-- answers that are refused
abbrev pub refused : {A : Type 0} → Cause → Result A Cause
refused c = Err c

pub one_err : {A : Type 0} (r : Result A Cause) (c d : Cause) → r ≡ Err c → r ≡ Err d → c ≡ d
one_err r c d e f = cc

pub not_both : {A : Type 0} (r : Result A Cause) (x : A) (c : Cause) → r ≡ Ok x → r ≡ Err c → ⊥
not_both r x c e f = cc
