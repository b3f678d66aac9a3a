-- what the look-ups of records find, where lists are equal
use Rattle.std.proofs.Common.{◌≡◌, true, List, sym, subst, Option, Some, None}
use Rattle.std.specs.Prelude.{MatchOption}
use Rattle.std.specs.List.{AllByRecursion}
use Rattle.treasury_state.specs.declared.record.Record.{Record}
use Rattle.treasury_state.specs.Mark.{is_held, held, is_of_transfer}

-- each row stands in the records
abbrev pub Stand : List Record → List Record → Type 0
Stand rs rows = AllByRecursion (λ (r : Record). held rs r.mark ≡ Some r) rows

-- each record of a transfer has a row
abbrev pub AreAsked : List Record → List Record → Type 0
AreAsked rows rs = AllByRecursion (λ (r : Record). is_of_transfer r ≡ true → is_held rows r.mark ≡ true) rs

-- of equal lists
pub moved : (P : List Record → List Record → Type 0) (rs rs' rows rows' : List Record) → rs ≡ rs' → rows ≡ rows'
    → P rs' rows' → P rs rows
moved P rs rs' rows rows' e f h = subst (λ (xs : List Record). P xs rows) (sym e) (subst (P rs') (sym f) h)

-- an option that is none
pub when_none : {X : Type 0} (o : Option X) (P : Type 0) (Q : X → Type 0) → o ≡ None → MatchOption o P Q → P
when_none None P Q e h = h
when_none (Some x) P Q e h = absurd cc
