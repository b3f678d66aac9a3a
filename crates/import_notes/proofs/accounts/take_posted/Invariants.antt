use Rattle.std.proofs.Common.{◌≡◌, ◌&&◌, ℕ, List, take}
use Rattle.std.specs.Prelude.{is_some, not}
use Rattle.std.specs.HashMap.{get_by_text}
use Rattle.std.specs.List.{list_any}
use Rattle.std.specs.Str.{bytes_eq}
use Rattle.book_core.specs.declared.leg.Leg.{Leg}
use Rattle.import_notes.proofs.accounts.take_posted.Given as goal

-- those that were there, without those of the legs so far
abbrev pub invariant-loop-leg : goal.invariant-loop-leg
invariant-loop-leg l = (other : List ℕ) → is_some (get_by_text l.accounts other)
    ≡ (is_some (get_by_text l.fn.accounts other)
    && not (list_any (λ (x : Leg). bytes_eq x.account other) (take l.leg-index l.row.entry.legs)))
