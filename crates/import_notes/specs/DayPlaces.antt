-- Mirrors code: how held entries are looked up by their days.
use Rattle.std.specs.Prelude.{◌≡◌, ℕ, ℤ, List, [], Option, Some, None}
use Rattle.std.specs.Global.{Vec}
use Rattle.std.specs.HashMap.{HashMap, get}
use Rattle.std.specs.Ordering.{int_eq}
use Rattle.std.specs.declared.hash.FoldHasher.{FoldHasher}
use Rattle.std.specs.declared.hash.BuildHasherDefault.{BuildHasherDefault}
use Rattle.treasury_state.specs.declared.record.Record.{Record}
use Rattle.import_notes.specs.Edited.{places_on}

abbrev pub DayMap : Type 0
DayMap = HashMap ℤ (Vec ℕ) (BuildHasherDefault FoldHasher)

abbrev pub places_if : Option (Vec ℕ) → List ℕ
places_if None = []
places_if (Some places) = places.items

-- the places that are kept under a day
abbrev pub kept_on : DayMap → ℤ → List ℕ
kept_on days day = places_if (get int_eq days day)

-- the map has the places of these records under their days
abbrev pub AreDaysOf : DayMap → List Record → Type 0
AreDaysOf days held = (day : ℤ) → kept_on days day ≡ places_on day 0 held
