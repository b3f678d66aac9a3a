-- The kinds of changes that are written eight to a statement.
use Rattle.std.specs.Prelude.{Bool, true, false, List, [], ◌∷◌}
use Rattle.treasury_tables.specs.declared.change.Change.{Change}
use Rattle.treasury_tables.specs.declared.change.Change.TheVariants as change
use Rattle.treasury_tables.specs.declared.tables.eight.Eight.{Eight}

-- the change adds the row of an entry
abbrev pub is_entry : Change → Bool
is_entry (change.Entry e) = true
is_entry _ = false

-- the change adds the row of a leg
abbrev pub is_leg : Change → Bool
is_leg (change.Leg l) = true
is_leg _ = false

-- the change adds the row of an assertion
abbrev pub is_claim : Change → Bool
is_claim (change.Claim c) = true
is_claim _ = false

-- the change is written by a statement of its own
abbrev pub is_single : Change → Bool
is_single (change.Entry e) = false
is_single (change.Leg l) = false
is_single (change.Claim c) = false
is_single _ = true

-- the changes that write eight rows
abbrev pub all_of : {T : Type 0} → (T → Change) → Eight T → List Change
all_of kind it = kind it.a.now ∷ kind it.b.now ∷ kind it.c.now ∷ kind it.d.now ∷ kind it.e.now ∷ kind it.f.now
    ∷ kind it.g.now ∷ kind it.h.now ∷ []
