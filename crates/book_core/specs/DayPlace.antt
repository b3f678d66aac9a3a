-- The balance at a place: what is before its day, what earlier entries add on its day, and what its own entry adds.
use Rattle.std.specs.Prelude.{Bool, ◌&&◌, nat_eq}
use Rattle.std.specs.Ordering.{int_eq}
use Rattle.book_core.specs.declared.place.Place.{Place}
use Rattle.book_core.specs.Book.{Posted}

-- a leg passes a test, and is of the place's own entry
abbrev pub is_own : (Posted → Bool) → Place → Posted → Bool
is_own test p x = test x && (int_eq x.place.day.0 p.day.0 && nat_eq x.place.entry p.entry)
