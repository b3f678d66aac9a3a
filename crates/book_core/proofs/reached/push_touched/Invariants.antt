use Rattle.std.proofs.Common.{take}
use Rattle.std.specs.Prelude.{Contains}
use Rattle.book_core.specs.declared.place.Place.{Place}
use Rattle.book_core.specs.Gathered.{AreReachedAt, HasReached}
use Rattle.book_core.proofs.reached.push_touched.Given as goal

abbrev pub invariant-loop-spot : goal.invariant-loop-spot
invariant-loop-spot l = record {
  only : AreReachedAt l.old l.new l.places.items;
  kept : (p : Place) → Contains l.fn.places.items p → Contains l.places.items p;
  all : HasReached l.old l.new (take l.spot-index l.spots) l.places.items;
}
