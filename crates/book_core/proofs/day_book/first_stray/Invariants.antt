use Rattle.std.proofs.Common.{◌≡◌, ◌<◌, ◌-◌, false}
use Rattle.money_core.specs.declared.unit.Unit.{Unit as Commodity}
use Rattle.book_core.specs.Query.{is_stray_for}
use Rattle.book_core.proofs.day_book.first_stray.Given as goal

abbrev pub invariant-units : goal.invariant-units
invariant-units l = record {
  small : l.unit.0 < 65536;
  below : (v : Commodity) → v.0 < l.unit.0 → is_stray_for l.query l.book v ≡ false;
}

abbrev pub decreases-units : goal.decreases-units
decreases-units l = 65536 - l.unit.0
