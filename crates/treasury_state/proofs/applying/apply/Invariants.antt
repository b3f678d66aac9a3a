use Rattle.std.proofs.Common.{◌≡◌}
use Rattle.std.specs.List.{AllByRecursion}
use Rattle.treasury_state.specs.Joined.{joined}
use Rattle.treasury_state.specs.Seen.{branches_of, federation_of}
use Rattle.treasury_state.specs.Kept.{ArePlacesOf}
use Rattle.treasury_state.specs.Index.{IsKept}
use Rattle.treasury_state.proofs.applying.apply.Given as goal

-- with the additions that are left, the state is the one that it was with all
abbrev pub invariant-additions : goal.invariant-additions
invariant-additions g l = record {
  same : joined (federation_of l.styles l.branches.items l.transfers.items) l.addition-iterator.rest.items
      ≡ joined l.fn.state l.fn.delta;
  kept : AllByRecursion (IsKept g.L.Ledger.book) l.branches.items;
  places : ArePlacesOf l.places (branches_of l.branches.items);
}
