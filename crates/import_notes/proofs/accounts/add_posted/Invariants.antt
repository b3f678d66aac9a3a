use Rattle.std.proofs.Common.{◌≡◌, ◌++◌, map, take}
use Rattle.std.specs.List.{flat_map}
use Rattle.import_notes.specs.BroughtAccounts.{posted_view, posted_values}
use Rattle.import_notes.proofs.accounts.add_posted.Given as goal

-- those so far are named
abbrev pub invariant-loop-one : goal.invariant-loop-one
invariant-loop-one l = record {
  kind : l.message.kind ≡ l.fn.message.kind;
  all : l.message.values
      ≡ l.fn.message.values ++ flat_map posted_values (map posted_view (take l.one-index l.posted));
}
