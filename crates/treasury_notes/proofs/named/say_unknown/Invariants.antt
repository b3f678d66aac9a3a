use Rattle.std.proofs.Common.{◌≡◌, ◌++◌, map, take}
use Rattle.std.specs.List.{flat_map}
use Rattle.treasury_notes.specs.NamedAccount.{unknown_account_said}
use Rattle.treasury_notes.proofs.named.say_unknown.Given as goal

-- the notes of those so far
abbrev pub invariant-loop-name : goal.invariant-loop-name
invariant-loop-name l =
    l.out.items ≡ l.fn.out.items ++ flat_map (unknown_account_said l.branch)
    (map (λ name. name.now) (take l.name-index l.first))
