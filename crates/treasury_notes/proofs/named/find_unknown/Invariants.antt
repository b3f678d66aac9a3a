use Rattle.std.proofs.Common.{◌≡◌, ◌++◌, length, map}
use denote.Shadow.{shadow}
use denote.Text.{Utf8}
use Rattle.treasury_notes.specs.NamedAccount.{unknown_accounts}
use Rattle.treasury_notes.proofs.named.find_unknown.Given as goal

-- those so far, and those of the rest, are all of them
abbrev pub invariant-names : goal.invariant-names
invariant-names l = shadow (Utf8 l.rest)
    × (map (λ name. name.now) l.found.items ++ unknown_accounts l.held l.rest ≡ unknown_accounts l.held l.list)

abbrev pub decreases-names : goal.decreases-names
decreases-names l = length l.rest
