use Rattle.std.proofs.Common.{◌≡◌, ◌++◌, length}
use denote.Shadow.{shadow}
use denote.Text.{Utf8}
use Rattle.treasury_api.specs.Asked.{cut_list}
use Rattle.treasury_api.proofs.asking.cut_list.Given as goal

-- the names so far, and those of the rest, are all of them
abbrev pub invariant-names : goal.invariant-names
invariant-names l = shadow (Utf8 l.rest) × (l.names ++ cut_list l.rest ≡ cut_list l.text)

abbrev pub decreases-names : goal.decreases-names
decreases-names l = length l.rest
