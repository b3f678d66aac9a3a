use Rattle.std.proofs.Common.{◌≡◌, ◌≤◌, take}
use Rattle.money_core.specs.PriceReading.{significant}
use Rattle.money_core.proofs.price_text.significant.Given as goal

abbrev pub invariant-loop-place : goal.invariant-loop-place
invariant-loop-place l = (l.count ≡ significant (take l.place l.fraction)) × (l.count ≤ l.place)
