use Rattle.std.proofs.Common.{◌≡◌, ◌++◌, ◌-◌, ◌-ℤ◌, pos, length, None}
use Rattle.money_core.specs.declared.unit.Unit.{Unit as Commodity}
use Rattle.book_core.specs.Balance.{value}
use Rattle.journal_balance.specs.Legs.{commodities, declared_commodities}
use Rattle.journal_balance.specs.Plain.{written_legs}
use Rattle.treasury_core.proofs.ClosingSums.{spread}
use Rattle.treasury_core.proofs.closing.gaining_account.Given as goal

-- the postings so far, and those of the rest of the commodities, are those of all
abbrev pub invariant-units : goal.invariant-units
invariant-units l =
    l.postings ++ spread l.into (λ (unit : Commodity). pos 0 -ℤ value unit (written_legs l.closed))
    (λ (unit : Commodity). None) (commodities l.number (length l.styles - l.number))
    ≡ spread l.into (λ (unit : Commodity). pos 0 -ℤ value unit (written_legs l.closed)) (λ (unit : Commodity). None)
    (declared_commodities l.styles)
