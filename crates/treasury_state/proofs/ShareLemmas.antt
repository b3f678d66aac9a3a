-- balances through a day, record by record
use Rattle.std.proofs.Common.{◌≡◌, ℕ, List, [], ◌∷◌, ℤ, pos, ◌+ℤ◌, ap, ◌∙◌}
use Rattle.std.specs.Prelude.{if◌then◌else◌, int_le}
use Rattle.money_core.specs.declared.unit.Unit.{Unit as Commodity}
use Rattle.money_core.specs.declared.day.Day.{Day}
use Rattle.book_core.specs.declared.account.Reach.TheVariants.{Own}
use Rattle.book_core.specs.declared.place.Until.TheVariants.{Through}
use Rattle.book_core.specs.Balance.{balance, sum_in}
use Rattle.book_core.proofs.BalanceLemmas.{balance-append, balance-entry, balance-nil}
use Rattle.treasury_state.specs.declared.record.Record.{Record}
use Rattle.treasury_state.specs.Federation.{entries}
use Rattle.treasury_state.proofs.LookupLemmas.{total_of}

-- what a record moves on an account by a day
abbrev pub share : List ℕ → Commodity → Day → Record → ℤ
share a u d r = if int_le r.entry.day.0 d.0 then sum_in Own a u r.entry.legs else pos 0

pub balance-shares : (a : List ℕ) (u : Commodity) (d : Day) (rs : List Record)
    → balance Own (entries rs) a u (Through d) ≡ total_of (share a u d) rs
balance-shares a u d [] = balance-nil Own a u (Through d)
balance-shares a u d (r ∷ rs) =
    balance-append Own (r.entry ∷ []) (entries rs) a u d
    ∙ ap (λ (z : ℤ). z +ℤ balance Own (entries rs) a u (Through d)) (balance-entry Own r.entry a u d)
    ∙ ap (λ (z : ℤ). share a u d r +ℤ z) (balance-shares a u d rs)
