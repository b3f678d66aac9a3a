-- what is known of a state whose parts are kept: its ledgers, and a state of equal parts
use Rattle.std.proofs.Common.{◌≡◌, List, [], ◌∷◌, length, refl, sym, subst, arith}
use Rattle.std.specs.List.{AllByRecursion}
use Rattle.money_core.specs.declared.style.Style.{Style}
use Rattle.money_core.proofs.ListLemmas.{all_weaker}
use Rattle.book_core.specs.declared.entry.Entry.{Entry}
use Rattle.treasury_state.specs.declared.transfer.Transfer.{Transfer}
use Rattle.treasury_state.specs.declared.state.Branch.{Branch as Kept}
use Rattle.treasury_state.specs.Index.{IsKept}
use Rattle.treasury_state.specs.Federation.{Branch, Federation, entries}
use Rattle.treasury_state.specs.Good.{IsGoodState}

-- the ledgers of branches that are kept
pub ledgers_kept : {L : Type 0} (book : L → List Entry) (lent bs : List (Kept L)) → lent ≡ bs
    → AllByRecursion (IsKept book) bs → AllByRecursion (λ (b : Kept L). book b.ledger ≡ entries b.records) lent
ledgers_kept {L = L} book lent bs same h =
    subst (AllByRecursion (λ (b : Kept L). book b.ledger ≡ entries b.records)) (sym same)
    (all_weaker (IsKept book) (λ (b : Kept L). book b.ledger ≡ entries b.records) bs (λ b k. k.ledger) h)

-- a state of equal parts
pub good_same : (f : Federation) (styles : List Style) (bs : List Branch) (ts : List Transfer) → styles ≡ f.styles
    → bs ≡ f.branches → ts ≡ f.transfers → IsGoodState f
    → IsGoodState (record { styles = styles; branches = bs; transfers = ts })
good_same f styles bs ts e g h good =
    subst (λ (ss : List Style). IsGoodState (record { styles = ss; branches = bs; transfers = ts })) (sym e)
    (subst (λ (xs : List Branch). IsGoodState (record { styles = f.styles; branches = xs; transfers = ts })) (sym g)
    (subst (λ (us : List Transfer). IsGoodState (record { styles = f.styles; branches = f.branches; transfers = us }))
    (sym h) good))

-- a list without length
pub no_branches : (bs : List Branch) → length bs ≡ 0 → bs ≡ []
no_branches [] h = refl
no_branches (b ∷ bs) h = absurd (omega (arith, h))
