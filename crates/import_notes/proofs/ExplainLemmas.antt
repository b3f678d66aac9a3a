-- what a good state has
use Rattle.std.proofs.Common.{◌≡◌, ℕ, Bool, true, false, List, [], ◌∷◌, sym, subst}
use Rattle.std.specs.Prelude.{if◌then◌else◌}
use Rattle.std.specs.List.{AllByRecursion}
use Rattle.std.specs.Str.{bytes_eq}
use Rattle.money_core.specs.declared.style.Style.{Style}
use Rattle.money_core.proofs.ListLemmas.{all_weaker}
use Rattle.journal_format.specs.Printable.{IsPrintable}
use Rattle.treasury_state.specs.declared.record.Record.{Record}
use Rattle.treasury_state.specs.Federation.{Branch, Federation, records_in, records_of}
use Rattle.treasury_state.specs.Good.{IsGoodRecord, IsGoodBranch, IsGoodState}

-- the records of a branch of a good state can be printed
printable_at : (styles : List Style) (b : Branch) (rest : List Record) (t : Bool) → IsGoodBranch styles b
    → AllByRecursion (λ (r : Record). IsPrintable styles r.txn) rest
    → AllByRecursion (λ (r : Record). IsPrintable styles r.txn) (if t then b.records else rest)
printable_at styles b rest true h k =
    all_weaker (IsGoodRecord styles) (λ (r : Record). IsPrintable styles r.txn) b.records (λ r g. g.printable) h.records
printable_at styles b rest false h k = k

records_in_printable : (styles : List Style) (bs : List Branch) (name : List ℕ)
    → AllByRecursion (IsGoodBranch styles) bs
    → AllByRecursion (λ (r : Record). IsPrintable styles r.txn) (records_in bs name)
records_in_printable styles [] name h = tt
records_in_printable styles (b ∷ bs) name h =
    printable_at styles b (records_in bs name) (bytes_eq b.name name) h.0 (records_in_printable styles bs name h.1)

pub records_printable : (f : Federation) (name : List ℕ) (styles : List Style) (records : List Record)
    → styles ≡ f.styles → records ≡ records_of f name → IsGoodState f
    → AllByRecursion (λ (r : Record). IsPrintable styles r.txn) records
records_printable f name styles records s r good =
    subst (λ (x : List Style). AllByRecursion (λ (y : Record). IsPrintable x y.txn) records) (sym s)
    (subst (λ (x : List Record). AllByRecursion (λ (y : Record). IsPrintable f.styles y.txn) x) (sym r)
    (records_in_printable f.styles f.branches name good.branches))
