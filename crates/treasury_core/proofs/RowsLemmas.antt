-- the records of a file, one transaction after another
use Rattle.std.proofs.Common.{◌≡◌, ◌<◌, ◌+◌, ℕ, suc, List, [], ◌∷◌, ◌++◌, length, take, drop, get_or, ap, ◌∙◌, sym}
use Rattle.std.proofs.Common.{subst, arith, append_assoc, drop-cons, Option, None}
use Rattle.std.specs.Option.{option_or}
use Rattle.std.proofs.lemmas.List.{take_more, map-append}
use Rattle.money_core.specs.declared.style.Style.{Style}
use Rattle.book_core.specs.declared.refusal.Refusal.{Refusal}
use Rattle.journal_format.specs.declared.txn.Txn.{Txn}
use Rattle.journal_format.specs.declared.txn.Located.{Located}
use Rattle.journal_balance.specs.Legs.{balanced_entry}
use Rattle.treasury_state.specs.declared.record.Record.{Record}
use Rattle.treasury_core.specs.Step.{fault_on, unbalanced, recorded_in, records_from}
use Rattle.treasury_core.specs.Counted.{AreCounted}
use Rattle.treasury_core.proofs.CountLemmas.{Counts}
use Rattle.treasury_core.proofs.FileLemmas.{txns_of}

front_more : (file : List Located) (i : ℕ) (x : Located) → i < length file → x ≡ get_or file i x
    → txns_of (take (i + 1) file) ≡ txns_of (take i file) ++ x.txn ∷ []
front_more file i x h e =
    ap txns_of (take_more file i x h) ∙ map-append (λ (y : Located). y.txn) (take i file) (get_or file i x ∷ [])
    ∙ ap (λ (y : Located). txns_of (take i file) ++ y.txn ∷ []) (sym e)

same_next : (i : ℕ) → suc i ≡ i + 1
same_next i = omega arith

rest_less : (file : List Located) (i : ℕ) (x : Located) → i < length file → x ≡ get_or file i x
    → drop i file ≡ x ∷ drop (i + 1) file
rest_less file i x h e = drop-cons file i x h ∙ ap (λ (y : Located). y ∷ drop (suc i) file) (sym e) ∙ ap
    (λ (j : ℕ). x ∷ drop j file) (same_next i)

pub rows_next : (styles : List Style) (file : List Located) (i : ℕ) (x : Located) (rows new all : List Record)
    (row : Record) → i < length file → x ≡ get_or file i x → new ≡ rows ++ row ∷ []
    → row ∷ [] ≡ recorded_in styles (txns_of (take i file)) x.txn
    → rows ++ records_from styles (txns_of (take i file)) (drop i file) ≡ all
    → new ++ records_from styles (txns_of (take (i + 1) file)) (drop (i + 1) file) ≡ all
rows_next styles file i x rows new all row h e pushed same before =
    let rest = drop (i + 1) file in
    let later = records_from styles (txns_of (take i file) ++ x.txn ∷ []) rest in
    ap (λ (ts : List Txn). new ++ records_from styles ts rest) (front_more file i x h e)
    ∙ ap (λ (xs : List Record). xs ++ later) pushed
    ∙ append_assoc rows (row ∷ []) later
    ∙ ap (λ (xs : List Record). rows ++ (xs ++ later)) same
    ∙ ap (λ (xs : List Located). rows ++ records_from styles (txns_of (take i file)) xs) (sym (rest_less file i x h e))
    ∙ before

pub balanced_next : (styles : List Style) (file : List Located) (i : ℕ) (x : Located) (all : Option Refusal)
    → i < length file → x ≡ get_or file i x → fault_on x.line (balanced_entry styles x.txn) ≡ None
    → unbalanced styles (drop i file) ≡ all → unbalanced styles (drop (i + 1) file) ≡ all
balanced_next styles file i x all h e fine before =
    sym (ap (λ (o : Option Refusal). option_or o (unbalanced styles (drop (i + 1) file))) fine)
    ∙ sym (ap (unbalanced styles) (rest_less file i x h e)) ∙ before

pub count_next : (styles : List Style) (file : List Located) (i : ℕ) (x : Located) (counts : Counts) → i < length file
    → x ≡ get_or file i x → AreCounted styles counts (txns_of (take i file) ++ x.txn ∷ [])
    → AreCounted styles counts (txns_of (take (i + 1) file))
count_next styles file i x counts h e counted = subst (AreCounted styles counts) (sym (front_more file i x h e)) counted
