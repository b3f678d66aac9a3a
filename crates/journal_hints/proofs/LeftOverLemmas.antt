-- the transaction whose header stands on a line
use Rattle.std.proofs.Common.{◌≡◌, ◌∙◌, arith, ℕ, Bool, true, false, cond, List, [], ◌∷◌, ap, sym, Option, Some}
use Rattle.std.specs.Prelude.{nat_eq, find, IfSome}
use Rattle.std.specs.List.{AllByRecursion}
use Rattle.std.proofs.lemmas.Bool.Decides.{nat_tests}
use Rattle.std.specs.Option.{option_map}
use Rattle.journal_format.specs.declared.txn.Txn.{Txn}
use Rattle.journal_format.specs.declared.txn.Located.{Located}
use Rattle.journal_hints.specs.LeftOver.{transaction_on}

one_on : (line : ℕ) (x : Located) (rest : List Located) (t : Bool) → nat_eq x.line line ≡ t
    → transaction_on line (x ∷ rest) ≡ cond t (Some x.txn) (transaction_on line rest)
one_on line x rest true e =
    ap (λ (t : Bool). option_map (λ (y : Located). y.txn) (cond t (Some x)
    (find (λ (y : Located). nat_eq y.line line) rest))) e
one_on line x rest false e =
    ap (λ (t : Bool). option_map (λ (y : Located). y.txn) (cond t (Some x)
    (find (λ (y : Located). nat_eq y.line line) rest))) e

pub on_next : (line : ℕ) (x : Located) (rest left : List Located) (all : Option Txn) → left ≡ x ∷ rest
    → ¬ (x.line ≡ line) → transaction_on line left ≡ all → transaction_on line rest ≡ all
on_next line x rest left all split off before =
    let test : nat_eq x.line line ≡ false = grind (arith, nat_tests, off) in
    sym (ap (transaction_on line) split ∙ one_on line x rest false test) ∙ before

pub on_here : (line : ℕ) (x : Located) (rest left : List Located) (all : Option Txn) → left ≡ x ∷ rest
    → x.line ≡ line → transaction_on line left ≡ all → Some x.txn ≡ all
on_here line x rest left all split on before =
    let test : nat_eq x.line line ≡ true = grind (arith, nat_tests, on) in
    sym (ap (transaction_on line) split ∙ one_on line x rest true test) ∙ before

txn_at : (P : Txn → Type 0) (x : Located) (rest : Option Located) (t : Bool) → P x.txn
    → IfSome (option_map (λ (y : Located). y.txn) rest) P
    → IfSome (option_map (λ (y : Located). y.txn) (cond t (Some x) rest)) P
txn_at P x rest true h k = h
txn_at P x rest false h k = k

pub all_on : (P : Txn → Type 0) (line : ℕ) (list : List Located) → AllByRecursion (λ (x : Located). P x.txn) list
    → IfSome (transaction_on line list) P
all_on P line [] h = tt
all_on P line (x ∷ xs) h =
    txn_at P x (find (λ (y : Located). nat_eq y.line line) xs) (nat_eq x.line line) h.0 (all_on P line xs h.1)
