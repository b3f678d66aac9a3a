-- the accounts of the way add up in a good state
use Rattle.std.proofs.Common.{◌≡◌, ◌≤ℤ◌, ◌+ℤ◌, ℕ, Bool, true, false, ◌&&◌, ◌||◌, nat_eq, List, [], ◌∷◌, pos, refl, ap}
use Rattle.std.proofs.Common.{◌∙◌, sym, subst, arith}
use Rattle.std.specs.Prelude.{nat_le, if◌then◌else◌, slice_index, length}
use Rattle.money_core.specs.declared.style.Style.{Style}
use Rattle.std.specs.Char.{is_ascii_lowercase}
use Rattle.std.specs.List.{list_all, list_any, AllByRecursion}
use Rattle.std.specs.Str.{bytes_eq}
use Rattle.std.proofs.lemmas.Bool.{and_parts}
use Rattle.std.proofs.lemmas.Bool.Decides.{nat_tests}
use Rattle.money_core.specs.declared.unit.Unit.{Unit as Commodity}
use Rattle.money_core.specs.declared.day.Day.{Day}
use Rattle.money_core.proofs.ListLemmas.{all_weaker}
use Rattle.money_core.proofs.BytesLemmas.{same_bytes}
use Rattle.book_core.specs.declared.account.Reach.TheVariants.{Own}
use Rattle.book_core.specs.declared.place.Until.TheVariants.{Through}
use Rattle.book_core.specs.Balance.{balance}
use Rattle.treasury_state.specs.declared.transfer.Transfer.{Transfer}
use Rattle.treasury_state.specs.Federation.{Branch, Federation, is_branch_name_byte, is_branch_name, has_name}
use Rattle.treasury_state.specs.Federation.{has_branch}
use Rattle.treasury_state.specs.Federation.{records_in, entries}
use Rattle.treasury_state.specs.Transfer.{open_amount, transit_account, AddsUp}
use Rattle.treasury_state.specs.Good.{IsGoodBranch, IsGoodTransfer, IsCarried, IsGoodState}
use Rattle.treasury_state.specs.Fair.{HasNoColon, IsMarked, IsFair}
use Rattle.treasury_state.proofs.OrderLemmas.{own_ids}
use Rattle.treasury_state.proofs.CarriedLemmas.{carried_agree}
use Rattle.treasury_state.proofs.WayLemmas.{IsInStep, AddUp, adds_up, open_sum_low}

-- no byte of a name is a colon
no_colon_byte : (c : ℕ) → is_branch_name_byte c ≡ true → nat_eq c 58 ≡ false
no_colon_byte c h = by_test (nat_eq c 58) refl
  where
    by_test : (b : Bool) → nat_eq c 58 ≡ b → b ≡ false
    by_test true e = let same : c ≡ 58 = grind (arith, nat_tests) in absurd
        (let k : true ≡ is_branch_name_byte 58 = sym h ∙ ap is_branch_name_byte same in cc)
    by_test false e = refl

no_colon_in : (name : List ℕ) → list_all is_branch_name_byte name ≡ true → HasNoColon name
no_colon_in [] h = tt
no_colon_in (c ∷ cs) h = let parts =
    and_parts (is_branch_name_byte c) (list_all is_branch_name_byte cs)
    h in (no_colon_byte c parts.0, no_colon_in cs parts.1)

pub no_colon : (name : List ℕ) → is_branch_name name ≡ true → HasNoColon name
no_colon name h =
    let first =
    and_parts (is_ascii_lowercase (slice_index name 0) && list_all is_branch_name_byte name) (nat_le (length name) 32)
    h in
    let rest = and_parts (is_ascii_lowercase (slice_index name 0)) (list_all is_branch_name_byte name) first.0 in
    no_colon_in name rest.1

-- what holds of each branch holds of one that is there
pub known_name_holds : (P : List ℕ → Type 0) (bs : List Branch) (name : List ℕ)
    → AllByRecursion (λ (b : Branch). P b.name) bs → list_any (has_name name) bs ≡ true → P name
known_name_holds P [] name h e = absurd cc
known_name_holds P (b ∷ bs) name h e = by_test (bytes_eq b.name name) refl e (known_name_holds P bs name h.1)
  where
    by_test : (t : Bool) → bytes_eq b.name name ≡ t → (t || list_any (has_name name) bs) ≡ true
        → (list_any (has_name name) bs ≡ true → P name) → P name
    by_test true g k later = subst P (same_bytes b.name name g) h.0
    by_test false g k later = later k

pub names_of : {P : Branch → Type 0} (Q : List ℕ → Type 0) (bs : List Branch) → ((b : Branch) → P b → Q b.name)
    → AllByRecursion P bs → AllByRecursion (λ (b : Branch). Q b.name) bs
names_of Q [] f h = tt
names_of Q (b ∷ bs) f h = (f b h.0, names_of Q bs f h.1)

fair_of : (bs : List Branch) (t : Transfer) → AllByRecursion (λ (b : Branch). HasNoColon b.name) bs
    → IsGoodTransfer bs t → IsFair t
fair_of bs t names h = record {
  marked = record { id = h.id; parts = h.parts };
  positive = h.positive;
  apart = h.apart;
  payer = h.payer;
  source = known_name_holds HasNoColon bs t.source names h.source;
  target = known_name_holds HasNoColon bs t.target names h.target;
  rest = h.rest;
}

pub good_marked : (bs : List Branch) (ts : List Transfer) → AllByRecursion (IsGoodTransfer bs) ts
    → AllByRecursion IsMarked ts
good_marked bs ts h = all_weaker (IsGoodTransfer bs) IsMarked ts (λ t k. record { id = k.id; parts = k.parts }) h

pub all_fair : (bs : List Branch) (ts : List Transfer) → AllByRecursion (λ (b : Branch). HasNoColon b.name) bs
    → AllByRecursion (IsGoodTransfer bs) ts → AllByRecursion IsFair ts
all_fair bs [] names h = tt
all_fair bs (t ∷ ts) names h = (fair_of bs t names h.0, all_fair bs ts names h.1)

pub names_good : (f : Federation) → IsGoodState f → AllByRecursion (λ (b : Branch). HasNoColon b.name) f.branches
names_good f h = names_of HasNoColon f.branches (λ b is. no_colon b.name is.named) h.branches

pub in_step : (styles : List Style) (ts : List Transfer) (b : Branch) → IsGoodBranch styles b → IsCarried ts b
    → IsInStep ts b
in_step styles ts b good carried =
    record {
      own_marks = good.marks;
      asked_for = carried_agree ts b carried;
      clear = good.off_transit;
      named = no_colon b.name good.named;
    }

pub all_in_step : (styles : List Style) (ts : List Transfer) (bs : List Branch)
    → AllByRecursion (IsGoodBranch styles) bs → AllByRecursion (IsCarried ts) bs → AllByRecursion (IsInStep ts) bs
all_in_step styles ts [] good carried = tt
all_in_step styles ts (b ∷ bs) good carried =
    (in_step styles ts b good.0 carried.0, all_in_step styles ts bs good.1 carried.1)

-- the branch of a name, with what holds of each
pub record Found (P : Branch → Type 0) (bs : List Branch) (name : List ℕ) : Type 0 where
  pub branch : Branch
  pub holds : P branch
  pub named : branch.name ≡ name
  pub same : records_in bs name ≡ branch.records

pub branch_found : (P : Branch → Type 0) (bs : List Branch) (name : List ℕ) → AllByRecursion P bs
    → list_any (has_name name) bs ≡ true → Found P bs name
branch_found P [] name h e = absurd cc
branch_found P (b ∷ bs) name h e = by_test (bytes_eq b.name name) refl e (branch_found P bs name h.1)
  where
    by_test : (t : Bool) → bytes_eq b.name name ≡ t → (t || list_any (has_name name) bs) ≡ true
        → (list_any (has_name name) bs ≡ true → Found P bs name) → Found P (b ∷ bs) name
    by_test true g k later = record {
      branch = b;
      holds = h.0;
      named = same_bytes b.name name g;
      same = ap (λ (c : Bool). if c then b.records else records_in bs name) g;
    }
    by_test false g k later = let rest =
        later k in record {
          branch = rest.branch;
          holds = rest.holds;
          named = rest.named;
          same = ap (λ (c : Bool). if c then b.records else records_in bs name) g ∙ rest.same;
        }

-- the law, by names
by_names : (f : Federation) (a b : Branch) (from to : List ℕ) → a.name ≡ from → b.name ≡ to
    → records_in f.branches from ≡ a.records → records_in f.branches to ≡ b.records
    → AddUp f.transfers a b → AddsUp f from to
by_names f a b from to ea eb ra rb law unit day =
    let P : List ℕ → List ℕ → Type 0 = λ x y.
    balance Own (entries a.records) (transit_account x y) unit (Through day)
    +ℤ balance Own (entries b.records) (transit_account x y) unit (Through day)
    ≡ open_amount f.transfers x y unit day in
    rw (ra, rb) (subst (λ x. P x to) ea (subst (λ y. P a.name y) eb (law unit day)))

pub adds_up_named : (f : Federation) (from to : List ℕ) → IsGoodState f → has_branch f from ≡ true
    → has_branch f to ≡ true → bytes_eq from to ≡ false → AddsUp f from to
adds_up_named f from to good here there apart =
    let kept = all_in_step f.styles f.transfers f.branches good.branches good.carried in
    let a = branch_found (IsInStep f.transfers) f.branches from kept here in
    let b = branch_found (IsInStep f.transfers) f.branches to kept there in
    let differ : bytes_eq a.branch.name b.branch.name ≡ false =
    ap (λ x. bytes_eq x b.branch.name) a.named ∙ (ap (λ y. bytes_eq from y) b.named ∙ apart) in
    by_names f a.branch b.branch from to a.named b.named a.same b.same
    (adds_up f.transfers a.branch b.branch (own_ids f.transfers good.ids)
    (all_fair f.branches f.transfers (names_good f good) good.transfers) a.holds b.holds differ)

pub open_low_named : (f : Federation) (from to : List ℕ) (unit : Commodity) (day : Day) → IsGoodState f
    → pos 0 ≤ℤ open_amount f.transfers from to unit day
open_low_named f from to unit day good =
    open_sum_low f.transfers from to unit day (all_fair f.branches f.transfers (names_good f good) good.transfers)
