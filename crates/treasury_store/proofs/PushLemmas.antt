-- Changes that are put after one another.
use Rattle.std.proofs.Common.{◌≡◌, ℕ, zero, suc, ◌+◌, ◌<◌, ◌≤◌, ◌^◌, Bool, true, false, List, [], ◌∷◌, ◌++◌, map}
use Rattle.std.proofs.Common.{length, get_or, drop, refl, sym, ap, subst, ◌∙◌, arith, nat_lt}
use Rattle.std.specs.Prelude.{if◌then◌else◌}
use Rattle.std.specs.List.{enumerate_from, AllByRecursion}
use Rattle.std.proofs.lemmas.Bool.{ltb-true, lt-ltb}
use Rattle.std.proofs.lemmas.List.{append-nil, append_assoc}
use Rattle.money_core.specs.declared.style.Style.{Style}
use Rattle.money_core.proofs.ListLemmas.{drop_at}
use Rattle.book_core.specs.declared.claim.Placed.{Placed}
use Rattle.book_core.specs.declared.leg.Leg.{Leg}
use Rattle.treasury_state.specs.declared.delta.Addition.{Addition}
use Rattle.treasury_state.specs.Rows.{leg_row, claim_row}
use Rattle.treasury_tables.specs.declared.change.Change.{Change}
use Rattle.treasury_tables.specs.declared.change.Change.TheVariants as change
use Rattle.treasury_store.specs.Changes.{Counts, changes_by, counts_after, changes_from, counts_after_all, CanWrite}
use Rattle.treasury_store.specs.Changes.{CanWriteFrom}
use Rattle.treasury_store.proofs.ListLemmas.{past_end}

-- one more in front of the rest
pub one_put : (changes new rest all : List Change) (c : Change) → changes ++ (c ∷ rest) ≡ all → new ≡ changes ++ c ∷ []
    → new ++ rest ≡ all
one_put changes new rest all c h is = ap (λ (l : List Change). l ++ rest) is ∙ (append_assoc changes (c ∷ []) rest ∙ h)

pub leg_put : (b n k : ℕ) (changes new all : List Change) (legs : List Leg) (i : ℕ) (x : Leg) → i < length legs
    → x ≡ get_or legs i x
    → changes ++ map change.Leg (map (λ (p : ℕ × Leg). leg_row b n p.0 p.1) (enumerate_from (k + 1) (drop i legs)))
    ≡ all → new ≡ changes ++ change.Leg (leg_row b n (k + 1) x) ∷ []
    → new ++ map change.Leg (map (λ (p : ℕ × Leg). leg_row b n p.0 p.1)
    (enumerate_from ((k + 1) + 1) (drop (i + 1) legs))) ≡ all
leg_put b n k changes new all legs i x h e so_far is =
    one_put changes new _ all (change.Leg (leg_row b n (k + 1) x))
    (ap (λ (ls : List Leg). changes
    ++ map change.Leg (map (λ (p : ℕ × Leg). leg_row b n p.0 p.1) (enumerate_from (k + 1) ls)))
    (sym (drop_at legs i x h e)) ∙ so_far) is

pub legs_put : (b n k : ℕ) (changes all : List Change) (legs : List Leg) (i : ℕ) → length legs ≤ i
    → changes ++ map change.Leg (map (λ (p : ℕ × Leg). leg_row b n p.0 p.1) (enumerate_from (k + 1) (drop i legs)))
    ≡ all → changes ≡ all
legs_put b n k changes all legs i h so_far =
    sym (append-nil changes) ∙ (ap (λ (ls : List Leg).
    changes ++ map change.Leg (map (λ (p : ℕ × Leg). leg_row b n p.0 p.1) (enumerate_from (k + 1) ls)))
    (sym (past_end legs i h)) ∙ so_far)

pub claim_put : (b n : ℕ) (changes new all : List Change) (claims : List Placed) (i : ℕ) (x : Placed)
    → i < length claims → x ≡ get_or claims i x
    → changes ++ map change.Claim (map (claim_row b n) (drop i claims)) ≡ all
    → new ≡ changes ++ change.Claim (claim_row b n x) ∷ []
    → new ++ map change.Claim (map (claim_row b n) (drop (i + 1) claims)) ≡ all
claim_put b n changes new all claims i x h e so_far is =
    one_put changes new _ all (change.Claim (claim_row b n x))
    (ap (λ (ls : List Placed). changes ++ map change.Claim (map (claim_row b n) ls)) (sym (drop_at claims i x h e)) ∙
    so_far) is

pub claims_put : (b n : ℕ) (changes all : List Change) (claims : List Placed) (i : ℕ) → length claims ≤ i
    → changes ++ map change.Claim (map (claim_row b n) (drop i claims)) ≡ all → changes ≡ all
claims_put b n changes all claims i h so_far =
    sym (append-nil changes) ∙ (ap (λ (ls : List Placed). changes ++ map change.Claim (map (claim_row b n) ls))
    (sym (past_end claims i h)) ∙ so_far)

-- what holds of the rest holds of its first and of those after
pub all_next : {X : Type 0} (P : X → Type 0) (xs : List X) (i : ℕ) (x : X) → i < length xs → x ≡ get_or xs i x
    → AllByRecursion P (drop i xs) → P x × AllByRecursion P (drop (i + 1) xs)
all_next P xs i x h e all =
    let w : AllByRecursion P (x ∷ drop (i + 1) xs) = subst (AllByRecursion P) (drop_at xs i x h e) all in (w.0, w.1)

pub on_leg : (n : ℕ) (xs : List Placed) (i : ℕ) (d : Placed) → i < length xs
    → AllByRecursion (λ (x : Placed). x.leg ≤ n) (drop i xs) → n < 2 ^ 63 → (get_or xs i d).leg < 2 ^ 63
on_leg n [] i d h all few = absurd (omega (arith, h))
on_leg n (x ∷ xs) zero d h all few = let here = all.0 in omega (arith, here, few)
on_leg n (x ∷ xs) (suc i) d h all few = on_leg n xs i d (omega (arith, h)) all few

-- ---- the changes by a record, where its branch is there and where it is not
pub if_there : (p n : ℕ) (xs : List Change) → p < n → xs ≡ (if nat_lt p n then xs else [])
if_there p n xs h = ap (λ (t : Bool). if t then xs else []) (sym (lt-ltb p n h))

gone_at : (p n : ℕ) (t : Bool) → nat_lt p n ≡ t → n ≤ p → t ≡ false
gone_at p n false e h = refl
gone_at p n true e h = absurd (omega (arith, ltb-true p n e, h))

pub if_gone : (p n : ℕ) (changes xs : List Change) → n ≤ p → changes ≡ changes ++ (if nat_lt p n then xs else [])
if_gone p n changes xs h = sym (append-nil changes) ∙ ap (λ (t : Bool). changes ++ (if t then xs else []))
    (sym (gone_at p n (nat_lt p n) refl h))

-- ---- the changes by additions, one after another
module _ (S : List Style) (N : List (List ℕ)) (n m : Counts) (xs : List Addition) (i : ℕ) (x : Addition)
    (h : i < length xs) (e : x ≡ get_or xs i x) where
  pub can_next : CanWriteFrom S N n (drop i xs) → CanWrite S N n x
      × CanWriteFrom S N (counts_after N n x) (drop (i + 1) xs)
  can_next fit = let w : CanWriteFrom S N n (x ∷ drop (i + 1) xs) =
      subst (CanWriteFrom S N n) (drop_at xs i x h e) fit in (w.0, w.1)

  pub fit_next : m ≡ counts_after N n x → CanWriteFrom S N n (drop i xs) → CanWriteFrom S N m (drop (i + 1) xs)
  fit_next is fit = subst (λ (k : Counts). CanWriteFrom S N k (drop (i + 1) xs)) (sym is) (can_next fit).1

  pub changes_next : (changes new all : List Change) → m ≡ counts_after N n x → new ≡ changes ++ changes_by S N n x
      → changes ++ changes_from S N n (drop i xs) ≡ all → new ++ changes_from S N m (drop (i + 1) xs) ≡ all
  changes_next changes new all is put so_far =
      ap (λ (l : List Change). l ++ changes_from S N m (drop (i + 1) xs)) put
      ∙ (append_assoc changes (changes_by S N n x) (changes_from S N m (drop (i + 1) xs))
      ∙ (ap (λ (k : Counts). changes ++ (changes_by S N n x ++ changes_from S N k (drop (i + 1) xs))) is ∙
      (ap (λ (l : List Addition). changes ++ changes_from S N n l) (sym (drop_at xs i x h e)) ∙ so_far)))

  pub counts_next : (all : Counts) → m ≡ counts_after N n x → counts_after_all N n (drop i xs) ≡ all
      → counts_after_all N m (drop (i + 1) xs) ≡ all
  counts_next all is so_far = ap (λ (k : Counts). counts_after_all N k (drop (i + 1) xs)) is ∙
      (ap (counts_after_all N n) (sym (drop_at xs i x h e)) ∙ so_far)

pub changes_end : (S : List Style) (N : List (List ℕ)) (n : Counts) (xs : List Addition) (i : ℕ)
    (changes all : List Change) → length xs ≤ i → changes ++ changes_from S N n (drop i xs) ≡ all → changes ≡ all
changes_end S N n xs i changes all h so_far =
    sym (append-nil changes) ∙
    (ap (λ (l : List Addition). changes ++ changes_from S N n l) (sym (past_end xs i h)) ∙ so_far)

pub counts_end : (N : List (List ℕ)) (n all : Counts) (xs : List Addition) (i : ℕ) → length xs ≤ i
    → counts_after_all N n (drop i xs) ≡ all → n ≡ all
counts_end N n all xs i h so_far = ap (counts_after_all N n) (sym (past_end xs i h)) ∙ so_far
