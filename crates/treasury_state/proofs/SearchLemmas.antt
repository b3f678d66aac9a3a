-- where a transfer stands among those in order of their IDs
use Rattle.std.proofs.Common.{◌≡◌, ℕ, zero, suc, ◌+◌, ◌≤◌, ◌<◌, Bool, true, false, cond, List, [], ◌∷◌, length, drop}
use Rattle.std.proofs.Common.{get_or, set, pos, refl, ap, ◌∙◌, sym, subst, arith, Option, Some, None}
use Rattle.std.specs.Prelude.{if◌then◌else◌, find, insert, is_some, nat_lt, IfSome, option_copied}
use Rattle.std.specs.Ordering.{is_lt}
use Rattle.std.specs.declared.cmp.Ordering.TheVariants.{Less}
use Rattle.std.specs.List.{prefix_len, slice_get}
use Rattle.std.specs.List.Sorted.{IsPartitionedBy, IsPartitionPoint}
use Rattle.std.specs.Str.{bytes_eq}
use Rattle.std.proofs.lemmas.List.{set-get_or, drop_all}
use Rattle.std.proofs.lemmas.List.Sums.{prefix_len_is}
use Rattle.std.proofs.lemmas.Option.{slice_get_read, slice_get_past}
use Rattle.std.proofs.lemmas.Bool.Decides.{nat_tests}
use denote.Ref.{Bor}
use Rattle.money_core.proofs.ListLemmas.{drop_at}
use Rattle.money_core.proofs.BytesLemmas.{bytes_eq-refl, other_bytes}
use Rattle.book_core.specs.Account.{name_cmp}
use Rattle.book_core.proofs.AccountListLemmas.{names_total, is_less, name_after}
use Rattle.treasury_state.specs.declared.transfer.Part.{Part}
use Rattle.treasury_state.specs.declared.transfer.Transfer.{Transfer}
use Rattle.treasury_state.specs.Transfer.{has_id}
use Rattle.treasury_state.specs.Joined.{inserted, put_part, received, with_receipt}
use Rattle.treasury_state.specs.Good.{AreAscending}
use Rattle.treasury_state.specs.Room.{is_before, is_key_before}
use Rattle.treasury_state.proofs.OrderLemmas.{AreBehind, other_than, all_after, not_less}

-- some transfer, for places past the end
pub blank_transfer : Transfer
blank_transfer = record {
  id = [];
  source = [];
  target = [];
  unit = record { 0 = 0 };
  qty = pos 0;
  day = record { 0 = pos 0 };
  payer = [];
  parts = [];
  receipt = None;
}

-- the transfers before an ID stand at the front
pub behind_at : (id : List ℕ) (ts : List Transfer) (j : ℕ) (d : Transfer) → AreBehind id ts → j < length ts
    → name_cmp id (get_or ts j d).id ≡ Less
behind_at id [] j d h l = absurd (omega (arith, l))
behind_at id (t ∷ ts) zero d h l = h.0
behind_at id (t ∷ ts) (suc j) d h l = behind_at id ts j d h.1 (omega (arith, l))

pub partitioned_by_id : (id : List ℕ) (ts : List Transfer) → AreAscending ts → IsPartitionedBy (is_before id) ts
partitioned_by_id id [] h i j d le l up = absurd (omega (arith, l))
partitioned_by_id id (t ∷ ts) h zero zero d le l up = up
partitioned_by_id id (t ∷ ts) h (suc i) zero d le l up = absurd (omega (arith, le))
partitioned_by_id id (t ∷ ts) h zero (suc j) d le l up =
    ap is_lt (names_total.trans t.id (get_or ts j d).id id (behind_at t.id ts j d h.0 (omega (arith, l)))
    (is_less (name_cmp (get_or ts j d).id id) up))
partitioned_by_id id (t ∷ ts) h (suc i) (suc j) d le l up =
    partitioned_by_id id ts h.1 i j d (omega (arith, le)) (omega (arith, l)) up

-- their number
pub prefix_at : (id : List ℕ) (ts : List Transfer) (n : ℕ) → n ≤ length ts
    → IsPartitionPoint (λ (t : Transfer). is_before id t ≡ true) (λ (t : Transfer). is_before id t ≡ false) ts n
    → prefix_len (is_before id) ts ≡ n
prefix_at id ts n bound point =
    prefix_len_is (is_before id) ts n blank_transfer bound (λ k l. point.0 k blank_transfer (omega arith) l)
    (λ l. point.1 n blank_transfer (omega arith) l)

-- what stands at that place, if it has the ID
abbrev pub picked : List ℕ → Option Transfer → Option Transfer
picked id None = None
picked id (Some t) = cond (bytes_eq t.id id) (Some t) None

one_more : (n : ℕ) → 1 + n ≡ suc n
one_more n = omega arith

none_behind : (id : List ℕ) (ts : List Transfer) → AreBehind id ts → find (has_id id) ts ≡ None
none_behind id [] h = refl
none_behind id (t ∷ ts) h =
    ap (λ (c : Bool). cond c (Some t) (find (has_id id) ts)) (other_than id t.id h.0) ∙ none_behind id ts h.1

not_same : (a b : List ℕ) → bytes_eq a b ≡ false → a ≡ b → ⊥
not_same a b e h = let k : true ≡ false = sym (bytes_eq-refl b) ∙ (ap (λ (x : List ℕ). bytes_eq x b) (sym h) ∙ e) in cc

-- after the first transfer that is not before the ID, none has it
no_later : (id : List ℕ) (t : Transfer) (ts : List Transfer) → is_before id t ≡ false → bytes_eq t.id id ≡ false
    → AreBehind t.id ts → find (has_id id) ts ≡ None
no_later id t ts e f h =
    none_behind id ts (all_after id t.id ts (name_after t.id id (not_less t.id id e) (not_same t.id id f)) h)

here_at : (id : List ℕ) (t : Transfer) (ts : List Transfer) (c : Bool) → bytes_eq t.id id ≡ c → is_before id t ≡ false
    → AreBehind t.id ts → cond c (Some t) (find (has_id id) ts) ≡ cond c (Some t) None
here_at id t ts true f e h = refl
here_at id t ts false f e h = no_later id t ts e f h

find_at : (id : List ℕ) (t : Transfer) (ts : List Transfer) (c : Bool) → is_before id t ≡ c → AreBehind t.id ts
    → find (has_id id) ts ≡ picked id (slice_get ts (prefix_len (is_before id) ts))
    → find (has_id id) (t ∷ ts) ≡ picked id (slice_get (t ∷ ts) (cond c (1 + prefix_len (is_before id) ts) 0))
find_at id t ts true e h k =
    ap (λ (c : Bool). cond c (Some t) (find (has_id id) ts))
    (other_bytes id t.id (other_than t.id id (is_less (name_cmp t.id id) e))) ∙ k
    ∙ ap (λ (n : ℕ). picked id (slice_get (t ∷ ts) n)) (sym (one_more (prefix_len (is_before id) ts)))
find_at id t ts false e h k = here_at id t ts (bytes_eq t.id id) refl e h

pub found_at : (id : List ℕ) (ts : List Transfer) → AreAscending ts
    → find (has_id id) ts ≡ picked id (slice_get ts (prefix_len (is_before id) ts))
found_at id [] h = refl
found_at id (t ∷ ts) h = find_at id t ts (is_before id t) refl h.0 (found_at id ts h.1)

-- a transfer put in at that place
insert_at : (x t : Transfer) (ts : List Transfer) (c : Bool)
    → insert ts (prefix_len (is_before x.id) ts) x ≡ inserted x ts
    → insert (t ∷ ts) (cond c (1 + prefix_len (is_before x.id) ts) 0) x ≡ (if c then t ∷ inserted x ts else x ∷ t ∷ ts)
insert_at x t ts true h = ap (λ (n : ℕ). insert (t ∷ ts) n x) (one_more (prefix_len (is_before x.id) ts)) ∙ ap
    (λ (xs : List Transfer). t ∷ xs) h
insert_at x t ts false h = refl

pub inserted_at : (x : Transfer) (ts : List Transfer) → insert ts (prefix_len (is_before x.id) ts) x ≡ inserted x ts
inserted_at x [] = refl
inserted_at x (t ∷ ts) = insert_at x t ts (is_before x.id t) (inserted_at x ts)

-- a receipt of a transfer that is not there
open_at : (id : List ℕ) (r : Part) (t : Transfer) (ts : List Transfer) (c : Bool)
    → cond c (Some t) (find (has_id id) ts) ≡ None → (find (has_id id) ts ≡ None → received id r ts ≡ ts)
    → (if c then with_receipt r t ∷ ts else t ∷ received id r ts) ≡ t ∷ ts
open_at id r t ts true e k = absurd cc
open_at id r t ts false e k = ap (λ (xs : List Transfer). t ∷ xs) (k e)

pub received_none : (id : List ℕ) (r : Part) (ts : List Transfer) → find (has_id id) ts ≡ None → received id r ts ≡ ts
received_none id r [] e = refl
received_none id r (t ∷ ts) e = open_at id r t ts (bytes_eq t.id id) e (received_none id r ts)

-- a transfer is received where it stands
abbrev IsSet : List ℕ → Part → List Transfer → Transfer → ℕ → Type 0
IsSet id r ts d n =
    n < length ts → bytes_eq (get_or ts n d).id id ≡ true → received id r ts ≡ set ts n (with_receipt r (get_or ts n d))

set_at : (id : List ℕ) (r : Part) (t : Transfer) (ts : List Transfer) (c : Bool) (d : Transfer) → is_before id t ≡ c
    → IsSet id r ts d (prefix_len (is_before id) ts)
    → IsSet id r (t ∷ ts) d (cond c (1 + prefix_len (is_before id) ts) 0)
set_at id r t ts true d e k l f =
    let n = prefix_len (is_before id) ts in
    let g : bytes_eq (get_or ts n d).id id ≡ true =
    ap (λ (m : ℕ). bytes_eq (get_or (t ∷ ts) m d).id id) (sym (one_more n)) ∙ f in
    ap (λ (c : Bool). if c then with_receipt r t ∷ ts else t ∷ received id r ts)
    (other_bytes id t.id (other_than t.id id (is_less (name_cmp t.id id) e)))
    ∙ ap (λ (xs : List Transfer). t ∷ xs) (k (omega (arith, l)) g)
    ∙ ap (λ (m : ℕ). set (t ∷ ts) m (with_receipt r (get_or (t ∷ ts) m d))) (sym (one_more n))
set_at id r t ts false d e k l f = ap (λ (c : Bool). if c then with_receipt r t ∷ ts else t ∷ received id r ts) f

pub received_at : (id : List ℕ) (r : Part) (ts : List Transfer) (d : Transfer)
    → IsSet id r ts d (prefix_len (is_before id) ts)
received_at id r [] d l e = absurd (omega (arith, l))
received_at id r (t ∷ ts) d l e = set_at id r t ts (is_before id t) d refl (received_at id r ts d) l e

-- what `get` answers at that place
copied_at : (o : Option (Bor Transfer)) (ts : List Transfer) (i : ℕ) → is_some o ≡ nat_lt i (length ts)
    → IfSome o (λ x. x.now ≡ get_or ts i x.now) → option_copied o ≡ slice_get ts i
copied_at None ts i e h = sym (slice_get_past ts i (grind (arith, nat_tests)))
copied_at (Some x) ts i e h = sym (slice_get_read ts (length ts) i x.now refl (grind (arith, nat_tests)) h)

pub picked_is_find : (id : List ℕ) (ts : List Transfer) (o : Option (Bor Transfer)) (i : ℕ) → AreAscending ts
    → i ≡ prefix_len (is_before id) ts → is_some o ≡ nat_lt i (length ts) → IfSome o (λ x. x.now ≡ get_or ts i x.now)
    → picked id (option_copied o) ≡ find (has_id id) ts
picked_is_find id ts o i h place e k =
    ap (picked id) (copied_at o ts i e k) ∙ (ap (λ (n : ℕ). picked id (slice_get ts n)) place ∙ sym (found_at id ts h))

-- what a receipt leaves, by what stands at that place
pub received_past_end : (id : List ℕ) (r : Part) (ts : List Transfer) (i : ℕ) → AreAscending ts
    → i ≡ prefix_len (is_before id) ts → length ts ≤ i → ts ≡ received id r ts
received_past_end id r ts i h place l = sym (received_none id r ts
    (found_at id ts h ∙
    (ap (λ (n : ℕ). picked id (slice_get ts n)) (sym place) ∙ ap (picked id) (slice_get_past ts i l))))

pub kept_there : (id : List ℕ) (r : Part) (ts : List Transfer) (i : ℕ) (t : Transfer) → AreAscending ts
    → i ≡ prefix_len (is_before id) ts → i < length ts → t ≡ get_or ts i t → bytes_eq t.id id ≡ false
    → set ts i t ≡ received id r ts
kept_there id r ts i t h place l e f =
    let at : slice_get ts i ≡ Some t = slice_get_read ts (length ts) i t refl l e in
    let none : find (has_id id) ts ≡ None =
    found_at id ts h ∙
    (ap (λ (n : ℕ). picked id (slice_get ts n)) (sym place) ∙
    (ap (picked id) at ∙ ap (λ (c : Bool). cond c (Some t) None) f)) in
    ap (set ts i) e ∙ (set-get_or ts i t ∙ sym (received_none id r ts none))

pub received_there : (id : List ℕ) (r : Part) (ts : List Transfer) (i : ℕ) (t : Transfer)
    → i ≡ prefix_len (is_before id) ts → i < length ts → t ≡ get_or ts i t → bytes_eq t.id id ≡ true
    → set ts i (with_receipt r t) ≡ received id r ts
received_there id r ts i t place l e f =
    let same : get_or ts (prefix_len (is_before id) ts) t ≡ t = ap (λ (n : ℕ). get_or ts n t) (sym place) ∙ sym e in
    ap (λ (n : ℕ). set ts n (with_receipt r t)) place
    ∙ (ap (λ (x : Transfer). set ts (prefix_len (is_before id) ts) (with_receipt r x)) (sym same)
    ∙ sym (received_at id r ts t (subst (λ (n : ℕ). n < length ts) place l)
    (ap (λ (x : Transfer). bytes_eq x.id id) same ∙ f)))

-- ---- parts in byte order of their keys

pub key_stops : (key : List ℕ) (ps : List Part) (i : ℕ) (p : Part) → i < length ps → p ≡ get_or ps i p
    → is_key_before key p ≡ false → i + prefix_len (is_key_before key) (drop i ps) ≡ prefix_len (is_key_before key) ps
    → i ≡ prefix_len (is_key_before key) ps
key_stops key ps i p h is e whole =
    let none : prefix_len (is_key_before key) (drop i ps) ≡ 0 =
    ap (prefix_len (is_key_before key)) (drop_at ps i p h is) ∙ ap
    (λ (c : Bool). cond c (1 + prefix_len (is_key_before key) (drop (i + 1) ps)) 0) e in
    omega (arith, none, whole)

pub key_passes : (key : List ℕ) (ps : List Part) (i : ℕ) (p : Part) → i < length ps → p ≡ get_or ps i p
    → is_key_before key p ≡ true → i + prefix_len (is_key_before key) (drop i ps) ≡ prefix_len (is_key_before key) ps
    → i + 1 + prefix_len (is_key_before key) (drop (i + 1) ps) ≡ prefix_len (is_key_before key) ps
key_passes key ps i p h is e whole =
    let more : prefix_len (is_key_before key) (drop i ps) ≡ 1 + prefix_len (is_key_before key) (drop (i + 1) ps) =
    ap (prefix_len (is_key_before key)) (drop_at ps i p h is) ∙ ap
    (λ (c : Bool). cond c (1 + prefix_len (is_key_before key) (drop (i + 1) ps)) 0) e in
    omega (arith, more, whole)

pub key_end : (key : List ℕ) (ps : List Part) (i : ℕ) → length ps ≤ i
    → i + prefix_len (is_key_before key) (drop i ps) ≡ prefix_len (is_key_before key) ps
    → i ≡ prefix_len (is_key_before key) ps
key_end key ps i h whole =
    let none : prefix_len (is_key_before key) (drop i ps) ≡ 0 = ap (prefix_len (is_key_before key)) (drop_all i ps h) in
    omega (arith, none, whole)

put_at : (x p : Part) (ps : List Part) (c : Bool) → insert ps (prefix_len (is_key_before x.key) ps) x ≡ put_part x ps
    → insert (p ∷ ps) (cond c (1 + prefix_len (is_key_before x.key) ps) 0) x
    ≡ (if c then p ∷ put_part x ps else x ∷ p ∷ ps)
put_at x p ps true h = ap (λ (n : ℕ). insert (p ∷ ps) n x) (one_more (prefix_len (is_key_before x.key) ps)) ∙ ap
    (λ (xs : List Part). p ∷ xs) h
put_at x p ps false h = refl

pub part_put : (x : Part) (ps : List Part) → insert ps (prefix_len (is_key_before x.key) ps) x ≡ put_part x ps
part_put x [] = refl
part_put x (p ∷ ps) = put_at x p ps (is_key_before x.key p) (part_put x ps)
