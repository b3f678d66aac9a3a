-- a transfer with one receipt more is good again, and asks for one record more; a branch that gets such a record
use Rattle.std.proofs.Common.{◌≡◌, ◌∙◌, ℕ, Bool, true, false, cond, List, [], ◌∷◌, ◌++◌, map, ℤ, ◌-ℤ◌, ◌≤ℤ◌, refl, sym}
use Rattle.std.proofs.Common.{ap, subst, arith, append-nil, Option, Some, None}
use Rattle.std.proofs.lemmas.Int.{ints}
use Rattle.std.proofs.lemmas.List.Folds.{find-append}
use Rattle.std.proofs.lemmas.List.Elements.{filter-append}
use Rattle.std.proofs.lemmas.Bool.{or_parts}
use Rattle.std.specs.Prelude.{if◌then◌else◌, filter, find}
use Rattle.std.specs.Ordering.{is_lt}
use Rattle.std.specs.Option.{option_or}
use Rattle.std.specs.List.{list_any, AllByRecursion}
use Rattle.std.specs.Str.{bytes_eq}
use Rattle.money_core.proofs.TestLemmas.{int_le-true}
use Rattle.money_core.proofs.BytesLemmas.{same_bytes}
use Rattle.book_core.specs.Account.{name_cmp}
use Rattle.treasury_state.specs.declared.record.Record.{Record}
use Rattle.treasury_state.specs.declared.transfer.Part.{Part}
use Rattle.treasury_state.specs.declared.transfer.Receipt.{Receipt}
use Rattle.treasury_state.specs.declared.transfer.Transfer.{Transfer}
use Rattle.treasury_state.specs.Federation.{Branch}
use Rattle.treasury_state.specs.Mark.{has_mark, held, is_of_transfer}
use Rattle.treasury_state.specs.Transfer.{all_key, is_all, is_key, sum_of_parts, rest_part, of_rest, receipts_of}
use Rattle.treasury_state.specs.Transfer.{left_of}
use Rattle.treasury_state.specs.Transfer.{in_mark, receipt_record, asked, out_records, in_records, has_id}
use Rattle.treasury_state.specs.Joined.{put_part, parts_with, rest_with, with_receipt, with_records}
use Rattle.treasury_state.specs.Good.{IsGoodPart, IsGoodRest, IsGoodTransfer}
use Rattle.treasury_state.specs.Fair.{HasNoColon, IsMarked}
use Rattle.treasury_state.proofs.MarkLemmas.{and_never, mark_eq, id_no_colon}
use Rattle.treasury_state.proofs.AskedLemmas.{none_of_key, HaveOwnIds, none_append, none_out_at, no_in}
use Rattle.treasury_state.proofs.WayLemmas.{IsClear, IsInStep}
use Rattle.treasury_state.proofs.HeldLemmas.{held_push, own_push}
use Rattle.treasury_state.proofs.SkipLemmas.{same_transfer}
use Rattle.treasury_state.proofs.FilterLemmas.{held-filter}
use Rattle.treasury_core.proofs.TransferLemmas.{none_yet, left_none, all_put, sum_put, keyed_put}
use Rattle.treasury_core.proofs.PassLemmas.{Asks, pass_in}

all_push : (P : Record → Type 0) (rs : List Record) (r : Record) → AllByRecursion P rs → P r
    → AllByRecursion P (rs ++ r ∷ [])
all_push P [] r h p = (p, tt)
all_push P (x ∷ xs) r h p = (h.0, all_push P xs r h.1 p)

-- a branch that gets a transfer's record
pub in_step_with_record : (ts ts' : List Transfer) (d : Branch) (r : Record) → IsInStep ts d → is_of_transfer r ≡ true
    → held (asked ts d.name) r.mark ≡ None
    → ((m : List ℕ) → held (asked ts' d.name) m ≡ cond (bytes_eq r.mark m) (Some r) (held (asked ts d.name) m))
    → IsInStep ts' (with_records (r ∷ []) d)
in_step_with_record ts ts' d r h own new after =
    let absent : held (filter is_of_transfer d.records) r.mark ≡ None = h.asked_for r.mark ∙ new in
    record {
      own_marks = own_push d.records r h.own_marks (sym (held-filter d.records r.mark own) ∙ absent);
      asked_for = λ m. ap (λ (xs : List Record). held xs m)
          (filter-append is_of_transfer d.records (r ∷ []) ∙ ap
          (λ (b : Bool). filter is_of_transfer d.records ++ cond b (r ∷ []) []) own)
          ∙ held_push (filter is_of_transfer d.records) r m absent ∙ ap
          (λ (o : Option Record). cond (bytes_eq r.mark m) (Some r) o) (h.asked_for m) ∙ sym (after m);
      clear = all_push IsClear d.records r h.clear (λ e. absurd (let k : true ≡ false = sym own ∙ e in cc));
      named = h.named;
    }

-- nothing is received under a key that no receipt of a transfer has
none_own : (t : Transfer) (key : List ℕ) (b : Bool) (ps : List Part) → HasNoColon t.id
    → list_any (λ (x : Part). bytes_eq x.key key) ps ≡ false → held (in_records t b ps) (in_mark t.id key) ≡ None
none_own t key true ps h e = none_of_key t key ps h e
none_own t key false ps h e = refl

-- no receipt of the transfer has the key
abbrev pub IsFresh : Transfer → List ℕ → Type 0
IsFresh t key = list_any (λ (x : Part). bytes_eq x.key key) (receipts_of t) ≡ false

no_receipt_at : (t x : Transfer) (key : List ℕ) (xs : List Transfer) (name : List ℕ) (c : Bool) → bytes_eq x.id t.id ≡ c
    → AllByRecursion IsMarked (x ∷ xs) → HasNoColon t.id → cond c (Some x) (find (has_id t.id) xs) ≡ Some t
    → IsFresh t key
    → list_any (has_id x.id) xs ≡ false
    → (find (has_id t.id) xs ≡ Some t → held (asked xs name) (in_mark t.id key) ≡ None)
    → held (asked (x ∷ xs) name) (in_mark t.id key) ≡ None
no_receipt_at t x key xs name true g marked l e fresh own h =
    let P : Transfer → Type 0 = λ y. held (asked (y ∷ xs) name) (in_mark t.id key) ≡ None in
    subst P (sym (same_transfer x t e))
    (none_append (out_records t (bytes_eq t.source name)) _ (in_mark t.id key)
    (none_out_at t t.id key (bytes_eq t.source name))
    (none_append (in_records t (bytes_eq t.target name) (receipts_of t)) (asked xs name) (in_mark t.id key)
    (none_own t key (bytes_eq t.target name) (receipts_of t) l fresh)
    (no_in xs name t.id key marked.1 l
    (ap (λ (k : List ℕ). list_any (has_id k) xs) (sym (same_bytes x.id t.id g)) ∙ own))))
no_receipt_at t x key xs name false g marked l e fresh own h =
    pass_in x (asked xs name) t.id key (bytes_eq x.source name) (bytes_eq x.target name) (receipts_of x)
    (id_no_colon x.id marked.0.id) l g ∙ h e

pub no_receipt : (t : Transfer) (key : List ℕ) (ts : List Transfer) (name : List ℕ) → AllByRecursion IsMarked ts
    → HasNoColon t.id → find (has_id t.id) ts ≡ Some t → IsFresh t key → HaveOwnIds ts
    → held (asked ts name) (in_mark t.id key) ≡ None
no_receipt t key [] name marked l e fresh h = refl
no_receipt t key (x ∷ xs) name marked l e fresh h =
    no_receipt_at t x key xs name (bytes_eq x.id t.id) refl marked l e fresh h.0
    (λ g. no_receipt t key xs name marked.1 l g fresh h.1)

-- a receipt that may come: under a key that has none yet, a good one, of at most what is left, and of all that is left
-- where it is under `all`
pub record IsReceipt (t : Transfer) (p : Part) : Type 0 where
  pub key : is_all p.key ≡ false → is_key p.key ≡ true
  pub whole : is_all p.key ≡ true → p.qty ≡ left_of t
  pub fresh : IsFresh t p.key
  pub part : IsGoodPart t.day p
  pub within : p.qty ≤ℤ left_of t

-- the rest was not received yet
pub no_rest : (t : Transfer) (p : Part) → IsReceipt t p → t.receipt ≡ None
no_rest t p h = none_yet t p.qty h.part.positive h.within t.receipt refl

now_parts : (t : Transfer) → t.receipt ≡ None → receipts_of t ≡ t.parts
now_parts t none = ap (λ (o : Option Receipt). t.parts ++ of_rest t o) none ∙ append-nil t.parts

fresh_parts : (t : Transfer) (p : Part) → IsReceipt t p → list_any (λ (x : Part). bytes_eq x.key p.key) t.parts ≡ false
fresh_parts t p h = ap (λ (ps : List Part). list_any (λ (x : Part). bytes_eq x.key p.key) ps)
    (sym (now_parts t (no_rest t p h))) ∙ h.fresh

-- ---- good again

-- the transfer, by whether the key is `all`
abbrev with_at : Bool → Part → Transfer → Transfer
with_at b p t = record t { parts = parts_with b p t.parts; receipt = rest_with b p t.receipt }

part_is_rest : (t : Transfer) (p : Part) → is_all p.key ≡ true → p.qty ≡ t.qty -ℤ sum_of_parts t.parts
    → p ≡ rest_part t (record { day = p.day; payee = p.payee })
part_is_rest t p all e =
    ap (λ (k : List ℕ). let x : Part = record { key = k; qty = p.qty; day = p.day; payee = p.payee } in x)
    (same_bytes p.key all_key all)
    ∙ ap (λ (q : ℤ). let x : Part = record { key = all_key; qty = q; day = p.day; payee = p.payee } in x) e

good_at : (bs : List Branch) (t : Transfer) (p : Part) (b : Bool) → is_all p.key ≡ b → IsGoodTransfer bs t
    → IsReceipt t p → IsGoodTransfer bs (with_at b p t)
good_at bs t p true e good h =
    let none = no_rest t p h in
    let rest : p.qty ≡ t.qty -ℤ sum_of_parts t.parts = h.whole e ∙ left_none t none in
    record {
      id = good.id;
      source = good.source;
      target = good.target;
      apart = good.apart;
      positive = good.positive;
      payer = good.payer;
      parts = record {
        keys = good.parts.keys;
        keyed = good.parts.keyed;
        each = good.parts.each;
        within = good.parts.within;
      };
      rest = subst (IsGoodPart t.day) (part_is_rest t p e rest) h.part;
    }
good_at bs t p false e good h =
    let none = no_rest t p h in
    let left = left_none t none in
    let sum = sum_put p t.parts in
    let within = h.within in
    record {
      id = good.id;
      source = good.source;
      target = good.target;
      apart = good.apart;
      positive = good.positive;
      payer = good.payer;
      parts = record {
        keys = all_put (λ (x : Part). is_key x.key ≡ true) p t.parts (h.key e) good.parts.keys;
        keyed = keyed_put p t.parts (fresh_parts t p h) good.parts.keyed;
        each = all_put (IsGoodPart t.day) p t.parts h.part good.parts.each;
        within = int_le-true (sum_of_parts (put_part p t.parts)) t.qty (omega (arith, ints));
      };
      rest = subst (λ (o : Option Receipt). IsGoodRest (with_at false p t) o) (sym none) tt;
    }

pub good_with : (bs : List Branch) (t : Transfer) (p : Part) → IsGoodTransfer bs t → IsReceipt t p
    → IsGoodTransfer bs (with_receipt p t)
good_with bs t p good h = good_at bs t p (is_all p.key) refl good h

-- ---- one record more

-- a look-up among records and one more in their midst, whose mark none before it has
put_in : (r : Record) (front back : List Record) (m : List ℕ) → held front r.mark ≡ None
    → held (front ++ (r ∷ back)) m ≡ cond (bytes_eq r.mark m) (Some r) (held (front ++ back) m)
put_in r front back m none = by_test (bytes_eq r.mark m) refl
  where
    by_test : (b : Bool) → bytes_eq r.mark m ≡ b
        → held (front ++ (r ∷ back)) m ≡ cond b (Some r) (held (front ++ back) m)
    by_test true e =
        find-append (has_mark m) front (r ∷ back)
        ∙ (ap (λ (o : Option Record). option_or o (held (r ∷ back) m))
        (ap (held front) (sym (same_bytes r.mark m e)) ∙ none)
        ∙ ap (λ (b : Bool). cond b (Some r) (held back m)) e)
    by_test false e =
        find-append (has_mark m) front (r ∷ back)
        ∙ (ap (λ (b : Bool). option_or (held front m) (cond b (Some r) (held back m))) e ∙ sym
        (find-append (has_mark m) front back))

-- the parts with one more, in byte order of their keys
put_at : (t : Transfer) (p x : Part) (xs : List Part) (back : List Record) (m : List ℕ) (c : Bool) → HasNoColon t.id
    → bytes_eq x.key p.key ≡ false
    → held (map (receipt_record t) (put_part p xs) ++ back) m
    ≡ cond (bytes_eq (in_mark t.id p.key) m) (Some (receipt_record t p)) (held (map (receipt_record t) xs ++ back) m)
    → held (map (receipt_record t) (if c then x ∷ put_part p xs else p ∷ x ∷ xs) ++ back) m
    ≡ cond (bytes_eq (in_mark t.id p.key) m) (Some (receipt_record t p))
    (held (map (receipt_record t) (x ∷ xs) ++ back) m)
put_at t p x xs back m false h e k = refl
put_at t p x xs back m true h e k = by_test (bytes_eq (in_mark t.id p.key) m) refl k
  where
    by_test : (b : Bool) → bytes_eq (in_mark t.id p.key) m ≡ b
        → held (map (receipt_record t) (put_part p xs) ++ back) m
        ≡ cond b (Some (receipt_record t p)) (held (map (receipt_record t) xs ++ back) m)
        → cond (bytes_eq (in_mark t.id x.key) m) (Some (receipt_record t x))
        (held (map (receipt_record t) (put_part p xs) ++ back) m)
        ≡ cond b (Some (receipt_record t p))
        (cond (bytes_eq (in_mark t.id x.key) m) (Some (receipt_record t x))
        (held (map (receipt_record t) xs ++ back) m))
    by_test true g k =
        let apart : bytes_eq (in_mark t.id x.key) m ≡ false =
        ap (bytes_eq (in_mark t.id x.key)) (sym (same_bytes (in_mark t.id p.key) m g)) ∙
        (mark_eq t.id t.id x.key p.key h h ∙ and_never (bytes_eq t.id t.id) (bytes_eq x.key p.key) e) in
        ap (λ (b : Bool). cond b (Some (receipt_record t x)) (held (map (receipt_record t) (put_part p xs) ++ back) m))
        apart ∙ k
    by_test false g k =
        ap (λ (o : Option Record). cond (bytes_eq (in_mark t.id x.key) m) (Some (receipt_record t x)) o) k

put_asks : (t : Transfer) (p : Part) (ps : List Part) (back : List Record) (m : List ℕ) → HasNoColon t.id
    → list_any (λ (x : Part). bytes_eq x.key p.key) ps ≡ false
    → held (map (receipt_record t) (put_part p ps) ++ back) m
    ≡ cond (bytes_eq (in_mark t.id p.key) m) (Some (receipt_record t p)) (held (map (receipt_record t) ps ++ back) m)
put_asks t p [] back m h e = refl
put_asks t p (x ∷ xs) back m h e =
    let n = or_parts (bytes_eq x.key p.key) (list_any (λ (x : Part). bytes_eq x.key p.key) xs) e in
    put_at t p x xs back m (is_lt (name_cmp x.key p.key)) h n.0 (put_asks t p xs back m h n.1)

map_last : (t : Transfer) (ps : List Part) (p : Part) (back : List Record)
    → map (receipt_record t) (ps ++ p ∷ []) ++ back ≡ map (receipt_record t) ps ++ (receipt_record t p ∷ back)
map_last t [] p back = refl
map_last t (x ∷ xs) p back = ap (λ (rs : List Record). receipt_record t x ∷ rs) (map_last t xs p back)

asks_at : (t : Transfer) (p : Part) (b : Bool) → is_all p.key ≡ b → HasNoColon t.id → IsReceipt t p
    → (back : List Record) (m : List ℕ) →
    held (map (receipt_record t) (receipts_of (with_at b p t)) ++ back) m
    ≡ cond (bytes_eq (in_mark t.id p.key) m) (Some (receipt_record t p))
    (held (map (receipt_record t) (receipts_of t) ++ back) m)
asks_at t p true e plain h back m =
    let none = no_rest t p h in
    let rest : p ≡ rest_part t (record { day = p.day; payee = p.payee }) =
    part_is_rest t p e (h.whole e ∙ left_none t none) in
    let fresh : held (map (receipt_record t) t.parts) (in_mark t.id p.key) ≡ None =
    none_of_key t p.key t.parts plain (fresh_parts t p h) in
    ap (λ (x : Part). held (map (receipt_record t) (t.parts ++ x ∷ []) ++ back) m) (sym rest)
    ∙ (ap (λ (rs : List Record). held rs m) (map_last t t.parts p back)
    ∙ (put_in (receipt_record t p) (map (receipt_record t) t.parts) back m fresh
    ∙ ap (λ (ps : List Part). cond (bytes_eq (in_mark t.id p.key) m) (Some (receipt_record t p))
    (held (map (receipt_record t) ps ++ back) m)) (sym (now_parts t none))))
asks_at t p false e plain h back m =
    let none = no_rest t p h in
    let more : receipts_of (with_at false p t) ≡ put_part p t.parts =
    ap (λ (o : Option Receipt). put_part p t.parts ++ of_rest (with_at false p t) o) none ∙ append-nil
    (put_part p t.parts) in
    ap (λ (ps : List Part). held (map (receipt_record t) ps ++ back) m) more
    ∙ (put_asks t p t.parts back m plain (fresh_parts t p h)
    ∙ ap (λ (ps : List Part). cond (bytes_eq (in_mark t.id p.key) m) (Some (receipt_record t p))
    (held (map (receipt_record t) ps ++ back) m)) (sym (now_parts t none)))

pub asks_more : (t : Transfer) (p : Part) → HasNoColon t.id → IsReceipt t p → Asks p t
asks_more t p plain h = asks_at t p (is_all p.key) refl plain h
