-- Dispatch and Receive keep the records and the transfers in step
use Rattle.std.proofs.Common.{◌≡◌, ℕ, Bool, true, false, cond, List, [], ◌∷◌, ◌++◌, map, refl, ap, ◌∙◌, sym, subst}
use Rattle.std.proofs.Common.{Option, Some}
use Rattle.std.specs.Prelude.{if◌then◌else◌, find, codes}
use Rattle.std.specs.Option.{option_or}
use Rattle.std.specs.Ordering.{is_lt}
use Rattle.std.specs.List.{list_any, AllByRecursion}
use Rattle.std.specs.Str.{bytes_eq}
use Rattle.std.proofs.lemmas.List.Folds.{find-append}
use Rattle.std.proofs.lemmas.Bool.{or_parts}
use Rattle.money_core.proofs.BytesLemmas.{same_bytes}
use Rattle.book_core.specs.Account.{name_cmp}
use Rattle.treasury_state.specs.declared.record.Record.{Record}
use Rattle.treasury_state.specs.declared.transfer.Part.{Part}
use Rattle.treasury_state.specs.declared.transfer.Transfer.{Transfer}
use Rattle.treasury_state.specs.Mark.{has_mark, held}
use Rattle.treasury_state.specs.Transfer.{asked, out_records, in_records, receipts_of, out_mark, in_mark, has_id}
use Rattle.treasury_state.specs.Transfer.{dispatch_record, receipt_record}
use Rattle.treasury_state.specs.Joined.{inserted, received, with_receipt}
use Rattle.treasury_state.specs.Fair.{HasNoColon, IsMarked}
use Rattle.treasury_state.proofs.MarkLemmas.{id_no_colon}
use Rattle.treasury_state.proofs.AskedLemmas.{none_out_at, none_in_at}
use Rattle.treasury_state.proofs.SkipLemmas.{held-append, pass_out, same_transfer}

pub pass_in : (x : Transfer) (rest : List Record) (id key : List ℕ) (a b : Bool) (ps : List Part) → HasNoColon x.id
    → HasNoColon id → bytes_eq x.id id ≡ false
    → held (out_records x a ++ (in_records x b ps ++ rest)) (in_mark id key) ≡ held rest (in_mark id key)
pass_in x rest id key a b ps h k e =
    held-append (out_records x a) (in_records x b ps ++ rest) (in_mark id key) (none_out_at x id key a) ∙ held-append
    (in_records x b ps) rest (in_mark id key) (none_in_at x id key b ps h k e)

-- the same look-up after the same front
front_at : (xs rest rest' : List Record) (m : List ℕ) → held rest' m ≡ held rest m
    → held (xs ++ rest') m ≡ held (xs ++ rest) m
front_at xs rest rest' m e = find-append (has_mark m) xs rest' ∙
    (ap (λ (o : Option Record). option_or (held xs m) o) e ∙ sym (find-append (has_mark m) xs rest))

front_same : (xs ys rest rest' : List Record) (m : List ℕ) → held rest' m ≡ held rest m
    → held (xs ++ (ys ++ rest')) m ≡ held (xs ++ (ys ++ rest)) m
front_same xs ys rest rest' m e = front_at xs (ys ++ rest) (ys ++ rest') m (front_at ys rest rest' m e)

-- one more record after the records of another transfer
behind_out : (x : Transfer) (rest rest' : List Record) (id m : List ℕ) (v : Record) (a b : Bool) (ps : List Part)
    (t : Bool) → bytes_eq (codes "out:" ++ id) m ≡ t → bytes_eq x.id id ≡ false
    → held rest' m ≡ cond t (Some v) (held rest m)
    → held (out_records x a ++ (in_records x b ps ++ rest')) m
    ≡ cond t (Some v) (held (out_records x a ++ (in_records x b ps ++ rest)) m)
behind_out x rest rest' id m v a b ps true e f h =
    let P : List ℕ → Type 0 = λ k. held rest' k ≡ Some v
    → held (out_records x a ++ (in_records x b ps ++ rest')) k ≡ Some v in
    subst P (same_bytes (codes "out:" ++ id) m e) (λ g. pass_out x rest' id a b ps f ∙ g) h
behind_out x rest rest' id m v a b ps false e f h = front_same (out_records x a) (in_records x b ps) rest rest' m h

behind_in : (x : Transfer) (rest rest' : List Record) (id key m : List ℕ) (v : Record) (a b : Bool) (ps : List Part)
    (t : Bool) → HasNoColon x.id → HasNoColon id → bytes_eq (in_mark id key) m ≡ t → bytes_eq x.id id ≡ false
    → held rest' m ≡ cond t (Some v) (held rest m)
    → held (out_records x a ++ (in_records x b ps ++ rest')) m
    ≡ cond t (Some v) (held (out_records x a ++ (in_records x b ps ++ rest)) m)
behind_in x rest rest' id key m v a b ps true k l e f h =
    let P : List ℕ → Type 0 = λ n. held rest' n ≡ Some v
    → held (out_records x a ++ (in_records x b ps ++ rest')) n ≡ Some v in
    subst P (same_bytes (in_mark id key) m e) (λ g. pass_in x rest' id key a b ps k l f ∙ g) h
behind_in x rest rest' id key m v a b ps false k l e f h =
    front_same (out_records x a) (in_records x b ps) rest rest' m h

-- a dispatch: nothing new in other branches
pub in_none : (t : Transfer) (b : Bool) → in_records t b [] ≡ []
in_none t true = refl
in_none t false = refl

none_new : (t : Transfer) (a b : Bool) (rest : List Record) → receipts_of t ≡ []
    → out_records t a ++ (in_records t b (receipts_of t) ++ rest) ≡ out_records t a ++ rest
none_new t a b rest e =
    ap (λ (ps : List Part). out_records t a ++ (in_records t b ps ++ rest)) e ∙ ap
    (λ (xs : List Record). out_records t a ++ (xs ++ rest)) (in_none t b)

new_elsewhere : (t : Transfer) (name : List ℕ) (rest : List Record) → receipts_of t ≡ []
    → bytes_eq t.source name ≡ false
    → out_records t (bytes_eq t.source name) ++ (in_records t (bytes_eq t.target name) (receipts_of t) ++ rest) ≡ rest
new_elsewhere t name rest e f =
    none_new t (bytes_eq t.source name) (bytes_eq t.target name) rest e ∙ ap (λ (b : Bool). out_records t b ++ rest) f

elsewhere_at : (t x : Transfer) (xs : List Transfer) (name : List ℕ) (c : Bool) → receipts_of t ≡ []
    → bytes_eq t.source name ≡ false → asked (inserted t xs) name ≡ asked xs name
    → asked (if c then x ∷ inserted t xs else t ∷ x ∷ xs) name ≡ asked (x ∷ xs) name
elsewhere_at t x xs name false e f h = new_elsewhere t name (asked (x ∷ xs) name) e f
elsewhere_at t x xs name true e f h =
    ap (λ (rest : List Record).
    out_records x (bytes_eq x.source name) ++ (in_records x (bytes_eq x.target name) (receipts_of x) ++ rest)) h

pub inserted_elsewhere : (t : Transfer) (ts : List Transfer) (name : List ℕ) → receipts_of t ≡ []
    → bytes_eq t.source name ≡ false → asked (inserted t ts) name ≡ asked ts name
inserted_elsewhere t [] name e f = new_elsewhere t name [] e f
inserted_elsewhere t (x ∷ xs) name e f =
    elsewhere_at t x xs name (is_lt (name_cmp x.id t.id)) e f (inserted_elsewhere t xs name e f)

-- and one record in the source
new_here : (t : Transfer) (name : List ℕ) (rest : List Record) (m : List ℕ) → receipts_of t ≡ []
    → bytes_eq t.source name ≡ true
    → held (out_records t (bytes_eq t.source name) ++ (in_records t (bytes_eq t.target name) (receipts_of t) ++ rest)) m
    ≡ cond (bytes_eq (out_mark t) m) (Some (dispatch_record t)) (held rest m)
new_here t name rest m e f =
    ap (λ (xs : List Record). held xs m)
    (none_new t (bytes_eq t.source name) (bytes_eq t.target name) rest e ∙ ap
    (λ (b : Bool). out_records t b ++ rest) f)

here_at : (t x : Transfer) (xs : List Transfer) (name m : List ℕ) (c : Bool) → receipts_of t ≡ []
    → bytes_eq t.source name ≡ true → bytes_eq x.id t.id ≡ false
    → held (asked (inserted t xs) name) m
    ≡ cond (bytes_eq (out_mark t) m) (Some (dispatch_record t)) (held (asked xs name) m)
    → held (asked (if c then x ∷ inserted t xs else t ∷ x ∷ xs) name) m
    ≡ cond (bytes_eq (out_mark t) m) (Some (dispatch_record t)) (held (asked (x ∷ xs) name) m)
here_at t x xs name m false e f g h = new_here t name (asked (x ∷ xs) name) m e f
here_at t x xs name m true e f g h =
    behind_out x (asked xs name) (asked (inserted t xs) name) t.id m (dispatch_record t) (bytes_eq x.source name)
    (bytes_eq x.target name) (receipts_of x) (bytes_eq (out_mark t) m) refl g h

pub inserted_here : (t : Transfer) (ts : List Transfer) (name m : List ℕ) → receipts_of t ≡ []
    → bytes_eq t.source name ≡ true → list_any (has_id t.id) ts ≡ false
    → held (asked (inserted t ts) name) m
    ≡ cond (bytes_eq (out_mark t) m) (Some (dispatch_record t)) (held (asked ts name) m)
inserted_here t [] name m e f g = new_here t name [] m e f
inserted_here t (x ∷ xs) name m e f g =
    let n = or_parts (bytes_eq x.id t.id) (list_any (has_id t.id) xs) g in
    here_at t x xs name m (is_lt (name_cmp x.id t.id)) e f n.0 (inserted_here t xs name m e f n.1)

-- a receipt: nothing new in other branches
out_same : (p : Part) (t : Transfer) (a : Bool) → out_records (with_receipt p t) a ≡ out_records t a
out_same p t true = refl
out_same p t false = refl

in_elsewhere : (p : Part) (t : Transfer) (name : List ℕ) (rest : List Record) → bytes_eq t.target name ≡ false
    → out_records (with_receipt p t) (bytes_eq t.source name)
    ++ (in_records (with_receipt p t) (bytes_eq t.target name) (receipts_of (with_receipt p t)) ++ rest)
    ≡ out_records t (bytes_eq t.source name) ++ (in_records t (bytes_eq t.target name) (receipts_of t) ++ rest)
in_elsewhere p t name rest f =
    ap (λ (b : Bool). out_records (with_receipt p t) (bytes_eq t.source name)
    ++ (in_records (with_receipt p t) b (receipts_of (with_receipt p t)) ++ rest)) f
    ∙ (ap (λ (xs : List Record). xs ++ rest) (out_same p t (bytes_eq t.source name))
    ∙ sym (ap (λ (b : Bool). out_records t (bytes_eq t.source name) ++ (in_records t b (receipts_of t) ++ rest)) f))

received_elsewhere_at : (p : Part) (t x : Transfer) (xs : List Transfer) (name : List ℕ) (c : Bool)
    → cond c (Some x) (find (has_id t.id) xs) ≡ Some t → bytes_eq t.target name ≡ false
    → (find (has_id t.id) xs ≡ Some t → asked (received t.id p xs) name ≡ asked xs name)
    → asked (if c then with_receipt p x ∷ xs else x ∷ received t.id p xs) name ≡ asked (x ∷ xs) name
received_elsewhere_at p t x xs name true e f h =
    in_elsewhere p x name (asked xs name) (ap (λ (y : Transfer). bytes_eq y.target name) (same_transfer x t e) ∙ f)
received_elsewhere_at p t x xs name false e f h =
    ap (λ (rest : List Record).
    out_records x (bytes_eq x.source name) ++ (in_records x (bytes_eq x.target name) (receipts_of x) ++ rest)) (h e)

pub received_elsewhere : (p : Part) (t : Transfer) (ts : List Transfer) (name : List ℕ) → find (has_id t.id) ts ≡ Some t
    → bytes_eq t.target name ≡ false → asked (received t.id p ts) name ≡ asked ts name
received_elsewhere p t [] name e f = refl
received_elsewhere p t (x ∷ xs) name e f =
    received_elsewhere_at p t x xs name (bytes_eq x.id t.id) e f (λ g. received_elsewhere p t xs name g f)

-- and one record in the target, where the transfer with the receipt asks for one more, under its mark
abbrev pub Asks : Part → Transfer → Type 0
Asks p t = (back : List Record) (m : List ℕ) →
    held (map (receipt_record t) (receipts_of (with_receipt p t)) ++ back) m
    ≡ cond (bytes_eq (in_mark t.id p.key) m) (Some (receipt_record t p))
    (held (map (receipt_record t) (receipts_of t) ++ back) m)

same_receipts : (p : Part) (t : Transfer) (ps : List Part)
    → map (receipt_record (with_receipt p t)) ps ≡ map (receipt_record t) ps
same_receipts p t [] = refl
same_receipts p t (x ∷ xs) = ap (λ (rs : List Record). receipt_record t x ∷ rs) (same_receipts p t xs)

-- one more record after a dispatch
swap_marks : (t : Transfer) (a : Bool) (rest rest' : List Record) (id key m : List ℕ) (v : Record) (c : Bool)
    → bytes_eq (in_mark id key) m ≡ c → held rest' m ≡ cond c (Some v) (held rest m)
    → held (out_records t a ++ rest') m ≡ cond c (Some v) (held (out_records t a ++ rest) m)
swap_marks t a rest rest' id key m v true e h =
    let P : List ℕ → Type 0 = λ k. held rest' k ≡ Some v → held (out_records t a ++ rest') k ≡ Some v in
    subst P (same_bytes (in_mark id key) m e)
    (λ g. held-append (out_records t a) rest' (in_mark id key) (none_out_at t id key a) ∙ g) h
swap_marks t a rest rest' id key m v false e h = front_at (out_records t a) rest rest' m h

in_here : (p : Part) (t : Transfer) (name : List ℕ) (rest : List Record) (m : List ℕ) → Asks p t
    → bytes_eq t.target name ≡ true
    → held (out_records (with_receipt p t) (bytes_eq t.source name)
    ++ (in_records (with_receipt p t) (bytes_eq t.target name) (receipts_of (with_receipt p t)) ++ rest)) m
    ≡ cond (bytes_eq (in_mark t.id p.key) m) (Some (receipt_record t p))
    (held (out_records t (bytes_eq t.source name) ++ (in_records t (bytes_eq t.target name) (receipts_of t) ++ rest)) m)
in_here p t name rest m asks f =
    let a = bytes_eq t.source name in
    let c = bytes_eq (in_mark t.id p.key) m in
    let more = receipts_of (with_receipt p t) in
    ap (λ (b : Bool). held (out_records (with_receipt p t) a ++ (in_records (with_receipt p t) b more ++ rest)) m) f
    ∙ (ap (λ (xs : List Record). held (xs ++ (map (receipt_record (with_receipt p t)) more ++ rest)) m) (out_same p t a)
    ∙ (ap (λ (xs : List Record). held (out_records t a ++ (xs ++ rest)) m) (same_receipts p t more)
    ∙ (swap_marks t a (map (receipt_record t) (receipts_of t) ++ rest) (map (receipt_record t) more ++ rest) t.id p.key
    m (receipt_record t p) c refl (asks rest m)
    ∙ sym (ap (λ (b : Bool). cond c (Some (receipt_record t p))
    (held (out_records t a ++ (in_records t b (receipts_of t) ++ rest)) m)) f))))

received_here_at : (p : Part) (t x : Transfer) (xs : List Transfer) (name m : List ℕ) (c : Bool)
    → bytes_eq x.id t.id ≡ c → HasNoColon x.id → HasNoColon t.id → cond c (Some x) (find (has_id t.id) xs) ≡ Some t
    → Asks p t → bytes_eq t.target name ≡ true
    → (find (has_id t.id) xs ≡ Some t
    → held (asked (received t.id p xs) name) m
    ≡ cond (bytes_eq (in_mark t.id p.key) m) (Some (receipt_record t p)) (held (asked xs name) m))
    → held (asked (if c then with_receipt p x ∷ xs else x ∷ received t.id p xs) name) m
    ≡ cond (bytes_eq (in_mark t.id p.key) m) (Some (receipt_record t p)) (held (asked (x ∷ xs) name) m)
received_here_at p t x xs name m true g k l e asks f h =
    let Q : Transfer → Type 0 = λ y.
    held (asked (with_receipt p y ∷ xs) name) m
    ≡ cond (bytes_eq (in_mark t.id p.key) m) (Some (receipt_record t p)) (held (asked (y ∷ xs) name) m) in
    subst Q (sym (same_transfer x t e)) (in_here p t name (asked xs name) m asks f)
received_here_at p t x xs name m false g k l e asks f h =
    behind_in x (asked xs name) (asked (received t.id p xs) name) t.id p.key m (receipt_record t p)
    (bytes_eq x.source name) (bytes_eq x.target name) (receipts_of x) (bytes_eq (in_mark t.id p.key) m) k l refl g
    (h e)

pub received_here : (p : Part) (t : Transfer) (ts : List Transfer) (name m : List ℕ) → AllByRecursion IsMarked ts
    → HasNoColon t.id → find (has_id t.id) ts ≡ Some t → Asks p t → bytes_eq t.target name ≡ true
    → held (asked (received t.id p ts) name) m
    ≡ cond (bytes_eq (in_mark t.id p.key) m) (Some (receipt_record t p)) (held (asked ts name) m)
received_here p t [] name m marked l e asks f = absurd cc
received_here p t (x ∷ xs) name m marked l e asks f =
    received_here_at p t x xs name m (bytes_eq x.id t.id) refl (id_no_colon x.id marked.0.id) l e asks f
    (λ g. received_here p t xs name m marked.1 l g asks f)
