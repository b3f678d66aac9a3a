-- the records that transfers ask for have marks of their own
use Rattle.std.proofs.Common.{◌≡◌, ◌∙◌, ℕ, Bool, true, false, ◌&&◌, cond, List, [], ◌∷◌, ◌++◌, map, refl, ap, Option}
use Rattle.std.proofs.Common.{Some, None}
use Rattle.std.specs.Prelude.{codes, ⊤}
use Rattle.std.specs.List.{list_any, AllByRecursion}
use Rattle.std.specs.Option.{option_or}
use Rattle.std.specs.Str.{bytes_eq}
use Rattle.std.proofs.lemmas.List.Folds.{find-append}
use Rattle.std.proofs.lemmas.Bool.{or_parts}
use Rattle.treasury_state.specs.declared.record.Record.{Record}
use Rattle.treasury_state.specs.declared.transfer.Part.{Part}
use Rattle.treasury_state.specs.declared.transfer.Transfer.{Transfer}
use Rattle.treasury_state.specs.Mark.{has_mark, held, HaveOwnMarks}
use Rattle.treasury_state.specs.Transfer.{asked, out_records, in_records, receipts_of, out_mark, in_mark, has_id}
use Rattle.treasury_state.specs.Transfer.{dispatch_record, receipt_record}
use Rattle.treasury_state.specs.Fair.{HasNoColon, IsMarked}
use Rattle.treasury_state.proofs.MarkLemmas.{HaveOwnKeys, and_never, id_no_colon, mark_eq, own_keys}

-- no two transfers have the same ID
abbrev pub HaveOwnIds : List Transfer → Type 0
HaveOwnIds [] = ⊤
HaveOwnIds (t ∷ ts) = (list_any (has_id t.id) ts ≡ false) × HaveOwnIds ts

pub none_append : (xs ys : List Record) (m : List ℕ) → held xs m ≡ None → held ys m ≡ None → held (xs ++ ys) m ≡ None
none_append xs ys m e f = find-append (has_mark m) xs ys ∙ (ap (λ (o : Option Record). option_or o (held ys m)) e ∙ f)

none_if : (x : Record) (o : Option Record) (b : Bool) → b ≡ false → o ≡ None → cond b (Some x) o ≡ None
none_if x o true e h = absurd cc
none_if x o false e h = h

-- no receipt of another transfer has the mark
pub none_of_other : (t : Transfer) (id key : List ℕ) (ps : List Part) → HasNoColon t.id → HasNoColon id
    → bytes_eq t.id id ≡ false → held (map (receipt_record t) ps) (in_mark id key) ≡ None
none_of_other t id key [] h g e = refl
none_of_other t id key (p ∷ ps) h g e =
    none_if (receipt_record t p) _ _ (mark_eq t.id id p.key key h g ∙ ap (λ (b : Bool). b && bytes_eq p.key key) e)
    (none_of_other t id key ps h g e)

-- none under another key has it
pub none_of_key : (t : Transfer) (key : List ℕ) (ps : List Part) → HasNoColon t.id
    → list_any (λ (x : Part). bytes_eq x.key key) ps ≡ false
    → held (map (receipt_record t) ps) (in_mark t.id key) ≡ None
none_of_key t key [] h e = refl
none_of_key t key (p ∷ ps) h e =
    let n = or_parts (bytes_eq p.key key) (list_any (λ (x : Part). bytes_eq x.key key) ps) e in
    none_if (receipt_record t p) _ _
    (mark_eq t.id t.id p.key key h h ∙ and_never (bytes_eq t.id t.id) (bytes_eq p.key key) n.0)
    (none_of_key t key ps h n.1)

pub none_in_at : (t : Transfer) (id key : List ℕ) (b : Bool) (ps : List Part) → HasNoColon t.id → HasNoColon id
    → bytes_eq t.id id ≡ false → held (in_records t b ps) (in_mark id key) ≡ None
none_in_at t id key true ps h g e = none_of_other t id key ps h g e
none_in_at t id key false ps h g e = refl

pub none_out_at : (t : Transfer) (id key : List ℕ) (a : Bool) → held (out_records t a) (in_mark id key) ≡ None
none_out_at t id key true = refl
none_out_at t id key false = refl

pub no_in : (ts : List Transfer) (name id key : List ℕ) → AllByRecursion IsMarked ts → HasNoColon id
    → list_any (has_id id) ts ≡ false → held (asked ts name) (in_mark id key) ≡ None
no_in [] name id key h g e = refl
no_in (t ∷ ts) name id key h g e =
    let n = or_parts (bytes_eq t.id id) (list_any (has_id id) ts) e in
    none_append (out_records t (bytes_eq t.source name)) _ (in_mark id key)
    (none_out_at t id key (bytes_eq t.source name))
    (none_append (in_records t (bytes_eq t.target name) (receipts_of t)) (asked ts name) (in_mark id key)
    (none_in_at t id key (bytes_eq t.target name) (receipts_of t) (id_no_colon t.id h.0.id) g n.0)
    (no_in ts name id key h.1 g n.1))

-- the same of a dispatch's mark
pub out_of_in : (t : Transfer) (id : List ℕ) (b : Bool) (ps : List Part)
    → held (in_records t b ps) (codes "out:" ++ id) ≡ None
out_of_in t id true [] = refl
out_of_in t id true (p ∷ ps) = out_of_in t id true ps
out_of_in t id false ps = refl

pub out_of_out : (t : Transfer) (id : List ℕ) (a : Bool) → bytes_eq t.id id ≡ false
    → held (out_records t a) (codes "out:" ++ id) ≡ None
out_of_out t id true e = none_if (dispatch_record t) None _ e refl
out_of_out t id false e = refl

pub no_out : (ts : List Transfer) (name id : List ℕ) → list_any (has_id id) ts ≡ false
    → held (asked ts name) (codes "out:" ++ id) ≡ None
no_out [] name id e = refl
no_out (t ∷ ts) name id e =
    let n = or_parts (bytes_eq t.id id) (list_any (has_id id) ts) e in
    none_append (out_records t (bytes_eq t.source name)) _ (codes "out:" ++ id)
    (out_of_out t id (bytes_eq t.source name) n.0)
    (none_append (in_records t (bytes_eq t.target name) (receipts_of t)) (asked ts name) (codes "out:" ++ id)
    (out_of_in t id (bytes_eq t.target name) (receipts_of t)) (no_out ts name id n.1))

-- receipts with keys of their own, before others
own_in : (t : Transfer) (ps : List Part) (rest : List Record) → HasNoColon t.id → HaveOwnKeys ps
    → ((key : List ℕ) → held rest (in_mark t.id key) ≡ None) → HaveOwnMarks rest
    → HaveOwnMarks (map (receipt_record t) ps ++ rest)
own_in t [] rest h keys none own = own
own_in t (p ∷ ps) rest h keys none own = (
  none_append (map (receipt_record t) ps) rest (in_mark t.id p.key) (none_of_key t p.key ps h keys.0) (none p.key),
  own_in t ps rest h keys.1 none own,
)

own_in_at : (t : Transfer) (b : Bool) (ps : List Part) (rest : List Record) → HasNoColon t.id → HaveOwnKeys ps
    → ((key : List ℕ) → held rest (in_mark t.id key) ≡ None) → HaveOwnMarks rest
    → HaveOwnMarks (in_records t b ps ++ rest)
own_in_at t true ps rest h keys none own = own_in t ps rest h keys none own
own_in_at t false ps rest h keys none own = own

own_out_at : (t : Transfer) (a : Bool) (rest : List Record) → held rest (out_mark t) ≡ None → HaveOwnMarks rest
    → HaveOwnMarks (out_records t a ++ rest)
own_out_at t true rest none own = (none, own)
own_out_at t false rest none own = own

pub asked_own : (ts : List Transfer) (name : List ℕ) → AllByRecursion IsMarked ts → HaveOwnIds ts
    → HaveOwnMarks (asked ts name)
asked_own [] name h own = tt
asked_own (t ∷ ts) name h own =
    let plain = id_no_colon t.id h.0.id in
    own_out_at t (bytes_eq t.source name) _
    (none_append (in_records t (bytes_eq t.target name) (receipts_of t)) (asked ts name) (out_mark t)
    (out_of_in t t.id (bytes_eq t.target name) (receipts_of t)) (no_out ts name t.id own.0))
    (own_in_at t (bytes_eq t.target name) (receipts_of t) (asked ts name) plain (own_keys t h.0.parts)
    (λ key. no_in ts name t.id key h.1 plain own.0) (asked_own ts name h.1 own.1))
