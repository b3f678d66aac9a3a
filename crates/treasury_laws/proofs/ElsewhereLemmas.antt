-- the records of transfers of one branch are in no other, which refuses them from a file
use Rattle.std.proofs.Common.{◌≡◌, ◌⊎◌, ℕ, Bool, true, false, ◌||◌, ◌&&◌, cond, List, [], ◌∷◌, ◌++◌, map, refl, ap, ◌∙◌}
use Rattle.std.proofs.Common.{sym, subst, inl, inr, append_assoc, Option, Some, None, Err}
use Rattle.std.proofs.Math.Bool.{or-true}
use Rattle.std.specs.Prelude.{if◌then◌else◌}
use Rattle.std.specs.List.{AllByRecursion}
use Rattle.std.specs.Option.{option_or}
use Rattle.std.specs.Str.{bytes_eq}
use Rattle.money_core.specs.declared.style.Style.{Style}
use Rattle.money_core.specs.declared.day.Day.{Day}
use Rattle.money_core.specs.declared.cause.Cause.TheVariants.{ReservedMark}
use Rattle.money_core.proofs.BytesLemmas.{bytes_eq-refl, same_bytes}
use Rattle.book_core.specs.declared.refusal.Refusal.{Refusal}
use Rattle.book_core.specs.declared.refusal.Refusal.TheVariants.{Plain}
use Rattle.journal_format.specs.declared.txn.Txn.{Txn}
use Rattle.journal_format.specs.declared.txn.Located.{Located}
use Rattle.treasury_state.specs.declared.record.Record.{Record}
use Rattle.treasury_state.specs.declared.transfer.Part.{Part}
use Rattle.treasury_state.specs.declared.transfer.Transfer.{Transfer}
use Rattle.treasury_state.specs.Federation.{Branch, Federation, has_branch, records_in, records_of, lock_of}
use Rattle.treasury_state.specs.Mark.{is_held, held, is_repeat, is_product_mark, is_of_transfer, is_transfer_mark}
use Rattle.treasury_state.specs.Mark.{is_closing_mark, is_closing}
use Rattle.treasury_state.specs.Transfer.{asked, out_records, in_records, receipts_of, out_mark, in_mark}
use Rattle.treasury_state.specs.Transfer.{receipt_record}
use Rattle.treasury_state.specs.Good.{IsGoodState}
use Rattle.treasury_state.specs.Fair.{IsMarked}
use Rattle.treasury_state.proofs.MarkLemmas.{id_no_colon}
use Rattle.treasury_state.proofs.AskedLemmas.{HaveOwnIds, none_append, none_out_at, out_of_in, no_out, no_in}
use Rattle.treasury_state.proofs.SkipLemmas.{held-append}
use Rattle.treasury_state.proofs.WayLemmas.{never_both}
use Rattle.treasury_state.proofs.FilterLemmas.{held-filter}
use Rattle.treasury_state.proofs.CarriedLemmas.{carried_agree}
use Rattle.treasury_state.proofs.FairLemmas.{branch_found, good_marked}
use Rattle.treasury_state.proofs.OrderLemmas.{own_ids}
use Rattle.treasury_state.proofs.DispatchLemmas.{IsWhole, all_whole}
use Rattle.treasury_state.proofs.HolderLemmas.{is_held_if_None}
use Rattle.treasury_state.proofs.OpenLemmas.{good_records}
use Rattle.treasury_core.specs.declared.command.Command.TheVariants as cmd
use Rattle.treasury_core.specs.Step.{number_in, unbalanced, recorded_in, records_from, records_in_file, refusal_of}
use Rattle.treasury_core.specs.Step.{refused_in, reply, IsNew}
use Rattle.treasury_core.proofs.HeldLemmas.{repeat_held}
use Rattle.treasury_core.proofs.FileLemmas.{neither_refusal, not_refused}
use Rattle.treasury_laws.specs.History.{IsAmong, IsOwn, IsOwnJournal}
use Rattle.treasury_laws.proofs.OwnLemmas.{among_any, recorded_own, balanced_own}

-- ---- what transfers ask for in two branches has different marks

out_elsewhere_at : (t : Transfer) (rest : List Record) (b : Bool) (ps : List Part) → held rest (out_mark t) ≡ None
    → held (in_records t b ps ++ rest) (out_mark t) ≡ None
out_elsewhere_at t rest b ps h = none_append (in_records t b ps) rest (out_mark t) (out_of_in t t.id b ps) h

out_elsewhere : (t : Transfer) (ts : List Transfer) (name : List ℕ) → HaveOwnIds (t ∷ ts)
    → bytes_eq t.source name ≡ false → held (asked (t ∷ ts) name) (out_mark t) ≡ None
out_elsewhere t ts name own e =
    ap (λ (b : Bool). held (out_records t b ++ (in_records t (bytes_eq t.target name) (receipts_of t) ++ asked ts name))
    (out_mark t)) e
    ∙ out_elsewhere_at t (asked ts name) (bytes_eq t.target name) (receipts_of t) (no_out ts name t.id own.0)

in_elsewhere : (t : Transfer) (ts : List Transfer) (name key : List ℕ) → AllByRecursion IsMarked (t ∷ ts)
    → HaveOwnIds (t ∷ ts) → bytes_eq t.target name ≡ false → held (asked (t ∷ ts) name) (in_mark t.id key) ≡ None
in_elsewhere t ts name key marked own e =
    ap (λ (b : Bool). held (out_records t (bytes_eq t.source name) ++ (in_records t b (receipts_of t) ++ asked ts name))
    (in_mark t.id key)) e
    ∙ none_append (out_records t (bytes_eq t.source name)) (asked ts name) (in_mark t.id key)
    (none_out_at t t.id key (bytes_eq t.source name))
    (no_in ts name t.id key marked.1 (id_no_colon t.id marked.0.id) own.0)

-- a mark that none of its records has is passed over
none_out : (t : Transfer) (m : List ℕ) (a : Bool) → bytes_eq (out_mark t) m ≡ false → held (out_records t a) m ≡ None
none_out t m true e = rw e refl
none_out t m false e = refl

none_in : (t : Transfer) (m : List ℕ) (b : Bool) (ps : List Part) → held (map (receipt_record t) ps) m ≡ None
    → held (in_records t b ps) m ≡ None
none_in t m true ps h = h
none_in t m false ps h = refl

pass_other : (t : Transfer) (rest : List Record) (m : List ℕ) (a b : Bool) (ps : List Part)
    → bytes_eq (out_mark t) m ≡ false → held (map (receipt_record t) ps) m ≡ None
    → held (out_records t a ++ (in_records t b ps ++ rest)) m ≡ held rest m
pass_other t rest m a b ps e f =
    held-append (out_records t a) (in_records t b ps ++ rest) m (none_out t m a e)
    ∙ held-append (in_records t b ps) rest m (none_in t m b ps f)

-- the mark of a receipt is one of its transfer
mark_at : (t : Transfer) (p : Part) (m : List ℕ) (r : Record) (o : Option Record) (c : Bool)
    → bytes_eq (in_mark t.id p.key) m ≡ c → cond c (Some (receipt_record t p)) o ≡ Some r
    → (o ≡ Some r → (key : List ℕ) × (in_mark t.id key ≡ m)) → (key : List ℕ) × (in_mark t.id key ≡ m)
mark_at t p m r o true e h k = (p.key, same_bytes (in_mark t.id p.key) m e)
mark_at t p m r o false e h k = k h

mark_in : (t : Transfer) (ps : List Part) (m : List ℕ) (r : Record) → held (map (receipt_record t) ps) m ≡ Some r
    → (key : List ℕ) × (in_mark t.id key ≡ m)
mark_in t [] m r h = absurd cc
mark_in t (p ∷ ps) m r h =
    mark_at t p m r (held (map (receipt_record t) ps) m) (bytes_eq (in_mark t.id p.key) m) refl h (mark_in t ps m r)

-- one of two branches has none of that mark
abbrev IsInOne : List Transfer → List ℕ → List ℕ → List ℕ → Type 0
IsInOne ts from to m = (held (asked ts from) m ≡ None) ⊎ (held (asked ts to) m ≡ None)

one_of_out : (t : Transfer) (ts : List Transfer) (from to m : List ℕ) (a b : Bool) → HaveOwnIds (t ∷ ts)
    → bytes_eq t.source from ≡ a → bytes_eq t.source to ≡ b → (bytes_eq t.source from && bytes_eq t.source to) ≡ false
    → out_mark t ≡ m → IsInOne (t ∷ ts) from to m
one_of_out t ts from to m false b own e f n same =
    inl (subst (λ (k : List ℕ). held (asked (t ∷ ts) from) k ≡ None) same (out_elsewhere t ts from own e))
one_of_out t ts from to m true false own e f n same =
    inr (subst (λ (k : List ℕ). held (asked (t ∷ ts) to) k ≡ None) same (out_elsewhere t ts to own f))
one_of_out t ts from to m true true own e f n same = absurd (let k : true ≡ false = sym (rw (e, f) refl) ∙ n in cc)

one_of_in : (t : Transfer) (ts : List Transfer) (from to key m : List ℕ) (a b : Bool) → AllByRecursion IsMarked (t ∷ ts)
    → HaveOwnIds (t ∷ ts) → bytes_eq t.target from ≡ a → bytes_eq t.target to ≡ b
    → (bytes_eq t.target from && bytes_eq t.target to) ≡ false → in_mark t.id key ≡ m → IsInOne (t ∷ ts) from to m
one_of_in t ts from to key m false b marked own e f n same =
    inl (subst (λ (k : List ℕ). held (asked (t ∷ ts) from) k ≡ None) same (in_elsewhere t ts from key marked own e))
one_of_in t ts from to key m true false marked own e f n same =
    inr (subst (λ (k : List ℕ). held (asked (t ∷ ts) to) k ≡ None) same (in_elsewhere t ts to key marked own f))
one_of_in t ts from to key m true true marked own e f n same =
    absurd (let k : true ≡ false = sym (rw (e, f) refl) ∙ n in cc)

IsInOne-cons : (t : Transfer) (ts : List Transfer) (from to m : List ℕ) → bytes_eq (out_mark t) m ≡ false
    → held (map (receipt_record t) (receipts_of t)) m ≡ None → IsInOne ts from to m → IsInOne (t ∷ ts) from to m
IsInOne-cons t ts from to m e f (inl h) =
    inl (pass_other t (asked ts from) m (bytes_eq t.source from) (bytes_eq t.target from) (receipts_of t) e f ∙ h)
IsInOne-cons t ts from to m e f (inr h) =
    inr (pass_other t (asked ts to) m (bytes_eq t.source to) (bytes_eq t.target to) (receipts_of t) e f ∙ h)

in_one_at : (t : Transfer) (ts : List Transfer) (from to m : List ℕ) (x : Bool) (o : Option Record)
    → bytes_eq (out_mark t) m ≡ x → held (map (receipt_record t) (receipts_of t)) m ≡ o
    → AllByRecursion IsMarked (t ∷ ts) → HaveOwnIds (t ∷ ts) → bytes_eq from to ≡ false → IsInOne ts from to m
    → IsInOne (t ∷ ts) from to m
in_one_at t ts from to m true o e f marked own apart h =
    one_of_out t ts from to m (bytes_eq t.source from) (bytes_eq t.source to) own refl refl
    (never_both t.source from to apart) (same_bytes (out_mark t) m e)
in_one_at t ts from to m false (Some r) e f marked own apart h =
    let key = mark_in t (receipts_of t) m r f in
    one_of_in t ts from to key.0 m (bytes_eq t.target from) (bytes_eq t.target to) marked own refl refl
    (never_both t.target from to apart) key.1
in_one_at t ts from to m false None e f marked own apart h = IsInOne-cons t ts from to m e f h

in_one : (ts : List Transfer) (from to m : List ℕ) → AllByRecursion IsMarked ts → HaveOwnIds ts
    → bytes_eq from to ≡ false → IsInOne ts from to m
in_one [] from to m marked own apart = inl refl
in_one (t ∷ ts) from to m marked own apart =
    in_one_at t ts from to m (bytes_eq (out_mark t) m) (held (map (receipt_record t) (receipts_of t)) m) refl refl
    marked own apart (in_one ts from to m marked.1 own.1 apart)

-- ---- a record of a transfer is in one branch

-- what a branch asks for of that mark, it holds
asked_held : (styles : List Style) (ts : List Transfer) (b : Branch) (name m : List ℕ) → IsWhole styles ts b
    → b.name ≡ name → is_transfer_mark m ≡ true → held (asked ts name) m ≡ None → is_held b.records m ≡ false
asked_held styles ts b name m whole named transfer none =
    is_held_if_None b.records m (sym (held-filter b.records m transfer) ∙
    (carried_agree ts b whole.carried m ∙ (ap (λ (n : List ℕ). held (asked ts n) m) named ∙ none)))

pub not_elsewhere : (f : Federation) (from to : List ℕ) (r : Record) → IsGoodState f → has_branch f from ≡ true
    → has_branch f to ≡ true → bytes_eq from to ≡ false → IsAmong r (records_of f from) → is_of_transfer r ≡ true
    → is_held (records_of f to) r.mark ≡ false
not_elsewhere f from to r good here there apart among transfer =
    let whole = all_whole f.styles f.transfers f.branches good.branches good.carried in
    let a = branch_found (IsWhole f.styles f.transfers) f.branches from whole here in
    let b = branch_found (IsWhole f.styles f.transfers) f.branches to whole there in
    let own : IsAmong r a.branch.records = subst (IsAmong r) a.same among in
    let holds : is_held a.branch.records r.mark ≡ true =
    among_any (λ (x : Record). bytes_eq x.mark r.mark) a.branch.records r (bytes_eq-refl r.mark) own in
    by_case (in_one f.transfers from to r.mark (good_marked f.branches f.transfers good.transfers)
    (own_ids f.transfers good.ids) apart) a.branch b.branch a.holds b.holds a.named b.named b.same transfer holds
  where
    by_case : IsInOne f.transfers from to r.mark → (a b : Branch) → IsWhole f.styles f.transfers a
        → IsWhole f.styles f.transfers b → a.name ≡ from → b.name ≡ to → records_in f.branches to ≡ b.records
        → is_of_transfer r ≡ true
        → is_held a.records r.mark ≡ true → is_held (records_in f.branches to) r.mark ≡ false
    by_case (inl none) a b wa wb na nb same transfer holds = absurd
        (let k : true ≡ false = sym holds ∙ asked_held f.styles f.transfers a from r.mark wa na transfer none in cc)
    by_case (inr none) a b wa wb na nb same transfer holds =
        ap (λ (rs : List Record). is_held rs r.mark) same ∙ asked_held f.styles f.transfers b to r.mark wb nb transfer
        none

-- ---- a file with such a record

no_repeat : (styles : List Style) (rs : List Record) (r : Record) → is_held rs r.mark ≡ false
    → is_repeat styles rs r ≡ false
no_repeat styles rs r e = by_test (is_repeat styles rs r) refl
  where
    by_test : (t : Bool) → is_repeat styles rs r ≡ t → t ≡ false
    by_test true h = absurd (let k : true ≡ false = sym (repeat_held styles rs r h) ∙ e in cc)
    by_test false h = refl

reserved_first : (styles : List Style) (lock : Option Day) (hs : List Record) (r : Record) (more : List Record)
    → is_held hs r.mark ≡ false → is_product_mark r.mark ≡ true
    → refused_in styles lock hs (r ∷ more) ≡ Some (Plain ReservedMark)
reserved_first styles lock hs r more e product = rw (no_repeat styles hs r e, e, product) refl

held_push_none : (hs : List Record) (y : Record) (m : List ℕ) → is_held hs m ≡ false → bytes_eq y.mark m ≡ false
    → is_held (hs ++ y ∷ []) m ≡ false
held_push_none [] y m e f = ap (λ (t : Bool). t || false) f
held_push_none (h ∷ hs) y m e f = by_test (bytes_eq h.mark m) e (held_push_none hs y m)
  where
    by_test : (t : Bool) → (t || is_held hs m) ≡ false
        → (is_held hs m ≡ false → bytes_eq y.mark m ≡ false → is_held (hs ++ y ∷ []) m ≡ false)
        → (t || is_held (hs ++ y ∷ []) m) ≡ false
    by_test true g k = absurd cc
    by_test false g k = k g f

other_mark : (a b : List ℕ) → is_product_mark a ≡ false → is_product_mark b ≡ true → bytes_eq a b ≡ false
other_mark a b h k = by_test (bytes_eq a b) refl
  where
    by_test : (t : Bool) → bytes_eq a b ≡ t → t ≡ false
    by_test true e = absurd (let g : true ≡ false = sym k ∙ (ap is_product_mark (sym (same_bytes a b e)) ∙ h) in cc)
    by_test false e = refl

reserved_at : (styles : List Style) (lock : Option Day) (hs : List Record) (y : Record) (t : Bool)
    (o p x : Option Refusal) → (if t then o else option_or (refusal_of lock hs y) p) ≡ None
    → (o ≡ None → x ≡ Some (Plain ReservedMark)) → (z : Option Refusal)
    → (IsNew lock hs y → p ≡ None → z ≡ Some (Plain ReservedMark))
    → (if t then x else option_or (refusal_of lock hs y) z) ≡ Some (Plain ReservedMark)
reserved_at styles lock hs y true o p x h i z j = i h
reserved_at styles lock hs y false o p x h i z j =
    let parts = neither_refusal (refusal_of lock hs y) p h in
    ap (λ (q : Option Refusal). option_or q z) parts.0 ∙ j (not_refused lock hs y parts.0) parts.1

pub reserved_in : (styles : List Style) (lock : Option Day) (hs before : List Record) (r : Record) (more : List Record)
    → refused_in styles lock hs before ≡ None → is_held hs r.mark ≡ false → is_product_mark r.mark ≡ true
    → refused_in styles lock hs (before ++ r ∷ more) ≡ Some (Plain ReservedMark)
reserved_in styles lock hs [] r more h e product = reserved_first styles lock hs r more e product
reserved_in styles lock hs (y ∷ ys) r more h e product =
    reserved_at styles lock hs y (is_repeat styles hs y) (refused_in styles lock hs ys)
    (refused_in styles lock (hs ++ y ∷ []) ys) (refused_in styles lock hs (ys ++ r ∷ more)) h
    (λ i. reserved_in styles lock hs ys r more i e product) (refused_in styles lock (hs ++ y ∷ []) (ys ++ r ∷ more))
    (λ n i. reserved_in styles lock (hs ++ y ∷ []) ys r more i
    (held_push_none hs y r.mark e (other_mark y.mark r.mark n.own product)) product)

-- the records of a file, part by part
records_parts : (styles : List Style) (before : List Txn) (xs ys : List Located)
    → (after : List Txn)
    × (records_from styles before (xs ++ ys) ≡ records_from styles before xs ++ records_from styles after ys)
records_parts styles before [] ys = (before, refl)
records_parts styles before (x ∷ xs) ys =
    let rest = records_parts styles (before ++ x.txn ∷ []) xs ys in (
      rest.0,
      ap (λ (rs : List Record). recorded_in styles before x.txn ++ rs) rest.1 ∙ sym
          (append_assoc (recorded_in styles before x.txn) (records_from styles (before ++ x.txn ∷ []) xs)
          (records_from styles rest.0 ys)),
    )

refused_by : (f : Federation) (name : List ℕ) (file : List Located) (e : Refusal) → has_branch f name ≡ true
    → unbalanced f.styles file ≡ None
    → refused_in f.styles (lock_of f name) (records_of f name) (records_in_file f.styles file) ≡ Some e
    → reply f (cmd.Enter name file) ≡ Err e
unfolding reply
refused_by f name file e here balanced refused = rw (here, balanced, refused) refl

-- a record with a mark of the product that the branch does not hold
pub reserved_there : (f : Federation) (from to : List ℕ) (before : List Located) (x : Located) (rest : List Located)
    → IsGoodState f → has_branch f to ≡ true → IsOwnJournal (records_of f from) (before ++ x ∷ rest)
    → refused_in f.styles (lock_of f to) (records_of f to) (records_in_file f.styles before) ≡ None
    → (own : IsOwn (records_of f from) x) → is_product_mark own.holder.mark ≡ true
    → is_held (records_of f to) own.holder.mark ≡ false
    → reply f (cmd.Enter to (before ++ x ∷ rest)) ≡ Err (Plain ReservedMark)
reserved_there f from to before x rest good there all passes own product absent =
    let rs = records_of f from in
    let parts = records_parts f.styles [] before (x ∷ rest) in
    let one = recorded_own f.styles rs x (number_in f.styles parts.0 x.txn) (good_records f from good) own in
    let split : records_in_file f.styles (before ++ x ∷ rest)
    ≡ records_in_file f.styles before ++ own.holder ∷ records_from f.styles (parts.0 ++ x.txn ∷ []) rest =
    parts.1 ∙ ap (λ (ys : List Record).
    records_in_file f.styles before ++ (ys ++ records_from f.styles (parts.0 ++ x.txn ∷ []) rest)) one in
    refused_by f to (before ++ x ∷ rest) (Plain ReservedMark) there
    (balanced_own f.styles rs (before ++ x ∷ rest) (good_records f from good) all)
    (ap (refused_in f.styles (lock_of f to) (records_of f to)) split
    ∙ reserved_in f.styles (lock_of f to) (records_of f to) (records_in_file f.styles before) own.holder
    (records_from f.styles (parts.0 ++ x.txn ∷ []) rest) passes absent product)

transfers_product : (m : List ℕ) → is_transfer_mark m ≡ true → is_product_mark m ≡ true
transfers_product m h = ap (λ (t : Bool). t || is_closing_mark m) h

pub transfers_elsewhere : (f : Federation) (from to : List ℕ) (before : List Located) (x : Located)
    (rest : List Located) → IsGoodState f → has_branch f from ≡ true → has_branch f to ≡ true → bytes_eq from to ≡ false
    → IsOwnJournal (records_of f from) (before ++ x ∷ rest)
    → refused_in f.styles (lock_of f to) (records_of f to) (records_in_file f.styles before) ≡ None
    → (own : IsOwn (records_of f from) x) → is_of_transfer own.holder ≡ true
    → reply f (cmd.Enter to (before ++ x ∷ rest)) ≡ Err (Plain ReservedMark)
transfers_elsewhere f from to before x rest good here there apart all passes own transfer =
    reserved_there f from to before x rest good there all passes own (transfers_product own.holder.mark transfer)
    (not_elsewhere f from to own.holder good here there apart own.among transfer)

pub closings_elsewhere : (f : Federation) (from to : List ℕ) (before : List Located) (x : Located) (rest : List Located)
    → IsGoodState f → has_branch f to ≡ true → IsOwnJournal (records_of f from) (before ++ x ∷ rest)
    → refused_in f.styles (lock_of f to) (records_of f to) (records_in_file f.styles before) ≡ None
    → (own : IsOwn (records_of f from) x) → is_closing own.holder ≡ true
    → is_held (records_of f to) own.holder.mark ≡ false
    → reply f (cmd.Enter to (before ++ x ∷ rest)) ≡ Err (Plain ReservedMark)
closings_elsewhere f from to before x rest good there all passes own closing absent =
    reserved_there f from to before x rest good there all passes own
    (ap (λ (t : Bool). is_transfer_mark own.holder.mark || t) closing ∙ or-true (is_transfer_mark own.holder.mark))
    absent
