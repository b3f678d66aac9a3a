-- a branch's records of transfers are those that are asked for: record by record, and by all look-ups
use Rattle.std.proofs.Common.{◌≡◌, ℕ, Bool, true, false, ◌||◌, cond, List, [], ◌∷◌, ◌++◌, refl, ap, ◌∙◌, sym, subst}
use Rattle.std.proofs.Common.{Option, Some, None}
use Rattle.std.proofs.Math.Bool.{or-true}
use Rattle.std.specs.Prelude.{IfSome, filter}
use Rattle.std.specs.List.{AllByRecursion}
use Rattle.std.specs.Str.{bytes_eq}
use Rattle.money_core.proofs.ListLemmas.{all_weaker}
use Rattle.money_core.proofs.BytesLemmas.{bytes_eq-refl, same_bytes}
use Rattle.treasury_state.specs.declared.record.Record.{Record}
use Rattle.treasury_state.specs.declared.transfer.Part.{Part}
use Rattle.treasury_state.specs.declared.transfer.Transfer.{Transfer}
use Rattle.treasury_state.specs.Federation.{Branch}
use Rattle.treasury_state.specs.Mark.{is_held, held, HaveOwnMarks, is_transfer_mark, is_of_transfer}
use Rattle.treasury_state.specs.Transfer.{asked, out_records, in_records, receipts_of}
use Rattle.treasury_state.specs.Good.{AreAscending, IsCarried}
use Rattle.treasury_state.specs.Fair.{IsMarked}
use Rattle.treasury_state.proofs.HeldLemmas.{not_held}
use Rattle.treasury_state.proofs.LookupLemmas.{first_held}
use Rattle.treasury_state.proofs.HolderLemmas.{held_all, is_held_if_None}
use Rattle.treasury_state.proofs.AskedLemmas.{asked_own}
use Rattle.treasury_state.proofs.OrderLemmas.{own_ids}
use Rattle.treasury_state.proofs.FilterLemmas.{held-filter}

-- each of them is of a transfer
abbrev AreOfTransfers : List Record → Type 0
AreOfTransfers rs = AllByRecursion (λ (r : Record). is_of_transfer r ≡ true) rs

filtered_at : (r : Record) (rs : List Record) (t : Bool) → is_of_transfer r ≡ t → AreOfTransfers rs
    → AreOfTransfers (cond t (r ∷ rs) rs)
filtered_at r rs true e h = (e, h)
filtered_at r rs false e h = h

all_filtered : (rs : List Record) → AreOfTransfers (filter is_of_transfer rs)
all_filtered [] = tt
all_filtered (r ∷ rs) = filtered_at r (filter is_of_transfer rs) (is_of_transfer r) refl (all_filtered rs)

all_in : (t : Transfer) (b : Bool) (ps : List Part) (rest : List Record) → AreOfTransfers rest
    → AreOfTransfers (in_records t b ps ++ rest)
all_in t true [] rest h = h
all_in t true (p ∷ ps) rest h = (refl, all_in t true ps rest h)
all_in t false ps rest h = h

all_out : (t : Transfer) (a : Bool) (rest : List Record) → AreOfTransfers rest
    → AreOfTransfers (out_records t a ++ rest)
all_out t true rest h = (refl, h)
all_out t false rest h = h

all_asked : (ts : List Transfer) (name : List ℕ) → AreOfTransfers (asked ts name)
all_asked [] name = tt
all_asked (t ∷ ts) name = all_out t (bytes_eq t.source name) _
    (all_in t (bytes_eq t.target name) (receipts_of t) (asked ts name) (all_asked ts name))

-- other marks are not among them
other_at : (r : Record) (rs : List Record) (m : List ℕ) (t : Bool) → bytes_eq r.mark m ≡ t → is_of_transfer r ≡ true
    → is_transfer_mark m ≡ false → held rs m ≡ None → cond t (Some r) (held rs m) ≡ None
other_at r rs m true e of h k =
    absurd (let n : true ≡ false = sym of ∙ (ap is_transfer_mark (same_bytes r.mark m e) ∙ h) in cc)
other_at r rs m false e of h k = k

held_other : (rs : List Record) (m : List ℕ) → AreOfTransfers rs → is_transfer_mark m ≡ false → held rs m ≡ None
held_other [] m of h = refl
held_other (r ∷ rs) m of h = other_at r rs m (bytes_eq r.mark m) refl of.0 h (held_other rs m of.1 h)

-- what is held has the mark
mark_at : (r x : Record) (rs : List Record) (m : List ℕ) (t : Bool) → bytes_eq r.mark m ≡ t
    → cond t (Some r) (held rs m) ≡ Some x → (held rs m ≡ Some x → x.mark ≡ m) → x.mark ≡ m
mark_at r x rs m true e h k = let s : x ≡ r = cc in ap (λ (y : Record). y.mark) s ∙ same_bytes r.mark m e
mark_at r x rs m false e h k = k h

mark_is : (rs : List Record) (m : List ℕ) (x : Record) → held rs m ≡ Some x → x.mark ≡ m
mark_is [] m x h = absurd cc
mark_is (r ∷ rs) m x h = mark_at r x rs m (bytes_eq r.mark m) refl h (mark_is rs m x)

-- each is held under its mark, where marks stand once
self_at : (r x : Record) (rs : List Record) (t : Bool) → bytes_eq r.mark x.mark ≡ t → held rs r.mark ≡ None
    → held rs x.mark ≡ Some x → cond t (Some r) (held rs x.mark) ≡ Some x
self_at r x rs true e n h =
    absurd (let k : None ≡ Some x = sym n ∙ (ap (held rs) (same_bytes r.mark x.mark e) ∙ h) in cc)
self_at r x rs false e n h = h

self_held : (rs : List Record) → HaveOwnMarks rs → AllByRecursion (λ (r : Record). held rs r.mark ≡ Some r) rs
self_held [] own = tt
self_held (r ∷ rs) own = (
  first_held r rs,
  all_weaker (λ (x : Record). held rs x.mark ≡ Some x)
      (λ (x : Record). held (r ∷ rs) x.mark ≡ Some x) rs (λ x h. self_at r x rs (bytes_eq r.mark x.mark) refl own.0 h)
      (self_held rs own.1),
)

all_held : (rs : List Record) → AllByRecursion (λ (r : Record). is_held rs r.mark ≡ true) rs
all_held [] = tt
all_held (r ∷ rs) = (
  ap (λ (t : Bool). t || is_held rs r.mark) (bytes_eq-refl r.mark),
  all_weaker (λ (x : Record). is_held rs x.mark ≡ true) (λ (x : Record). is_held (r ∷ rs) x.mark ≡ true) rs
      (λ x h. ap (λ (t : Bool). bytes_eq r.mark x.mark || t) h ∙ or-true (bytes_eq r.mark x.mark)) (all_held rs),
)

all_both : (P Q : Record → Type 0) (rs : List Record) → AllByRecursion P rs → AllByRecursion Q rs
    → AllByRecursion (λ (r : Record). P r × Q r) rs
all_both P Q [] h k = tt
all_both P Q (r ∷ rs) h k = ((h.0, k.0), all_both P Q rs h.1 k.1)

-- each row stands in the records
abbrev Stand : List Record → List Record → Type 0
Stand rs rows = AllByRecursion (λ (r : Record). held rs r.mark ≡ Some r) rows

-- each record of a transfer has a row
abbrev AreAsked : List Record → List Record → Type 0
AreAsked rows rs = AllByRecursion (λ (r : Record). is_of_transfer r ≡ true → is_held rows r.mark ≡ true) rs

abbrev AreAlike : List Record → List Record → Type 0
AreAlike rs rows = (m : List ℕ) → held (filter is_of_transfer rs) m ≡ held rows m

held_by_row : (rs rows : List Record) (m : List ℕ) (x : Record) → held rows m ≡ Some x → Stand rs rows
    → held rs m ≡ Some x
held_by_row rs rows m x e stand =
    let at : IfSome (held rows m) (λ (r : Record). held rs r.mark ≡ Some r) =
    held_all (λ (r : Record). held rs r.mark ≡ Some r) rows m stand in
    let here : held rs x.mark ≡ Some x =
    subst (λ (o : Option Record). IfSome o (λ (r : Record). held rs r.mark ≡ Some r)) e at in
    ap (held rs) (sym (mark_is rows m x e)) ∙ here

none_by_row : (rs rows : List Record) (m : List ℕ) (o : Option Record) → held rs m ≡ o → is_transfer_mark m ≡ true
    → held rows m ≡ None → AreAsked rows rs → o ≡ None
none_by_row rs rows m None e of none are = refl
none_by_row rs rows m (Some x) e of none are =
    let at : IfSome (held rs m) (λ (r : Record). is_of_transfer r ≡ true → is_held rows r.mark ≡ true) =
    held_all (λ (r : Record). is_of_transfer r ≡ true → is_held rows r.mark ≡ true) rs m are in
    let here : is_of_transfer x ≡ true
    → is_held rows x.mark ≡ true =
    subst (λ (o : Option Record). IfSome o (λ (r : Record). is_of_transfer r ≡ true → is_held rows r.mark ≡ true)) e
    at in
    let same = mark_is rs m x e in
    absurd (let k : true ≡ false = sym (here (ap is_transfer_mark same ∙ of)) ∙
    (ap (is_held rows) same ∙ is_held_if_None rows m none) in cc)

by_row : (rs rows : List Record) (m : List ℕ) (o : Option Record) → held rows m ≡ o → is_transfer_mark m ≡ true
    → Stand rs rows → AreAsked rows rs → held rs m ≡ o
by_row rs rows m (Some x) e of stand are = held_by_row rs rows m x e stand
by_row rs rows m None e of stand are = none_by_row rs rows m (held rs m) refl of e are

alike_at : (rs rows : List Record) (m : List ℕ) (t : Bool) → is_transfer_mark m ≡ t → AreOfTransfers rows
    → Stand rs rows → AreAsked rows rs → held (filter is_of_transfer rs) m ≡ held rows m
alike_at rs rows m true e of stand are = held-filter rs m e ∙ by_row rs rows m (held rows m) refl e stand are
alike_at rs rows m false e of stand are =
    held_other (filter is_of_transfer rs) m (all_filtered rs) e ∙ sym (held_other rows m of e)

stand_back : (rs rows : List Record) → AreOfTransfers rows → HaveOwnMarks rows → AreAlike rs rows → Stand rs rows
stand_back rs rows of own same =
    all_weaker (λ (r : Record). (is_of_transfer r ≡ true) × (held rows r.mark ≡ Some r))
    (λ (r : Record). held rs r.mark ≡ Some r) rows (λ r h. sym (held-filter rs r.mark h.0) ∙ (same r.mark ∙ h.1))
    (all_both (λ (r : Record). is_of_transfer r ≡ true) (λ (r : Record). held rows r.mark ≡ Some r) rows
    of (self_held rows own))

asked_by : (rs rows : List Record) (r : Record) (t : Bool) → AreAlike rs rows → is_held rs r.mark ≡ true
    → is_of_transfer r ≡ true → is_held rows r.mark ≡ t → t ≡ true
asked_by rs rows r true same h of e = refl
asked_by rs rows r false same h of e =
    let none : held rs r.mark ≡ None = sym (held-filter rs r.mark of) ∙ (same r.mark ∙ not_held rows r.mark e) in
    let k : true ≡ false = sym h ∙ is_held_if_None rs r.mark none in
    absurd cc

asked_back : (rs rows : List Record) → AreAlike rs rows → AreAsked rows rs
asked_back rs rows same =
    all_weaker (λ (r : Record). is_held rs r.mark ≡ true)
    (λ (r : Record). is_of_transfer r ≡ true → is_held rows r.mark ≡ true) rs
    (λ r h of. asked_by rs rows r (is_held rows r.mark) same h of refl) (all_held rs)

-- a branch has what is asked for just where all look-ups agree
abbrev pub AgreeOn : List Transfer → Branch → Type 0
AgreeOn ts b = (m : List ℕ) → held (filter is_of_transfer b.records) m ≡ held (asked ts b.name) m

pub carried_agree : (ts : List Transfer) (b : Branch) → IsCarried ts b → AgreeOn ts b
carried_agree ts b h m =
    alike_at b.records (asked ts b.name) m (is_transfer_mark m) refl (all_asked ts b.name) h.there h.asked_for

pub own_asked : (ts : List Transfer) (name : List ℕ) → AllByRecursion IsMarked ts → AreAscending ts
    → HaveOwnMarks (asked ts name)
own_asked ts name marked ids = asked_own ts name marked (own_ids ts ids)

pub agree_carried : (ts : List Transfer) (b : Branch) → AllByRecursion IsMarked ts → AreAscending ts → AgreeOn ts b
    → IsCarried ts b
agree_carried ts b marked ids h = record {
  there = stand_back b.records (asked ts b.name) (all_asked ts b.name) (own_asked ts b.name marked ids) h;
  asked_for = asked_back b.records (asked ts b.name) h;
}
