-- what becomes of a transaction, by the record that holds its mark
use Rattle.std.proofs.Common.{◌≡◌, Bool, true, false, ◌||◌, ◌&&◌, cond, List, [], ◌∷◌, ◌++◌, refl, ap, ◌∙◌, sym, subst}
use Rattle.std.proofs.Common.{append_assoc, append-nil, Option, Some, None, Ok, Err, ◌⊎◌, inl, inr, ℕ, ◌+◌, length}
use Rattle.std.proofs.Common.{length-append, take}
use Rattle.std.proofs.Math.Bool.{or-false}
use Rattle.std.proofs.Math.Seq.{take-append_seam, take-append-add}
use Rattle.std.specs.Prelude.{if◌then◌else◌, Result}
use Rattle.std.specs.List.{AllByRecursion}
use Rattle.std.specs.Str.{bytes_eq}
use Rattle.money_core.specs.declared.style.Style.{Style}
use Rattle.money_core.specs.declared.day.Day.{Day}
use Rattle.money_core.specs.declared.cause.Cause.TheVariants.{MarkClash, OutOfMemory}
use Rattle.money_core.proofs.ListLemmas.{all-append}
use Rattle.money_core.proofs.BytesLemmas.{same_bytes}
use Rattle.book_core.specs.declared.refusal.Refusal.{Refusal}
use Rattle.book_core.specs.declared.refusal.Refusal.TheVariants.{Plain}
use Rattle.journal_format.specs.CanonicalText.{body_text}
use Rattle.treasury_state.specs.declared.record.Record.{Record}
use Rattle.treasury_state.specs.Mark.{held, HaveOwnMarks, is_repeat}
use Rattle.treasury_state.proofs.HeldLemmas.{none_tail, own_push}
use Rattle.treasury_state.proofs.LookupLemmas.{same_some}
use Rattle.treasury_state.proofs.HolderLemmas.{is_held_if_None, is_held_if_Some}
use Rattle.treasury_core.specs.Step.{barred, refused_in, new_in, StopsAt}
use Rattle.treasury_core.specs.Judged.{new_unless, judged}

fresh_at : (t s u : Bool) → t ≡ false → u ≡ false → ((t && s) || u) ≡ false
fresh_at t s u e h = rw (e, h) refl

pub is_repeat_unheld : (styles : List Style) (rs : List Record) (r : Record) → held rs r.mark ≡ None
    → is_repeat styles rs r ≡ false
is_repeat_unheld styles [] r e = refl
is_repeat_unheld styles (h ∷ hs) r e =
    let k = none_tail h (held hs r.mark) (bytes_eq h.mark r.mark) e in
    fresh_at (bytes_eq h.mark r.mark) (bytes_eq (body_text styles h.txn) (body_text styles r.txn))
    (is_repeat styles hs r) k.0 (is_repeat_unheld styles hs r k.1)

repeating_at : (styles : List Style) (h x r : Record) (hs : List Record) (t : Bool) → bytes_eq h.mark r.mark ≡ t
    → held hs h.mark ≡ None → cond t (Some h) (held hs r.mark) ≡ Some x
    → (held hs r.mark ≡ Some x → is_repeat styles hs r ≡ bytes_eq (body_text styles x.txn) (body_text styles r.txn))
    → ((t && bytes_eq (body_text styles h.txn) (body_text styles r.txn)) || is_repeat styles hs r)
    ≡ bytes_eq (body_text styles x.txn) (body_text styles r.txn)
repeating_at styles h x r hs true g n e k =
    let none : held hs r.mark ≡ None = ap (held hs) (sym (same_bytes h.mark r.mark g)) ∙ n in
    ap (λ (u : Bool). bytes_eq (body_text styles h.txn) (body_text styles r.txn) || u)
    (is_repeat_unheld styles hs r none) ∙ or-false (bytes_eq (body_text styles h.txn) (body_text styles r.txn))
    ∙ ap (λ (y : Record). bytes_eq (body_text styles y.txn) (body_text styles r.txn)) (same_some h x e)
repeating_at styles h x r hs false g n e k = k e

pub is_repeat_held : (styles : List Style) (rs : List Record) (r x : Record) → HaveOwnMarks rs → held rs r.mark ≡ Some x
    → is_repeat styles rs r ≡ bytes_eq (body_text styles x.txn) (body_text styles r.txn)
is_repeat_held styles [] r x own e = absurd cc
is_repeat_held styles (h ∷ hs) r x own e =
    repeating_at styles h x r hs (bytes_eq h.mark r.mark) refl own.0 e (is_repeat_held styles hs r x own.1)

-- a transaction that is new
new_unless_None : (o : Option Refusal) → new_unless o ≡ Ok true → o ≡ None
new_unless_None None e = refl
new_unless_None (Some refusal) e = absurd cc

not_free : (o : Option Refusal) → new_unless o ≡ Ok false → ⊥
not_free None e = cc
not_free (Some refusal) e = cc

held_back : (o : Option Refusal) (refusal : Refusal) → new_unless o ≡ Err refusal → o ≡ Some refusal
held_back None refusal e = absurd cc
held_back (Some other) refusal e =
    ap (λ (x : Result Bool Refusal). elim x as (λ v. Option Refusal) [ Ok b ↦ None | Err y ↦ Some y ]) e

by_text : (t : Bool) → (if t then Ok false else Err (Plain MarkClash)) ≡ Ok true → ⊥
by_text true e = cc
by_text false e = cc

same_text : (t : Bool) → (if t then Ok false else Err (Plain MarkClash)) ≡ Ok false → t ≡ true
same_text true e = refl
same_text false e = absurd (let k : Err (Plain MarkClash) ≡ Ok false = e in cc)

other_text : (t : Bool) (refusal : Refusal) → (if t then Ok false else Err (Plain MarkClash)) ≡ Err refusal
    → (t ≡ false) × (Some (Plain MarkClash) ≡ Some refusal)
other_text true refusal e = absurd cc
other_text false refusal e =
    (refl, ap (λ (x : Result Bool Refusal). elim x as (λ v. Option Refusal) [ Ok b ↦ None | Err y ↦ Some y ]) e)

-- what comes next, where it is new
pub record IsTaken (styles : List Style) (lock : Option Day) (rs : List Record) (r : Record)
    (rest : List Record) : Type 0 where
  pub absent : held rs r.mark ≡ None
  pub refused : refused_in styles lock rs (r ∷ rest) ≡ refused_in styles lock (rs ++ r ∷ []) rest
  pub new : new_in rs (r ∷ rest) ≡ r ∷ new_in (rs ++ r ∷ []) rest

taken_by : (styles : List Style) (lock : Option Day) (rs rest : List Record) (r : Record) (o : Option Record)
    → held rs r.mark ≡ o → judged styles lock r o ≡ Ok true → IsTaken styles lock rs r rest
taken_by styles lock rs rest r None h e =
    let fresh = new_unless_None (barred lock r) e in
    record {
      absent = h;
      refused = rw (is_repeat_unheld styles rs r h, is_held_if_None rs r.mark h, fresh) refl;
      new = rw (is_held_if_None rs r.mark h) refl;
    }
taken_by styles lock rs rest r (Some x) h e =
    absurd (by_text (bytes_eq (body_text styles x.txn) (body_text styles r.txn)) e)

pub judged_taken : (styles : List Style) (lock : Option Day) (rs rest : List Record) (r : Record)
    → judged styles lock r (held rs r.mark) ≡ Ok true → IsTaken styles lock rs r rest
judged_taken styles lock rs rest r e = taken_by styles lock rs rest r (held rs r.mark) refl e

-- where it is a repeat
pub record IsPassed (styles : List Style) (lock : Option Day) (rs : List Record) (r : Record)
    (rest : List Record) : Type 0 where
  pub refused : refused_in styles lock rs (r ∷ rest) ≡ refused_in styles lock rs rest
  pub new : new_in rs (r ∷ rest) ≡ new_in rs rest

passed_by : (styles : List Style) (lock : Option Day) (rs rest : List Record) (r : Record) (o : Option Record)
    → HaveOwnMarks rs → held rs r.mark ≡ o → judged styles lock r o ≡ Ok false → IsPassed styles lock rs r rest
passed_by styles lock rs rest r None own h e = absurd (not_free (barred lock r) e)
passed_by styles lock rs rest r (Some x) own h e =
    let same =
    is_repeat_held styles rs r x own h ∙ same_text (bytes_eq (body_text styles x.txn) (body_text styles r.txn)) e in
    record { refused = rw same refl; new = rw (is_held_if_Some rs r.mark x h) refl }

pub judged_passed : (styles : List Style) (lock : Option Day) (rs rest : List Record) (r : Record) → HaveOwnMarks rs
    → judged styles lock r (held rs r.mark) ≡ Ok false → IsPassed styles lock rs r rest
judged_passed styles lock rs rest r own e = passed_by styles lock rs rest r (held rs r.mark) own refl e

-- where it is refused
stopped_by : (styles : List Style) (lock : Option Day) (rs rest : List Record) (r : Record) (refusal : Refusal)
    (o : Option Record) → HaveOwnMarks rs → held rs r.mark ≡ o → judged styles lock r o ≡ Err refusal
    → refused_in styles lock rs (r ∷ rest) ≡ Some refusal
stopped_by styles lock rs rest r refusal None own h e =
    rw (is_repeat_unheld styles rs r h, is_held_if_None rs r.mark h, held_back (barred lock r) refusal e) refl
stopped_by styles lock rs rest r refusal (Some x) own h e =
    let other = other_text (bytes_eq (body_text styles x.txn) (body_text styles r.txn)) refusal e in
    rw (is_repeat_held styles rs r x own h ∙ other.0, is_held_if_Some rs r.mark x h) other.1

pub judged_stopped : (styles : List Style) (lock : Option Day) (rs rest : List Record) (r : Record) (refusal : Refusal)
    → HaveOwnMarks rs → judged styles lock r (held rs r.mark) ≡ Err refusal
    → refused_in styles lock rs (r ∷ rest) ≡ Some refusal
judged_stopped styles lock rs rest r refusal own e =
    stopped_by styles lock rs rest r refusal (held rs r.mark) own refl e

-- so many of the rows were taken after old records, with these new ones, and the rest is left
pub record IsReached (styles : List Style) (lock : Option Day) (base rows new rest : List Record)
    (place : ℕ) : Type 0 where
  pub before : List Record
  pub split : rows ≡ before ++ rest
  pub long : length before ≡ place
  pub refused : (more : List Record)
      → refused_in styles lock base (before ++ more) ≡ refused_in styles lock (base ++ new) more

pub reached_none : (styles : List Style) (lock : Option Day) (base rows : List Record)
    → IsReached styles lock base rows [] rows 0
reached_none styles lock base rows = record {
  before = [];
  split = refl;
  long = refl;
  refused = λ more. ap (λ (xs : List Record). refused_in styles lock xs more) (sym (append-nil base));
}

-- one more
reached_with : (styles : List Style) (lock : Option Day) (base rows new more rest items : List Record) (r : Record)
    (place : ℕ) → items ≡ r ∷ rest → IsReached styles lock base rows new items place
    → ((ys : List Record)
    → refused_in styles lock (base ++ new) (r ∷ ys) ≡ refused_in styles lock (base ++ more) ys)
    → IsReached styles lock base rows more rest (place + 1)
reached_with styles lock base rows new more rest items r place split reached next = record {
  before = reached.before ++ r ∷ [];
  split = reached.split ∙ ap (λ (xs : List Record). reached.before ++ xs) split
      ∙ sym (append_assoc reached.before (r ∷ []) rest);
  long = length-append reached.before (r ∷ []) ∙ ap (λ (n : ℕ). n + 1) reached.long;
  refused = λ ys. ap (refused_in styles lock base) (append_assoc reached.before (r ∷ []) ys)
      ∙ reached.refused (r ∷ ys) ∙ next ys;
}

-- a new one
pub reached_new : (styles : List Style) (lock : Option Day) (base rows new more rest items : List Record) (r : Record)
    (place : ℕ) → more ≡ new ++ r ∷ [] → items ≡ r ∷ rest → judged styles lock r (held (base ++ new) r.mark) ≡ Ok true
    → IsReached styles lock base rows new items place → IsReached styles lock base rows more rest (place + 1)
reached_new styles lock base rows new more rest items r place pushed split is reached =
    reached_with styles lock base rows new more rest items r place split reached
    (λ ys. (judged_taken styles lock (base ++ new) ys r is).refused
    ∙ ap (λ (xs : List Record). refused_in styles lock xs ys)
    (append_assoc base new (r ∷ []) ∙ ap (λ (xs : List Record). base ++ xs) (sym pushed)))

-- a repeat
pub reached_passed : (styles : List Style) (lock : Option Day) (base rows new rest items : List Record) (r : Record)
    (place : ℕ) → HaveOwnMarks (base ++ new) → items ≡ r ∷ rest
    → judged styles lock r (held (base ++ new) r.mark) ≡ Ok false
    → IsReached styles lock base rows new items place → IsReached styles lock base rows new rest (place + 1)
reached_passed styles lock base rows new rest items r place own split is reached =
    reached_with styles lock base rows new new rest items r place split reached
    (λ ys. (judged_passed styles lock (base ++ new) ys r own is).refused)

-- all of them are refused as what is left is
pub reached_rest : (styles : List Style) (lock : Option Day) (base rows new items : List Record) (place : ℕ)
    → IsReached styles lock base rows new items place
    → refused_in styles lock (base ++ new) items ≡ refused_in styles lock base rows
reached_rest styles lock base rows new items place reached =
    sym (ap (refused_in styles lock base) reached.split ∙ reached.refused items)

-- the next one is refused
stopped_here : (styles : List Style) (lock : Option Day) (base rows new rest items : List Record) (r : Record)
    (place : ℕ) (refusal : Refusal) → HaveOwnMarks (base ++ new) → items ≡ r ∷ rest
    → judged styles lock r (held (base ++ new) r.mark) ≡ Err refusal
    → IsReached styles lock base rows new items place → StopsAt styles lock base rows place refusal
stopped_here styles lock base rows new rest items r place refusal own split is reached =
    let all : rows ≡ reached.before ++ r ∷ rest =
    reached.split ∙ ap (λ (xs : List Record). reached.before ++ xs) split in
    let front : take place rows ≡ reached.before =
    ap (λ (n : ℕ). take n rows) (sym reached.long) ∙ ap (take (length reached.before)) all
    ∙ take-append_seam reached.before (r ∷ rest) in
    let further : take (place + 1) rows ≡ reached.before ++ r ∷ [] =
    ap (λ (n : ℕ). take (n + 1) rows) (sym reached.long) ∙ ap (take (length reached.before + 1)) all
    ∙ take-append-add reached.before (r ∷ rest) 1 in record {
      before = ap (refused_in styles lock base) (front ∙ sym (append-nil reached.before)) ∙ reached.refused [];
      here = ap (refused_in styles lock base) further ∙ reached.refused (r ∷ [])
          ∙ judged_stopped styles lock (base ++ new) [] r refusal own is;
    }

pub next_stops : (styles : List Style) (base rows new : List Record) (r : Record) (rest items : List Record)
    (lock : Option Day) (place : ℕ) (refusal : Refusal) {o : Option Record} → o ≡ held (base ++ new) r.mark
    → items ≡ r ∷ rest → HaveOwnMarks (base ++ new) → IsReached styles lock base rows new items place
    → (refusal ≡ Plain OutOfMemory) ⊎ (judged styles lock r o ≡ Err refusal)
    → (refusal ≡ Plain OutOfMemory) ⊎ StopsAt styles lock base rows place refusal
next_stops styles base rows new r rest items lock place refusal found split own reached (inl e) = inl e
next_stops styles base rows new r rest items lock place refusal found split own reached (inr e) =
    inr (stopped_here styles lock base rows new rest items r place refusal own split
    (ap (judged styles lock r) (sym found) ∙ e) reached)

-- the next one is new: what is kept of the rest
pub next_new : (styles : List Style) (lock : Option Day) (base new more rest items : List Record) (r : Record)
    (all : List Record) → more ≡ new ++ r ∷ [] → items ≡ r ∷ rest
    → IsTaken styles lock (base ++ new) r rest → new ++ new_in (base ++ new) items ≡ all
    → more ++ new_in (base ++ more) rest ≡ all
next_new styles lock base new more rest items r all pushed split t h =
    let later = new_in ((base ++ new) ++ r ∷ []) rest in
    ap (λ (xs : List Record). more ++ new_in xs rest)
    (ap (λ (xs : List Record). base ++ xs) pushed ∙ sym (append_assoc base new (r ∷ [])))
    ∙ ap (λ (xs : List Record). xs ++ later) pushed ∙ append_assoc new (r ∷ []) later
    ∙ ap (λ (xs : List Record). new ++ xs) (sym t.new ∙ ap (new_in (base ++ new)) (sym split)) ∙ h

pub next_own : (base new more : List Record) (r : Record) → more ≡ new ++ r ∷ [] → HaveOwnMarks (base ++ new)
    → held (base ++ new) r.mark ≡ None → HaveOwnMarks (base ++ more)
next_own base new more r pushed own absent =
    subst HaveOwnMarks (append_assoc base new (r ∷ []) ∙ ap (λ (xs : List Record). base ++ xs) (sym pushed))
    (own_push (base ++ new) r own absent)

pub next_held : (P : Record → Type 0) (base new more : List Record) (r : Record) → more ≡ new ++ r ∷ []
    → AllByRecursion P (base ++ new) → P r → AllByRecursion P (base ++ more)
next_held P base new more r pushed h p =
    subst (AllByRecursion P) (append_assoc base new (r ∷ []) ∙ ap (λ (xs : List Record). base ++ xs) (sym pushed))
    (all-append P (base ++ new) (r ∷ []) h (p, tt))

-- the first refusal is the one of the next
pub by_cause : (styles : List Style) (base new : List Record) (r : Record) (rest items : List Record)
    (lock : Option Day) (refusal : Refusal) (all : Option Refusal) {o : Option Record} → o ≡ held (base ++ new) r.mark
    → items ≡ r ∷ rest
    → HaveOwnMarks (base ++ new) → refused_in styles lock (base ++ new) items ≡ all
    → (refusal ≡ Plain OutOfMemory) ⊎ (judged styles lock r o ≡ Err refusal)
    → (refusal ≡ Plain OutOfMemory) ⊎ (all ≡ Some refusal)
by_cause styles base new r rest items lock refusal all found split own h (inl e) = inl e
by_cause styles base new r rest items lock refusal all found split own h (inr e) =
    inr (sym h ∙ (ap (refused_in styles lock (base ++ new)) split
    ∙ judged_stopped styles lock (base ++ new) rest r refusal own
    (ap (judged styles lock r) (sym found) ∙ e)))
