-- what is added leaves a good state good
use Rattle.std.proofs.Common.{◌≡◌, ◌<◌, ℕ, Bool, true, false, ◌||◌, List, [], ◌∷◌, ◌++◌, length, refl, ap, ◌∙◌}
use Rattle.std.proofs.Common.{sym, subst, arith, length-append, Option, Some, None, Ok}
use Rattle.std.specs.List.{list_any, AllByRecursion}
use Rattle.std.specs.Option.{option_or}
use Rattle.std.specs.Str.{bytes_eq}
use Rattle.std.proofs.lemmas.List.Folds.{find-append}
use Rattle.std.proofs.lemmas.Int.{ints}
use Rattle.std.proofs.lemmas.Bool.{or_parts}
use Rattle.std.proofs.Math.Bool.{or-false}
use Rattle.money_core.specs.declared.style.Style.{Style}
use Rattle.money_core.specs.declared.day.Day.{Day}
use Rattle.money_core.specs.declared.unit.Unit.{Unit as Commodity}
use Rattle.money_core.specs.declared.unit.Declared.TheVariants.{New}
use Rattle.money_core.specs.Style.{is_style, declared}
use Rattle.money_core.proofs.StyleLemmas.{AreStyles-snoc, declared-was_new}
use Rattle.money_core.proofs.GrowthLemmas.{styles_grow}
use Rattle.money_core.proofs.ListLemmas.{all-append, all_weaker}
use Rattle.money_core.proofs.BytesLemmas.{same_bytes, other_bytes}
use Rattle.book_core.specs.GoodBook.{IsGoodBook, verdict}
use Rattle.book_core.proofs.GoodBookLemmas.{good_verdict, fit-append, good_nil}
use Rattle.journal_lines.specs.Date.{IsDayNumber}
use Rattle.journal_format.proofs.MoreStylesLemmas.{printable_stays}
use Rattle.journal_balance.proofs.GrowthLemmas.{legs_of-append}
use Rattle.treasury_state.specs.declared.record.Record.{Record}
use Rattle.treasury_state.specs.declared.transfer.Transfer.{Transfer}
use Rattle.treasury_state.specs.Federation.{Branch, Federation, is_branch_name, has_name, has_branch, records_of}
use Rattle.treasury_state.specs.Federation.{lock_of, entries, book_of, is_locked}
use Rattle.treasury_state.specs.Mark.{has_mark, is_held, held, HaveOwnMarks, is_transfer_mark, is_closing_mark}
use Rattle.treasury_state.specs.Mark.{is_of_transfer}
use Rattle.treasury_state.specs.Transfer.{is_transit, asked}
use Rattle.treasury_state.specs.Joined.{new_branch, with_records, with_lock, changed, with_style, with_branch}
use Rattle.treasury_state.specs.Joined.{with_entered, with_locked}
use Rattle.treasury_state.specs.Good.{IsGoodRecord, IsOffTransit, IsWithinLock, IsGoodBranch, IsGoodTransfer, IsCarried}
use Rattle.treasury_state.specs.Good.{HaveOwnNames, IsGoodState}
use Rattle.treasury_state.proofs.EntriesLemmas.{entries-append}
use Rattle.treasury_state.proofs.RecordLemmas.{fit_records, short_day}
use Rattle.treasury_core.specs.Step.{goes_back, IsNew}
use Rattle.treasury_core.proofs.ChangeLemmas.{length-changed, any-changed, names-changed, all-changed, changed-twice}
use Rattle.treasury_core.proofs.TransferLemmas.{other_branches}

-- one more branch
any_push : (p : Branch → Bool) (bs : List Branch) (b : Branch) → list_any p (bs ++ b ∷ []) ≡ (list_any p bs || p b)
any_push p [] b = or-false (p b)
any_push p (x ∷ xs) b = ap (λ (t : Bool). p x || t) (any_push p xs b) ∙ regroup (p x) (list_any p xs) (p b)
  where
    regroup : (t u v : Bool) → (t || (u || v)) ≡ ((t || u) || v)
    regroup true u v = refl
    regroup false u v = refl

names_push : (bs : List Branch) (name : List ℕ) → list_any (has_name name) bs ≡ false → HaveOwnNames bs
    → HaveOwnNames (bs ++ new_branch name ∷ [])
names_push [] name e h = (refl, tt)
names_push (b ∷ bs) name e h =
    let parts = or_parts (bytes_eq b.name name) (list_any (has_name name) bs) e in (
      any_push (has_name b.name) bs (new_branch name) ∙ rw (h.0, other_bytes b.name name parts.0) refl,
      names_push bs name parts.1 h.1,
    )

known_after : (bs : List Branch) (name m : List ℕ) → list_any (has_name m) bs ≡ true
    → list_any (has_name m) (bs ++ new_branch name ∷ []) ≡ true
known_after bs name m h = any_push (has_name m) bs (new_branch name) ∙ rw h refl

not_known : (bs : List Branch) (a name : List ℕ) → list_any (has_name name) bs ≡ false → list_any (has_name a) bs ≡ true
    → bytes_eq a name ≡ false
not_known bs a name e h = by_test (bytes_eq a name) refl
  where
    by_test : (t : Bool) → bytes_eq a name ≡ t → t ≡ false
    by_test true g = absurd (let k : true ≡ false =
        sym h ∙ (ap (λ (m : List ℕ). list_any (has_name m) bs) (same_bytes a name g) ∙ e) in cc)
    by_test false g = refl

-- no transfer asks for a record in a branch that is not there
asked_none : (bs : List Branch) (ts : List Transfer) (name : List ℕ) → list_any (has_name name) bs ≡ false
    → AllByRecursion (IsGoodTransfer bs) ts → asked ts name ≡ []
asked_none bs [] name e h = refl
asked_none bs (t ∷ ts) name e h =
    rw (not_known bs t.source name e h.0.source, not_known bs t.target name e h.0.target) (asked_none bs ts name e h.1)

new_good : (styles : List Style) (name : List ℕ) → is_branch_name name ≡ true → IsGoodBranch styles (new_branch name)
new_good styles name named = record {
  named = named;
  short = tt;
  marks = tt;
  records = tt;
  off_transit = tt;
  closings = tt;
  book = good_nil;
}

pub good_branch : (f : Federation) (name : List ℕ) → IsGoodState f → is_branch_name name ≡ true
    → has_branch f name ≡ false → length f.branches < 32 → IsGoodState (with_branch f name)
good_branch f name good named free room = record {
  styles = good.styles;
  few = omega (arith, room, length-append f.branches (new_branch name ∷ []));
  names = names_push f.branches name free good.names;
  branches = all-append (IsGoodBranch f.styles) f.branches (new_branch name ∷ []) good.branches
      (new_good f.styles name named, tt);
  ids = good.ids;
  transfers = all_weaker (IsGoodTransfer f.branches) (IsGoodTransfer (f.branches ++ new_branch name ∷ [])) f.transfers
      (λ t h. other_branches f.branches _ t (known_after f.branches name) h) good.transfers;
  carried = all-append (IsCarried f.transfers) f.branches (new_branch name ∷ []) good.carried (
    record {
      there = subst (λ (rows : List Record). AllByRecursion (λ (r : Record). held [] r.mark ≡ Some r) rows)
          (sym (asked_none f.branches f.transfers name free good.transfers)) tt;
      asked_for = tt;
    },
    tt,
  );
}

-- one more commodity
record_grows : (styles more : List Style) (r : Record) → IsGoodRecord styles r → IsGoodRecord (styles ++ more) r
record_grows styles more r h = record {
  marked = h.marked;
  printable = (printable_stays styles more r.txn h.printable).printable;
  legs = legs_of-append styles more (styles_grow.stays styles more) r.txn h.printable.postings ∙ h.legs;
}

branch_grows : (styles more : List Style) (b : Branch) → IsGoodBranch styles b → IsGoodBranch (styles ++ more) b
branch_grows styles more b h = record {
  named = h.named;
  short = h.short;
  marks = h.marks;
  records = all_weaker (IsGoodRecord styles) (IsGoodRecord (styles ++ more)) b.records
      (λ r k. record_grows styles more r k) h.records;
  off_transit = h.off_transit;
  closings = h.closings;
  book = h.book;
}

pub good_style : (f : Federation) (style : Style) (unit : Commodity) → IsGoodState f → is_style style ≡ true
    → declared f.styles style ≡ Ok (New unit) → IsGoodState (with_style f style)
good_style f style unit good is new =
    let was = declared-was_new f.styles style unit new in
    record {
      styles = AreStyles-snoc f.styles style good.styles is was.0 was.1;
      few = good.few;
      names = good.names;
      branches = all_weaker (IsGoodBranch f.styles) (IsGoodBranch (f.styles ++ style ∷ [])) f.branches
          (λ b h. branch_grows f.styles (style ∷ []) b h) good.branches;
      ids = good.ids;
      transfers = good.transfers;
      carried = good.carried;
    }

-- a branch with more good records, whose book passes with them
pub branch_entered : (styles : List Style) (rs : List Record) (b : Branch) → IsGoodBranch styles b
    → HaveOwnMarks (b.records ++ rs) → AllByRecursion (IsGoodRecord styles) rs
    → AllByRecursion IsOffTransit rs → AllByRecursion (IsWithinLock b.locked) rs
    → verdict (entries b.records ++ entries rs) ≡ None → IsGoodBranch styles (with_records rs b)
branch_entered styles rs b good marks new clear closed passes = record {
  named = good.named;
  short = good.short;
  marks = marks;
  records = all-append (IsGoodRecord styles) b.records rs good.records new;
  off_transit = all-append IsOffTransit b.records rs good.off_transit clear;
  closings = all-append (IsWithinLock b.locked) b.records rs good.closings closed;
  book = subst IsGoodBook (sym (entries-append b.records rs))
      (good_verdict (entries b.records ++ entries rs)
      (fit-append (entries b.records) (entries rs) good.book.fit (fit_records styles rs new)) passes);
}

-- a later lock day keeps what is locked
pub later_lock : (lock : Option Day) (day d : Day) → goes_back lock day ≡ false → is_locked lock d ≡ true
    → is_locked (Some day) d ≡ true
later_lock None day d g h = absurd cc
later_lock (Some lock) day d g h = grind (arith, ints)

branch_locked : (styles : List Style) (day : Day) (b : Branch) → IsDayNumber day → goes_back b.locked day ≡ false
    → IsGoodBranch styles b → IsGoodBranch styles (with_lock day b)
branch_locked styles day b number forward h = record {
  named = h.named;
  short = short_day day number;
  marks = h.marks;
  records = h.records;
  off_transit = h.off_transit;
  closings = all_weaker (IsWithinLock b.locked) (IsWithinLock (Some day)) b.records
      (λ r k e. let c =
      k e in record { own_day = c.own_day; locked = later_lock b.locked day r.entry.day forward c.locked }) h.closings;
  book = h.book;
}

-- records that no transfer asks for
pub record IsOwnEntry (lock : Option Day) (r : Record) : Type 0 where
  pub apart : is_of_transfer r ≡ false
  pub clear : list_any is_transit r.entry.legs ≡ false
  pub closed : IsWithinLock lock r

-- the new ones of a file
pub own_entries : (lock : Option Day) (before rs : List Record) → AllByRecursion (IsNew lock before) rs
    → AllByRecursion (IsOwnEntry lock) rs
own_entries lock before rs h = all_weaker (IsNew lock before) (IsOwnEntry lock) rs (λ r k. own_entry r k) h
  where
    own_entry : (r : Record) → IsNew lock before r → IsOwnEntry lock r
    own_entry r k =
        let n = or_parts (is_transfer_mark r.mark) (is_closing_mark r.mark) k.own in
        record { apart = n.0; clear = k.clear; closed = λ e. absurd (let x : true ≡ false = sym e ∙ n.1 in cc) }

all_clear : (lock : Option Day) (rs : List Record) → AllByRecursion (IsOwnEntry lock) rs
    → AllByRecursion IsOffTransit rs
all_clear lock rs h = all_weaker (IsOwnEntry lock) IsOffTransit rs (λ r k e. k.clear) h

all_within : (lock other : Option Day) (rs : List Record) → other ≡ lock → AllByRecursion (IsOwnEntry lock) rs
    → AllByRecursion (IsWithinLock other) rs
all_within lock other rs e h = subst (λ (o : Option Day). AllByRecursion (IsWithinLock o) rs) (sym e)
    (all_weaker (IsOwnEntry lock) (IsWithinLock lock) rs (λ r k. k.closed) h)

carried_entered : (ts : List Transfer) (lock : Option Day) (rs : List Record) (b : Branch)
    → AllByRecursion (IsOwnEntry lock) rs → IsCarried ts b → IsCarried ts (with_records rs b)
carried_entered ts lock rs b own h = record {
  there = all_weaker (λ (r : Record). held b.records r.mark ≡ Some r)
      (λ (r : Record). held (b.records ++ rs) r.mark ≡ Some r) (asked ts b.name)
      (λ r k. find-append (has_mark r.mark) b.records rs ∙ ap (λ (o : Option Record). option_or o (held rs r.mark)) k)
      h.there;
  asked_for = all-append (λ (r : Record). is_of_transfer r ≡ true → is_held (asked ts b.name) r.mark ≡ true) b.records
      rs h.asked_for
      (all_weaker (IsOwnEntry lock)
      (λ (r : Record). is_of_transfer r ≡ true → is_held (asked ts b.name) r.mark ≡ true) rs
      (λ r k of. absurd (let no : true ≡ false = sym of ∙ k.apart in cc)) own);
}

carried_locked : (ts : List Transfer) (day : Day) (b : Branch) → IsCarried ts b → IsCarried ts (with_lock day b)
carried_locked ts day b h = record { there = h.there; asked_for = h.asked_for }

-- a change of a branch leaves the names
pub same_names : (g : Branch → Branch) (name : List ℕ) (bs : List Branch) → ((b : Branch) → (g b).name ≡ b.name)
    → (m : List ℕ) → list_any (has_name m) bs ≡ true → list_any (has_name m) (changed g name bs) ≡ true
same_names g name bs k m h = any-changed g name m bs k ∙ h

pub transfers-changed : (g : Branch → Branch) (name : List ℕ) (bs : List Branch) (ts : List Transfer)
    → ((b : Branch) → (g b).name ≡ b.name) → AllByRecursion (IsGoodTransfer bs) ts
    → AllByRecursion (IsGoodTransfer (changed g name bs)) ts
transfers-changed g name bs ts k h =
    all_weaker (IsGoodTransfer bs) (IsGoodTransfer (changed g name bs)) ts
    (λ t i. other_branches bs _ t (same_names g name bs k) i) h

-- records that no transfer asks for
pub good_entered : (f : Federation) (name : List ℕ) (rs : List Record) → IsGoodState f
    → HaveOwnMarks (records_of f name ++ rs) → AllByRecursion (IsGoodRecord f.styles) rs
    → AllByRecursion (IsOwnEntry (lock_of f name)) rs → verdict (book_of f name ++ entries rs) ≡ None
    → IsGoodState (with_entered f name rs)
good_entered f name rs good marks new own passes = record {
  styles = good.styles;
  few = omega (arith, good.few, length-changed (with_records rs) name f.branches);
  names = names-changed (with_records rs) name f.branches (λ b. refl) good.names;
  branches = all-changed (IsGoodBranch f.styles) (IsGoodBranch f.styles) (with_records rs) name f.branches good.names
      (λ b n e l h. branch_entered f.styles rs b h (rw e marks) new (all_clear (lock_of f name) rs own)
      (all_within (lock_of f name) b.locked rs l own) (rw e passes)) (λ b n h. h) good.branches;
  ids = good.ids;
  transfers = transfers-changed (with_records rs) name f.branches f.transfers (λ b. refl) good.transfers;
  carried = all-changed (IsCarried f.transfers) (IsCarried f.transfers) (with_records rs) name f.branches good.names
      (λ b n e l h. carried_entered f.transfers (lock_of f name) rs b own h) (λ b n h. h) good.carried;
}

-- a lock that does not go back
pub good_locked : (f : Federation) (name : List ℕ) (day : Day) → IsGoodState f → IsDayNumber day
    → goes_back (lock_of f name) day ≡ false → IsGoodState (with_locked f name day)
good_locked f name day good number forward = record {
  styles = good.styles;
  few = omega (arith, good.few, length-changed (with_lock day) name f.branches);
  names = names-changed (with_lock day) name f.branches (λ b. refl) good.names;
  branches = all-changed (IsGoodBranch f.styles) (IsGoodBranch f.styles) (with_lock day) name f.branches good.names
      (λ b n e l h. branch_locked f.styles day b number (ap (λ (o : Option Day). goes_back o day) l ∙ forward) h)
      (λ b n h. h) good.branches;
  ids = good.ids;
  transfers = transfers-changed (with_lock day) name f.branches f.transfers (λ b. refl) good.transfers;
  carried = all-changed (IsCarried f.transfers) (IsCarried f.transfers) (with_lock day) name f.branches good.names
      (λ b n e l h. carried_locked f.transfers day b h) (λ b n h. h) good.carried;
}

-- records that come in with a lock: closings are within the new one
abbrev closing_change : List Record → Day → Branch → Branch
closing_change rs day b = with_lock day (with_records rs b)

branch_closed : (styles : List Style) (rs : List Record) (day : Day) (b : Branch) → IsDayNumber day
    → goes_back b.locked day ≡ false
    → IsGoodBranch styles b → HaveOwnMarks (b.records ++ rs) → AllByRecursion (IsGoodRecord styles) rs
    → AllByRecursion (IsOwnEntry (Some day)) rs → verdict (entries b.records ++ entries rs) ≡ None
    → IsGoodBranch styles (closing_change rs day b)
branch_closed styles rs day b number forward h marks new own passes =
    branch_entered styles rs (with_lock day b) (branch_locked styles day b number forward h) marks new
    (all_clear (Some day) rs own) (all_within (Some day) (Some day) rs refl own) passes

closed_at_once : (f : Federation) (name : List ℕ) (day : Day) (rs : List Record) → IsGoodState f → IsDayNumber day
    → goes_back (lock_of f name) day ≡ false → HaveOwnMarks (records_of f name ++ rs)
    → AllByRecursion (IsGoodRecord f.styles) rs
    → AllByRecursion (IsOwnEntry (Some day)) rs → verdict (book_of f name ++ entries rs) ≡ None
    → IsGoodState (let g : Federation = record f { branches = changed (closing_change rs day) name f.branches } in g)
closed_at_once f name day rs good number forward marks new own passes = record {
  styles = good.styles;
  few = omega (arith, good.few, length-changed (closing_change rs day) name f.branches);
  names = names-changed (closing_change rs day) name f.branches (λ b. refl) good.names;
  branches =
      all-changed (IsGoodBranch f.styles) (IsGoodBranch f.styles) (closing_change rs day) name f.branches good.names
      (λ b n e l h. branch_closed f.styles rs day b number (ap (λ (o : Option Day). goes_back o day) l ∙ forward) h
      (rw e marks) new own (rw e passes)) (λ b n h. h) good.branches;
  ids = good.ids;
  transfers = transfers-changed (closing_change rs day) name f.branches f.transfers (λ b. refl) good.transfers;
  carried = all-changed (IsCarried f.transfers) (IsCarried f.transfers) (closing_change rs day) name f.branches
      good.names (λ b n e l h. carried_locked f.transfers day _ (carried_entered f.transfers (Some day) rs b own h))
      (λ b n h. h) good.carried;
}

pub good_closed : (f : Federation) (name : List ℕ) (day : Day) (rs : List Record) → IsGoodState f → IsDayNumber day
    → goes_back (lock_of f name) day ≡ false → HaveOwnMarks (records_of f name ++ rs)
    → AllByRecursion (IsGoodRecord f.styles) rs
    → AllByRecursion (IsOwnEntry (Some day)) rs → verdict (book_of f name ++ entries rs) ≡ None
    → IsGoodState (with_locked (with_entered f name rs) name day)
good_closed f name day rs good number forward marks new own passes =
    subst (λ (bs : List Branch). IsGoodState (let g : Federation = record f { branches = bs } in g))
    (sym (changed-twice (with_records rs) (with_lock day) name f.branches (λ b. refl)))
    (closed_at_once f name day rs good number forward marks new own passes)
