-- records, read from the rows of entries
use Rattle.std.proofs.Common.{◌≡◌, ℕ, ℤ, pos, true, false, List, refl, ap, ◌∙◌, sym, subst, inr, Option, Some, None, Ok}
use Rattle.std.specs.Prelude.{is_some}
use Rattle.money_core.specs.declared.cause.Cause.{Cause}
use Rattle.money_core.specs.declared.cause.Cause.TheVariants.{Damaged}
use Rattle.money_core.specs.declared.style.Style.{Style}
use Rattle.money_core.specs.Style.{AreStyles}
use Rattle.book_core.specs.declared.entry.Entry.{Entry}
use Rattle.journal_format.specs.declared.txn.Txn.{Txn}
use Rattle.journal_format.specs.CanonicalText.{body_text, marked}
use Rattle.journal_format.specs.Mark.{is_mark}
use Rattle.journal_format.specs.Printable.{IsPrintable}
use Rattle.journal_balance.specs.Legs.{balanced_entry}
use Rattle.treasury_state.specs.declared.record.Record.{Record}
use Rattle.treasury_state.specs.declared.rows.EntryRow.{EntryRow}
use Rattle.treasury_state.specs.Good.{IsGoodRecord}
use Rattle.treasury_state.specs.Rows.{entry_row}
use Rattle.treasury_state.proofs.EntryRowLemmas.{IsOnly, IsBodyOf, body_reads, IsEntryRow, body_is_unmarked, ReadsRow}
use Rattle.treasury_state.proofs.EntryRowLemmas.{row_txn}
use Rattle.treasury_state.proofs.EntryRowLemmas.{row_legs}
use Rattle.treasury_rows.specs.Drafted.{IsFault}
use Rattle.treasury_rows.proofs.DraftLemmas.{fault_of}

pub body_fault : (styles : List Style) → AreStyles styles → (text : List ℕ) (e : Cause) → IsFault (IsOnly styles text) e
    → IsFault (IsBodyOf styles text) e
body_fault styles are text e h =
    fault_of (IsBodyOf styles text) (IsOnly styles text) e (λ t p. (t, body_reads styles are text t p)) h

pub marked_damaged : (styles : List Style) (text : List ℕ) (t : Txn) → ((x : Txn) → IsBodyOf styles text x → x ≡ t)
    → is_some t.mark ≡ true → IsFault (IsBodyOf styles text) Damaged
marked_damaged styles text t only some =
    inr (
      refl,
      λ x p.
          let e : true ≡ false =
          sym some ∙ (ap (λ (y : Txn). is_some y.mark) (sym (only x p)) ∙ ap (λ (o : Option (List ℕ)). is_some o) p.1.0)
          in
          cc,
    )

pub other_damaged : (styles : List Style) (text body : List ℕ) (t : Txn) → ((x : Txn) → IsBodyOf styles text x → x ≡ t)
    → body ≡ body_text styles t → (body ≡ text → ⊥) → IsFault (IsBodyOf styles text) Damaged
other_damaged styles text body t only is other =
    inr (refl, λ x p. other (is ∙ (ap (body_text styles) (sym (only x p)) ∙ p.1.1)))

pub none_of : (o : Option (List ℕ)) → is_some o ≡ false → o ≡ None
none_of None e = refl
none_of (Some m) e = absurd cc

pub record_fault : (styles : List Style) (branch nr : ℕ) (row : EntryRow) (text : List ℕ) (e : Cause) → text ≡ row.body
    → IsFault (IsBodyOf styles text) e → IsFault (IsEntryRow styles branch nr row) e
record_fault styles branch nr row text e same h =
    fault_of (IsEntryRow styles branch nr row) (IsBodyOf styles text) e
    (λ r p. (marked r.txn None, body_is_unmarked styles branch nr row text same r p)) h

pub bad_mark : (styles : List Style) (branch nr : ℕ) (row : EntryRow) (t : Txn) (own : List ℕ)
    → ReadsRow styles row t own → is_mark own ≡ false → IsFault (IsEntryRow styles branch nr row) Damaged
bad_mark styles branch nr row t own h bad =
    inr (
      refl,
      λ r p.
          let q : IsPrintable styles (marked t (Some own)) =
          subst (IsPrintable styles) (row_txn styles branch nr row t own h r p) p.0.printable in
          let e : true ≡ false = sym q.mark ∙ bad in
          cc,
    )

pub printable_marked : (styles : List Style) (t : Txn) (own : List ℕ) → IsPrintable styles t → is_mark own ≡ true
    → IsPrintable styles (marked t (Some own))
printable_marked styles t own p good = record {
  header = p.header;
  code = p.code;
  description = p.description;
  mark = good;
  comments = p.comments;
  postings = p.postings;
  few = p.few;
  small = p.small;
}

-- a row of another branch or number, or of another day, is that of no such record
pub other_row : (styles : List Style) (branch nr : ℕ) (row : EntryRow)
    → ((row.branch ≡ pos branch) × (row.nr ≡ pos nr) → ⊥) → IsFault (IsEntryRow styles branch nr row) Damaged
other_row styles branch nr row differ =
    inr (
      refl,
      λ r p. differ (sym (ap (λ (x : EntryRow). x.branch) p.1), sym (ap (λ (x : EntryRow). x.nr) p.1)),
    )

pub other_day : (styles : List Style) (branch nr : ℕ) (row : EntryRow) (t : Txn) (own : List ℕ) (entry : Entry)
    → ReadsRow styles row t own → ((x : Entry) → balanced_entry styles (marked t (Some own)) ≡ Ok x → x ≡ entry)
    → (entry.day.0 ≡ row.day → ⊥) → IsFault (IsEntryRow styles branch nr row) Damaged
other_day styles branch nr row t own entry h only differ =
    inr (
      refl,
      λ r p.
          differ
          (ap (λ (x : Entry). x.day.0) (sym (only r.entry (row_legs styles branch nr row t own h r p)))
          ∙ ap (λ (x : EntryRow). x.day) p.1),
    )

pub same_row : (styles : List Style) (branch nr : ℕ) (row : EntryRow) (t : Txn) (own mark : List ℕ) (entry : Entry)
    → row.branch ≡ pos branch → row.nr ≡ pos nr → entry.day.0 ≡ row.day → mark ≡ row.mark
    → body_text styles t ≡ row.body
    → entry_row styles branch nr (record { mark = mark; txn = marked t (Some own); entry = entry }) ≡ row
same_row styles branch nr row t own mark entry b n d m body =
    ap (λ (x : ℤ). let y : EntryRow =
    record { branch = x; nr = pos nr; day = entry.day.0; mark = mark; body = body_text styles t } in y) (sym b)
    ∙ (ap (λ (x : ℤ). let y : EntryRow =
    record { branch = row.branch; nr = x; day = entry.day.0; mark = mark; body = body_text styles t } in y) (sym n)
    ∙ (ap (λ (x : ℤ). let y : EntryRow =
    record { branch = row.branch; nr = row.nr; day = x; mark = mark; body = body_text styles t } in y) d
    ∙ (ap (λ (x : List ℕ). let y : EntryRow =
    record { branch = row.branch; nr = row.nr; day = row.day; mark = x; body = body_text styles t } in y) m
    ∙ ap (λ (x : List ℕ). let y : EntryRow =
    record { branch = row.branch; nr = row.nr; day = row.day; mark = row.mark; body = x } in y) body)))

pub legs_fault : (styles : List Style) (branch nr : ℕ) (row : EntryRow) (t : Txn) (own : List ℕ) (e : Cause)
    → ReadsRow styles row t own → IsFault (λ (x : Entry). balanced_entry styles (marked t (Some own)) ≡ Ok x) e
    → IsFault (IsEntryRow styles branch nr row) e
legs_fault styles branch nr row t own e h fault =
    fault_of (IsEntryRow styles branch nr row) (λ (x : Entry). balanced_entry styles (marked t (Some own)) ≡ Ok x) e
    (λ r p. (r.entry, row_legs styles branch nr row t own h r p)) fault

pub record_good : (styles : List Style) (t : Txn) (own mark : List ℕ) (entry : Entry) → own ≡ mark
    → IsPrintable styles (marked t (Some own)) → balanced_entry styles (marked t (Some own)) ≡ Ok entry
    → IsGoodRecord styles (record { mark = mark; txn = marked t (Some own); entry = entry })
record_good styles t own mark entry e p l =
    record { marked = ap (λ (m : List ℕ). let o : Option (List ℕ) = Some m in o) e; printable = p; legs = l }

-- the record as its parts were set
pub whole_record : (r : Record) (t new : Txn) (own mark : List ℕ) (entry : Entry)
    → r ≡ record { mark = mark; txn = new; entry = entry } → new ≡ marked t (Some own)
    → r ≡ record { mark = mark; txn = marked t (Some own); entry = entry }
whole_record r t new own mark entry is set =
    is ∙ ap (λ (x : Txn). let y : Record = record { mark = mark; txn = x; entry = entry } in y) set
