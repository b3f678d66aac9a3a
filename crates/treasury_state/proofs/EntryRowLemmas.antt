-- what the row of an entry says of its transaction
use Rattle.std.proofs.Common.{◌≡◌, ℕ, List, [], ◌∷◌, refl, ap, ◌∙◌, sym, subst, Option, Some, None, Ok}
use Rattle.money_core.specs.declared.style.Style.{Style}
use Rattle.money_core.specs.Style.{AreStyles}
use Rattle.book_core.specs.declared.entry.Entry.{Entry}
use Rattle.journal_format.specs.declared.txn.Txn.{Txn}
use Rattle.journal_format.specs.CanonicalText.{txn_text, body_text, marked}
use Rattle.journal_format.specs.Pieces.{located, Reads}
use Rattle.journal_format.specs.Printable.{IsPrintable}
use Rattle.journal_format.proofs.PrintLemmas.{reads_back}
use Rattle.journal_balance.specs.Legs.{balanced_entry}
use Rattle.treasury_state.specs.declared.record.Record.{Record}
use Rattle.treasury_state.specs.declared.rows.EntryRow.{EntryRow}
use Rattle.treasury_state.specs.Good.{IsGoodRecord}
use Rattle.treasury_state.specs.Rows.{entry_row}

-- the one transaction of a text
abbrev pub IsOnly : List Style → List ℕ → Txn → Type 0
IsOnly styles text t = Reads styles text (located 1 t ∷ [])

-- the transaction of which a text is the canonical body
abbrev pub IsBodyOf : List Style → List ℕ → Txn → Type 0
IsBodyOf styles text t = IsPrintable styles t × ((t.mark ≡ None) × (body_text styles t ≡ text))

pub body_reads : (styles : List Style) → AreStyles styles → (text : List ℕ) (t : Txn) → IsBodyOf styles text t
    → IsOnly styles text t
body_reads styles are text t p =
    let same : marked t None ≡ t = ap (λ (o : Option (List ℕ)). marked t o) (sym p.1.0) in
    subst (λ (x : List ℕ). Reads styles x (located 1 t ∷ [])) (sym (ap (txn_text styles) same) ∙ p.1.1)
    (reads_back styles are t p.0)

-- the record of a row
abbrev pub IsEntryRow : List Style → ℕ → ℕ → EntryRow → Record → Type 0
IsEntryRow styles branch nr row r = IsGoodRecord styles r × (entry_row styles branch nr r ≡ row)

pub printable_unmarked : (styles : List Style) (t : Txn) → IsPrintable styles t → IsPrintable styles (marked t None)
printable_unmarked styles t p = record {
  header = p.header;
  code = p.code;
  description = p.description;
  mark = refl;
  comments = p.comments;
  postings = p.postings;
  few = p.few;
  small = p.small;
}

pub body_is_unmarked : (styles : List Style) (branch nr : ℕ) (row : EntryRow) (text : List ℕ) → text ≡ row.body
    → (r : Record) → IsEntryRow styles branch nr row r → IsBodyOf styles text (marked r.txn None)
body_is_unmarked styles branch nr row text e r p =
    (printable_unmarked styles r.txn p.0.printable, (refl, ap (λ (x : EntryRow). x.body) p.1 ∙ sym e))

-- what is known once the body is read, and the mark copied
pub record ReadsRow (styles : List Style) (row : EntryRow) (t : Txn) (own : List ℕ) : Type 0 where
  pub text : List ℕ
  pub body : text ≡ row.body
  pub only : (x : Txn) → IsBodyOf styles text x → x ≡ t
  pub mark : own ≡ row.mark

pub row_txn : (styles : List Style) (branch nr : ℕ) (row : EntryRow) (t : Txn) (own : List ℕ)
    → ReadsRow styles row t own → (r : Record) → IsEntryRow styles branch nr row r → r.txn ≡ marked t (Some own)
row_txn styles branch nr row t own h r p =
    let set : r.txn ≡ marked r.txn (Some r.mark) = ap (λ (o : Option (List ℕ)). marked r.txn o) p.0.marked in
    let mark : r.mark ≡ own = ap (λ (x : EntryRow). x.mark) p.1 ∙ sym h.mark in
    set
    ∙ ap (λ (x : Txn). marked x (Some r.mark))
    (h.only (marked r.txn None) (body_is_unmarked styles branch nr row h.text h.body r p))
    ∙ ap (λ (m : List ℕ). marked t (Some m)) mark

pub row_legs : (styles : List Style) (branch nr : ℕ) (row : EntryRow) (t : Txn) (own : List ℕ)
    → ReadsRow styles row t own → (r : Record) → IsEntryRow styles branch nr row r
    → balanced_entry styles (marked t (Some own)) ≡ Ok r.entry
row_legs styles branch nr row t own h r p =
    ap (balanced_entry styles) (sym (row_txn styles branch nr row t own h r p)) ∙ p.0.legs

pub record_only : (styles : List Style) (branch nr : ℕ) (row : EntryRow) (t : Txn) (own mark : List ℕ) (entry : Entry)
    → ReadsRow styles row t own → mark ≡ row.mark
    → ((x : Entry) → balanced_entry styles (marked t (Some own)) ≡ Ok x → x ≡ entry) → (r : Record)
    → IsEntryRow styles branch nr row r
    → r ≡ record { mark = mark; txn = marked t (Some own); entry = entry }
record_only styles branch nr row t own mark entry h is legs r p =
    ap (λ (m : List ℕ). let x : Record = record { mark = m; txn = r.txn; entry = r.entry } in x)
    (ap (λ (x : EntryRow). x.mark) p.1 ∙ sym is)
    ∙ ap (λ (y : Txn). let x : Record = record { mark = mark; txn = y; entry = r.entry } in x)
    (row_txn styles branch nr row t own h r p)
    ∙ ap (λ (y : Entry). let x : Record = record { mark = mark; txn = marked t (Some own); entry = y } in x)
    (legs r.entry (row_legs styles branch nr row t own h r p))
