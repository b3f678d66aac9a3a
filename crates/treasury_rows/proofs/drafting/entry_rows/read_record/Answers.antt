use Rattle.std.proofs.Common.{◌≡◌, ◌∙◌, ap, true, false, sym, subst, Ok, w64, to_z, of_z, rules}
use Rattle.std.proofs.lemmas.Int.{to_z-of_z}
use Rattle.book_core.specs.declared.entry.Entry.{Entry}
use Rattle.journal_format.specs.declared.txn.Txn.{Txn}
use Rattle.journal_format.specs.Mark.{is_mark}
use Rattle.journal_balance.specs.Legs.{balanced_entry}
use Rattle.treasury_state.specs.Good.{IsGoodRecord}
use Rattle.treasury_state.specs.Rows.{entry_row}
use Rattle.treasury_state.proofs.EntryRowLemmas.{record_only}
use Rattle.treasury_rows.specs.Drafted.{IsFault}
use Rattle.treasury_rows.proofs.DraftLemmas.{exit_on_error}
use Rattle.treasury_rows.proofs.EntryRowLemmas.{record_fault, bad_mark, legs_fault, other_day, record_good, same_row}
use Rattle.treasury_rows.proofs.EntryRowLemmas.{printable_marked, other_row, whole_record}
use Rattle.treasury_rows.proofs.drafting.entry_rows.read_record.Goals as goal

pub returns-in_err-txn-clause-reads : goal.returns-in_err-txn-clause-reads
returns-in_err-txn-clause-reads c =
    exit_on_error _ _ c.from_residual-in_err-txn.result _ c.from_residual-in_err-txn.ensures.1
    (record_fault c.args.styles.now c.args.branch c.args.nr c.args.row.now c.as_str.result.now _ c.as_str.ensures
    c.in_err-txn.ensures.reads)

pub returns-then-not-is_mark-clause-reads : goal.returns-then-not-is_mark-clause-reads
returns-then-not-is_mark-clause-reads c =
    bad_mark c.args.styles.now c.args.branch c.args.nr c.args.row.now c.in_ok-txn.txn c.in_ok-own.own
    (record {
      text = c.as_str.result.now;
      body = c.as_str.ensures;
      only = c.in_ok-txn.ensures.reads;
      mark = c.in_ok-own.ensures.equal;
    })
    (sym (c.is_mark.ensures ∙ ap is_mark (c.as_bytes.ensures.value ∙ c.as_str-2.ensures)) ∙ c.if-not-is_mark.true)

pub returns-then-not-is_row_of-clause-reads : goal.returns-then-not-is_row_of-clause-reads
returns-then-not-is_row_of-clause-reads c =
    other_row c.args.styles.now c.args.branch c.args.nr c.args.row.now
    (λ e. let k : true ≡ false = sym (c.is_row_of.ensures.1 e) ∙ c.if-not-is_row_of.true in cc)

pub returns-in_err-entry-clause-reads : goal.returns-in_err-entry-clause-reads
returns-in_err-entry-clause-reads c =
    exit_on_error _ _ c.from_residual-in_err-entry.result _ c.from_residual-in_err-entry.ensures.1
    (legs_fault c.args.styles.now c.args.branch c.args.nr c.args.row.now c.in_ok-txn.txn c.in_ok-own.own
    c.in_err-entry.field-0.0
    (record {
      text = c.as_str.result.now;
      body = c.as_str.ensures;
      only = c.in_ok-txn.ensures.reads;
      mark = c.in_ok-own.ensures.equal;
    })
    (subst (λ (x : Txn). IsFault (λ (y : Entry). balanced_entry c.args.styles.now x ≡ Ok y) c.in_err-entry.field-0.0)
    c.with_mark-txn.ensures c.in_err-entry.ensures.reads))

pub returns-then-not-is_day-clause-reads : goal.returns-then-not-is_day-clause-reads
returns-then-not-is_day-clause-reads c =
    other_day c.args.styles.now c.args.branch c.args.nr c.args.row.now c.in_ok-txn.txn c.in_ok-own.own
    c.in_ok-entry.entry
    (record {
      text = c.as_str.result.now;
      body = c.as_str.ensures;
      only = c.in_ok-txn.ensures.reads;
      mark = c.in_ok-own.ensures.equal;
    })
    (subst (λ (x : Txn). (y : Entry) → balanced_entry c.args.styles.now x ≡ Ok y → y ≡ c.in_ok-entry.entry)
    c.with_mark-txn.ensures c.in_ok-entry.ensures.reads)
    (λ e. let k : true ≡ false =
    sym (c.is_day.ensures.1 (e ∙ sym (to_z-of_z w64 c.args.row.now.day (search rules)))) ∙ c.if-not-is_day.true in cc)

pub returns-clause-reads : goal.returns-clause-reads
returns-clause-reads c = λ r p.
    let whole = whole_record c.record_of.result c.in_ok-txn.txn c.with_mark-txn.result c.in_ok-own.own c.in_ok-mark.mark
    c.in_ok-entry.entry c.record_of.ensures c.with_mark-txn.ensures in
    record_only c.args.styles.now c.args.branch c.args.nr c.args.row.now c.in_ok-txn.txn c.in_ok-own.own
    c.in_ok-mark.mark c.in_ok-entry.entry
    (record {
      text = c.as_str.result.now;
      body = c.as_str.ensures;
      only = c.in_ok-txn.ensures.reads;
      mark = c.in_ok-own.ensures.equal;
    })
    c.in_ok-mark.ensures.equal
    (subst (λ (x : Txn). (y : Entry) → balanced_entry c.args.styles.now x ≡ Ok y → y ≡ c.in_ok-entry.entry)
    c.with_mark-txn.ensures c.in_ok-entry.ensures.reads) r p
    ∙ sym whole

pub returns-clause-good : goal.returns-clause-good
returns-clause-good c =
    let whole = whole_record c.record_of.result c.in_ok-txn.txn c.with_mark-txn.result c.in_ok-own.own c.in_ok-mark.mark
    c.in_ok-entry.entry c.record_of.ensures c.with_mark-txn.ensures in
    let named : is_mark c.in_ok-own.own ≡ true =
    sym (c.is_mark.ensures ∙ ap is_mark (c.as_bytes.ensures.value ∙ c.as_str-2.ensures)) ∙ c.if-not-is_mark.false in
    subst (IsGoodRecord c.args.styles.now) (sym whole)
    (record_good c.args.styles.now c.in_ok-txn.txn c.in_ok-own.own c.in_ok-mark.mark c.in_ok-entry.entry
    (c.in_ok-own.ensures.equal ∙ sym c.in_ok-mark.ensures.equal)
    (printable_marked c.args.styles.now c.in_ok-txn.txn c.in_ok-own.own c.in_ok-txn.ensures.printable named)
    (subst (λ (x : Txn). balanced_entry c.args.styles.now x ≡ Ok c.in_ok-entry.entry) c.with_mark-txn.ensures
    c.in_ok-entry.ensures.legs))

pub returns-clause-same : goal.returns-clause-same
returns-clause-same c =
    let whole = whole_record c.record_of.result c.in_ok-txn.txn c.with_mark-txn.result c.in_ok-own.own c.in_ok-mark.mark
    c.in_ok-entry.entry c.record_of.ensures c.with_mark-txn.ensures in
    let own = c.is_row_of.ensures.0 c.if-not-is_row_of.false in
    ap (entry_row c.args.styles.now c.args.branch c.args.nr) whole
    ∙ same_row c.args.styles.now c.args.branch c.args.nr c.args.row.now c.in_ok-txn.txn c.in_ok-own.own
    c.in_ok-mark.mark c.in_ok-entry.entry own.0 own.1
    (c.is_day.ensures.0 c.if-not-is_day.false ∙ to_z-of_z w64 c.args.row.now.day (search rules))
    c.in_ok-mark.ensures.equal (c.in_ok-txn.ensures.body.1 ∙ c.as_str.ensures)
