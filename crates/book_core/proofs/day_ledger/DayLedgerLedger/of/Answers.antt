use Rattle.std.proofs.Common.{◌≡◌, ◌≤◌, ◌∙◌, ap, sym, arith, length, inr, List}
use Rattle.std.specs.Prelude.{option_map}
use Rattle.book_core.specs.declared.entry.Entry.{Entry}
use Rattle.book_core.specs.declared.refusal.Refusal.TheVariants.{ClaimFailed}
use Rattle.book_core.specs.Claim.{failure}
use Rattle.book_core.specs.GoodBook.{is_over, most_entries, IsWithin}
use Rattle.book_core.proofs.BookLemmas.{room_from}
use Rattle.book_core.proofs.VerdictLemmas.{verdict_full, verdict_limit, verdict_claims}
use Rattle.book_core.proofs.day_ledger.DayLedgerLedger.of.Goals as goal

pub returns-then-len-gt-MAX_ENTRIES : goal.returns-then-len-gt-MAX_ENTRIES
returns-then-len-gt-MAX_ENTRIES c =
    inr (verdict_full c.args.entries
    (omega (
      arith,
      c.if-len-gt-MAX_ENTRIES.true,
      c.len.ensures ∙ c.into_vec-list.result.ok.0,
      ap (λ (es : List Entry). length es) c.into_vec-list.ensures,
    )))

pub returns-then-passes_by : goal.returns-then-passes_by
returns-then-passes_by c =
    inr (verdict_limit c.args.entries
    (omega (
      arith,
      c.if-len-gt-MAX_ENTRIES.false,
      c.len.ensures ∙ c.into_vec-list.result.ok.0,
      ap (λ (es : List Entry). length es) c.into_vec-list.ensures,
    ))
    (ap is_over (sym (c.deref.ensures.value ∙ c.into_vec-list.ensures))
    ∙ (sym c.passes_by.ensures ∙ c.if-passes_by.true)))

pub filled-requires-clause-room : goal.filled-requires-clause-room
filled-requires-clause-room c =
    let few : length c.into_vec-list.result.items ≤ most_entries =
    omega (arith, c.if-len-gt-MAX_ENTRIES.false, c.len.ensures ∙ c.into_vec-list.result.ok.0) in
    let over : is_over c.into_vec-list.result.items ≡ c.passes_by.result =
    ap is_over (sym c.deref.ensures.value) ∙ sym c.passes_by.ensures in
    record { few = few; small = room_from c.into_vec-list.result.items (over ∙ c.if-passes_by.false) }

pub returns-in-Some : goal.returns-in-Some
returns-in-Some c =
    inr (verdict_claims c.args.entries
    (omega (
      arith,
      c.if-len-gt-MAX_ENTRIES.false,
      c.len.ensures ∙ c.into_vec-list.result.ok.0,
      ap (λ (es : List Entry). length es) c.into_vec-list.ensures,
    ))
    (ap is_over (sym (c.deref.ensures.value ∙ c.into_vec-list.ensures))
    ∙ (sym c.passes_by.ensures ∙ c.if-passes_by.false))
    ∙ ap (option_map ClaimFailed)
    (ap failure (sym (c.in-Ok.ensures.value ∙ c.into_vec-list.ensures))
    ∙ (sym c.in-Ok-first_failure.ensures.first ∙ c.in-Some.is)))

pub returns-in-None : goal.returns-in-None
returns-in-None c = (
  c.in-Ok.ensures.value ∙ c.into_vec-list.ensures,
  verdict_claims c.args.entries
      (omega (
        arith,
        c.if-len-gt-MAX_ENTRIES.false,
        c.len.ensures ∙ c.into_vec-list.result.ok.0,
        ap (λ (es : List Entry). length es) c.into_vec-list.ensures,
      ))
      (ap is_over (sym (c.deref.ensures.value ∙ c.into_vec-list.ensures))
      ∙ (sym c.passes_by.ensures ∙ c.if-passes_by.false))
      ∙ ap (option_map ClaimFailed)
      (ap failure (sym (c.in-Ok.ensures.value ∙ c.into_vec-list.ensures))
      ∙ (sym c.in-Ok-first_failure.ensures.first ∙ c.in-None.is)),
)
