-- Each test passes where the last one is reached.
use Rattle.std.proofs.Common.{◌≡◌, ◌∙◌, Bool, true, false, sym, arith}
use Rattle.std.proofs.lemmas.Bool.{not-true, le-leb, leb-true}
use Rattle.journal_lines.proofs.AccountLemmas.{whole_by_tests}
use Rattle.journal_lines.proofs.account.is_account.Goals as goal
use Rattle.journal_lines.proofs.account.is_account.Goals.{then-text-le-MAX_NAME, else-text-le-MAX_NAME, then-all_parts}
use Rattle.journal_lines.proofs.account.is_account.Goals.{else-all_parts, then-all_name_bytes, else-all_name_bytes}

not_both : (b : Bool) → b ≡ false → b ≡ true → ⊥
not_both b p q = cc

pub returns-then-not-has_gap-clause-whole : goal.returns-then-not-has_gap-clause-whole
returns-then-not-has_gap-clause-whole c = elim c.if-all_name_bytes.branch [
  | then-all_name_bytes w ↦ elim c.if-all_parts.branch [
    | then-all_parts v ↦ elim c.if-text-le-MAX_NAME.branch [
      | then-text-le-MAX_NAME u ↦ λ starts. whole_by_tests c.args.text.now
          (le-leb _ 200 u.if-text-le-MAX_NAME.true)
          (sym u.all_parts.ensures ∙ (sym u.value-is ∙ v.if-all_parts.true))
          (sym v.all_name_bytes.ensures ∙ (sym v.value-is ∙ w.if-all_name_bytes.true))
          (sym w.has_gap.ensures ∙ not-true _ (sym w.value-is ∙ c.if-not-has_gap.true))
          (sym c.has_barred_start.ensures ∙ not-true _ starts)
      | else-text-le-MAX_NAME u ↦ absurd
          (omega (arith, u.if-text-le-MAX_NAME.false, leb-true _ 200 (sym u.value-is ∙ v.if-all_parts.true)))
    ]
    | else-all_parts v ↦ absurd (not_both _ (v.value-is ∙ v.if-all_parts.false) w.if-all_name_bytes.true)
  ]
  | else-all_name_bytes w ↦ absurd (not_both _ (w.value-is ∙ w.if-all_name_bytes.false) c.if-not-has_gap.true)
]
