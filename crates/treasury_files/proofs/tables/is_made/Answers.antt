use Rattle.std.proofs.Common.{◌∙◌, sym, ap, true≢false}
use Rattle.treasury_files.proofs.MadeLemmas.{same_if_equal}
use Rattle.treasury_files.proofs.tables.is_made.Goals as goal

pub returns-else-same_name : goal.returns-else-same_name
returns-else-same_name c alike =
    absurd (true≢false (sym (c.same_name.ensures
    ∙ same_if_equal _ _ (c.as_slice.ensures ∙ (ap (λ h. h.0) alike ∙ sym c.as_bytes.ensures.value)))
    ∙ c.if-same_name.false))
