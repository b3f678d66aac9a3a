use Rattle.std.proofs.Common.{◌∙◌, sym}
use Rattle.std.proofs.lemmas.Str.{is_utf8-from_IsUtf8}
use Rattle.money_core.proofs.text.Text.is_text.Goals as goal

pub returns : goal.returns
returns c = rw (sym (c.as_bytes.ensures.value ∙ (c.as_str.ensures.value ∙ c.self.view_is)))
    (is_utf8-from_IsUtf8 c.as_bytes.result.now c.as_bytes.ensures.utf8)
