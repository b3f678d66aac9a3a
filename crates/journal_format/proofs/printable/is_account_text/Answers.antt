use Rattle.std.proofs.Common.{◌∙◌, ap}
use Rattle.std.specs.Str.{is_utf8}
use Rattle.std.proofs.lemmas.Str.{is_utf8-from_IsUtf8}
use Rattle.journal_lines.specs.AccountName.{is_account}
use Rattle.journal_format.proofs.RoomLemmas.{and_kept}
use Rattle.journal_format.proofs.printable.is_account_text.Goals as goal

pub returns : goal.returns
returns c =
    let text = c.args.text.now in
    c.is_account.ensures.value ∙ (ap is_account c.as_bytes.ensures.value ∙ and_kept (is_account text) (is_utf8 text)
    (is_utf8-from_IsUtf8 text c.utf8.text))
