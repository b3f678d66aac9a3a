use Rattle.std.proofs.Common.{◌∙◌, ap}
use Rattle.std.specs.Str.{is_utf8}
use Rattle.std.proofs.lemmas.Str.{is_utf8-from_IsUtf8}
use Rattle.journal_lines.specs.Printed.{is_comment}
use Rattle.journal_format.proofs.RoomLemmas.{and_kept}
use Rattle.journal_format.proofs.printable.is_remark_text.Goals as goal

pub returns : goal.returns
returns c =
    let text = c.args.text.now in
    c.is_comment.ensures ∙ (ap is_comment c.as_bytes.ensures.value ∙ and_kept (is_comment text) (is_utf8 text)
    (is_utf8-from_IsUtf8 text c.utf8.text))
