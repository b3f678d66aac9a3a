-- A body is text.
use Rattle.std.proofs.Common.{◌≡◌, ℕ, true, List, [], ◌∷◌, ◌++◌, refl, None}
use Rattle.std.specs.List.{list_all}
use Rattle.std.specs.Str.{is_utf8}
use Rattle.std.proofs.lemmas.Bool.{and_parts}
use Rattle.money_core.specs.declared.style.Style.{Style}
use Rattle.money_core.specs.Style.{AreStyles}
use Rattle.money_core.proofs.Utf8Lemmas.{utf8_joined, utf8_low}
use Rattle.journal_lines.specs.Printed.{ended}
use Rattle.journal_format.specs.declared.txn.Txn.{Txn}
use Rattle.journal_format.specs.CanonicalText.{txn_lines, body_text, marked}
use Rattle.journal_format.specs.Line.{is_line}
use Rattle.journal_format.specs.Printable.{IsPrintable}
use Rattle.journal_format.proofs.ReadLemmas.{line_utf8}
use Rattle.journal_format.proofs.PrintLemmas.{txn_right}

lines_utf8 : (ls : List (List ℕ)) → list_all is_line ls ≡ true → is_utf8 (ended ls) ≡ true
lines_utf8 [] h = utf8_low [] refl
lines_utf8 (l ∷ ls) h =
    let parts = and_parts (is_line l) (list_all is_line ls) h in
    utf8_joined (l ++ 10 ∷ []) (ended ls) (utf8_joined l (10 ∷ []) (line_utf8 l parts.0) (utf8_low (10 ∷ []) refl))
    (lines_utf8 ls parts.1)

pub body_utf8 : (styles : List Style) → AreStyles styles → (t : Txn) → IsPrintable styles t
    → is_utf8 (body_text styles t) ≡ true
body_utf8 styles ok t h =
    let plain : IsPrintable styles (marked t None) = record {
      header = h.header;
      code = h.code;
      description = h.description;
      mark = refl;
      comments = h.comments;
      postings = h.postings;
      few = h.few;
      small = h.small;
    } in
    lines_utf8 (txn_lines styles (marked t None)) (txn_right styles ok (marked t None) plain)
