-- A header that was read, without where its parts lie in memory.
use Rattle.std.proofs.Common.{◌≡◌, ◌∙◌, ℕ, List, true, sym, Result, Ok, Err, IfOk}
use Rattle.money_core.specs.declared.cause.Cause.{Cause}
use Rattle.journal_lines.specs.declared.header.Header as read
use Rattle.journal_lines.specs.Header.{HeaderParts}
use Rattle.journal_lines.specs.HeaderReading.{header_of}
use Rattle.journal_lines.specs.HeaderForm.{ReadsHeader}
use Rattle.journal_lines.specs.HeaderView.{parts_of, read_parts}
use Rattle.std.specs.Str.{is_utf8}
use Rattle.std.specs.List.{list_all}
use Rattle.journal_lines.specs.Printed.{is_clean, PrintsBack}
use Rattle.journal_lines.proofs.HeaderLemmas.{read_header}
use Rattle.journal_lines.specs.Utf8.{IsUtf8Header}
use Rattle.journal_lines.proofs.Utf8Lemmas.{header_utf8}
use Rattle.journal_lines.proofs.HeaderFormLemmas.{form_reads, reads_form}

pub found_from : (line : List ℕ) (r : Result read.Header Cause) → read_parts r ≡ header_of line
    → IfOk r (λ header. ReadsHeader line (parts_of header))
found_from line (Ok h) e = reads_form line (parts_of h) (sym e)
found_from line (Err c) e = tt

pub only_from : (line : List ℕ) (r : Result read.Header Cause) → read_parts r ≡ header_of line → (parts : HeaderParts)
    → ReadsHeader line parts → read_parts r ≡ Ok parts
only_from line r e parts form = e ∙ form_reads line parts form

pub utf8_from : (line : List ℕ) (r : Result read.Header Cause) → read_parts r ≡ header_of line → is_utf8 line ≡ true
    → IfOk r (λ header. IsUtf8Header (parts_of header))
utf8_from line (Ok h) e u = header_utf8 line (parts_of h) u (sym e)
utf8_from line (Err c) e u = tt

pub prints_from : (line : List ℕ) (r : Result read.Header Cause) → read_parts r ≡ header_of line
    → list_all is_clean line ≡ true → IfOk r (λ header. PrintsBack (parts_of header))
prints_from line (Ok h) e clean = read_header line (parts_of h) clean (sym e)
prints_from line (Err c) e clean = tt
