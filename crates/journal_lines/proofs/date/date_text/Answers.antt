use Rattle.std.proofs.Common.{arith, ◌≡◌, ◌∙◌, ap, unsigned_abs, to_z, of_z}
use Rattle.jiff_core.proofs.DateLemmas.{civil}
use Rattle.jiff_core.proofs.SignedLemmas.{back_small}
use mir.Syntax.{w16}
use Rattle.journal_lines.proofs.DateLemmas.{date_printed, printed_date_reads, small_year}
use Rattle.journal_lines.proofs.date.date_text.Goals as goal

pub returns-clause-value : goal.returns-clause-value
returns-clause-value c =
    let date = c.civil_date-date.result in
    let year : unsigned_abs (to_z w16 (of_z w16 date.year)) ≡ unsigned_abs date.year =
    ap unsigned_abs
    (back_small w16 date.year (omega (arith, small_year date.year c.civil_date-date.ensures.year (civil date).0)))
    in
    c.civil_text.ensures ∙ date_printed date.year date.month date.day (unsigned_abs (to_z w16 (of_z w16 date.year)))
    c.args.day (civil date) c.civil_date-date.ensures.year year c.civil_date-date.ensures.number

pub returns-clause-reads : goal.returns-clause-reads
returns-clause-reads c =
    let date = c.civil_date-date.result in
    printed_date_reads date.year date.month date.day c.args.day (civil date) c.civil_date-date.ensures.year
    c.civil_date-date.ensures.number
