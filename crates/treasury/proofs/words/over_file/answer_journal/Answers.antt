use Rattle.std.proofs.Common.{ap, inr}
use Rattle.sqlite_wal.specs.Files.{image_at}
use Rattle.treasury_requests.specs.declared.request.Request.{Request}
use Rattle.treasury_requests.specs.declared.request.Request.TheVariants.{Import}
use Rattle.treasury_spelling.specs.Spelling.{given}
use Rattle.treasury.specs.OverFileParts.{spoken}
use Rattle.treasury.proofs.OverFileLemmas.{said_alike, says_before, journal_before}
use Rattle.treasury.proofs.words.over_file.answer_journal.Goals as goal

pub returns-in-Ok-import_of : goal.returns-in-Ok-import_of
returns-in-Ok-import_of g c =
    inr (
      c.in-Ok.bytes.items,
      c.in-Ok.ensures.bytes,
      said_alike _ _ (given c.args.terms c.in-Ok-import_of.request) _ (spoken c.answer_request.result.said)
          c.answer_request.result.left
          (ap (λ (r : Request). given c.args.terms r) c.in-Ok-import_of.ensures.request) c.answer_request.ensures,
    )

pub returns-in-Err : goal.returns-in-Err
returns-in-Err g c =
    journal_before _ (image_at g.S.Start) c.args.branch.now c.args.terms (g.R.Read.remaining c.args.reader)
    c.refused.result c.in-Err.cause c.before-in-Err.result c.before-in-Err.ensures c.in-Err.ensures.refused
    c.refused.ensures

pub returns-in-Err-import_of : goal.returns-in-Err-import_of
returns-in-Err-import_of g c =
    inr (
      c.in-Ok.bytes.items,
      c.in-Ok.ensures.bytes,
      says_before _ (image_at g.S.Start) (given c.args.terms (Import c.args.branch.now c.in-Ok.bytes.items))
          c.refused-in-Err-import_of.result c.in-Err-import_of.cause c.before-in-Err-import_of.result
          c.before-in-Err-import_of.ensures c.in-Err-import_of.ensures.memory c.refused-in-Err-import_of.ensures,
    )
