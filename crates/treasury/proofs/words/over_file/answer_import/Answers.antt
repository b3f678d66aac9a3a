use Rattle.treasury_requests.specs.declared.request.Terms.{Terms}
use Rattle.std.proofs.Common.{None, sym, subst, inl, inr}
use Rattle.sqlite_wal.specs.Files.{image_at}
use Rattle.treasury.specs.OverFileParts.{spoken}
use Rattle.treasury.specs.OverFile.{SaysToJournal}
use Rattle.treasury.proofs.words.over_file.answer_import.Goals as goal

pub returns-in-Ok : goal.returns-in-Ok
returns-in-Ok g c =
    inr (
      c.in-Some.branch.now,
      None,
      sym c.in-Some.ensures,
      subst (λ (terms : Terms).
          SaysToJournal _ (image_at g.S.Start) c.in-Some.branch.now terms None (spoken c.answer_journal.result.said)
          c.answer_journal.result.left) c.terms_of-terms.ensures c.answer_journal.ensures,
    )
