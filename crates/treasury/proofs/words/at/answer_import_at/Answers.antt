use Rattle.treasury_requests.specs.declared.request.Terms.{Terms}
use Rattle.std.proofs.Common.{sym, subst, inl, inr}
use Rattle.treasury.specs.OverFileParts.{spoken}
use Rattle.treasury.specs.At.{SaysToBytesAt}
use Rattle.treasury.proofs.words.at.answer_import_at.Goals as goal

pub returns-in-Ok-read_journal : goal.returns-in-Ok-read_journal
returns-in-Ok-read_journal c =
    inr (inr (
      c.in-Some.branch.now,
      c.as_slice-bytes.result.now,
      sym c.in-Some.ensures,
      subst (λ (terms : Terms).
          SaysToBytesAt c.in-Some.branch.now terms c.as_slice-bytes.result.now (spoken c.answer_bytes_at.result))
          c.terms_of.ensures c.answer_bytes_at.ensures,
    ))
