use Rattle.std.proofs.Common.{◌∙◌, refl, sym, subst, inl, inr}
use Rattle.clap.specs.Matches.{found_of}
use Rattle.clap.specs.Walk.{rows_of}
use Rattle.sqlite_wal.specs.Files.{image_at}
use Rattle.treasury_files.specs.Started.{IsUnserved}
use Rattle.treasury.specs.OverFileParts.{spoken}
use Rattle.treasury.specs.ServingParts.{IsAnnounced, SaysServing}
use Rattle.treasury_files.proofs.LeftLemmas.{keeps_untouched}
use Rattle.treasury.proofs.ServingLemmas.{refuses_file}
use Rattle.treasury.proofs.words.serving.serve_over_file.Goals as goal

pub returns-in-Ok-open_treasury-clause-says : goal.returns-in-Ok-open_treasury-clause-says
returns-in-Ok-open_treasury-clause-says g c =
    c.serve_on_file.ensures.says (image_at g.S.Start) (rows_of (found_of c.args.values.now))
    c.in-Ok-open_treasury.ensures

pub returns-in-Err-clause-announced : goal.returns-in-Err-clause-announced
returns-in-Err-clause-announced g c =
    subst (λ ending. IsAnnounced g.W.Write.contents c.args.output.now c.args.output.now ending)
    (sym c.refused_by.ensures.ending) refl

pub returns-in-Err-clause-says : goal.returns-in-Err-clause-says
returns-in-Err-clause-says g c =
    subst (λ ending. SaysServing _ (image_at g.S.Start) (rows_of (found_of c.args.values.now)) ending
    (spoken c.refused_by.result.said) c.refused_by.result.left) (sym c.refused_by.ensures.ending)
    (inr (refuses_file _ (image_at g.S.Start) c.in-Err.refused.why (spoken c.refused_by.result.said)
    c.refused_by.result.left c.refused_by.ensures.refused (record {
      keeps = keeps_untouched _ (image_at g.S.Start) _ (c.refused_by.ensures.left ∙ c.in-Err.ensures);
      reason = λ is. inl (c.refused_by.ensures.left ∙ c.in-Err.ensures);
    })))

pub returns-clause-says : goal.returns-clause-says
returns-clause-says g c =
    let by = c.refused_by-in-Err-open_treasury in
    subst (λ ending. SaysServing _ (image_at g.S.Start) (rows_of (found_of c.args.values.now)) ending
    (spoken by.result.said) by.result.left) (sym by.ensures.ending)
    (inr (refuses_file _ (image_at g.S.Start) c.in-Err-open_treasury.refused.why (spoken by.result.said)
    by.result.left by.ensures.refused
    (subst (λ left. IsUnserved _ (image_at g.S.Start) c.in-Err-open_treasury.refused.why left) (sym by.ensures.left)
    c.in-Err-open_treasury.ensures)))
