use Rattle.std.proofs.Common.{◌≡◌, ◌≢◌, ◌∙◌, true, false, codes, sym}
use Rattle.std.proofs.lemmas.Slice.Eq.{bytes_eq-Decides}
use Rattle.clap.specs.Matches.{found_of}
use Rattle.clap.specs.Walk.{rows_of}
use Rattle.sqlite_wal.specs.Files.{image_at}
use Rattle.treasury.specs.OverFile.{makes_tables}
use Rattle.treasury.specs.OverFileParts.{spoken}
use Rattle.treasury.proofs.OverFileLemmas.{no_file_is_named, import_ends, form_ends}
use Rattle.treasury.proofs.words.over_file.answer_over_file.Goals as goal

pub returns-in_default : goal.returns-in_default
returns-in_default g c =
    no_file_is_named _ (image_at g.S.Start) c.args.word.now (rows_of (found_of c.args.values.now))
    c.answer_at.result c.before-in_default.result c.before-in_default.ensures (sym c.in_default.ensures)
    c.answer_at.ensures

pub returns-then-eq : goal.returns-then-eq
returns-then-eq g c =
    makes_tables ((bytes_eq-Decides c.args.word.now (codes "init")).0 (sym c.eq.ensures ∙ c.if-eq.true))
    c.answer_init.ensures

pub returns-then-eq-2 : goal.returns-then-eq-2
returns-then-eq-2 g c =
    import_ends _ (image_at g.S.Start) c.args.word.now (rows_of (found_of c.args.values.now))
    (spoken c.answer_import.result.said) c.answer_import.result.left
    ((bytes_eq-Decides c.args.word.now (codes "import")).0 (sym c.eq-2.ensures ∙ c.if-eq-2.true))
    c.answer_import.ensures

pub returns : goal.returns
returns g c =
    let no_init : c.args.word.now ≢ codes "init" = λ same.
    let z : true ≡ false = sym ((bytes_eq-Decides c.args.word.now (codes "init")).1 same)
    ∙ (sym c.eq.ensures ∙ c.if-eq.false) in absurd cc in
    let no_import : c.args.word.now ≢ codes "import" = λ same.
    let z : true ≡ false = sym ((bytes_eq-Decides c.args.word.now (codes "import")).1 same)
    ∙ (sym c.eq-2.ensures ∙ c.if-eq-2.false) in absurd cc in
    form_ends _ (image_at g.S.Start) c.args.word.now (rows_of (found_of c.args.values.now))
    (spoken c.answer_form.result.said) c.answer_form.result.left no_init no_import c.answer_form.ensures
