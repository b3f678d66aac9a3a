use Rattle.std.proofs.Common.{arith, ap, ◌∙◌, [], ◌∷◌, List, ℕ}
use Rattle.journal_format.specs.BodySize.{remarks_size}
use Rattle.journal_format.proofs.SizeLemmas.{empty_size, only_one, remarks_small}
use Rattle.journal_format.proofs.body_size.remarks_size.Goals as goal

pub returns-in-empty-clause-size : goal.returns-in-empty-clause-size
returns-in-empty-clause-size c = empty_size c.args.comments.now c.in-empty.len_below

pub returns-in-len1-up-clause-bound : goal.returns-in-len1-up-clause-bound
returns-in-len1-up-clause-bound c =
    let whole =
    only_one c.args.comments.now c.text-item.result c.in-len1-up.len_at_least c.requires.one c.text-item.is in
    let text = ap (λ (x : List ℕ). remarks_size (x ∷ [])) (c.as_bytes.ensures.value ∙ c.as_str.ensures) in
    omega (
      arith,
      remarks_small c.args.comments.now c.requires.one c.requires.short,
      ap remarks_size whole,
      text,
      c.remark_size.ensures,
    )
