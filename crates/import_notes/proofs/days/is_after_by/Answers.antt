use Rattle.std.proofs.Common.{◌≡◌, ◌∙◌, ap, rules, ℤ, ◌+ℤ◌, w32, w64, to_z, of_z}
use Rattle.std.specs.Prelude.{int_lt}
use Rattle.std.proofs.lemmas.Int.{to_z-of_z}
use Rattle.import_notes.proofs.days.is_after_by.Goals as goal

pub returns : goal.returns
returns c =
    let first : to_z w64 (of_z w64 c.from.result) ≡ c.args.first.0 =
    to_z-of_z w64 c.from.result (search rules) ∙ c.from.ensures
    ∙ to_z-of_z w32 c.args.first.0 (search rules) in
    let days : to_z w64 (of_z w64 c.from-2.result) ≡ c.args.days =
    to_z-of_z w64 c.from-2.result (search rules) ∙ c.from-2.ensures
    ∙ to_z-of_z w32 c.args.days (search rules) in
    let second : to_z w64 (of_z w64 c.from-3.result) ≡ c.args.second.0 =
    to_z-of_z w64 c.from-3.result (search rules) ∙ c.from-3.ensures
    ∙ to_z-of_z w32 c.args.second.0 (search rules) in
    let sum = to_z w64 (of_z w64 c.from.result) +ℤ to_z w64 (of_z w64 c.from-2.result) in
    let limit : to_z w64 (of_z w64 sum) ≡ c.args.first.0 +ℤ c.args.days =
    to_z-of_z w64 sum (search rules) ∙ ap (λ (z : ℤ). z +ℤ to_z w64 (of_z w64 c.from-2.result)) first
    ∙ ap (λ (z : ℤ). c.args.first.0 +ℤ z) days in
    ap (λ (z : ℤ). int_lt z (to_z w64 (of_z w64 c.from-3.result))) limit
    ∙ ap (λ (z : ℤ). int_lt (c.args.first.0 +ℤ c.args.days) z) second
