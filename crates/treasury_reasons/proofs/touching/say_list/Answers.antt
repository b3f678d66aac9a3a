use Rattle.std.proofs.Common.{◌≡◌, ◌∙◌, take, rules, arith}
use Rattle.std.proofs.lemmas.Grind.{common_steps}
use Rattle.std.proofs.lemmas.Result.{on_ok_weaker}
use Rattle.treasury_reasons.specs.Failure.{touching_said, most_listed}
use Rattle.treasury_reasons.specs.Reading.{line_of}
use Rattle.treasury_reasons.proofs.FailureLemmas.{listed_said}
use Rattle.treasury_reasons.proofs.touching.say_list.Goals as goal

pub returns : goal.returns
returns c =
    let line = line_of c.args.read.now.file.items c.args.read.now.rows in
    let few : take c.min.result c.args.new.now ≡ take most_listed c.args.new.now =
    first_of (search rules, grind (arith, common_steps)) in
    on_ok_weaker c.say_more.result
    (λ e. e ∙ listed_said (touching_said c.args.records.now c.args.source.now line) c.args.new.now
    (take c.min.result c.args.new.now) c.args.out.now.items c.say_each.new.out.items few c.in_ok-say_each.ensures)
    c.say_more.ensures
