use Rattle.std.proofs.Common.{rules, w64, sym}
use Rattle.std.proofs.lemmas.Int.{to_z-of_z}
use Rattle.money_core.proofs.AmountPrint.{amounts_bound}
use Rattle.treasury_api.proofs.asking.asked_by_part.Goals as goal

pub returns-in-Ok-clause-ready : goal.returns-in-Ok-clause-ready
returns-in-Ok-clause-ready c =
    let same = to_z-of_z w64 c.in-Ok.qty (search rules) in
    rw same (record {
      day = c.requires;
      part = amounts_bound c.args.styles.now c.as_str.result.now c.in-Ok.unit c.in-Ok.qty (sym c.in-Ok.ensures.answer);
    })
