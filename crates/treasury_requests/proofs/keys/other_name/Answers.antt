use Rattle.std.proofs.Common.{◌∙◌, sym, ap, Some, option_map, string_bytes}
use Rattle.treasury_requests.proofs.FaultLemmas.{find-names_in}
use Rattle.treasury_requests.proofs.keys.other_name.Goals as goal

pub returns-in-Some : goal.returns-in-Some
returns-in-Some c =
    sym (find-names_in c.args.word c.args.map.now.entries ∙ ap (option_map string_bytes) (sym c.in-Some.ensures) ∙
    ap Some (sym c.as_str.ensures.value))

pub returns-in-None : goal.returns-in-None
returns-in-None c =
    sym (find-names_in c.args.word c.args.map.now.entries ∙ ap (option_map string_bytes) (sym c.in-None.ensures))
