use Rattle.std.proofs.Common.{take}
use Rattle.std.specs.Prelude.{Ok}
use Rattle.std.specs.List.{flat_map}
use Rattle.json_text.specs.JsonText.{escaped}
use Rattle.json_text.specs.Growing.{AppendsText}
use Rattle.json_text.proofs.string.grow_all_escaped.Given as goal

abbrev pub invariant-bytes : goal.invariant-bytes
invariant-bytes l = AppendsText (flat_map escaped (take l.byte-index l.text)) l.fn.out l.out (Ok tt)
