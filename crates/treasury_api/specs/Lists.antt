-- What is listed of a state, asked for again (own rule; docs/RULES.md, "Reports").
use Rattle.std.specs.Prelude.{◌≡◌, ℕ, slice_get, Some, Ok}
use Rattle.money_core.specs.declared.style.Style.{Style}
use Rattle.treasury_state.specs.Federation.{Federation}
use Rattle.treasury_core.specs.declared.command.Command.TheVariants as cmd
use Rattle.treasury_core.specs.declared.command.Answer.TheVariants.{Repeated}
use Rattle.treasury_core.specs.Step.{reply}
use Rattle.treasury_reports.specs.CommoditiesReport.{sample_text}
use Rattle.treasury_requests.specs.declared.request.Request.TheVariants as asking
use Rattle.treasury_api.specs.declared.asking.Asked.TheVariants.{Command}
use Rattle.treasury_api.specs.Asked.{RequestAsks}

-- each line of the commodities report, as the sample of a request, asks for its commodity, and is answered `repeated`
abbrev pub AreRepeated : Federation → Type 0
AreRepeated f = (i : ℕ) (s : Style) → slice_get f.styles i ≡ Some s
    → RequestAsks f.styles (asking.Commodity (sample_text s)) (Ok (Command (cmd.Commodity s)))
    × (reply f (cmd.Commodity s) ≡ Ok Repeated)
