use Rattle.std.proofs.Common.{◌∙◌, List, ℕ}
use Rattle.std.specs.Prelude.{option_map}
use denote.Ref.{Bor}
use Rattle.treasury_reports.proofs.SampleLemmas.{reads_bare, some_mapped}
use Rattle.treasury_reports.proofs.commodities.is_bare.Goals as goal

pub returns : goal.returns
returns c =
    c.is_some.ensures ∙ some_mapped (λ (s : Bor (List ℕ)). s.now) c.read_symbol.result ∙ reads_bare c.args.symbol.now
    (option_map (λ (s : Bor (List ℕ)). s.now) c.read_symbol.result) c.requires c.read_symbol.ensures.reads
