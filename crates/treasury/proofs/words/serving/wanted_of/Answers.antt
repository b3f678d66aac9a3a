use Rattle.std.proofs.Common.{ℕ, List, Result, codes, refl, inr}
use Rattle.std.specs.Str.Parse.{ParsesUnsigned, ExplainsUnsignedError, HasUnsignedDigitsIfOk}
use Rattle.std.specs.declared.num.ParseIntError.{ParseIntError}
use Rattle.clap.specs.Matches.{found_of, one_text}
use Rattle.treasury.proofs.ServingLemmas.{lacks_number}
use Rattle.treasury.proofs.words.serving.wanted_of.Goals as goal

-- what the text of a number of that many bits is read as
abbrev gives : ℕ → List ℕ → Result ℕ ParseIntError → Type 0
gives bits bytes r = ParsesUnsigned bits 10 bytes r × ExplainsUnsignedError 10 bytes r × HasUnsignedDigitsIfOk bytes r

pub returns-in-None : goal.returns-in-None
returns-in-None c =
    λ none. inr (lacks_number (gives 16) 16 (codes "port") (found_of c.args.values.now)
    (one_text (found_of c.args.values.now) (codes "port")) c.get_one.result refl c.get_one.ensures.value
    c.in-None.is (λ text error fails. fails.0))
