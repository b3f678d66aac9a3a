-- What the words of the command line ask for (own rule; docs/RULES.md, "The program"), by the definitions of `clap`.
use Rattle.std.specs.Prelude.{◌≡◌, ◌≢◌, ℕ, codes, List, [], ◌∷◌, Option, Some, None, option_map, ◌⊎◌}
use Rattle.std.specs.Prelude.{if◌then◌else◌}
use Rattle.std.specs.Str.{bytes_eq}
use Rattle.clap.specs.Simple.{subcommand_of}
use Rattle.clap.specs.Walk.{Row, first_of}
use Rattle.treasury_spelling.specs.Known.{known}
use Rattle.clap.specs.Kinds.{Kinds, IsAmong, or_else}
use Rattle.clap.specs.Faults.{fault_of}
use Rattle.clap.specs.declared.error.kind.ErrorKind.TheVariants.{DisplayHelp, DisplayVersion}
use Rattle.clap.specs.declared.error.kind.ErrorKind.TheVariants.{MissingRequiredArgument, ArgumentConflict}

-- the one of the known words that they name, with its values
unfoldable pub named : List (List ℕ) → Option (List ℕ × List Row)
named words = subcommand_of known words

-- what is wrong where a file and a port are given, or neither
abbrev pub place_kinds : Option (List ℕ) → Option (List ℕ) → Kinds
place_kinds None None = MissingRequiredArgument ∷ []
place_kinds (Some file) (Some port) = ArgumentConflict ∷ []
place_kinds _ _ = []

-- what is wrong with a word that is named, as each but `run` is over one file or through one service
abbrev pub place_objections : Option (List ℕ × List Row) → Kinds
place_objections None = []
place_objections (Some (word, values)) =
    if bytes_eq word (codes "run") then []
    else place_kinds (first_of (codes "db") values) (first_of (codes "at") values)

-- why these words, the program's name first, are not taken: no reason, or those of which one is given; what `clap`
-- objects to comes first
unfoldable pub objections : List (List ℕ) → Kinds
objections words = or_else (fault_of known words) (place_objections (named words))

-- they are taken
abbrev pub AreTaken : List (List ℕ) → Type 0
AreTaken words = objections words ≡ []

-- the words ask for a run
abbrev pub AskForRun : List (List ℕ) → Type 0
AskForRun words = AreTaken words × (option_map (λ p. p.0) (named words) ≡ Some (codes "run"))

-- the words ask for a word over a file, with these values
abbrev pub AskForWord : List (List ℕ) → List ℕ → List Row → Type 0
AskForWord words word values =
    AreTaken words × ((named words ≡ Some (word, values)) × (word ≢ codes "run") × (word ≢ codes "serve"))

-- the words ask for connections to be served, with these values
abbrev pub AskToServe : List (List ℕ) → List Row → Type 0
AskToServe words values = AreTaken words × (named words ≡ Some (codes "serve", values))

-- the words may ask for help, or for the version
abbrev pub MayAskForHelp : List (List ℕ) → Type 0
MayAskForHelp words = IsAmong DisplayHelp (objections words) ⊎ IsAmong DisplayVersion (objections words)
