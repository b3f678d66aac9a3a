-- The words that the program knows (own rule; docs/RULES.md, "The program"), as `clap` reads them.
use Rattle.std.specs.Prelude.{ℕ, ℤ, pos, Bool, true, false, ◌&&◌, not, codes, List, [], ◌∷◌, ◌++◌, map}
use Rattle.std.specs.Prelude.{Option, Some, None, is_some}
use Rattle.clap.specs.Walk.{Rule}
use Rattle.clap.specs.Simple.{App, Shape, new_rule, new_shape}
use Rattle.clap.specs.declared.builder.value_parser.ValueParser.TheVariants.{Signed}
use Rattle.clap.specs.declared.builder.action.ArgAction.TheVariants.{SetTrue}
use Rattle.treasury_requests.specs.declared.words.Word.{Word}
use Rattle.treasury_requests.specs.declared.words.Word.TheVariants as word
use Rattle.treasury_requests.specs.declared.words.Key.{Key}
use Rattle.treasury_requests.specs.declared.words.Key.TheVariants as key
use Rattle.treasury_requests.specs.Words.{key_name, word_name, needed, further}

-- an option that may be given, `--NAME VALUE`
abbrev pub optional : List ℕ → Rule
optional name = record (new_rule name) { long = Some name; value_names = 1 }

-- an option that may be given, with a whole number from the least to the most
abbrev pub number : List ℕ → ℤ → ℤ → Rule
number name least most = record (optional name) { parser = Some (Signed least most) }

-- a value without an option's name that has to be given
abbrev pub operand : List ℕ → Rule
operand name = record (new_rule name) { value_names = 1; required = true }

-- a flag that may be given, `--NAME`
abbrev pub flag : List ℕ → Rule
flag name = record (new_rule name) { long = Some name; action = Some SetTrue }

-- what a word takes for a value that is left out: a balance without a day is that through the last day there is
abbrev pub if_left_out : Word → Key → Option (List ℕ)
if_left_out word.Balance key.Day = Some (codes "9999-12-31")
if_left_out w k = None

-- how a key of a word's request is given: a dry run by a flag, a new name, a sample and a journal by a value without
-- an option's name, and the others by options; such an option is needed if the request needs the key, and nothing is
-- taken for it
abbrev pub argument : Word → Bool → Key → Rule
argument w is_needed key.DryRun = flag (key_name key.DryRun)
argument w is_needed key.Name = operand (key_name key.Name)
argument w is_needed key.Sample = operand (key_name key.Sample)
argument w is_needed key.Journal = operand (key_name key.Journal)
argument w is_needed k = record (optional (key_name k)) { required = is_needed && not (is_some (if_left_out w k)) }

-- a word over a database file, or through the service that has it: `--db FILE` or `--at PORT`, and what else it takes
abbrev pub placed_shape : List ℕ → List Rule → Shape
placed_shape name rules = record (new_shape name) {
  rules = optional (codes "db") ∷ number (codes "at") (pos 1) (pos 65535) ∷ rules;
}

-- the word of a request: the keys that the request needs, and those that it may have
abbrev pub request_shape : Word → Shape
request_shape w =
    placed_shape (word_name w) (map (argument w true) (needed w) ++ map (argument w false) (further w))

-- a word over a database file alone: `--db FILE`, and what else it takes
abbrev pub file_shape : List ℕ → List Rule → Shape
file_shape name rules = record (new_shape name) {
  rules = record (optional (codes "db")) { required = true } ∷ rules;
}

-- the word that answers over HTTP: `--port PORT`, and at most `--requests N` connections
abbrev pub serve_shape : Shape
serve_shape = file_shape (codes "serve")
    (record (number (codes "port") (pos 0) (pos 65535)) { required = true }
    ∷ number (codes "requests") (pos 0) (pos 4294967295) ∷ [])

-- the word that is over no file, with `--explain`
abbrev pub run_shape : Shape
run_shape = record (new_shape (codes "run")) { rules = flag (codes "explain") ∷ [] }

-- the words of requests in the order of a treasurer's year
abbrev pub year : List Word
year = word.Branch ∷ word.Branches ∷ word.Commodity ∷ word.Commodities ∷ word.Import ∷ word.Accounts ∷ word.Balance
    ∷ word.Register ∷ word.Dispatch ∷ word.Receive ∷ word.Transfers ∷ word.Transit ∷ word.Lock ∷ word.Close
    ∷ word.Journal ∷ []

-- the words that the program knows: it has a version, and one of its words has to be given
abbrev pub known : App
known = record {
  top = record (new_shape (codes "treasury")) {
    has_version = true;
    arg_required_else_help = true;
    subcommand_required = true;
    is_leaf = false;
  };
  subs = file_shape (codes "init") [] ∷ map request_shape year ++ serve_shape ∷ run_shape ∷ [];
}
