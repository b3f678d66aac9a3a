-- What the answer of `clap` says of the words.
use Rattle.std.specs.Prelude.{Option, Some, None, option_map, Box}
use Rattle.std.specs.Box.{box_value}
use Rattle.clap.specs.Walk.{Row}
use Rattle.clap.specs.Matches.{subcommand_name_of}
use Rattle.clap.specs.Simple.{HasMatchesOf, is_simple, subcommand_of, subcommand_rows, subcommand_rows_of}
use Rattle.clap.specs.declared.parser.matches.ArgMatches.{ArgMatches}
use Rattle.clap.specs.declared.parser.matches.ArgMatches.TheViews.{out-ArgMatches, out-SubCommand}
use Rattle.clap.specs.declared.parser.matches.SubCommand.{SubCommand}
use Rattle.treasury_spelling.specs.Known.{known}
use Rattle.std.proofs.Common.{◌≡◌, ℕ, true, List, [], ◌∷◌, ap, refl, sym}
use Rattle.std.proofs.Common.{◌∙◌, subst, inl, inr, ◌⊎◌}
use Rattle.std.proofs.lemmas.Option.{same_Some}
use Rattle.clap.specs.Simple.{App}
use Rattle.clap.specs.Kinds.{Kinds, IsAmong, or_else}
use Rattle.clap.specs.Faults.{fault_of, is_simple_and_free}
use Rattle.clap.specs.Values.{kind_of}
use Rattle.clap.specs.declared.error.Error.{Error}
use Rattle.clap.specs.declared.error.kind.ErrorKind.{ErrorKind}
use Rattle.clap.specs.declared.error.kind.ErrorKind.TheVariants.{OutOfMemory, DisplayHelp, DisplayVersion}
use Rattle.clap.proofs.OnLiterals.{clap_on_literals}
use Rattle.treasury_spelling.specs.Words.{objections, place_objections, named, AreTaken, AskForRun, MayAskForHelp}

known_is_simple : is_simple_and_free known ≡ true
unfolding clap_on_literals
known_is_simple = refl

none_before : (kinds rest : Kinds) → kinds ≡ [] → or_else kinds rest ≡ rest
none_before kinds rest none = ap (λ k. or_else k rest) none

-- words that clap takes are objected to for the place alone
only_place : (app : App) (words : List (List ℕ)) → app ≡ known
    → (is_simple_and_free app ≡ true → fault_of app words ≡ []) → objections words ≡ place_objections (named words)
unfolding objections
only_place app words is none =
    none_before (fault_of known words) (place_objections (named words))
    (ap (λ a. fault_of a words) (sym is) ∙ none (ap is_simple_and_free is ∙ known_is_simple))

-- what clap takes, and names one place, is taken
pub words_taken : (app : App) (words : List (List ℕ)) (m : ArgMatches) → app ≡ known
    → (is_simple_and_free app ≡ true → fault_of app words ≡ []) → named words ≡ subcommand_rows_of m
    → [] ≡ place_objections (subcommand_rows_of m) → AreTaken words
words_taken app words m is none met placed =
    only_place app words is none ∙ (ap place_objections met ∙ sym placed)

-- what clap takes, and names no place or two, is objected to by that
pub words_misplaced : (app : App) (words : List (List ℕ)) (m : ArgMatches) (kind : ErrorKind) → app ≡ known
    → (is_simple_and_free app ≡ true → fault_of app words ≡ []) → named words ≡ subcommand_rows_of m
    → kind ∷ [] ≡ place_objections (subcommand_rows_of m) → objections words ≡ kind ∷ []
words_misplaced app words m kind is none met placed =
    only_place app words is none ∙ (ap place_objections met ∙ sym placed)

pub misplaced_fails : (words : List (List ℕ)) (kind : ErrorKind) (error : Error) → objections words ≡ kind ∷ []
    → (kind_of error ≡ OutOfMemory) ⊎ (kind_of error ≡ kind)
    → (kind_of error ≡ OutOfMemory) ⊎ IsAmong (kind_of error) (objections words)
misplaced_fails words kind error is (inl memory) = inl memory
misplaced_fails words kind error is (inr same) = inr (subst (IsAmong (kind_of error)) (sym is) (inl same))

among_first : (kind : ErrorKind) (kinds rest : Kinds) → IsAmong kind kinds → IsAmong kind (or_else kinds rest)
among_first kind [] rest among = absurd among
among_first kind (x ∷ xs) rest among = among

words_objected : (kind : ErrorKind) (words : List (List ℕ)) → IsAmong kind (fault_of known words)
    → IsAmong kind (objections words)
unfolding objections
words_objected kind words among = among_first kind (fault_of known words) (place_objections (named words)) among

-- words that clap does not take fail for want of memory, or by one of the objections to them
pub fails_by : (app : App) (words : List (List ℕ)) (kind : ErrorKind) → app ≡ known
    → (is_simple_and_free app ≡ true → (kind ≡ OutOfMemory) ⊎ IsAmong kind (fault_of app words))
    → (kind ≡ OutOfMemory) ⊎ IsAmong kind (objections words)
fails_by app words kind is fails = widened (fails (ap is_simple_and_free is ∙ known_is_simple)) where
  widened : (kind ≡ OutOfMemory) ⊎ IsAmong kind (fault_of app words)
      → (kind ≡ OutOfMemory) ⊎ IsAmong kind (objections words)
  widened (inl memory) = inl memory
  widened (inr among) = inr (words_objected kind words (subst (λ a. IsAmong kind (fault_of a words)) is among))

-- words that are taken fail only for want of memory
pub taken_fails : (words : List (List ℕ)) (kind : ErrorKind) → (kind ≡ OutOfMemory) ⊎ IsAmong kind (objections words)
    → AreTaken words → kind ≡ OutOfMemory
taken_fails words kind (inl memory) asks = memory
taken_fails words kind (inr among) asks = absurd (subst (IsAmong kind) asks among)

pub run_fails : (words : List (List ℕ)) (kind : ErrorKind) → (kind ≡ OutOfMemory) ⊎ IsAmong kind (objections words)
    → AskForRun words → kind ≡ OutOfMemory
run_fails words kind fails asks = taken_fails words kind fails asks.0

-- the word that a parse met is the one that the words name
name_of : {Z : Type 0} (o : Option (Box SubCommand Z))
    → option_map (λ (p : List ℕ × List Row). p.0) (subcommand_rows o)
    ≡ option_map (λ b. (out-SubCommand (box_value b)).name.now) o
name_of None = refl
name_of (Some b) = refl

known_is_plain : is_simple known ≡ true
unfolding clap_on_literals
known_is_plain = refl

pub named_by : (words : List (List ℕ)) (m : ArgMatches) → named words ≡ subcommand_rows_of m
    → option_map (λ (p : List ℕ × List Row). p.0) (named words) ≡ subcommand_name_of m
named_by words m met =
    ap (λ (o : Option (List ℕ × List Row)). option_map (λ (p : List ℕ × List Row). p.0) o) met ∙ name_of
    (out-ArgMatches m).subcommand

-- and so are its values
pub named_rows : (app : App) (words : List (List ℕ)) (m : ArgMatches) → app ≡ known → HasMatchesOf app words m
    → named words ≡ subcommand_rows_of m
unfolding named
named_rows app words m is matches =
    ap (λ (a : App). subcommand_of a words) (sym is) ∙ sym (matches (ap is_simple is ∙ known_is_plain)).1

-- a parse that met a word with its values met that word
pub met_name : (m : ArgMatches) (word : List ℕ) (values : List Row) → subcommand_rows_of m ≡ Some (word, values)
    → subcommand_name_of m ≡ Some word
met_name m word values met =
    sym (name_of (out-ArgMatches m).subcommand) ∙ ap
    (λ (o : Option (List ℕ × List Row)). option_map (λ (p : List ℕ × List Row). p.0) o) met

-- and what is lent of it is that word, with those values
pub met_word : (m : ArgMatches) (word lent : List ℕ) (values rows : List Row)
    → subcommand_rows_of m ≡ Some (word, values) → Some lent ≡ subcommand_name_of m
    → Some rows ≡ option_map (λ (p : List ℕ × List Row). p.1) (subcommand_rows_of m) → (lent ≡ word) × (rows ≡ values)
met_word m word lent values rows met named found = (
  same_Some lent word (named ∙ met_name m word values met),
  same_Some rows values (found ∙ ap (λ (o : Option (List ℕ × List Row)). option_map (λ (p : List ℕ × List Row). p.1) o)
      met),
)

-- the kinds whose text is written to the output
abbrev pub IsShown : ErrorKind → Type 0
IsShown kind = (kind ≡ DisplayHelp) ⊎ (kind ≡ DisplayVersion)

shown_is_no_want : (kind : ErrorKind) → IsShown kind → kind ≡ OutOfMemory → ⊥
shown_is_no_want kind (inl help) memory = let clash : DisplayHelp ≡ OutOfMemory = sym help ∙ memory in absurd cc
shown_is_no_want kind (inr version) memory =
    let clash : DisplayVersion ≡ OutOfMemory = sym version ∙ memory in absurd cc

-- help and the version are shown only to words that may ask for them
pub help_shown : (words : List (List ℕ)) (kind : ErrorKind) → (kind ≡ OutOfMemory) ⊎ IsAmong kind (objections words)
    → IsShown kind → MayAskForHelp words
help_shown words kind (inl memory) shown = absurd (shown_is_no_want kind shown memory)
help_shown words kind (inr among) (inl help) = inl (subst (λ k. IsAmong k (objections words)) help among)
help_shown words kind (inr among) (inr version) = inr (subst (λ k. IsAmong k (objections words)) version among)

-- and never to words that are taken
pub taken_shows_none : (words : List (List ℕ)) (kind : ErrorKind)
    → (kind ≡ OutOfMemory) ⊎ IsAmong kind (objections words) → IsShown kind → AreTaken words → ⊥
taken_shows_none words kind fails shown asks = shown_is_no_want kind shown (taken_fails words kind fails asks)
