-- The request that a word over a database file spells (own rule; docs/RULES.md, "The program"): the one that a line of
-- `run` spells whose keys have the word's values.
use Rattle.std.specs.Prelude.{◌≡◌, ◌<◌, ◌^◌, ◌⊎◌, ℕ, Bool, false, List, codes, Option, Some, None}
use Rattle.std.specs.Prelude.{option_and_then, is_some, not, if◌then◌else◌}
use Rattle.std.specs.List.{find}
use Rattle.std.specs.Option.{option_or}
use Rattle.std.specs.Str.{bytes_eq}
use Rattle.std.specs.Str.Parse.{IsNumeral, without_leading_plus, digits_value}
use Rattle.clap.specs.Walk.{Row, first_of}
use Rattle.journal_lines.specs.Number.{entry_count}
use Rattle.treasury_requests.specs.declared.words.Word.{Word}
use Rattle.treasury_requests.specs.declared.words.Key.{Key}
use Rattle.treasury_requests.specs.declared.words.Key.TheVariants as key
use Rattle.treasury_requests.specs.declared.request.Spelled.{Spelled}
use Rattle.treasury_requests.specs.declared.request.Terms.{Terms}
use Rattle.treasury_requests.specs.declared.request.Request.{Request}
use Rattle.treasury_requests.specs.Words.{key_name, all_words, is_word_named}
use Rattle.treasury_requests.specs.Request.{request_by}
use Rattle.treasury_spelling.specs.Known.{if_left_out}

-- a text is given, and is no count
abbrev pub is_no_count : Option (List ℕ) → Bool
is_no_count None = false
is_no_count (Some text) = not (is_some (entry_count text))

-- what says how many entries the branch has to have is given, and says no count
abbrev pub says_no_count : List Row → Bool
says_no_count rows = is_no_count (first_of (codes "if-entries") rows)

-- what is given at a key of the request of a word: the value of that name, or what is taken for it; a journal stands in
-- a file, so none is given
abbrev pub given_by : Word → List Row → Key → Option (List ℕ)
given_by w rows key.Journal = None
given_by w rows k = option_or (first_of (key_name k) rows) (if_left_out w k)

-- what any word spells but `init`, which spells none, and `import`, whose journal stands in a file
abbrev pub request_in : List ℕ → List Row → Option Request
request_in text rows =
    if says_no_count rows then None
    else option_and_then (λ w. request_by w (given_by w rows)) (find (is_word_named text) all_words)

-- the number that decimal digits write, where a plus may stand first
abbrev pub number_spelled : List ℕ → ℕ
number_spelled text = digits_value 10 (without_leading_plus text)

-- a number of a port, in decimal digits
abbrev pub IsPort : List ℕ → Type 0
IsPort text = IsNumeral 10 (without_leading_plus text) × (number_spelled text < 2 ^ 16)

-- that port is given
abbrev pub HasPort : ℕ → List Row → Type 0
HasPort port rows =
    (text : List ℕ) × (first_of (codes "at") rows ≡ Some text) × IsPort text × (port ≡ number_spelled text)

-- no port is given
abbrev pub LacksPort : List Row → Type 0
LacksPort rows =
    (first_of (codes "at") rows ≡ None)
    ⊎ ((text : List ℕ) × (first_of (codes "at") rows ≡ Some text) × (IsPort text → ⊥))

-- the value of a flag says that it is given
abbrev pub is_set : Option (List ℕ) → Bool
is_set None = false
is_set (Some text) = bytes_eq text (codes "true")

-- `--explain` is given
abbrev pub is_explained : List Row → Bool
is_explained rows = is_set (first_of (codes "explain") rows)

-- the terms that are given: `--dry-run`, and the count of `--if-entries`
abbrev pub terms_in : List Row → Terms
terms_in rows = record {
  is_dry_run = is_set (first_of (codes "dry-run") rows);
  if_entries = option_and_then entry_count (first_of (codes "if-entries") rows);
}

-- the request of a word, on these terms
abbrev pub given : Terms → Request → Spelled
given terms request = record { request = request; terms = terms }
