-- The words of `do`, and the keys of the request of each (own rule; docs/FORMATS.md, "Requests").
use Rattle.std.specs.Prelude.{ℕ, Bool, true, false, List, [], ◌∷◌, ◌++◌, Option, Some, None, codes}
use Rattle.std.specs.Str.{bytes_eq}
use Rattle.treasury_requests.specs.declared.words.Word.{Word}
use Rattle.treasury_requests.specs.declared.words.Word.TheVariants as word
use Rattle.treasury_requests.specs.declared.words.Key.{Key}
use Rattle.treasury_requests.specs.declared.words.Key.TheVariants as key
use Rattle.treasury_requests.specs.declared.words.WordKind.{WordKind}
use Rattle.treasury_requests.specs.declared.words.WordKind.TheVariants.{Command, Report}

-- a key as it is written
abbrev pub key_name : Key → List ℕ
key_name key.Do = codes "do"
key_name key.Name = codes "name"
key_name key.Sample = codes "sample"
key_name key.Branch = codes "branch"
key_name key.Journal = codes "journal"
key_name key.Id = codes "id"
key_name key.From = codes "from"
key_name key.To = codes "to"
key_name key.Day = codes "day"
key_name key.Amount = codes "amount"
key_name key.Account = codes "account"
key_name key.Part = codes "part"
key_name key.Accounts = codes "accounts"
key_name key.Into = codes "into"
key_name key.Tag = codes "tag"
key_name key.DryRun = codes "dry-run"
key_name key.IfEntries = codes "if-entries"

-- a row of the table: a word as it is written, the keys that its request has to have beside `do`, those that it may
-- have beside them, those of each path by which it is asked for over HTTP, and what it is
pub record WordRow : Type 0 where
  pub name : List ℕ
  pub needed : List Key
  pub further : List Key
  pub paths : List (List Key)
  pub kind : WordKind

-- a command on no book: it may be a dry run
abbrev pub command_row : List ℕ → List Key → WordRow
command_row name keys =
    record { name = name; needed = keys; further = key.DryRun ∷ []; paths = []; kind = Command None }

-- a command on the book of the branch at a key: it may look at the number of its entries, too
abbrev pub book_row : Key → List ℕ → List Key → List Key → WordRow
book_row of name keys more = record {
  name = name;
  needed = keys;
  further = more ++ key.DryRun ∷ key.IfEntries ∷ [];
  paths = [];
  kind = Command (Some of);
}

-- a report, with the keys of its path
abbrev pub report_row : List ℕ → List Key → List Key → List Key → WordRow
report_row name keys more path =
    record { name = name; needed = keys; further = more; paths = path ∷ []; kind = Report }

-- the table
abbrev pub word_row : Word → WordRow
word_row word.Branch = command_row (codes "branch") (key.Name ∷ [])
word_row word.Commodity = command_row (codes "commodity") (key.Sample ∷ [])
word_row word.Import = book_row key.Branch (codes "import") (key.Branch ∷ key.Journal ∷ []) []
word_row word.Dispatch = book_row key.From (codes "dispatch")
    (key.Id ∷ key.From ∷ key.To ∷ key.Day ∷ key.Amount ∷ key.Account ∷ []) []
word_row word.Receive = book_row key.Branch (codes "receive") (key.Id ∷ key.Branch ∷ key.Day ∷ key.Account ∷ [])
    (key.Part ∷ key.Amount ∷ [])
word_row word.Lock = book_row key.Branch (codes "lock") (key.Branch ∷ key.Day ∷ []) []
word_row word.Close = book_row key.Branch (codes "close") (key.Branch ∷ key.Day ∷ []) (key.Accounts ∷ key.Into ∷ [])
word_row word.Balance = report_row (codes "balance") (key.Branch ∷ key.Day ∷ []) [] (key.Branch ∷ key.Day ∷ [])
word_row word.Register = report_row (codes "register") (key.Branch ∷ key.Account ∷ []) (key.Tag ∷ key.From ∷ [])
    (key.Branch ∷ [])
word_row word.Transit = report_row (codes "transit") (key.Day ∷ []) [] (key.Day ∷ [])
word_row word.Journal = report_row (codes "journal") (key.Branch ∷ []) [] (key.Branch ∷ [])
word_row word.Branches = report_row (codes "branches") [] [] []
word_row word.Commodities = report_row (codes "commodities") [] [] []
word_row word.Accounts = report_row (codes "accounts") (key.Branch ∷ []) [] (key.Branch ∷ [])
word_row word.Transfers = report_row (codes "transfers") (key.Day ∷ []) [] (key.Day ∷ [])

-- a word as it is written
abbrev pub word_name : Word → List ℕ
word_name w = (word_row w).name

-- the keys that a request has to have beside `do`
abbrev pub needed : Word → List Key
needed w = (word_row w).needed

-- the keys that it may have beside those
abbrev pub further : Word → List Key
further w = (word_row w).further

-- the keys of each path by which it is asked for
abbrev pub paths : Word → List (List Key)
paths w = (word_row w).paths

-- whether what its request has at a key is a day
abbrev pub is_day_key : Word → Key → Bool
is_day_key w key.Day = true
is_day_key word.Register key.From = true
is_day_key w k = false

-- whether a word is a command, and on whose book, or a report
abbrev pub word_kind : Word → WordKind
word_kind w = (word_row w).kind

-- it is a report
abbrev pub is_report_word : WordKind → Bool
is_report_word (Command of) = false
is_report_word Report = true

-- the key of the branch on whose book it is a command
abbrev pub book_key : WordKind → Option Key
book_key (Command of) = of
book_key Report = None

-- each word, commands first
abbrev pub all_words : List Word
all_words = word.Branch ∷ word.Commodity ∷ word.Import ∷ word.Dispatch ∷ word.Receive ∷ word.Lock ∷ word.Close
    ∷ word.Balance ∷ word.Register ∷ word.Transit ∷ word.Journal ∷ word.Branches ∷ word.Commodities ∷ word.Accounts
    ∷ word.Transfers ∷ []

-- the word is written so
abbrev pub is_word_named : List ℕ → Word → Bool
is_word_named text w = bytes_eq (word_name w) text
