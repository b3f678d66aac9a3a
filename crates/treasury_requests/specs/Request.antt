-- The requests (own rule; docs/FORMATS.md, "Requests"): what each word asks for, by what is given at its keys, and
-- how a line spells it. A line is one JSON object, and each of its values is a text. What JSON is, `serde_json` says:
-- arrays and objects nest 127 deep, and of a key that is written twice the last one stays.
use Rattle.std.specs.Prelude.{◌≡◌, ℕ, Bool, not, ◌&&◌, if◌then◌else◌, List, codes, ⊤, true, false, IfSome}
use Rattle.std.specs.Prelude.{Option, Some, None, is_some, option_map, option_and_then}
use Rattle.std.specs.List.{find}
use Rattle.std.specs.Str.{bytes_eq, is_utf8}
use Rattle.serde_json.specs.Data.{Data}
use Rattle.serde_json.specs.Read.{read}
use Rattle.money_core.specs.declared.day.Day.{Day}
use Rattle.journal_lines.specs.Date.{IsDayNumber, printed_date}
use Rattle.journal_lines.specs.DateReading.{date_of}
use Rattle.journal_lines.specs.Number.{entry_count}
use Rattle.treasury_requests.specs.declared.words.Word.{Word}
use Rattle.treasury_requests.specs.declared.words.Word.TheVariants as word
use Rattle.treasury_requests.specs.declared.words.Key.{Key}
use Rattle.treasury_requests.specs.declared.words.Key.TheVariants as key
use Rattle.treasury_requests.specs.declared.request.WrittenPart.{WrittenPart}
use Rattle.treasury_requests.specs.declared.request.Terms.{Terms}
use Rattle.treasury_requests.specs.declared.request.Spelled.{Spelled}
use Rattle.treasury_requests.specs.declared.request.KeyValue.{KeyValue}
use Rattle.treasury_requests.specs.declared.request.KeyValue.TheVariants as key_value
use Rattle.treasury_requests.specs.declared.request.Request.{Request}
use Rattle.treasury_requests.specs.declared.request.Request.TheVariants.{Branch, Commodity, Import, Dispatch}
use Rattle.treasury_requests.specs.declared.request.Request.TheVariants.{Receive, Lock}
use Rattle.treasury_requests.specs.declared.request.Request.TheVariants.{Close, Balance, Register, Transit, Journal}
use Rattle.treasury_requests.specs.declared.request.Request.TheVariants.{Branches, Commodities, Accounts, Transfers}
use Rattle.treasury_requests.specs.Words.{word_kind, is_day_key, is_report_word, book_key, is_word_named, all_words}
use Rattle.treasury_requests.specs.Keys.{text_at, given_in, has_form}

-- the day that is given, where it is a date
abbrev pub day_by : (Key → Option (List ℕ)) → Option Day
day_by g = option_and_then date_of (g key.Day)

-- a day that may be given: none is, or it is a date
abbrev pub further_day : Option (List ℕ) → Option (Option Day)
further_day None = Some None
further_day (Some text) = option_map Some (date_of text)

-- what is given at the key of a day is no date
abbrev pub is_undated : Word → (Key → Option (List ℕ)) → Key → Bool
is_undated w g k = is_day_key w k && not (is_some (further_day (g k)))

-- a part, by its key and its amount
abbrev pub written_part : List ℕ → List ℕ → WrittenPart
written_part key amount = record { key = key; amount = amount }

-- a part by what is given of it: both of them, or neither
abbrev pub part_of : Option (List ℕ) → Option (List ℕ) → Option (Option WrittenPart)
part_of None None = Some None
part_of None (Some amount) = None
part_of (Some key) None = None
part_of (Some key) (Some amount) = Some (Some (written_part key amount))

-- the part that is given, if one is
abbrev pub part_by : (Key → Option (List ℕ)) → Option (Option WrittenPart)
part_by g = part_of (g key.Part) (g key.Amount)

-- the request of a word, by what is given at its keys: all that it needs is there
abbrev pub request_by : Word → (Key → Option (List ℕ)) → Option Request
request_by word.Branch g = option_map Branch (g key.Name)
request_by word.Commodity g = option_map Commodity (g key.Sample)
request_by word.Import g = option_and_then (λ branch. option_map (Import branch) (g key.Journal)) (g key.Branch)
request_by word.Dispatch g =
    option_and_then (λ id. option_and_then (λ from. option_and_then (λ to. option_and_then (λ day.
    option_and_then (λ amount. option_map (Dispatch id from to day amount) (g key.Account)) (g key.Amount))
    (day_by g)) (g key.To)) (g key.From)) (g key.Id)
request_by word.Receive g =
    option_and_then (λ part. option_and_then (λ id. option_and_then (λ branch. option_and_then (λ day.
    option_map (λ account. Receive id branch day account part) (g key.Account)) (day_by g)) (g key.Branch))
    (g key.Id)) (part_by g)
request_by word.Lock g = option_and_then (λ branch. option_map (Lock branch) (day_by g)) (g key.Branch)
request_by word.Close g =
    option_and_then (λ branch. option_map (λ day. Close branch day (g key.Accounts) (g key.Into)) (day_by g))
    (g key.Branch)
request_by word.Balance g = option_and_then (λ branch. option_map (Balance branch) (day_by g)) (g key.Branch)
request_by word.Register g =
    option_and_then (λ branch. option_and_then (λ account. option_map (Register branch account (g key.Tag))
    (further_day (g key.From))) (g key.Account)) (g key.Branch)
request_by word.Transit g = option_map Transit (day_by g)
request_by word.Journal g = option_map Journal (g key.Branch)
request_by word.Branches g = Some Branches
request_by word.Commodities g = Some Commodities
request_by word.Accounts g = option_map Accounts (g key.Branch)
request_by word.Transfers g = option_map Transfers (day_by g)

-- the word of a request
abbrev pub word_of : Request → Word
word_of (Branch name) = word.Branch
word_of (Commodity sample) = word.Commodity
word_of (Import branch journal) = word.Import
word_of (Dispatch id from to day amount account) = word.Dispatch
word_of (Receive id branch day account part) = word.Receive
word_of (Lock branch day) = word.Lock
word_of (Close branch day accounts into) = word.Close
word_of (Balance branch day) = word.Balance
word_of (Register branch account tag from) = word.Register
word_of (Transit day) = word.Transit
word_of (Journal branch) = word.Journal
word_of Branches = word.Branches
word_of Commodities = word.Commodities
word_of (Accounts branch) = word.Accounts
word_of (Transfers day) = word.Transfers

-- what a request gives at its keys
abbrev pub given_of : Request → Key → Option (List ℕ)
given_of (Branch name) key.Name = Some name
given_of (Commodity sample) key.Sample = Some sample
given_of (Import branch journal) key.Branch = Some branch
given_of (Import branch journal) key.Journal = Some journal
given_of (Dispatch id from to day amount account) key.Id = Some id
given_of (Dispatch id from to day amount account) key.From = Some from
given_of (Dispatch id from to day amount account) key.To = Some to
given_of (Dispatch id from to day amount account) key.Day = Some (printed_date day)
given_of (Dispatch id from to day amount account) key.Amount = Some amount
given_of (Dispatch id from to day amount account) key.Account = Some account
given_of (Receive id branch day account part) key.Id = Some id
given_of (Receive id branch day account part) key.Branch = Some branch
given_of (Receive id branch day account part) key.Day = Some (printed_date day)
given_of (Receive id branch day account part) key.Account = Some account
given_of (Receive id branch day account part) key.Part = option_map (λ p. p.key) part
given_of (Receive id branch day account part) key.Amount = option_map (λ p. p.amount) part
given_of (Lock branch day) key.Branch = Some branch
given_of (Lock branch day) key.Day = Some (printed_date day)
given_of (Close branch day accounts into) key.Branch = Some branch
given_of (Close branch day accounts into) key.Day = Some (printed_date day)
given_of (Close branch day accounts into) key.Accounts = accounts
given_of (Close branch day accounts into) key.Into = into
given_of (Balance branch day) key.Branch = Some branch
given_of (Balance branch day) key.Day = Some (printed_date day)
given_of (Register branch account tag from) key.Branch = Some branch
given_of (Register branch account tag from) key.Account = Some account
given_of (Register branch account tag from) key.Tag = tag
given_of (Register branch account tag from) key.From = option_map printed_date from
given_of (Transit day) key.Day = Some (printed_date day)
given_of (Journal branch) key.Branch = Some branch
given_of (Accounts branch) key.Branch = Some branch
given_of (Transfers day) key.Day = Some (printed_date day)
given_of request k = None

-- a report is asked for, not a command
abbrev pub is_report : Request → Bool
is_report request = is_report_word (word_kind (word_of request))

-- the branch on whose book the request is a command: that which takes entries, or is locked
abbrev pub branch_asked : Request → Option (List ℕ)
branch_asked request = option_and_then (given_of request) (book_key (word_kind (word_of request)))

-- the request is a command on a branch's book
abbrev pub is_on_a_book : Request → Bool
is_on_a_book request = is_some (branch_asked request)

-- `yes` and `no`, and no other text, say whether it is a dry run
abbrev pub yes_or_no : List ℕ → Option Bool
yes_or_no text =
    if bytes_eq text (codes "yes") then Some true
    else if bytes_eq text (codes "no") then Some false
    else None

-- the request in earnest, whatever its branch has
abbrev pub in_earnest : Request → Spelled
in_earnest request = record { request = request; terms = record { is_dry_run = false; if_entries = None } }

-- whether it is a dry run, by what is given at that key
abbrev pub dry_run_by : Option (List ℕ) → Option Bool
dry_run_by None = Some false
dry_run_by (Some text) = yes_or_no text

-- how many entries the branch has to have, by what is given at that key
abbrev pub if_entries_by : Option (List ℕ) → Option (Option ℕ)
if_entries_by None = Some None
if_entries_by (Some text) = option_map Some (entry_count text)

-- the terms that are given
abbrev pub terms_by : (Key → Option (List ℕ)) → Option Terms
terms_by g =
    option_and_then (λ dry. option_map (λ entries. record { is_dry_run = dry; if_entries = entries })
    (if_entries_by (g key.IfEntries))) (dry_run_by (g key.DryRun))

-- the request of a word, and the terms, that are given
abbrev pub spelled_by : Word → (Key → Option (List ℕ)) → Option Spelled
spelled_by w g =
    option_and_then (λ terms. option_map (λ request. record { request = request; terms = terms }) (request_by w g))
    (terms_by g)

-- the word that stands at `do`
abbrev pub word_in : Data → Option Word
word_in d = option_and_then (λ text. find (is_word_named text) all_words) (text_at (codes "do") d)

-- the request that an object is, and on what terms
abbrev pub request_of : Data → Option Spelled
request_of d = option_and_then (λ w. if has_form w d then spelled_by w (given_in d) else None) (word_in d)

-- the request that bytes spell: they are UTF-8, and JSON of one of the forms
unfoldable pub spelled : List ℕ → Option Spelled
spelled bytes = if is_utf8 bytes then option_and_then request_of (read bytes) else None

-- each day of the request is one of the years 1 to 9999
abbrev pub HasDayNumbers : Request → Type 0
HasDayNumbers (Dispatch id from to day amount account) = IsDayNumber day
HasDayNumbers (Receive id branch day account part) = IsDayNumber day
HasDayNumbers (Lock branch day) = IsDayNumber day
HasDayNumbers (Close branch day accounts into) = IsDayNumber day
HasDayNumbers (Balance branch day) = IsDayNumber day
HasDayNumbers (Register branch account tag from) = IfSome from IsDayNumber
HasDayNumbers (Transit day) = IsDayNumber day
HasDayNumbers (Transfers day) = IsDayNumber day
HasDayNumbers _ = ⊤

-- what stands at a key, as a text
abbrev pub key_value_text : KeyValue → List ℕ
key_value_text (key_value.Text text) = text.now
key_value_text (key_value.Day day) = printed_date day
key_value_text (key_value.Journal bytes) = bytes.now

-- a day is of the years 1 to 9999, and a journal stands at its own key
abbrev pub IsValueAt : Key → KeyValue → Type 0
IsValueAt k (key_value.Text text) = ⊤
IsValueAt k (key_value.Day day) = IsDayNumber day
IsValueAt k (key_value.Journal bytes) = k ≡ key.Journal
