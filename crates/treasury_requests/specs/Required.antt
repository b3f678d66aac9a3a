-- The requests that are required of a treasury (docs/DECISIONS.md, "New names must have been refused before"): each is
-- one JSON object. Whatever else this treasury takes, they mean the same.
use Rattle.std.specs.Prelude.{◌≡◌, ◌⊎◌, ℕ, Bool, false, ◌&&◌, ◌||◌, if◌then◌else◌, List, [], ◌∷◌, codes}
use Rattle.std.specs.Prelude.{Option, Some, None, is_some, option_map, option_and_then, Result, Ok, Err}
use Rattle.std.specs.List.{find, list_any, list_all}
use Rattle.std.specs.Option.{option_map_or}
use Rattle.std.specs.Str.{bytes_eq, is_utf8}
use Rattle.serde_json.specs.Data.{Data}
use Rattle.serde_json.specs.Read.{read}
use Rattle.money_core.specs.declared.cause.Cause.{Cause}
use Rattle.money_core.specs.declared.cause.Cause.TheVariants as cause
use Rattle.journal_lines.specs.DateReading.{date_of}
use Rattle.treasury_requests.specs.declared.request.Request.{Request}
use Rattle.treasury_requests.specs.declared.request.Request.TheVariants.{Branch, Commodity, Import, Dispatch}
use Rattle.treasury_requests.specs.declared.request.Request.TheVariants.{Receive, Lock}
use Rattle.treasury_requests.specs.declared.request.Request.TheVariants.{Close, Balance, Register, Transit, Journal}
use Rattle.treasury_requests.specs.declared.request.Spelled.{Spelled}
use Rattle.treasury_requests.specs.Keys.{text_at, member_names}
use Rattle.treasury_requests.specs.Request.{part_of, in_earnest}

-- a form: the text at `do`, the keys that may stand beside it, and the request that the texts there make, if they do
pub record RequiredForm : Type 0 where
  pub word : List ℕ
  pub keys : List (List ℕ)
  pub request : Option Request

-- a form
abbrev pub required_form : List ℕ → List (List ℕ) → Option Request → RequiredForm
required_form word keys request = record { word = word; keys = keys; request = request }

-- all of them, by the text at each key
abbrev pub required_forms : (List ℕ → Option (List ℕ)) → List RequiredForm
required_forms at =
    let id = at (codes "id") in
    let branch = at (codes "branch") in
    let account = at (codes "account") in
    let amount = at (codes "amount") in
    let day = option_and_then date_of (at (codes "day")) in
    let of_branch = λ (make : List ℕ → Option Request). option_and_then make branch in
    required_form (codes "branch") (codes "name" ∷ []) (option_map Branch (at (codes "name")))
    ∷ required_form (codes "commodity") (codes "sample" ∷ []) (option_map Commodity (at (codes "sample")))
    ∷ required_form (codes "import") (codes "branch" ∷ codes "journal" ∷ [])
    (of_branch (λ branch. option_map (Import branch) (at (codes "journal"))))
    ∷ required_form (codes "dispatch")
    (codes "id" ∷ codes "from" ∷ codes "to" ∷ codes "day" ∷ codes "amount" ∷ codes "account" ∷ [])
    (option_and_then (λ id. option_and_then (λ from. option_and_then (λ to. option_and_then (λ day.
    option_and_then (λ amount. option_map (Dispatch id from to day amount) account) amount) day) (at (codes "to")))
    (at (codes "from"))) id)
    ∷ required_form (codes "receive")
    (codes "id" ∷ codes "branch" ∷ codes "day" ∷ codes "account" ∷ codes "part" ∷ codes "amount" ∷ [])
    (option_and_then (λ part. option_and_then (λ id. of_branch (λ branch. option_and_then (λ day.
    option_map (λ account. Receive id branch day account part) account) day)) id) (part_of (at (codes "part")) amount))
    ∷ required_form (codes "lock") (codes "branch" ∷ codes "day" ∷ [])
    (of_branch (λ branch. option_map (Lock branch) day))
    ∷ required_form (codes "close") (codes "branch" ∷ codes "day" ∷ codes "accounts" ∷ codes "into" ∷ [])
    (of_branch (λ branch. option_map (λ day. Close branch day (at (codes "accounts")) (at (codes "into"))) day))
    ∷ required_form (codes "balance") (codes "branch" ∷ codes "day" ∷ [])
    (of_branch (λ branch. option_map (Balance branch) day))
    ∷ required_form (codes "register") (codes "branch" ∷ codes "account" ∷ codes "tag" ∷ [])
    (of_branch (λ branch. option_map (λ account. Register branch account (at (codes "tag")) None) account))
    ∷ required_form (codes "transit") (codes "day" ∷ []) (option_map Transit day)
    ∷ required_form (codes "journal") (codes "branch" ∷ []) (option_map Journal branch)
    ∷ []

-- each key of the object is `do` or one of these, and has a text
abbrev pub has_only : List (List ℕ) → Data → Bool
has_only keys d =
    list_all (λ name. list_any (bytes_eq name) (codes "do" ∷ keys) && is_some (text_at name d)) (member_names d)

-- the form whose word that is
abbrev pub form_named : Data → List ℕ → Option RequiredForm
form_named d word = find (λ form. bytes_eq form.word word) (required_forms (λ key. text_at key d))

-- the required request that an object is
abbrev pub required_of : Data → Option Request
required_of d =
    option_and_then (λ form. if has_only form.keys d then form.request else None)
    (option_and_then (form_named d) (text_at (codes "do") d))

-- the required request that bytes are
unfoldable pub required : List ℕ → Option Request
required bytes = if is_utf8 bytes then option_and_then required_of (read bytes) else None

-- the words that this treasury adds
abbrev pub added_words : List (List ℕ)
added_words = codes "branches" ∷ codes "commodities" ∷ codes "accounts" ∷ codes "transfers" ∷ []

-- the keys that it adds to those of a word: those of terms, and to a register the day from which on it is asked for
abbrev pub added_keys : List ℕ → List (List ℕ)
added_keys word =
    codes "dry-run" ∷ codes "if-entries" ∷ (if bytes_eq word (codes "register") then codes "from" ∷ [] else [])

-- one of them stands in the object of a word
abbrev pub has_added_key : List ℕ → Data → Bool
has_added_key word d = list_any (λ name. list_any (bytes_eq name) (added_keys word)) (member_names d)

-- the object has an added word, or a key that is added to those of its word
abbrev pub has_addition : Data → Bool
has_addition d =
    option_map_or (λ word. list_any (bytes_eq word) added_words || has_added_key word d) (text_at (codes "do") d) false

-- one of them stands in the bytes
abbrev pub adds : List ℕ → Bool
adds bytes = option_map_or has_addition (read bytes) false

-- the answer to bytes keeps what is required: a required request is that request, in earnest and whatever its branch
-- has; and what is none, and has nothing that is added, is refused with 44. Either may be 40
pub record KeepsRequired (bytes : List ℕ) (answer : Result Spelled Cause) : Type 0 where
  pub same : (request : Request) → required bytes ≡ Some request
      → (answer ≡ Ok (in_earnest request)) ⊎ (answer ≡ Err cause.OutOfMemory)
  pub refused : required bytes ≡ None → adds bytes ≡ false
      → (answer ≡ Err cause.Request) ⊎ (answer ≡ Err cause.OutOfMemory)
