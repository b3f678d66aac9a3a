-- Why bytes are no request: the first of these faults (own rule; docs/FORMATS.md, "Requests").
use Rattle.std.specs.Prelude.{◌≡◌, ℕ, ◌+◌, Bool, true, false, if◌then◌else◌, List}
use Rattle.std.specs.Prelude.{Option, Some, None, is_some, option_map, option_and_then}
use Rattle.std.specs.List.{find}
use Rattle.std.specs.Option.{option_or, unwrap_or, IsSome}
use Rattle.std.specs.Str.{IsUtf8, IsValidUpTo}
use Rattle.serde_json.specs.Data.{Data, null, boolean, number, string, array, object}
use Rattle.serde_json.specs.Read.{read}
use Rattle.journal_lines.specs.Number.{entry_count}
use Rattle.treasury_requests.specs.declared.words.Word.{Word}
use Rattle.treasury_requests.specs.declared.words.Word.TheVariants as word
use Rattle.treasury_requests.specs.declared.words.Key.{Key}
use Rattle.treasury_requests.specs.declared.words.Key.TheVariants as key
use Rattle.treasury_requests.specs.declared.fault.Kind.{Kind}
use Rattle.treasury_requests.specs.declared.fault.Kind.TheVariants as kind
use Rattle.treasury_requests.specs.declared.fault.RequestFault.{RequestFault}
use Rattle.treasury_requests.specs.declared.fault.RequestFault.TheVariants as by
use Rattle.treasury_requests.specs.Keys.{text_at, given_in, value_at, has_member, lacks_key, is_odd, keys_of, may_have}
use Rattle.treasury_requests.specs.Keys.{other_key}
use Rattle.treasury_requests.specs.Request.{is_undated, yes_or_no, spelled}
use Rattle.treasury_requests.specs.Words.{key_name, all_words, is_word_named, needed, further}

-- what a value is
abbrev pub kind_of_data : Data → Kind
kind_of_data null = kind.Null
kind_of_data (boolean b) = kind.Boolean
kind_of_data (number n) = kind.Number
kind_of_data (string s) = kind.String
kind_of_data (array ds) = kind.Array
kind_of_data (object ms) = kind.Object

-- what a value is that is no string
abbrev pub odd_kind : Data → Option Kind
odd_kind null = Some kind.Null
odd_kind (boolean b) = Some kind.Boolean
odd_kind (number n) = Some kind.Number
odd_kind (string s) = None
odd_kind (array ds) = Some kind.Array
odd_kind (object ms) = Some kind.Object

-- what the value at a key is, if it is no string
abbrev pub odd_kind_at : Data → Key → Option Kind
odd_kind_at d k = option_and_then odd_kind (value_at d k)

-- a key is missing that it has to have
abbrev pub missing_fault : Word → Data → Option RequestFault
missing_fault w d = option_map (λ k. by.MissingKey w k (other_key w d)) (find (lacks_key d) (needed w))

-- the value of one of its keys is no string
abbrev pub odd_fault_at : Data → Key → Option RequestFault
odd_fault_at d k = option_map (by.ValueOfKind k) (odd_kind_at d k)

-- the first of these keys whose value is no string
abbrev pub odd_fault_in : Data → List Key → Option RequestFault
odd_fault_in d ks = option_and_then (odd_fault_at d) (find (is_odd d) ks)

-- the same of the keys that a word needs, and then of those that it may have
abbrev pub odd_fault : Word → Data → Option RequestFault
odd_fault w d = option_or (odd_fault_in d (needed w)) (odd_fault_in d (further w))

-- the text at a key that the request of a word may have
abbrev pub own_text_at : Word → Data → Key → Option (List ℕ)
own_text_at w d k = if may_have w (key_name k) then text_at (key_name k) d else None

-- what stands at the key of a day is no date
abbrev pub date_fault_at : Data → Key → Option RequestFault
date_fault_at d k = option_map (by.NoDate k) (given_in d k)

-- the first of its days that is no date
abbrev pub date_fault : Word → Data → Option RequestFault
date_fault w d = option_and_then (date_fault_at d) (find (is_undated w (given_in d)) (keys_of w))

-- a receipt has one of two keys that only go together
abbrev pub half_of : Option (List ℕ) → Bool → Bool → Option RequestFault
half_of other true true = None
half_of other true false = Some (by.Half key.Part key.Amount other)
half_of other false true = Some (by.Half key.Amount key.Part other)
half_of other false false = None

-- the word is that of a receipt
abbrev pub is_receipt : Word → Bool
is_receipt word.Receive = true
is_receipt _ = false

-- a receipt has only one of `part` and `amount`
abbrev pub half_fault : Word → Data → Option RequestFault
half_fault w d =
    if is_receipt w then half_of (other_key w d) (has_member d key.Part) (has_member d key.Amount) else None

-- what says whether it is a dry run says neither
abbrev pub choice_fault_in : List ℕ → Option RequestFault
choice_fault_in text = if is_some (yes_or_no text) then None else Some (by.NoChoice text)

-- the value of `dry-run` is neither yes nor no
abbrev pub choice_fault : Word → Data → Option RequestFault
choice_fault w d = option_and_then choice_fault_in (own_text_at w d key.DryRun)

-- what says how many entries the branch has to have says no count
abbrev pub count_fault_in : List ℕ → Option RequestFault
count_fault_in text = if is_some (entry_count text) then None else Some (by.NoCount text)

-- the value of `if-entries` is no count
abbrev pub count_fault : Word → Data → Option RequestFault
count_fault w d = option_and_then count_fault_in (own_text_at w d key.IfEntries)

-- the first fault of the keys beside `do` and of their values; if it is none of the others, there are keys that the
-- request may not have
abbrev pub keys_fault : Word → Data → RequestFault
keys_fault w d =
    unwrap_or (option_or (missing_fault w d) (option_or (half_fault w d) (option_or (odd_fault w d)
    (option_or (date_fault w d) (option_or (choice_fault w d) (count_fault w d))))))
    (by.OtherKeys w (other_key w d))

-- the first fault of an object in which `do` has that text
abbrev pub word_fault : Data → List ℕ → Option Word → RequestFault
word_fault d text None = by.UnknownWord text
word_fault d text (Some w) = keys_fault w d

-- the same where `do` has that value, if it is there
abbrev pub do_fault : Data → Option Data → RequestFault
do_fault d None = by.NoWord
do_fault d (Some null) = by.WordOfKind kind.Null
do_fault d (Some (boolean b)) = by.WordOfKind kind.Boolean
do_fault d (Some (number n)) = by.WordOfKind kind.Number
do_fault d (Some (string s)) = word_fault d s (find (is_word_named s) all_words)
do_fault d (Some (array ds)) = by.WordOfKind kind.Array
do_fault d (Some (object ms)) = by.WordOfKind kind.Object

-- the first fault of a value that is no request
abbrev pub value_fault : Data → RequestFault
value_fault null = by.NotAnObject kind.Null
value_fault (boolean b) = by.NotAnObject kind.Boolean
value_fault (number n) = by.NotAnObject kind.Number
value_fault (string s) = by.NotAnObject kind.String
value_fault (array ds) = by.NotAnObject kind.Array
value_fault (object ms) = do_fault (object ms) (value_at (object ms) key.Do)

-- bytes that are no request have this first fault: they are no UTF-8 from the byte on that ends the last part that is;
-- they are no JSON, at some place; or they are the value that has it
pub record HasFault (bytes : List ℕ) (fault : RequestFault) : Type 0 where
  pub no_request : spelled bytes ≡ None
  pub no_utf8 : ¬ (IsUtf8 bytes) → (n : ℕ) × IsValidUpTo bytes n × (fault ≡ by.NotUtf8 (n + 1))
  pub no_json : IsUtf8 bytes → read bytes ≡ None
      → (line : ℕ) × (byte : ℕ) × (cut : Bool) × (fault ≡ by.NotJson line byte cut)
  pub value : (d : Data) → IsUtf8 bytes → read bytes ≡ Some d → fault ≡ value_fault d

-- the first fault of bytes, if they are no request
abbrev pub IsFirstRequestFault : List ℕ → Option RequestFault → Type 0
IsFirstRequestFault bytes None = IsSome (spelled bytes)
IsFirstRequestFault bytes (Some fault) = HasFault bytes fault
