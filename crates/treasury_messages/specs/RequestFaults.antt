-- What is said of a text that is no request (own rule; docs/RULES.md, "Explanations").
use Rattle.std.specs.Prelude.{◌≡◌, ℕ, ◌==◌, true, false, if◌then◌else◌, List, [], ◌∷◌, ◌++◌, codes, decimal, map}
use Rattle.std.specs.Prelude.{Option, Some, None}
use Rattle.treasury_requests.specs.declared.words.Word.{Word}
use Rattle.treasury_requests.specs.declared.words.Key.TheVariants as key
use Rattle.treasury_requests.specs.declared.fault.Kind.{Kind}
use Rattle.treasury_requests.specs.declared.fault.Kind.TheVariants as kind
use Rattle.treasury_requests.specs.declared.fault.RequestFault.{RequestFault}
use Rattle.treasury_requests.specs.declared.fault.RequestFault.TheVariants as by
use Rattle.treasury_requests.specs.RequestFault.{IsFirstRequestFault}
use Rattle.treasury_requests.specs.Words.{key_name, word_name, all_words, needed, further}
use Rattle.treasury_messages.specs.declared.kind.MessageKind.TheVariants as is
use Rattle.treasury_messages.specs.Said.{Said, says}

-- what a value is
abbrev pub kind_text : Kind → List ℕ
kind_text kind.Null = codes "null"
kind_text kind.Boolean = codes "a truth value"
kind_text kind.Number = codes "a number"
kind_text kind.String = codes "a string"
kind_text kind.Array = codes "an array"
kind_text kind.Object = codes "an object"

-- a place: a byte, and the line in which it stands unless that is the first
abbrev pub place_values : ℕ → ℕ → List (List ℕ)
place_values line byte = decimal byte ∷ (if line == 1 then [] else decimal line ∷ [])

-- a key that a request may not have, if there is one
abbrev pub other_said : Option (List ℕ) → List Said
other_said None = []
other_said (Some name) = says is.UnknownKey (name ∷ []) ∷ []

-- the keys of the request of a word: those that it has to have, and those that it may have beside them
unfoldable pub keys_said : Word → Said
keys_said w = says is.KeysOf (word_name w ∷ map key_name (needed w) ++ map key_name (further w))

-- what is said of each fault
abbrev pub fault_said : RequestFault → List Said
fault_said (by.NotUtf8 byte) = says is.NotUtf8 (decimal byte ∷ []) ∷ []
fault_said (by.NotJson line byte true) = says is.CutOff (place_values line byte) ∷ []
fault_said (by.NotJson line byte false) = says is.NotJson (place_values line byte) ∷ []
fault_said (by.NotAnObject k) = says is.NotAnObject (kind_text k ∷ []) ∷ []
fault_said by.NoWord = says is.MissingKey (key_name key.Do ∷ []) ∷ []
fault_said (by.WordOfKind k) = says is.NotAString (key_name key.Do ∷ kind_text k ∷ []) ∷ []
fault_said (by.UnknownWord text) = says is.UnknownWord (text ∷ []) ∷ says is.KnownWords (map word_name all_words) ∷ []
fault_said (by.MissingKey w k other) = says is.MissingKey (key_name k ∷ []) ∷ (other_said other ++ keys_said w ∷ [])
fault_said (by.OtherKeys w other) = other_said other ++ keys_said w ∷ []
fault_said (by.ValueOfKind k kind) = says is.NotAString (key_name k ∷ kind_text kind ∷ []) ∷ []
fault_said (by.NoDate k text) = says is.NoDate (key_name k ∷ text ∷ []) ∷ says is.FormOfDays [] ∷ []
fault_said (by.Half there missing other) = says is.Half (key_name there ∷ key_name missing ∷ []) ∷ other_said other
fault_said (by.NoChoice text) = says is.NoChoice (text ∷ []) ∷ says is.FormOfChoices [] ∷ []
fault_said (by.NoCount text) = says is.NoCount (text ∷ []) ∷ says is.FormOfCounts [] ∷ []

-- the same where there may be none
abbrev pub said_of : Option RequestFault → List Said
said_of None = []
said_of (Some fault) = fault_said fault

-- what is said of bytes: which fault they have first, if they are no request
abbrev pub TellsFault : List ℕ → List Said → Type 0
TellsFault bytes said = (fault : Option RequestFault) × IsFirstRequestFault bytes fault × (said ≡ said_of fault)
