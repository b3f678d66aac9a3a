-- Values worked out by hand, so that a wrong definition of why a text is no request does not check.
use Rattle.std.specs.Prelude.{◌≡◌, List, [], ℕ, Option, Some, None, option_map, codes, refl}
use Rattle.serde_json.proofs.OnLiterals.{serde_json_on_literals}
use Rattle.serde_json.specs.Read.{read}
use Rattle.journal_lines.specs.DateReading.{date_of}
use Rattle.journal_lines.specs.Number.{entry_count}
use Rattle.treasury_requests.specs.declared.words.Word.TheVariants as word
use Rattle.treasury_requests.specs.declared.words.Key.TheVariants as key
use Rattle.treasury_requests.specs.declared.fault.Kind.TheVariants as kind
use Rattle.treasury_requests.specs.declared.fault.RequestFault.{RequestFault}
use Rattle.treasury_requests.specs.declared.fault.RequestFault.TheVariants as by
use Rattle.treasury_requests.specs.RequestFault.{value_fault}

-- the first fault of the value that a text of JSON is
abbrev fault_in : List ℕ → Option RequestFault
fault_in text = option_map value_fault (read text)

-- no object, no word, no word that asks for something
pub array : fault_in (codes "[]") ≡ Some (by.NotAnObject kind.Array)
unfolding serde_json_on_literals
array = refl

pub no_word : fault_in (codes "{\"name\":\"x\"}") ≡ Some by.NoWord
unfolding serde_json_on_literals
no_word = refl

pub no_string : fault_in (codes "{\"do\":1}") ≡ Some (by.WordOfKind kind.Number)
unfolding serde_json_on_literals
no_string = refl

pub unknown : fault_in (codes "{\"do\":\"fly\"}") ≡ Some (by.UnknownWord (codes "fly"))
unfolding serde_json_on_literals
unknown = refl

-- a key is missing, and another is written in its place
pub misspelt : fault_in (codes "{\"do\":\"import\",\"brnach\":\"x\",\"journal\":\"\"}")
    ≡ Some (by.MissingKey word.Import key.Branch (Some (codes "brnach")))
unfolding serde_json_on_literals
misspelt = refl

pub missing : fault_in (codes "{\"do\":\"lock\",\"branch\":\"x\"}") ≡ Some (by.MissingKey word.Lock key.Day None)
unfolding serde_json_on_literals
missing = refl

-- a part has a key and an amount
pub half : fault_in (codes
    "{\"do\":\"receive\",\"id\":\"x\",\"branch\":\"x\",\"day\":\"\",\"account\":\"x\",\"amount\":\"\"}")
    ≡ Some (by.Half key.Amount key.Part None)
unfolding serde_json_on_literals
half = refl

-- a value is no string, a day no date, a choice neither `yes` nor `no`
pub odd : fault_in (codes "{\"do\":\"lock\",\"branch\":\"x\",\"day\":null,\"dry-run\":true}")
    ≡ Some (by.ValueOfKind key.Day kind.Null)
unfolding serde_json_on_literals
odd = refl

pub no_date : fault_in (codes "{\"do\":\"transit\",\"day\":\"x\"}") ≡ Some (by.NoDate key.Day (codes "x"))
unfolding serde_json_on_literals date_of
no_date = refl

-- where a register begins is a day; a transfer comes from a branch
pub no_date_from : fault_in (codes "{\"do\":\"register\",\"branch\":\"x\",\"account\":\"a\",\"from\":\"y\"}")
    ≡ Some (by.NoDate key.From (codes "y"))
unfolding serde_json_on_literals date_of
no_date_from = refl

pub from_a_branch : fault_in (codes
    "{\"do\":\"dispatch\",\"id\":\"t\",\"from\":\"x\",\"to\":\"y\",\"day\":\"z\",\"amount\":\"1\",\"account\":\"a\"}")
    ≡ Some (by.NoDate key.Day (codes "z"))
unfolding serde_json_on_literals date_of
from_a_branch = refl

pub no_choice : fault_in (codes "{\"do\":\"branch\",\"name\":\"x\",\"dry-run\":\"\"}") ≡ Some (by.NoChoice [])
unfolding serde_json_on_literals
no_choice = refl

-- of the keys that a request may not have the first in byte order is named; a report has no dry run
pub others : fault_in (codes "{\"do\":\"branches\",\"z\":\"\",\"y\":\"\"}")
    ≡ Some (by.OtherKeys word.Branches (Some (codes "y")))
unfolding serde_json_on_literals
others = refl

pub report : fault_in (codes "{\"do\":\"journal\",\"branch\":\"x\",\"dry-run\":\"no\"}")
    ≡ Some (by.OtherKeys word.Journal (Some (codes "dry-run")))
unfolding serde_json_on_literals
report = refl

-- the value of a key that a request may not have is not looked at
pub foreign_day : fault_in (codes "{\"do\":\"branches\",\"day\":\"x\"}")
    ≡ Some (by.OtherKeys word.Branches (Some (codes "day")))
unfolding serde_json_on_literals
foreign_day = refl

pub foreign_choice : fault_in (codes "{\"do\":\"branches\",\"dry-run\":\"x\"}")
    ≡ Some (by.OtherKeys word.Branches (Some (codes "dry-run")))
unfolding serde_json_on_literals
foreign_choice = refl

pub no_count : fault_in (codes "{\"do\":\"import\",\"branch\":\"x\",\"journal\":\"\",\"if-entries\":\"x\"}")
    ≡ Some (by.NoCount (codes "x"))
unfolding serde_json_on_literals entry_count
no_count = refl
