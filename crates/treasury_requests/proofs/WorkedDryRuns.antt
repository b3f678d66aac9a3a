-- Values worked out by hand, so that a wrong definition of the terms of a command does not check.
use Rattle.std.specs.Prelude.{◌≡◌, Some, None, [], codes, true, false, refl}
use Rattle.std.specs.Str.{is_utf8, chars}
use Rattle.serde_json.proofs.OnLiterals.{serde_json_on_literals}
use Rattle.journal_lines.specs.Number.{entry_count}
use Rattle.treasury_requests.specs.Request.{spelled, in_earnest}
use Rattle.treasury_requests.specs.declared.request.Request.TheVariants.{Branch, Import}

-- `yes` asks for a dry run, `no` and no key do not, and nothing else is read
pub yes : spelled (codes "{\"do\":\"branch\",\"name\":\"x\",\"dry-run\":\"yes\"}")
    ≡ Some (record { request = Branch (codes "x"); terms = record { is_dry_run = true; if_entries = None } })
unfolding serde_json_on_literals spelled is_utf8 chars
yes = refl

pub no : spelled (codes "{\"do\":\"branch\",\"name\":\"x\",\"dry-run\":\"no\"}")
    ≡ Some (in_earnest (Branch (codes "x")))
unfolding serde_json_on_literals spelled is_utf8 chars
no = refl

pub without : spelled (codes "{\"do\":\"branch\",\"name\":\"x\"}") ≡ Some (in_earnest (Branch (codes "x")))
unfolding serde_json_on_literals spelled is_utf8 chars
without = refl

pub empty : spelled (codes "{\"do\":\"branch\",\"name\":\"x\",\"dry-run\":\"\"}") ≡ None
unfolding serde_json_on_literals spelled is_utf8 chars
empty = refl

pub boolean : spelled (codes "{\"do\":\"branch\",\"name\":\"x\",\"dry-run\":true}") ≡ None
unfolding serde_json_on_literals spelled is_utf8 chars
boolean = refl

-- a closing with one key of a choice has four keys, and a dry run of one without any is no closing with a choice
pub closing : spelled (codes "{\"do\":\"close\",\"branch\":\"x\",\"into\":\"a\",\"dry-run\":\"yes\"}") ≡ None
unfolding serde_json_on_literals spelled is_utf8 chars
closing = refl

-- a report has no such key
pub report : spelled (codes "{\"do\":\"journal\",\"branch\":\"x\",\"dry-run\":\"no\"}") ≡ None
unfolding serde_json_on_literals spelled is_utf8 chars
report = refl

-- 1 to 5 digits say how many entries the branch has to have, and nothing else does
pub entries : spelled (codes "{\"do\":\"import\",\"branch\":\"x\",\"journal\":\"\",\"if-entries\":\"007\"}")
    ≡ Some (record { request = Import (codes "x") []; terms = record { is_dry_run = false; if_entries = Some 7 } })
unfolding serde_json_on_literals spelled is_utf8 chars entry_count
entries = refl

pub six : spelled (codes "{\"do\":\"import\",\"branch\":\"x\",\"journal\":\"\",\"if-entries\":\"000007\"}") ≡ None
unfolding serde_json_on_literals spelled is_utf8 chars entry_count
six = refl

pub signed : spelled (codes "{\"do\":\"import\",\"branch\":\"x\",\"journal\":\"\",\"if-entries\":\"+7\"}") ≡ None
unfolding serde_json_on_literals spelled is_utf8 chars entry_count
signed = refl

-- a new branch has no book yet
pub of_no_book : spelled (codes "{\"do\":\"branch\",\"name\":\"x\",\"if-entries\":\"0\"}") ≡ None
unfolding serde_json_on_literals spelled is_utf8 chars
of_no_book = refl
