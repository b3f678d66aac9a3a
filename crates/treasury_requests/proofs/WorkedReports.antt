-- Values worked out by hand, so that a wrong definition of what asks for a report does not check.
use Rattle.std.specs.Prelude.{◌≡◌, Some, None, option_map, codes, refl}
use Rattle.std.specs.Str.{is_utf8, chars}
use Rattle.serde_json.proofs.OnLiterals.{serde_json_on_literals}
use Rattle.journal_lines.specs.DateReading.{date_of}
use Rattle.treasury_requests.specs.Request.{spelled, in_earnest}
use Rattle.treasury_requests.specs.declared.request.Request.TheVariants.{Register, Journal, Branches, Accounts}

-- a register with a tag and without one, and from a day on; these two keys may be missing
pub tagged : spelled (codes "{\"do\":\"register\",\"branch\":\"x\",\"account\":\"a\",\"tag\":\"t=\"}")
    ≡ Some (in_earnest (Register (codes "x") (codes "a") (Some (codes "t=")) None))
unfolding serde_json_on_literals spelled is_utf8 chars
tagged = refl

pub plain : spelled (codes "{\"do\":\"register\",\"branch\":\"x\",\"account\":\"a\"}")
    ≡ Some (in_earnest (Register (codes "x") (codes "a") None None))
unfolding serde_json_on_literals spelled is_utf8 chars
plain = refl

pub from_a_day : spelled (codes "{\"do\":\"register\",\"branch\":\"x\",\"account\":\"a\",\"from\":\"2024-03-01\"}")
    ≡ option_map in_earnest (option_map (Register (codes "x") (codes "a") None)
    (option_map Some (date_of (codes "2024-03-01"))))
unfolding serde_json_on_literals spelled is_utf8 chars
from_a_day = refl

pub from_no_day : spelled (codes "{\"do\":\"register\",\"branch\":\"x\",\"account\":\"a\",\"from\":\"x\"}") ≡ None
unfolding serde_json_on_literals spelled is_utf8 chars date_of
from_no_day = refl

pub of_no_account : spelled (codes "{\"do\":\"register\",\"branch\":\"x\",\"tag\":\"t\"}") ≡ None
unfolding serde_json_on_literals spelled is_utf8 chars
of_no_account = refl

-- the journal of a branch
pub journal : spelled (codes "{\"do\":\"journal\",\"branch\":\"x\"}") ≡ Some (in_earnest (Journal (codes "x")))
unfolding serde_json_on_literals spelled is_utf8 chars
journal = refl

-- what there is: the branches, which have no key beside the word, and the accounts of one
pub branches : spelled (codes "{\"do\":\"branches\"}") ≡ Some (in_earnest Branches)
unfolding serde_json_on_literals spelled is_utf8 chars
branches = refl

pub branches_of_one : spelled (codes "{\"do\":\"branches\",\"branch\":\"x\"}") ≡ None
unfolding serde_json_on_literals spelled is_utf8 chars
branches_of_one = refl

pub accounts : spelled (codes "{\"do\":\"accounts\",\"branch\":\"x\"}") ≡ Some (in_earnest (Accounts (codes "x")))
unfolding serde_json_on_literals spelled is_utf8 chars
accounts = refl
