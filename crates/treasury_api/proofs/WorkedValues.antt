-- Values worked out by hand, so that a wrong definition does not check.
use Rattle.std.specs.Prelude.{◌≡◌, ℕ, List, [], ◌∷◌, ◌++◌, Some, None, Err, codes, decimal, refl}
use Rattle.std.specs.Str.{is_utf8, chars}
use Rattle.serde_json.proofs.OnLiterals.{serde_json_on_literals}
use Rattle.money_core.specs.declared.style.Style.{Style}
use Rattle.money_core.specs.declared.cause.Cause.TheVariants.{OutOfMemory}
use Rattle.book_core.specs.declared.refusal.Refusal.TheVariants.{Plain, Text}
use Rattle.treasury_api.specs.Answer.{answer_text}
use Rattle.treasury_requests.specs.Request.{spelled, in_earnest}
use Rattle.treasury_api.specs.Transcript.{requests_in}
use Rattle.treasury_requests.specs.declared.request.Request.TheVariants.{Branch}

-- LF or CR LF ends a line, the last line may lack its end, and lines of blanks alone are skipped
pub line_ends : requests_in (codes "a\r\n \t\n\n\r\n b \n\rc") ≡ codes "a" ∷ codes " b " ∷ codes "\rc" ∷ []
line_ends = refl

-- a carriage return without a line feed ends no line
pub lone_carriage_return : requests_in (codes "\r") ≡ codes "\r" ∷ []
lone_carriage_return = refl

pub only_one_carriage_return : requests_in (codes "\r\r\n") ≡ codes "\r" ∷ []
only_one_carriage_return = refl

-- a request's keys come in any order
pub branch_request : spelled (codes "{\"name\":\"north\",\"do\":\"branch\"}")
    ≡ Some (in_earnest (Branch (codes "north")))
unfolding serde_json_on_literals spelled is_utf8 chars
branch_request = refl

-- a key that is missing
pub missing_key : spelled (codes "{\"do\":\"branch\"}") ≡ None
unfolding serde_json_on_literals spelled is_utf8 chars
missing_key = refl

-- a further key
pub further_key : spelled (codes "{\"do\":\"branch\",\"name\":\"x\",\"more\":\"y\"}") ≡ None
unfolding serde_json_on_literals spelled is_utf8 chars
further_key = refl

-- of a key that is written twice the last value counts
pub key_twice : spelled (codes "{\"do\":\"branch\",\"name\":1,\"name\":\"y\"}") ≡ Some (in_earnest (Branch (codes "y")))
unfolding serde_json_on_literals spelled is_utf8 chars
key_twice = refl

-- a value that is no text
pub no_text : spelled (codes "{\"do\":\"commodity\",\"sample\":1}") ≡ None
unfolding serde_json_on_literals spelled is_utf8 chars
no_text = refl

-- an empty text, which no line of an input asks
pub no_object : spelled [] ≡ None
unfolding serde_json_on_literals spelled is_utf8 chars
no_object = refl

-- want of memory, to which no input leads by itself
pub no_memory : (styles : List Style)
    → answer_text styles (Err (Plain OutOfMemory))
    ≡ codes "refused " ++ decimal 40 ++ codes " " ++ codes "OutOfMemory" ++ codes "\n"
unfolding answer_text
no_memory styles = refl

-- the same while a journal is read: it is no fault of a line
pub no_memory_for_a_journal : (styles : List Style) (line : ℕ)
    → answer_text styles (Err (Text (record { line = line; cause = OutOfMemory })))
    ≡ codes "refused " ++ decimal 40 ++ codes " " ++ codes "OutOfMemory" ++ [] ++ codes "\n"
unfolding answer_text
no_memory_for_a_journal styles line = refl
