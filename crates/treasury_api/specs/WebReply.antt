-- A reply of HTTP (RFC 9112, section 4; its statuses and its headers: own rule; docs/FORMATS.md, "HTTP").
use Rattle.std.specs.Prelude.{ℕ, ◌==◌, ◌&&◌, ◌||◌, nat_le, if◌then◌else◌, List, [], ◌++◌, length, codes, decimal}
use Rattle.std.specs.Prelude.{unwrap_or, Result, Ok, Err}
use Rattle.http.specs.StatusCode.{code_digits, reason_phrase}
use Rattle.http_request.specs.declared.call.Form.{Form}
use Rattle.http_request.specs.declared.call.Form.TheVariants as form
use Rattle.money_core.specs.declared.cause.Cause.{Cause}
use Rattle.money_core.specs.declared.cause.Cause.TheVariants.{ClaimFailed as ClaimCause}
use Rattle.money_core.specs.Cause.{cause_number}
use Rattle.book_core.specs.declared.refusal.Refusal.{Refusal}
use Rattle.book_core.specs.declared.refusal.Refusal.TheVariants.{Plain, Text, ClaimFailed}
use Rattle.treasury_core.specs.declared.command.Answer.{Answer}

-- the status of a refusal, by its number
abbrev pub status_of_number : ℕ → ℕ
status_of_number nr =
    if nr == 44 then 400
    else if (nat_le 20 nr && nat_le nr 39) || (nat_le 47 nr && nat_le nr 48) then 409
    else if nat_le 1 nr && nat_le nr 18 then 422
    else if nr == 43 then 500
    else 503

-- why it is refused
abbrev pub cause_of : Refusal → Cause
cause_of (Plain cause) = cause
cause_of (Text fault) = fault.cause
cause_of (ClaimFailed failure) = ClaimCause

-- the status of a reply: what is done, repeated or reported is 200
abbrev pub status_of : Result Answer Refusal → ℕ
status_of (Ok answer) = 200
status_of (Err refusal) = status_of_number (cause_number (cause_of refusal))

-- the phrase of a status
abbrev pub reason_of : ℕ → List ℕ
reason_of status = unwrap_or (reason_phrase status) []

-- the type of a body
abbrev pub type_of : Form → List ℕ
type_of form.Text = codes "text/plain; charset=utf-8"
type_of form.Json = codes "application/json"

-- the form of a reply: the one that is asked for, but text where nothing is asked for that is answered, by 403 and 404
abbrev pub form_of_reply : Form → ℕ → Form
form_of_reply asked status = if (status == 403) || (status == 404) then form.Text else asked

-- the head of a reply whose body has that many bytes, with the empty line that ends it
abbrev pub reply_head : Form → ℕ → ℕ → List ℕ
reply_head form status size =
    codes "HTTP/1.1 " ++ code_digits status ++ codes " " ++ reason_of status ++ codes "\r\n"
    ++ codes "Content-Type: " ++ type_of form ++ codes "\r\n"
    ++ codes "Content-Length: " ++ decimal size ++ codes "\r\n"
    ++ codes "Connection: close\r\n"
    ++ codes "\r\n"

-- a whole reply
abbrev pub whole_reply : Form → ℕ → List ℕ → List ℕ
whole_reply form status body = reply_head form status (length body) ++ body
