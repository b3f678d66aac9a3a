-- Statuses and replies, worked out by hand.
use Rattle.std.specs.Prelude.{◌≡◌, ℕ, List, [], ◌∷◌, Ok, Err, None, Some, codes, refl, true, false}
use Rattle.money_core.specs.declared.day.Day.{Day}
use Rattle.std.specs.Fmt.{digits}
use Rattle.money_core.specs.declared.cause.Cause.TheVariants as cause
use Rattle.book_core.specs.declared.refusal.Refusal.TheVariants.{Plain, Text}
use Rattle.treasury_core.specs.declared.command.Answer.TheVariants.{Done, Entered, Repeated}
use Rattle.http_request.specs.declared.call.Call.TheVariants.{Unreadable, Foreign, Nowhere, Report}
use Rattle.http_request.specs.Routes.{at_key}
use Rattle.treasury_requests.specs.declared.words.Word.TheVariants as word
use Rattle.treasury_requests.specs.declared.words.Key.TheVariants as key
use Rattle.treasury_requests.specs.declared.request.Request.TheVariants as asking
use Rattle.treasury_requests.specs.Request.{in_earnest}
use Rattle.treasury_api.specs.BranchCommand.{is_command_of}
use Rattle.treasury_api.specs.Web.{asked_by, only_of}
use Rattle.treasury_api.specs.WebReply.{status_of, form_of_reply, whole_reply}
use Rattle.treasury_api.specs.JsonReply.{reply_json}
use Rattle.json_text.specs.JsonText.{escaped, lines_of}
use Rattle.treasury_messages.specs.Sentence.{sentence_of}
use Rattle.http_request.specs.declared.call.Form.TheVariants as form

-- the table of statuses, at the ends of its rows
pub done : (n m : ℕ) → (status_of (Ok Done) ≡ 200) × (status_of (Ok (Entered n m)) ≡ 200)
    × (status_of (Ok Repeated) ≡ 200)
done n m = (refl, refl, refl)

pub no_request : status_of (Err (Plain cause.Request)) ≡ 400
no_request = refl

pub conflicts : (status_of (Err (Plain cause.UnknownBranch)) ≡ 409) × (status_of (Err (Plain cause.BadId)) ≡ 409)
    × (status_of (Err (Plain cause.TooMuch)) ≡ 409)
    × (status_of (Err (Plain cause.Changed)) ≡ 409)
conflicts = (refl, refl, refl, refl)

pub texts : (line : ℕ)
    → (status_of (Err (Text (record { line = line; cause = cause.Utf8 }))) ≡ 422)
    × (status_of (Err (Text (record { line = line; cause = cause.Unbalanced }))) ≡ 422)
texts line = (refl, refl)

pub damaged : status_of (Err (Plain cause.Damaged)) ≡ 500
damaged = refl

pub unavailable : (status_of (Err (Plain cause.OutOfMemory)) ≡ 503) × (status_of (Err (Plain cause.Store)) ≡ 503)
    × (status_of (Err (Plain cause.Closed)) ≡ 503)
unavailable = (refl, refl, refl)

-- a whole reply
pub not_found : whole_reply form.Text 404 (codes "not found\n")
    ≡ codes "HTTP/1.1 404 Not Found\r\nContent-Type: text/plain; charset=utf-8\r\nContent-Length: 10\r\nConnection: close\r\n\r\nnot found\n"
unfolding digits
not_found = refl

pub forbidden : whole_reply form.Text 403 (codes "forbidden\n")
    ≡ codes "HTTP/1.1 403 Forbidden\r\nContent-Type: text/plain; charset=utf-8\r\nContent-Length: 10\r\nConnection: close\r\n\r\nforbidden\n"
unfolding digits
forbidden = refl

-- parts of a path are taken as they stand
pub parts : (asked_by (Report word.Journal (at_key key.Branch (codes "%6eorth") ∷ []))
    ≡ Some (in_earnest (asking.Journal (codes "%6eorth"))))
    × (asked_by Unreadable ≡ None) × (asked_by Foreign ≡ None) × (asked_by Nowhere ≡ None)
parts = (refl, refl, refl, refl)

-- nothing at a key that is needed, and a word that is no report
pub no_report : (asked_by (Report word.Transit []) ≡ None)
    × (asked_by (Report word.Branch (at_key key.Name (codes "north") ∷ [])) ≡ None)
no_report = (refl, refl)

-- a transfer is dispatched by the branch that it is from, and received by the one that it is to
pub transferred : (day : Day)
    → (is_command_of (codes "north")
    (asking.Dispatch (codes "t1") (codes "north") (codes "south") day (codes "1.00 EUR") (codes "assets:bank")) ≡ true)
    × (is_command_of (codes "south")
    (asking.Dispatch (codes "t1") (codes "north") (codes "south") day (codes "1.00 EUR") (codes "assets:bank")) ≡ false)
    × (is_command_of (codes "south")
    (asking.Receive (codes "t1") (codes "south") day (codes "assets:bank") None) ≡ true)
    × (is_command_of (codes "north")
    (asking.Receive (codes "t1") (codes "south") day (codes "assets:bank") None) ≡ false)
transferred day = (refl, refl, refl, refl)

-- a branch is not that of a longer name, nor of one in other letters; a new branch is of none, whatever its name
pub of_branches : (day : Day) → (is_command_of (codes "north") (asking.Lock (codes "north") day) ≡ true)
    × (is_command_of (codes "north") (asking.Lock (codes "northern") day) ≡ false)
    × (is_command_of (codes "north") (asking.Lock (codes "North") day) ≡ false)
    × (is_command_of (codes "north") (asking.Branch (codes "north")) ≡ false)
    × (is_command_of (codes "north") (asking.Journal (codes "north")) ≡ false)
of_branches day = (refl, refl, refl, refl, refl)

-- by the route of a branch its commands are asked for, and those of no other; by the route of commands all are
pub by_routes : (day : Day)
    → (only_of (Some (codes "north")) (Some (in_earnest (asking.Lock (codes "north") day)))
    ≡ Some (in_earnest (asking.Lock (codes "north") day)))
    × (only_of (Some (codes "south")) (Some (in_earnest (asking.Lock (codes "north") day))) ≡ None)
    × (only_of None (Some (in_earnest (asking.Lock (codes "north") day)))
    ≡ Some (in_earnest (asking.Lock (codes "north") day)))
by_routes day = (refl, refl, refl)

-- a whole reply in JSON; 403 and 404 are text, whatever is asked for
pub in_json : whole_reply form.Json 200 (codes "{}\n")
    ≡ codes "HTTP/1.1 200 OK\r\nContent-Type: application/json\r\nContent-Length: 3\r\nConnection: close\r\n\r\n{}\n"
unfolding digits
in_json = refl

pub in_text : (form_of_reply form.Json 403 ≡ form.Text) × (form_of_reply form.Json 404 ≡ form.Text)
    × (form_of_reply form.Json 400 ≡ form.Json) × (form_of_reply form.Text 200 ≡ form.Text)
in_text = (refl, refl, refl, refl)

-- an answer, with what is noted of it; and a refusal, with what is told
pub noted : reply_json [] (Ok (Entered 1 0)) [] (codes "note: a\nnote: b\n") None
    ≡ codes "{\"answer\":\"ok 1 new, 0 repeated\",\"told\":[],\"notes\":[\"note: a\",\"note: b\"]}\n"
unfolding digits escaped lines_of
noted = refl

pub told : reply_json [] (Err (Plain cause.UnknownBranch)) (codes "treasury: \"x\"\n") [] None
    ≡ codes "{\"answer\":\"refused 20 UnknownBranch\",\"number\":\"20\",\"name\":\"UnknownBranch\",\"sentence\":\"there is no branch of that name\",\"told\":[\"treasury: \\\"x\\\"\"],\"notes\":[]}\n"
unfolding digits escaped lines_of sentence_of
told = refl
