-- What is sent to a running service (own rules; docs/RULES.md, "The program"; docs/FORMATS.md, "HTTP").
use Rattle.std.specs.Prelude.{◌≡◌, ◌<◌, ℕ, IfSome, true, false, List, [], ◌++◌, length, codes, decimal}
use Rattle.std.specs.Str.{is_utf8}
use Rattle.treasury_requests.specs.declared.words.Key.TheVariants as key
use Rattle.treasury_requests.specs.declared.request.Spelled.{Spelled}
use Rattle.treasury_requests.specs.declared.request.Request.{Request}
use Rattle.treasury_requests.specs.Request.{given_of, is_report, is_on_a_book}
use Rattle.treasury_client.specs.declared.call.Form.{Form}
use Rattle.treasury_client.specs.declared.call.Form.TheVariants.{Text, Json}

-- its journal, if it has one, is a text
abbrev pub HasText : Request → Type 0
HasText request = IfSome (given_of request key.Journal) (λ journal. is_utf8 journal ≡ true)

-- there is a text that spells it: no report is a dry run; and only what is on one book says how many entries that has
-- to have, in at most 5 digits
pub record IsSendable (spelled : Spelled) : Type 0 where
  pub dry_run : is_report spelled.request ≡ true → spelled.terms.is_dry_run ≡ false
  pub on_a_book : IfSome spelled.terms.if_entries (λ n. (is_on_a_book spelled.request ≡ true) × (n < 100_000))

-- the header that asks for a reply in that form
abbrev pub accept : Form → List ℕ
accept Text = []
accept Json = codes "Accept: application/json\r\n"

-- the call to a port, with a header, the length of a body, and that
abbrev pub call_with : List ℕ → List ℕ → List ℕ → List ℕ → List ℕ
call_with port header size body =
    codes "POST /commands HTTP/1.1\r\nHost: 127.0.0.1:" ++ port
    ++ codes "\r\n" ++ header
    ++ codes "Content-Length: " ++ size
    ++ codes "\r\n\r\n" ++ body

-- the call to the service at a port of this machine that asks for a reply in that form
abbrev pub call_text : ℕ → Form → List ℕ → List ℕ
call_text port form body = call_with (decimal port) (accept form) (decimal (length body)) body
