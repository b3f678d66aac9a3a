-- What comes from a running service, and what of it is printed (own rules; docs/RULES.md, "Through a service";
-- docs/FORMATS.md, "HTTP"). What JSON is, `serde_json` says.
use Rattle.std.specs.Prelude.{◌≡◌, ◌==◌, ◌<◌, ◌^◌, ℕ, Bool, true, false, not, List, ◌++◌, length, codes, decimal}
use Rattle.std.specs.Prelude.{Option, Some, None, option_map, option_and_then, if◌then◌else◌}
use Rattle.std.specs.List.{list_any}
use Rattle.std.specs.Str.{bytes_eq, is_utf8}
use Rattle.serde_json.specs.Data.{Data}
use Rattle.serde_json.specs.Find.{get, as_str}
use Rattle.serde_json.specs.Read.{read}

-- a text that ends before the end of its line
abbrev pub IsOnLine : List ℕ → Type 0
IsOnLine text = list_any (λ byte. byte == 13) text ≡ false

-- the end of a head that names the length of a body, and that
abbrev pub length_text : List ℕ → List ℕ
length_text body =
    codes "\r\nContent-Length: " ++ (decimal (length body) ++ (codes "\r\nConnection: close\r\n\r\n" ++ body))

-- a reply: its status, the type of its body, and that
abbrev pub http_reply_text : List ℕ → List ℕ → List ℕ → List ℕ
http_reply_text status kind body =
    codes "HTTP/1.1 " ++ (status ++ (codes "\r\nContent-Type: " ++ (kind ++ length_text body)))

-- the bytes are a whole reply of a treasury, with nothing after it
pub record IsReply (bytes status kind body : List ℕ) : Type 0 where
  pub written : bytes ≡ http_reply_text status kind body
  pub status_line : IsOnLine status
  pub kind_line : IsOnLine kind
  pub fits : length body < 2 ^ 64

-- the status of what is done, repeated or reported
abbrev pub status_of_done : List ℕ
status_of_done = codes "200 OK"

-- the types of a body
abbrev pub text_type : List ℕ
text_type = codes "text/plain; charset=utf-8"

-- the type of a body in JSON
abbrev pub json_type : List ℕ
json_type = codes "application/json"

-- the value that a body in JSON is
unfoldable pub value_in : List ℕ → Option Data
value_in body = if is_utf8 body then read body else None

-- the answer line of a value, with its end
abbrev pub answer_at : Data → Option (List ℕ)
answer_at d = option_map (λ line. line ++ codes "\n") (option_and_then as_str (get (codes "answer") d))

-- and that in a body
abbrev pub answer_in : List ℕ → Option (List ℕ)
answer_in body = option_and_then answer_at (value_in body)

-- What bytes that came say to a command: they are a reply in JSON, whose answer line is said, and the status tells
-- whether that is a refusal.
abbrev pub SaysToCommand : List ℕ → List ℕ → Bool → Type 0
SaysToCommand came said refused =
    (status kind body : List ℕ) × IsReply came status kind body × (bytes_eq kind json_type ≡ true)
    × (answer_in body ≡ Some said) × (refused ≡ not (bytes_eq status status_of_done))

-- the text begins as the line of a refusal
abbrev pub IsRefusalLine : List ℕ → Type 0
IsRefusalLine line = (rest : List ℕ) × (line ≡ codes "refused " ++ rest)

-- What they say to a report: they are a reply of a text, which is said, and the status tells whether that is a refusal,
-- as its text does then.
abbrev pub SaysToReport : List ℕ → List ℕ → Bool → Type 0
SaysToReport came said refused =
    (status kind body : List ℕ) × IsReply came status kind body × (bytes_eq kind text_type ≡ true)
    × (said ≡ body) × (refused ≡ not (bytes_eq status status_of_done)) × (refused ≡ true → IsRefusalLine body)
