-- Mirrors code: what the text of a reply says.
use Rattle.std.specs.Prelude.{◌≡◌, ℕ, true, not, List}
use Rattle.std.specs.Str.{bytes_eq}
use Rattle.treasury_client.specs.declared.heard.Heard.{Heard}
use Rattle.treasury_client.specs.Reply.{IsRefusalLine, status_of_done}

-- all of it is said, and whether it is a refusal, by the status
abbrev pub SaysText : List ℕ → List ℕ → Heard → Type 0
SaysText status body heard =
    (heard.answer.items ≡ body) × (heard.is_refused ≡ not (bytes_eq status status_of_done))
    × (heard.is_refused ≡ true → IsRefusalLine body)
