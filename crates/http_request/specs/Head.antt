-- The head of a request within its limits (RFC 9112, by the grammar of `httparse`; limits: own rule).
use Rattle.std.specs.Prelude.{◌≤◌, ◌++◌, ℕ, List, length}
use Rattle.httparse.specs.Grammar.{RequestHead, ReadsRequest, print_request}

-- the text begins with this head, of at most 16 KiB and 32 fields
pub record IsHead (text : List ℕ) (head : RequestHead) (rest : List ℕ) : Type 0 where
  pub reads : ReadsRequest text head rest
  pub small : length (print_request head) ≤ 16_384
  pub few : length head.fields ≤ 32

-- no continuation makes a head within the limits
abbrev pub NeverHead : List ℕ → Type 0
NeverHead text = (more : List ℕ) (head : RequestHead) (rest : List ℕ) → ¬ (IsHead (text ++ more) head rest)

-- some continuation makes a head within the limits
abbrev pub CanEnd : List ℕ → Type 0
CanEnd text = (more : List ℕ) × (head : RequestHead) × (rest : List ℕ) × IsHead (text ++ more) head rest
