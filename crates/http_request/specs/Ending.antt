-- Mirrors code: the short ends that are tried.
use Rattle.std.specs.Prelude.{◌<◌, ◌++◌, ℕ, List, []}
use Rattle.std.specs.List.{slice_index_or}
use Rattle.httparse.specs.Grammar.{RequestHead}
use Rattle.http_request.specs.Head.{IsHead}

-- none of the first n ends makes the text a head
abbrev pub HasNoEnd : List ℕ → List (List ℕ) → ℕ → Type 0
HasNoEnd text ends n =
    (j : ℕ) → j < n → (head : RequestHead) (rest : List ℕ) → ¬ (IsHead (text ++ slice_index_or ends j []) head rest)
