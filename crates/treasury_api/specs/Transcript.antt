-- An input of requests and the answers to it (own rule; docs/FORMATS.md, "Requests"). A request stands on a line of its
-- own. LF or CR LF ends a line, the last line may lack its end, and a line of blanks alone is skipped.
use Rattle.std.specs.Prelude.{◌≡◌, ℕ, Bool, not, List, [], ◌∷◌, ◌++◌, filter}
use Rattle.std.specs.List.{list_all}
use Rattle.std.specs.Str.Lines.{lines}
use Rattle.money_core.specs.Blank.{is_blank}

-- blanks alone, or nothing
abbrev pub is_blank_text : List ℕ → Bool
is_blank_text text = list_all is_blank text

-- the lines that are requests
abbrev pub requests_among : List (List ℕ) → List (List ℕ)
requests_among lines = filter (λ line. not (is_blank_text line)) lines

-- the requests of an input, each as the bytes of its line without the line's end
abbrev pub requests_in : List ℕ → List (List ℕ)
requests_in input = requests_among (lines input)

-- the requests are answered one after another: each by a step, that relates the state before it, the request, its
-- answer and the state after it; the answers stand one after the other
abbrev pub AnswersInTurn : {S : Type 0} → (S → List ℕ → List ℕ → S → Type 0) → S → List (List ℕ) → List ℕ → S → Type 0
AnswersInTurn Step start [] output end = (output ≡ []) × (end ≡ start)
AnswersInTurn {S = S} Step start (request ∷ requests) output end =
    (mid : S) × (answer : List ℕ) × (rest : List ℕ)
    × (Step start request answer mid × AnswersInTurn Step mid requests rest end × (output ≡ answer ++ rest))

-- the output is the transcript of the input: the answers to all its requests, which lead from the state at its start to
-- the one at its end
abbrev pub IsTranscript : {S : Type 0} → (S → List ℕ → List ℕ → S → Type 0) → S → List ℕ → List ℕ → S → Type 0
IsTranscript Step start input output end = AnswersInTurn Step start (requests_in input) output end
