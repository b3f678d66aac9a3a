-- Mirrors code: one line that is served, and further bytes of an input.
use Rattle.std.specs.Prelude.{◌≡◌, ◌<◌, ℕ, ◌==◌, List, [], ◌∷◌, ◌++◌, Option, take, length, position, Result}
use Rattle.std.specs.Prelude.{MatchResult}
use Rattle.std.specs.Io.KnownBytes.{Appends}
use Rattle.money_core.specs.declared.cause.Cause.{Cause}
use Rattle.money_core.specs.declared.cause.Cause.TheVariants.{WriteFault}
use Rattle.treasury_api.specs.Transcript.{AnswersInTurn}
use Rattle.treasury_api.specs.RunEnd.{AnswersWhole, StopsBy}

-- the writer got the answers to these requests
pub record Served {S : Type 0} (Step : S → List ℕ → List ℕ → S → Type 0)
    (w0 w1 : Option (List ℕ)) (start : S) (requests : List (List ℕ)) (end : S) : Type 0 where
  pub written : List ℕ
  pub answers : AnswersInTurn Step start requests written end
  pub appended : Appends w0 w1 written

-- a write failed: of the one request's answer a first part was written, and not all
pub record HalfServed {S : Type 0} (Step : S → List ℕ → List ℕ → S → Type 0)
    (w0 w1 : Option (List ℕ)) (start : S) (requests : List (List ℕ)) (end : S) : Type 0 where
  pub request : List ℕ
  pub answer : List ℕ
  pub taken : ℕ
  pub part : taken < length answer
  pub one : requests ≡ request ∷ []
  pub last : Step start request answer end
  pub appended : Appends w0 w1 (take taken answer)

-- the requests are not served, for this cause
abbrev pub FailsLineBy : {S : Type 0} → Cause → (S → List ℕ → List ℕ → S → Type 0)
    → Option (List ℕ) → Option (List ℕ) → S → List (List ℕ) → S → Type 0
FailsLineBy WriteFault Step w0 w1 start requests end = HalfServed Step w0 w1 start requests end
FailsLineBy _ Step w0 w1 start requests end = ⊥

-- the requests are served, or not, by the result
abbrev pub ServesRequests : {T S : Type 0} → Result T Cause → (S → List ℕ → List ℕ → S → Type 0)
    → Option (List ℕ) → Option (List ℕ) → S → List (List ℕ) → S → Type 0
ServesRequests result Step w0 w1 start requests end = MatchResult result
    (λ _. Served Step w0 w1 start requests end)
    (λ cause. FailsLineBy cause Step w0 w1 start requests end)

-- the complete lines of what was seen are answered, or the answers stop, by the result
abbrev pub Feeds : {T S : Type 0} → Result T Cause → (S → List ℕ → List ℕ → S → Type 0)
    → Option (List ℕ) → Option (List ℕ) → S → List ℕ → List ℕ → S → Type 0
Feeds result Step w0 w1 start seen begun end = MatchResult result
    (λ _. AnswersWhole Step w0 w1 start seen begun end)
    (λ cause. StopsBy cause Step ⊥ w0 w1 start seen end)

-- where the first line feed of a text stands
abbrev pub feed_place : List ℕ → Option ℕ
feed_place text = position (λ b. b == 10) text

-- the line, which a line feed ends, is answered, or the answers stop there, whatever stands after it
abbrev pub EndsWithLine : {T S : Type 0} → Result T Cause → (S → List ℕ → List ℕ → S → Type 0)
    → Option (List ℕ) → Option (List ℕ) → S → List ℕ → List ℕ → S → Type 0
EndsWithLine result Step w0 w1 start line begun end = MatchResult result
    (λ _. AnswersWhole Step w0 w1 start (line ++ 10 ∷ []) begun end)
    (λ cause. (rest : List ℕ) → StopsBy cause Step ⊥ w0 w1 start (line ++ 10 ∷ rest) end)
