-- How a run over the lines of a reader ends (own rule; docs/RULES.md, "Runs"): with `Ok`, or with the refusal 40, 45 or
-- 46. `r0` and `r1` are the bytes that the reader has left before and after the run, `w0` and `w1` those that the
-- writer holds, where they are known, as those of readers and writers over memory are. `Step` is a step of a
-- transcript.
use Rattle.std.specs.Prelude.{◌≡◌, ◌≢◌, ◌≤◌, ◌<◌, ℕ, List, [], ◌∷◌, ◌++◌, ◌⊎◌, Option, take, length, All, Result}
use Rattle.std.specs.Prelude.{MatchResult}
use Rattle.std.specs.Io.KnownBytes.{Appends, Consumes, IsAtEnd}
use Rattle.money_core.specs.declared.cause.Cause.{Cause}
use Rattle.money_core.specs.declared.cause.Cause.TheVariants.{OutOfMemory, ReadFault, WriteFault}
use Rattle.treasury_api.specs.Transcript.{requests_in, IsTranscript}

-- the most bytes that the program reads: 64 MiB
abbrev pub most_input : ℕ
most_input = 67_108_864

-- no line of the text is cut off: a line feed ends the text, or it is empty
abbrev pub IsWholeLines : List ℕ → Type 0
IsWholeLines text = (text ≡ []) ⊎ ((front : List ℕ) × (text ≡ front ++ (10 ∷ [])))

-- the text is a part of one line
abbrev pub HasNoLineFeed : List ℕ → Type 0
HasNoLineFeed text = All (λ b. b ≢ 10) text

-- of what was seen the complete lines, `whole`, are answered by what was written, and `begun` is what was seen of the
-- line after them
pub record AnswersWhole {S : Type 0} (Step : S → List ℕ → List ℕ → S → Type 0)
    (w0 w1 : Option (List ℕ)) (start : S) (seen begun : List ℕ) (end : S) : Type 0 where
  pub whole : List ℕ
  pub written : List ℕ
  pub split : seen ≡ whole ++ begun
  pub complete : IsWholeLines whole
  pub part : HasNoLineFeed begun
  pub transcript : IsTranscript Step start whole written end
  pub appended : Appends w0 w1 written

-- the text goes on with this request: its line ends in a line feed, or with the whole input, whose end is then where
-- the text ends
pub record GoesOn (AtEnd : Type 0) (text request : List ℕ) : Type 0 where
  pub line : List ℕ
  pub rest : List ℕ
  pub split : text ≡ line ++ rest
  pub one : requests_in line ≡ request ∷ []
  pub ended : IsWholeLines line ⊎ ((rest ≡ []) × AtEnd)

-- 40: the lines `whole` are answered by what was written, and the state at the end is the one after them
pub record GaveUp {S : Type 0} (Step : S → List ℕ → List ℕ → S → Type 0)
    (w0 w1 : Option (List ℕ)) (start : S) (seen : List ℕ) (end : S) : Type 0 where
  pub whole : List ℕ
  pub further : List ℕ
  pub written : List ℕ
  pub split : seen ≡ whole ++ further
  pub complete : IsWholeLines whole
  pub transcript : IsTranscript Step start whole written end
  pub appended : Appends w0 w1 written

-- 46: the lines `whole` are answered, and of the answer to the request after them the first `taken` bytes were
-- written, and not all; the state at the end is the one after that request
pub record Torn {S : Type 0} (Step : S → List ℕ → List ℕ → S → Type 0)
    (AtEnd : Type 0) (w0 w1 : Option (List ℕ)) (start : S) (seen : List ℕ) (end : S) : Type 0 where
  pub whole : List ℕ
  pub further : List ℕ
  pub written : List ℕ
  pub mid : S
  pub request : List ℕ
  pub answer : List ℕ
  pub taken : ℕ
  pub part : taken < length answer
  pub split : seen ≡ whole ++ further
  pub complete : IsWholeLines whole
  pub transcript : IsTranscript Step start whole written mid
  pub next : GoesOn AtEnd further request
  pub last : Step mid request answer end
  pub appended : Appends w0 w1 (written ++ take taken answer)

-- the answers to what was seen stop for this cause
abbrev pub StopsBy : {S : Type 0} → Cause → (S → List ℕ → List ℕ → S → Type 0) → Type 0
    → Option (List ℕ) → Option (List ℕ) → S → List ℕ → S → Type 0
StopsBy OutOfMemory Step AtEnd w0 w1 start seen end = GaveUp Step w0 w1 start seen end
StopsBy WriteFault Step AtEnd w0 w1 start seen end = Torn Step AtEnd w0 w1 start seen end
StopsBy _ Step AtEnd w0 w1 start seen end = ⊥

-- `Ok`: all input was read, no more than `most` bytes, and what was written is its transcript
pub record Finished {S : Type 0} (Step : S → List ℕ → List ℕ → S → Type 0)
    (most : ℕ) (r0 r1 w0 w1 : Option (List ℕ)) (start end : S) : Type 0 where
  pub seen : List ℕ
  pub written : List ℕ
  pub read : Consumes r0 r1 seen
  pub last : IsAtEnd r1
  pub within : length seen ≤ most
  pub transcript : IsTranscript Step start seen written end
  pub appended : Appends w0 w1 written

-- 45: a read failed, or the input went on past `most` bytes, by the byte `over`; the complete lines before that are
-- answered
pub record Broken {S : Type 0} (Step : S → List ℕ → List ℕ → S → Type 0)
    (most : ℕ) (r0 r1 w0 w1 : Option (List ℕ)) (start end : S) : Type 0 where
  pub seen : List ℕ
  pub begun : List ℕ
  pub over : List ℕ
  pub read : Consumes r0 r1 (seen ++ over)
  pub within : length seen ≤ most
  pub past : (over ≡ []) ⊎ ((length over ≡ 1) × (length seen ≡ most))
  pub answered : AnswersWhole Step w0 w1 start seen begun end

-- 40 or 46: the answers stop within what was read
pub record Stopped {S : Type 0} (cause : Cause) (Step : S → List ℕ → List ℕ → S → Type 0)
    (most : ℕ) (r0 r1 w0 w1 : Option (List ℕ)) (start end : S) : Type 0 where
  pub seen : List ℕ
  pub read : Consumes r0 r1 seen
  pub within : length seen ≤ most
  pub stops : StopsBy cause Step (IsAtEnd r1) w0 w1 start seen end

-- how a run ends that is refused with this cause
abbrev pub EndsBy : {S : Type 0} → Cause → (S → List ℕ → List ℕ → S → Type 0) → ℕ
    → Option (List ℕ) → Option (List ℕ) → Option (List ℕ) → Option (List ℕ) → S → S → Type 0
EndsBy OutOfMemory Step most r0 r1 w0 w1 start end = Stopped OutOfMemory Step most r0 r1 w0 w1 start end
EndsBy ReadFault Step most r0 r1 w0 w1 start end = Broken Step most r0 r1 w0 w1 start end
EndsBy WriteFault Step most r0 r1 w0 w1 start end = Stopped WriteFault Step most r0 r1 w0 w1 start end
EndsBy _ Step most r0 r1 w0 w1 start end = ⊥

-- how a run ends, by its result; `remaining` and `contents` are what a reader has left and what a writer holds, where
-- they are known
abbrev pub Ends : {T S R W : Type 0} → Result T Cause → (S → List ℕ → List ℕ → S → Type 0) → ℕ
    → (R → Option (List ℕ)) → R → R → (W → Option (List ℕ)) → W → W → S → S → Type 0
Ends result Step most remaining r0 r1 contents w0 w1 start end = MatchResult result
    (λ _. Finished Step most (remaining r0) (remaining r1) (contents w0) (contents w1) start end)
    (λ cause. EndsBy cause Step most (remaining r0) (remaining r1) (contents w0) (contents w1) start end)
