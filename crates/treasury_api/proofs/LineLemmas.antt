-- The lines of a text that is put together of whole lines and the beginning of one.
use Rattle.std.proofs.Common.{◌≡◌, ◌≢◌, ℕ, Bool, true, false, cond, List, [], ◌∷◌, ◌++◌, inl, inr, map, length, sym, ap}
use Rattle.std.proofs.Common.{◌∙◌, append_assoc, append-nil, refl, subst, ◌<◌, ◌+◌, take, drop, get_or, add-one, suc}
use Rattle.std.proofs.Common.{position, length-take, Option, Some, None}
use Rattle.std.proofs.lemmas.Bool.Decides.{nat_tests}
use Rattle.std.proofs.Math.Seq.{split_at}
use Rattle.std.proofs.lemmas.Grind.{common_steps}
use Rattle.std.proofs.lemmas.List.{drop-drop}
use Rattle.std.proofs.lemmas.List.Elements.{All-weaker, All-from_get_or, filter-append}
use Rattle.std.proofs.lemmas.List.Quantifiers.{position-Some}
use Rattle.std.proofs.lemmas.List.Sums.{fails_before_first}
use Rattle.money_core.proofs.PositionLemmas.{position-none}
use Rattle.std.proofs.lemmas.List.Splits.{slice_split_at, slice_split_none}
use Rattle.std.specs.Prelude.{◌==◌, not, All, if◌then◌else◌, MatchOption}
use Rattle.std.specs.List.{slice_split, onto_first}
use Rattle.std.specs.Str.Lines.{lines, lines_of_parts, strip_carriage_return}
use Rattle.std.proofs.Common.{arith}
use Rattle.treasury_api.specs.Transcript.{is_blank_text, requests_among, requests_in, AnswersInTurn, IsTranscript}
use Rattle.treasury_api.specs.RunEnd.{IsWholeLines, HasNoLineFeed}

abbrev parts : List ℕ → List (List ℕ)
parts text = slice_split (λ b. b == 10) text

-- there is a first part
parts_cons : (text : List ℕ) → (first : List ℕ) × (rest : List (List ℕ)) × (parts text ≡ first ∷ rest)
parts_cons [] = ([], [], refl)
parts_cons (b ∷ text) =
    let h = parts_cons text in
    elim (b == 10) as (λ t. (first : List ℕ) × (rest : List (List ℕ))
    × (cond t ([] ∷ parts text) (onto_first b (parts text)) ≡ first ∷ rest)) [
      | true ↦ ([], parts text, refl)
      | false ↦ (b ∷ h.0, h.1, ap (onto_first b) h.2)
    ]

-- a line feed ends a part
parts-line : (front text : List ℕ) → parts (front ++ (10 ∷ text)) ≡ parts front ++ parts text
parts-line [] text = refl
parts-line (b ∷ front) text =
    let h = parts_cons front in
    elim (b == 10) as (λ t. cond t ([] ∷ parts (front ++ (10 ∷ text))) (onto_first b (parts (front ++ (10 ∷ text))))
    ≡ cond t ([] ∷ parts front) (onto_first b (parts front)) ++ parts text) [
      | true ↦ ap (λ ps. [] ∷ ps) (parts-line front text)
      | false ↦ ap (onto_first b) (parts-line front text) ∙ ap (λ ps. onto_first b (ps ++ parts text)) h.2 ∙ sym
          (ap (λ ps. onto_first b ps ++ parts text) h.2)
    ]

lines_of_parts-append : (part : List ℕ) (more : List (List ℕ)) (first : List ℕ) (rest : List (List ℕ))
    → lines_of_parts ((part ∷ more) ++ (first ∷ rest))
    ≡ map strip_carriage_return (part ∷ more) ++ lines_of_parts (first ∷ rest)
lines_of_parts-append part [] first rest = refl
lines_of_parts-append part (next ∷ more) first rest =
    ap (λ ls. strip_carriage_return part ∷ ls) (lines_of_parts-append next more first rest)

lines-line : (front text : List ℕ)
    → lines (front ++ (10 ∷ text)) ≡ map strip_carriage_return (parts front) ++ lines text
lines-line front text =
    let a = parts_cons front in
    let b = parts_cons text in
    ap lines_of_parts (parts-line front text)
    ∙ ap (λ ps. lines_of_parts (ps ++ parts text)) a.2
    ∙ ap (λ ps. lines_of_parts ((a.0 ∷ a.1) ++ ps)) b.2
    ∙ lines_of_parts-append a.0 a.1 b.0 b.1
    ∙ sym (ap (λ ps. map strip_carriage_return (a.0 ∷ a.1) ++ lines_of_parts ps) b.2)
    ∙ sym (ap (λ ps. map strip_carriage_return ps ++ lines text) a.2)

-- the lines of whole lines, and then those of the rest
pub lines-append : (whole text : List ℕ) → IsWholeLines whole → lines (whole ++ text) ≡ lines whole ++ lines text
lines-append whole text (inl e) = ap (λ w. lines (w ++ text)) e ∙ sym (ap (λ w. lines w ++ lines text) e)
lines-append whole text (inr (front, e)) =
    ap (λ w. lines (w ++ text)) e
    ∙ ap lines (append_assoc front (10 ∷ []) text)
    ∙ lines-line front text
    ∙ sym (ap (λ ls. ls ++ lines text) (lines-line front [] ∙ append-nil (map strip_carriage_return (parts front))))
    ∙ sym (ap (λ w. lines w ++ lines text) e)

no_feed : (text : List ℕ) → HasNoLineFeed text → All (λ b. (b == 10) ≡ false) text
no_feed text part = All-weaker (λ b. b ≢ 10) (λ b. (b == 10) ≡ false) (λ b other. grind (arith, nat_tests)) text part

-- one line that a line feed ends
pub lines_one : (line : List ℕ) → HasNoLineFeed line → lines (line ++ (10 ∷ [])) ≡ strip_carriage_return line ∷ []
lines_one line part = ap lines_of_parts (slice_split_at (λ b. b == 10) line 10 [] (no_feed line part) refl)

-- one line without an end
pub lines_last : (line : List ℕ) → HasNoLineFeed line → lines line ≡ lines_of_parts (line ∷ [])
lines_last line part = ap lines_of_parts (slice_split_none (λ b. b == 10) line (no_feed line part))

pub requests-append : (whole text : List ℕ) → IsWholeLines whole
    → requests_in (whole ++ text) ≡ requests_in whole ++ requests_in text
requests-append whole text complete =
    ap requests_among (lines-append whole text complete) ∙ filter-append (λ line. not (is_blank_text line))
    (lines whole) (lines text)

pub requests_one : (line : List ℕ) → HasNoLineFeed line
    → requests_in (line ++ (10 ∷ [])) ≡ requests_among (strip_carriage_return line ∷ [])
requests_one line part = ap requests_among (lines_one line part)

last_request : (line : List ℕ) → requests_among (lines_of_parts (line ∷ [])) ≡ requests_among (line ∷ [])
last_request [] = refl
last_request (b ∷ line) =
    let some : (length (b ∷ line) == 0) ≡ false = grind (arith, nat_tests) in
    ap (λ (t : Bool). requests_among (if t then [] else (b ∷ line) ∷ [])) some

pub requests_last : (line : List ℕ) → HasNoLineFeed line → requests_in line ≡ requests_among (line ∷ [])
requests_last line part = ap requests_among (lines_last line part) ∙ last_request line

pub whole-append : (first second : List ℕ) → IsWholeLines first → IsWholeLines second → IsWholeLines (first ++ second)
whole-append first second a (inl e) =
    let P : List ℕ → Type 0 = λ text. IsWholeLines text in
    subst P (sym (ap (λ text. first ++ text) e ∙ append-nil first)) a
whole-append first second a (inr (front, e)) =
    inr (first ++ front, ap (λ text. first ++ text) e ∙ sym (append_assoc first front (10 ∷ [])))

pub answers-append : {S : Type 0} (Step : S → List ℕ → List ℕ → S → Type 0) (a b c : S) (first second : List (List ℕ))
    (o1 o2 : List ℕ) → AnswersInTurn Step a first o1 b → AnswersInTurn Step b second o2 c
    → AnswersInTurn Step a (first ++ second) (o1 ++ o2) c
answers-append {S = S} Step a b c [] second o1 o2 done next =
    let P : S → Type 0 = λ s. AnswersInTurn Step s second o2 c in
    let Q : List ℕ → Type 0 = λ o. AnswersInTurn Step a second o c in
    subst Q (sym (ap (λ o. o ++ o2) done.0)) (subst P done.1 next)
answers-append Step a b c (request ∷ first) second o1 o2 (mid, answer, rest, (step, done, e)) next = (
  mid,
  answer,
  rest ++ o2,
  (
    step,
    answers-append Step mid b c first second rest o2 done next,
    ap (λ o. o ++ o2) e ∙ append_assoc answer rest o2,
  ),
)

-- the transcript of whole lines, and then that of the rest
pub transcript-append : {S : Type 0} (Step : S → List ℕ → List ℕ → S → Type 0) (a b c : S) (whole text o1 o2 : List ℕ)
    → IsWholeLines whole → IsTranscript Step a whole o1 b → IsTranscript Step b text o2 c
    → IsTranscript Step a (whole ++ text) (o1 ++ o2) c
transcript-append Step a b c whole text o1 o2 complete first second =
    let P : List (List ℕ) → Type 0 = λ requests. AnswersInTurn Step a requests (o1 ++ o2) c in
    subst P (sym (requests-append whole text complete))
    (answers-append Step a b c (requests_in whole) (requests_in text) o1 o2 first second)

-- a text cut at one of its line feeds
pub cut_at_feed : (text : List ℕ) (i : ℕ) → i < length text → get_or text i 0 ≡ 10
    → text ≡ take i text ++ (10 ∷ drop (i + 1) text)
cut_at_feed text i within feed =
    rw add-one (split_at text i 0 within ∙ ap (λ b. take i text ++ (b ∷ drop (suc i) text)) feed)

-- the place of the first line feed
other_byte : (b : ℕ) → (b == 10) ≡ false → b ≢ 10
other_byte b e = grind (arith, nat_tests)

-- the first line feed of a text stands there; without one there is none
abbrev pub IsFeedPlace : Option ℕ → List ℕ → Type 0
IsFeedPlace o text =
    MatchOption o (HasNoLineFeed text) (λ i. (i < length text) × HasNoLineFeed (take i text) × (get_or text i 0 ≡ 10))

pub first_feed : (text : List ℕ) (o : Option ℕ) → position (λ b. b == 10) text ≡ o → IsFeedPlace o text
first_feed text None e =
    let all = position-none (λ (b : ℕ). b == 10) text e in
    All-from_get_or (λ b. b ≢ 10) text 0
    (λ i lt. other_byte (get_or text i 0) (fails_before_first (λ (b : ℕ). b == 10) text i 0 (omega (arith, all))))
first_feed text (Some i) e =
    let at = position-Some (λ (b : ℕ). b == 10) text i 0 e in
    let part = All-from_get_or (λ b. b ≢ 10) (take i text) 0 (λ k lt.
    let below : k < i = (let h = length-take i text in omega (arith, h)) in
    let same : get_or (take i text) k 0 ≡ get_or text k 0 = grind (arith, common_steps, below) in
    other_byte (get_or (take i text) k 0) (rw same (at.2 k below))) in
    (at.0, part, grind (arith, nat_tests, at.1))

-- what stands after a line feed
pub behind_feed : (text : List ℕ) (i : ℕ) → drop 1 (drop i text) ≡ drop (i + 1) text
behind_feed text i = simp drop-drop
