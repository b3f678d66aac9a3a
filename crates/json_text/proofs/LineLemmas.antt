-- The first line of a text, and the others.
use Rattle.std.proofs.Common.{◌≡◌, ◌∙◌, ◌+◌, ◌∷◌, ◌==◌, ℕ, suc, List, [], Bool, true, false, cond, not, refl}
use Rattle.std.proofs.Common.{ap, ap₂}
use Rattle.std.proofs.Common.{take, drop, sym, arith, length}
use Rattle.std.specs.Prelude.{if◌then◌else◌}
use Rattle.std.specs.List.{position_or_len}
use Rattle.std.proofs.lemmas.Bool.{eqb-true}
use Rattle.json_text.specs.JsonText.{onto_first, lines_of}

-- where the first line ends
abbrev pub line_end : List ℕ → ℕ
line_end text = position_or_len (λ b. b == 10) text

-- the lines, of which the first has so many bytes
abbrev cut_at : ℕ → List ℕ → List (List ℕ)
cut_at n text = take n text ∷ lines_of (drop (n + 1) text)

by_last : (ends : Bool) (b : ℕ) → (if ends then [] ∷ lines_of [] else onto_first b (lines_of []))
    ≡ cut_at (cond (not ends) (1 + line_end []) 0) (b ∷ [])
unfolding lines_of
by_last true b = refl
by_last false b = refl

onto_first_cut_at : (n b : ℕ) (text : List ℕ) → onto_first b (cut_at n text) ≡ cut_at (1 + n) (b ∷ text)
onto_first_cut_at n b text =
    let e : suc n ≡ 1 + n = omega arith in
    let f : suc (n + 1) ≡ 1 + n + 1 = omega arith in
    ap₂ (λ (j k : ℕ). take j (b ∷ text) ∷ lines_of (drop k (b ∷ text))) e f

by_more : (ends : Bool) (b : ℕ) (text : List ℕ) → lines_of text ≡ cut_at (line_end text) text
    → (if ends then [] ∷ lines_of text else onto_first b (lines_of text))
    ≡ cut_at (cond (not ends) (1 + line_end text) 0) (b ∷ text)
by_more true b text ih = refl
by_more false b text ih = ap (onto_first b) ih ∙ onto_first_cut_at (line_end text) b text

pub first_line : (b : ℕ) (bs : List ℕ)
    → lines_of (b ∷ bs) ≡ take (line_end (b ∷ bs)) (b ∷ bs) ∷ lines_of (drop (line_end (b ∷ bs) + 1) (b ∷ bs))
unfolding lines_of
first_line b [] = by_last (b == 10) b
first_line b (c ∷ cs) = by_more (b == 10) b (c ∷ cs) (first_line c cs)

-- where nothing is left, there is no line
pub nothing_left : (text : List ℕ) → (length text == 0) ≡ true → lines_of text ≡ []
unfolding lines_of
nothing_left [] h = refl
nothing_left (b ∷ bs) h = absurd (let none = eqb-true (length (b ∷ bs)) 0 h in omega (arith, none))

-- else there is a first one
pub line_left : (text : List ℕ) (n : ℕ) → (length text == 0) ≡ false → n ≡ line_end text
    → lines_of text ≡ take n text ∷ lines_of (drop (n + 1) text)
line_left [] n h e = absurd (cc)
line_left (b ∷ bs) n h e = first_line b bs ∙ ap (λ (k : ℕ). cut_at k (b ∷ bs)) (sym e)
