-- odd amounts of a text, line by line
use Rattle.std.proofs.Common.{◌≡◌, ◌∙◌, ℕ, Bool, true, false, List, [], ◌∷◌, ◌++◌, drop, refl, ap, sym, subst}
use Rattle.std.proofs.Common.{append-nil, inl, inr}
use Rattle.std.specs.Prelude.{◌&&◌, ⊤}
use Rattle.std.specs.List.{flat_map}
use Rattle.std.specs.Str.{IsUtf8, is_utf8}
use Rattle.std.proofs.lemmas.Bool.{cases_Bool}
use Rattle.std.proofs.lemmas.Str.{IsUtf8-from_is_utf8}
use Rattle.money_core.specs.declared.style.Style.{Style}
use Rattle.journal_lines.specs.LineKind.{kind_of}
use Rattle.journal_hints.specs.OddAmount.{OddText, odd_line, lines_below, is_next, is_inner}
use Rattle.journal_hints.proofs.BelowLemmas.{Line, by_kind, one_below, none_below}

-- ---- what was found, and no line more
pub none_odd_left : (styles : List Style) (below : List Line) (found all : List OddText) → below ≡ []
    → found ++ flat_map (odd_line styles) below ≡ all → found ≡ all
none_odd_left styles below found all none before =
    sym (append-nil found)
    ∙ ap (λ (ls : List Line). found ++ flat_map (odd_line styles) ls) (sym none)
    ∙ before

-- ---- lines without one
abbrev pub HaveNone : List Style → List Line → Type 0
HaveNone styles [] = ⊤
HaveNone styles (l ∷ ls) = (odd_line styles l ≡ []) × HaveNone styles ls

pub one_less : (styles : List Style) (l : Line) (ls more : List Line) (P : Type 0) → ls ≡ l ∷ more
    → odd_line styles l ≡ [] → (HaveNone styles ls → P) → HaveNone styles more → P
one_less styles l ls more P split none before rest =
    before (subst (HaveNone styles) (sym split) (none, rest))

none_by : (styles : List Style) (heads : List ℕ) (l : Line) (ls : List Line) (next inner : Bool)
    → odd_line styles l ≡ []
    → ((heads : List ℕ) (inside : Bool) → flat_map (odd_line styles) (lines_below heads inside ls) ≡ [])
    → flat_map (odd_line styles) (by_kind heads l ls next inner) ≡ []
none_by styles heads l ls true inner none rest = rest (drop 1 heads) true
none_by styles heads l ls false true none rest =
    ap (λ (xs : List OddText). xs ++ flat_map (odd_line styles) (lines_below heads true ls)) none ∙ rest heads true
none_by styles heads l ls false false none rest = rest heads false

pub have_none : (styles : List Style) (ls : List Line) (heads : List ℕ) (inside : Bool) → HaveNone styles ls
    → flat_map (odd_line styles) (lines_below heads inside ls) ≡ []
have_none styles [] heads inside h = ap (flat_map (odd_line styles)) (none_below heads inside [] refl)
have_none styles (l ∷ ls) heads inside h =
    ap (flat_map (odd_line styles)) (one_below heads inside l ls)
    ∙ none_by styles heads l ls (is_next heads l.0) (inside && is_inner (kind_of l.1)) h.0
    (λ hs is. have_none styles ls hs is h.1)

-- ---- a text that is no UTF-8
pub no_utf8 : (text : List ℕ) → ¬ IsUtf8 text → is_utf8 text ≡ false
no_utf8 text not_so = elim (cases_Bool (is_utf8 text)) [
  | inl so ↦ absurd (not_so (IsUtf8-from_is_utf8 text so))
  | inr is ↦ is
]
