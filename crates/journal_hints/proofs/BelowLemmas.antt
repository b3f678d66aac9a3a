-- the lines below headers, one by one
use Rattle.std.proofs.Common.{◌≡◌, ◌∙◌, ℕ, ◌-◌, Bool, true, false, List, [], ◌∷◌, ◌++◌, take, drop, length, refl}
use Rattle.std.proofs.Common.{ap, sym}
use Rattle.std.proofs.lemmas.List.{take_rest}
use Rattle.std.specs.Prelude.{if◌then◌else◌, ◌&&◌}
use Rattle.journal_lines.specs.LineKind.{kind_of}
use Rattle.journal_hints.specs.OddAmount.{lines_below, is_next, is_inner}

abbrev pub Line : Type 0
Line = ℕ × List ℕ

-- a line is below a header or not, and what is left then
abbrev pub below_now : List ℕ → Bool → Line → List Line → Bool → List Line
below_now left now l more has = (if has then l ∷ [] else []) ++ lines_below left now more

abbrev pub by_kind : List ℕ → Line → List Line → Bool → Bool → List Line
by_kind heads l ls next inner =
    if next then lines_below (drop 1 heads) true ls
    else if inner then l ∷ lines_below heads true ls
    else lines_below heads false ls

pub one_below : (heads : List ℕ) (inside : Bool) (l : Line) (ls : List Line)
    → lines_below heads inside (l ∷ ls) ≡ by_kind heads l ls (is_next heads l.0) (inside && is_inner (kind_of l.1))
unfolding lines_below
one_below heads inside l ls = refl

pub none_below : (heads : List ℕ) (inside : Bool) (ls : List Line) → ls ≡ [] → lines_below heads inside ls ≡ []
unfolding lines_below
none_below heads inside ls none = ap (lines_below heads inside) none

-- a header
pub at_header : (heads : List ℕ) (inside : Bool) (l : Line) (more : List Line) → is_next heads l.0 ≡ true
    → lines_below heads inside (l ∷ more) ≡ lines_below (take (length heads - 1) (drop 1 heads)) true more
at_header heads inside l more next =
    one_below heads inside l more
    ∙ ap (λ (t : Bool). by_kind heads l more t (inside && is_inner (kind_of l.1))) next
    ∙ ap (λ (hs : List ℕ). lines_below hs true more) (sym (take_rest heads 1))

-- another line, which is below one or not
pub at_other : (heads : List ℕ) (inside now : Bool) (l : Line) (more : List Line) → is_next heads l.0 ≡ false
    → now ≡ (inside && is_inner (kind_of l.1))
    → lines_below heads inside (l ∷ more) ≡ below_now heads now l more now
at_other heads inside true l more next is =
    one_below heads inside l more
    ∙ ap (λ (t : Bool). by_kind heads l more t (inside && is_inner (kind_of l.1))) next
    ∙ ap (λ (t : Bool). by_kind heads l more false t) (sym is)
at_other heads inside false l more next is =
    one_below heads inside l more
    ∙ ap (λ (t : Bool). by_kind heads l more t (inside && is_inner (kind_of l.1))) next
    ∙ ap (λ (t : Bool). by_kind heads l more false t) (sym is)

-- what is left after a line that is below one
pub taken : (heads left : List ℕ) (inside now has : Bool) (l : Line) (ls more : List Line) → ls ≡ l ∷ more
    → lines_below heads inside (l ∷ more) ≡ below_now left now l more has → has ≡ true
    → lines_below heads inside ls ≡ l ∷ lines_below left now more
taken heads left inside now has l ls more split one is =
    ap (lines_below heads inside) split ∙ one ∙ ap (below_now left now l more) is
