-- the tag of a posting's day, looked for line by line
use Rattle.std.proofs.Common.{◌≡◌, ◌∙◌, ℕ, ◌+◌, one-add, Bool, true, false, not, ◌&&◌, ◌||◌, cond, List, [], ◌∷◌}
use Rattle.std.proofs.Common.{drop, refl, ap, sym}
use Rattle.std.proofs.Common.{find, filter, take_while, nat_lt, Option, Some, None}
use Rattle.std.specs.List.{position_or_len}
use Rattle.std.proofs.lemmas.List.Sums.{take_while-cons}
use Rattle.journal_lines.specs.LineKind.{kind_of}
use Rattle.import_notes.specs.Dated.{is_dated_line, lines_behind, from_posting}
use Rattle.journal_hints.specs.OddAmount.{is_inner, is_posting_line}
use Rattle.journal_hints.proofs.BelowLemmas.{Line}

-- those of such lines that stand on a posting or after one, where the line before them may
abbrev pub posted_part : Bool → List Line → List Line
posted_part true ls = ls
posted_part false ls = from_posting ls

abbrev pub date_left : Bool → ℕ → List Line → Option Line
date_left on header ls = find is_dated_line (posted_part on (lines_behind header ls))

-- ---- a line more
abbrev pub inner_line : Line → Bool
inner_line l = is_inner (kind_of l.1)

one_behind : (header : ℕ) (l : Line) (ls more : List Line) → ls ≡ l ∷ more → nat_lt header l.0 ≡ true
    → lines_behind header ls ≡ cond (is_inner (kind_of l.1)) (l ∷ lines_behind header more) []
one_behind header l ls more split is =
    let rest = filter (λ (m : Line). nat_lt header m.0) more in
    ap (lines_behind header) split
    ∙ ap (λ (t : Bool). take_while inner_line (cond t (l ∷ rest) rest)) is
    ∙ take_while-cons inner_line l rest

pub date_before : (on : Bool) (header : ℕ) (l : Line) (ls more : List Line) → ls ≡ l ∷ more
    → nat_lt header l.0 ≡ false → date_left on header ls ≡ date_left on header more
date_before on header l ls more split is =
    let rest = filter (λ (m : Line). nat_lt header m.0) more in
    ap (date_left on header) split
    ∙ ap (λ (t : Bool). find is_dated_line (posted_part on (take_while inner_line (cond t (l ∷ rest) rest)))) is

nothing_posted : (on : Bool) → find is_dated_line (posted_part on []) ≡ None
nothing_posted true = refl
nothing_posted false = refl

pub date_over : (on : Bool) (header : ℕ) (l : Line) (ls more : List Line) → ls ≡ l ∷ more
    → nat_lt header l.0 ≡ true → is_inner (kind_of l.1) ≡ false → date_left on header ls ≡ None
date_over on header l ls more split is inner =
    ap (λ (ms : List Line). find is_dated_line (posted_part on ms)) (one_behind header l ls more split is)
    ∙ ap (λ (t : Bool). find is_dated_line (posted_part on (cond t (l ∷ lines_behind header more) []))) inner
    ∙ nothing_posted on

pub date_end : (on : Bool) (header : ℕ) (ls : List Line) → ls ≡ [] → date_left on header ls ≡ None
date_end on header ls none = ap (date_left on header) none ∙ nothing_posted on

-- ---- an indented line
from_first : (l : Line) (ls : List Line) (t : Bool) → is_posting_line l.1 ≡ t
    → from_posting (l ∷ ls) ≡ cond t (l ∷ ls) (from_posting ls)
from_first l ls true is =
    let n = position_or_len (λ (m : Line). is_posting_line m.1) ls in
    ap (λ (b : Bool). drop (cond (not b) (1 + n) 0) (l ∷ ls)) is
from_first l ls false is =
    let n = position_or_len (λ (m : Line). is_posting_line m.1) ls in
    ap (λ (b : Bool). drop (cond (not b) (1 + n) 0) (l ∷ ls)) is
    ∙ ap (λ (k : ℕ). drop k (l ∷ ls)) (one-add n)

posted_next : (on : Bool) (l : Line) (ls : List Line)
    → posted_part on (l ∷ ls) ≡ cond (on || is_posting_line l.1) (l ∷ ls) (posted_part on ls)
posted_next true l ls = refl
posted_next false l ls = from_first l ls (is_posting_line l.1) refl

date_inside : (on : Bool) (header : ℕ) (l : Line) (ls more : List Line) → ls ≡ l ∷ more
    → nat_lt header l.0 ≡ true → is_inner (kind_of l.1) ≡ true → date_left on header ls
    ≡ find is_dated_line (cond (on || is_posting_line l.1) (l ∷ lines_behind header more)
    (posted_part on (lines_behind header more)))
date_inside on header l ls more split is inner =
    ap (λ (ms : List Line). find is_dated_line (posted_part on ms)) (one_behind header l ls more split is)
    ∙ ap (λ (t : Bool). find is_dated_line (posted_part on (cond t (l ∷ lines_behind header more) []))) inner
    ∙ ap (find is_dated_line) (posted_next on l (lines_behind header more))

-- a line with the tag, on or after a posting, and another one
pub date_here : (on now : Bool) (header : ℕ) (l : Line) (ls more : List Line) → ls ≡ l ∷ more
    → nat_lt header l.0 ≡ true → is_inner (kind_of l.1) ≡ true → now ≡ (on || is_posting_line l.1)
    → (now && is_dated_line l) ≡ true → date_left on header ls ≡ Some l
date_here on true header l ls more split is inner from has =
    let rest = lines_behind header more in
    date_inside on header l ls more split is inner
    ∙ ap (λ (t : Bool). find is_dated_line (cond t (l ∷ rest) (posted_part on rest))) (sym from)
    ∙ ap (λ (t : Bool). cond t (Some l) (find is_dated_line rest)) has
date_here on false header l ls more split is inner from has = absurd cc

pub date_further : (on now : Bool) (header : ℕ) (l : Line) (ls more : List Line) → ls ≡ l ∷ more
    → nat_lt header l.0 ≡ true → is_inner (kind_of l.1) ≡ true → now ≡ (on || is_posting_line l.1)
    → (now && is_dated_line l) ≡ false → date_left on header ls ≡ date_left now header more
date_further on true header l ls more split is inner from none =
    let rest = lines_behind header more in
    date_inside on header l ls more split is inner
    ∙ ap (λ (t : Bool). find is_dated_line (cond t (l ∷ rest) (posted_part on rest))) (sym from)
    ∙ ap (λ (t : Bool). cond t (Some l) (find is_dated_line rest)) none
date_further true false header l ls more split is inner from none = absurd cc
date_further false false header l ls more split is inner from none =
    let rest = lines_behind header more in
    date_inside false header l ls more split is inner
    ∙ ap (λ (t : Bool). find is_dated_line (cond t (l ∷ rest) (posted_part false rest))) (sym from)
