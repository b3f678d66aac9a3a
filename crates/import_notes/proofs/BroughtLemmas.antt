-- accounts that are taken at their first lines
use Rattle.std.proofs.Common.{◌≡◌, ◌∙◌, ℕ, Bool, true, false, not, ◌&&◌, cond, List, [], ◌∷◌, ◌++◌, refl, ap, sym}
use Rattle.std.proofs.Common.{subst, append_assoc, append-nil, filter, flat_map, bytes_eq, is_some, Some}
use Rattle.std.proofs.Common.{◌-◌, map, take, length}
use Rattle.std.proofs.lemmas.List.{length-map}
use Rattle.std.specs.Map.{lookup}
use Rattle.std.specs.Str.{IsUtf8}
use Rattle.std.specs.String.{string_bytes}
use Rattle.std.specs.declared.string.String.{String}
use Rattle.std.specs.declared.alloc.Global.{Global}
use Rattle.std.proofs.lemmas.Str.{IsUtf8-string_bytes}
use Rattle.money_core.proofs.BytesLemmas.{same_bytes}
use Rattle.journal_hints.specs.OddAmount.{is_posting_line}
use Rattle.journal_hints.proofs.BelowLemmas.{Line}
use Rattle.treasury_messages.specs.Said.{Said, says, naming}
use Rattle.import_notes.specs.declared.accounts.PostedAt.{PostedAt}
use Rattle.import_notes.specs.BroughtAccounts.{posted_view, posted_on, first_ones, new_ones, posted_values}
use Rattle.import_notes.specs.BroughtAccounts.{most_further, left_out_values, further_values}
use Rattle.import_notes.proofs.AccountLemmas.{Entries, has_key}

-- ---- filters
with_true : (a : Bool) → a ≡ (a && true)
with_true true = refl
with_true false = refl

left_out : (a : Bool) (ls ms : List Line) → ms ≡ cond (a && false) ls ms
left_out true ls ms = refl
left_out false ls ms = refl

same_filter : (p q : Line → Bool) → ((l : Line) → p l ≡ q l) → (ls : List Line) → filter p ls ≡ filter q ls
same_filter p q same [] = refl
same_filter p q same (l ∷ ls) =
    ap (λ (t : Bool). cond t (l ∷ filter p ls) (filter p ls)) (same l)
    ∙ ap (λ (ms : List Line). cond (q l) (l ∷ ms) ms) (same_filter p q same ls)

pub no_filter : (p : Line → Bool) → ((l : Line) → p l ≡ false) → (ls : List Line) → filter p ls ≡ []
no_filter p none [] = refl
no_filter p none (l ∷ ls) =
    ap (λ (t : Bool). cond t (l ∷ filter p ls) (filter p ls)) (none l) ∙ no_filter p none ls

one_filtered : (p : Line → Bool) (l : Line) (ls : List Line) (t : Bool)
    → filter p (cond (not t) (l ∷ ls) ls) ≡ cond (p l && not t) (l ∷ filter p ls) (filter p ls)
one_filtered p l ls true = left_out (p l) (l ∷ filter p ls) (filter p ls)
one_filtered p l ls false = ap (λ (t : Bool). cond t (l ∷ filter p ls) (filter p ls)) (with_true (p l))

filter_twice : (p q r : Line → Bool) → ((l : Line) → r l ≡ (p l && not (q l))) → (ls : List Line)
    → filter p (filter (λ (l : Line). not (q l)) ls) ≡ filter r ls
filter_twice p q r are [] = refl
filter_twice p q r are (l ∷ ls) =
    let ms = filter (λ (m : Line). not (q m)) ls in
    one_filtered p l ms (q l)
    ∙ ap (λ (t : Bool). cond t (l ∷ filter p ms) (filter p ms)) (sym (are l))
    ∙ ap (λ (ns : List Line). cond (r l) (l ∷ ns) ns) (filter_twice p q r are ls)

-- ---- one line more: its account is named if it is one of these, and then taken
in_front : (l : Line) (ls : List Line) (t : Bool) → cond t (l ∷ []) [] ++ ls ≡ cond t (l ∷ ls) ls
in_front l ls true = refl
in_front l ls false = refl

one_posted : (has now : List ℕ → Bool) (l : Line) (ls : List Line) (t : Bool)
    → ((other : List ℕ) → now other ≡ (has other && not (t && bytes_eq l.1 other)))
    → filter (λ (m : Line). has m.1) (cond t (l ∷ []) []) ++ new_ones now ls
    ≡ new_ones has (cond t (l ∷ []) [] ++ ls)
one_posted has now l ls false are =
    same_filter (λ (m : Line). now m.1) (λ (m : Line). has m.1) (λ m. are m.1 ∙ sym (with_true (has m.1)))
    (first_ones ls)
one_posted has now l ls true are =
    let others = filter (λ (m : Line). not (bytes_eq l.1 m.1)) (first_ones ls) in
    ap (λ (ms : List Line). cond (has l.1) (l ∷ []) [] ++ ms)
    (sym (filter_twice (λ (m : Line). has m.1) (λ (m : Line). bytes_eq l.1 m.1) (λ (m : Line). now m.1)
    (λ m. are m.1) (first_ones ls)))
    ∙ in_front l (filter (λ (m : Line). has m.1) others) (has l.1)

-- ---- what was found, and what is left
abbrev pub left_ones : (List ℕ → Bool) → List Line → List Line
left_ones has below = new_ones has (flat_map posted_on below)

pub next_left : (has now : List ℕ → Bool) (l : Line) (name : List ℕ) (below more found put all : List Line)
    → below ≡ l ∷ more
    → ((other : List ℕ) → now other ≡ (has other && not (is_posting_line l.1 && bytes_eq name other)))
    → posted_on l ≡ cond {A = List Line} (is_posting_line l.1) ((l.0, name) ∷ []) []
    → put ≡ found ++ filter (λ (m : Line). has m.1) (posted_on l)
    → found ++ left_ones has below ≡ all → put ++ left_ones now more ≡ all
next_left has now l name below more found put all split are on e before =
    let mine : List Line → List Line = λ ls. filter (λ (m : Line). has m.1) ls in
    let rest = flat_map posted_on more in
    ap (λ (ls : List Line). ls ++ new_ones now rest) e
    ∙ append_assoc found (mine (posted_on l)) (new_ones now rest)
    ∙ ap (λ (ls : List Line). found ++ (mine ls ++ new_ones now rest)) on
    ∙ ap (λ (ls : List Line). found ++ ls) (one_posted has now (l.0, name) rest (is_posting_line l.1) are)
    ∙ ap (λ (ls : List Line). found ++ new_ones has (ls ++ rest)) (sym on)
    ∙ ap (λ (ls : List Line). found ++ left_ones has ls) (sym split)
    ∙ before

pub none_left : (has : List ℕ → Bool) (below found all : List Line) → below ≡ []
    → found ++ left_ones has below ≡ all → found ≡ all
none_left has below found all none before =
    sym (append-nil found) ∙ ap (λ (ls : List Line). found ++ left_ones has ls) (sym none) ∙ before

-- ---- keys are UTF-8
pub no_key : (es : Entries) (k : List ℕ) → ¬ IsUtf8 k → has_key es k ≡ false
no_key [] k not_so = refl
no_key (e ∷ es) k not_so = by_test (no_key es k not_so) (bytes_eq k (string_bytes e.0)) refl
  where
    by_test : has_key es k ≡ false → (t : Bool) → bytes_eq k (string_bytes e.0) ≡ t
        → is_some (cond t (Some e.1) (lookup (λ (q : String Global). bytes_eq k (string_bytes q)) es)) ≡ false
    by_test rest true is =
        absurd (not_so (subst IsUtf8 (sym (same_bytes k (string_bytes e.0) is)) (IsUtf8-string_bytes e.0)))
    by_test rest false is = rest

pub no_key_taken : (es : Entries) (k other : List ℕ) → ¬ IsUtf8 k
    → has_key es other ≡ (has_key es other && not (bytes_eq k other))
no_key_taken es k other not_so = by_test (bytes_eq k other) refl
  where
    by_test : (t : Bool) → bytes_eq k other ≡ t → has_key es other ≡ (has_key es other && not t)
    by_test true is =
        let none : has_key es other ≡ false = ap (has_key es) (sym (same_bytes k other is)) ∙ no_key es k not_so in
        none ∙ ap (λ (t : Bool). t && false) (sym none)
    by_test false is = with_true (has_key es other)

-- ---- the accounts that a message names after the first
pub further_named : (m one : Said) (items named : List PostedAt)
    → one ≡ naming m (flat_map posted_values (map posted_view named))
    → map posted_view named ≡ take most_further (map posted_view items)
    → naming one (left_out_values (length items - most_further)) ≡ naming m (further_values (map posted_view items))
further_named m one items named e are =
    let first = flat_map posted_values (take most_further (map posted_view items)) in
    let left = length items - most_further in
    ap (λ (x : Said). naming x (left_out_values left)) e
    ∙ ap (λ (ls : List Line). naming (naming m (flat_map posted_values ls)) (left_out_values left)) are
    ∙ ap (λ (n : ℕ). naming (naming m first) (left_out_values (n - most_further))) (sym (length-map items posted_view))
    ∙ ap (λ (vs : List (List ℕ)). says m.kind vs)
    (append_assoc m.values first (left_out_values (length (map posted_view items) - most_further)))
