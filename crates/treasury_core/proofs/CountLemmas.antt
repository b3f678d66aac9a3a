-- the texts of a file are counted one by one
use Rattle.std.proofs.Common.{◌≡◌, ◌+◌, ℕ, Bool, true, false, ◌&&◌, cond, List, [], ◌∷◌, ◌++◌, refl, ap, ◌∙◌, sym}
use Rattle.std.proofs.Common.{arith, Option, Some, None}
use Rattle.std.specs.Prelude.{if◌then◌else◌, is_some, not}
use Rattle.std.specs.Global.{Vec}
use Rattle.std.specs.HashMap.{HashMap}
use Rattle.std.specs.List.{count_by}
use Rattle.std.specs.Str.{bytes_eq}
use Rattle.std.specs.declared.hash.FoldHasher.{FoldHasher}
use Rattle.std.specs.declared.hash.BuildHasherDefault.{BuildHasherDefault}
use Rattle.std.proofs.lemmas.List.Sums.{sum_by-append}
use Rattle.money_core.specs.declared.style.Style.{Style}
use Rattle.money_core.proofs.BytesLemmas.{same_bytes}
use Rattle.journal_format.specs.declared.txn.Txn.{Txn}
use Rattle.journal_format.specs.CanonicalText.{body_text}
use Rattle.treasury_state.specs.Mark.{alike}
use Rattle.treasury_core.specs.Counted.{count_of, counted_more, AreCounted}

abbrev pub Counts : Type 0
Counts = HashMap (Vec ℕ) ℕ (BuildHasherDefault FoldHasher)

count_push : (p : Txn → Bool) (ts : List Txn) (t : Txn) → count_by p (ts ++ t ∷ []) ≡ count_by p ts + cond (p t) 1 0
count_push p ts t = sum_by-append (λ (x : Txn). cond (p x) 1 0) ts (t ∷ []) ∙ omega arith

unmarked_hit : (o : Option (List ℕ)) (t : Bool) → o ≡ None → (not (is_some o) && t) ≡ t
unmarked_hit None t e = refl
unmarked_hit (Some m) t e = absurd cc

-- an unmarked transaction is counted
one_more : (styles : List Style) (text other : List ℕ) (before : List Txn) (n m : ℕ) (t : Bool)
    → bytes_eq text other ≡ t → n ≡ alike styles text before → m ≡ alike styles other before
    → (if t then n + 1 else m) ≡ alike styles other before + cond t 1 0
one_more styles text other before n m true e h k =
    ap (λ (x : ℕ). x + 1) (h ∙ ap (λ (x : List ℕ). alike styles x before) (same_bytes text other e))
one_more styles text other before n m false e h k = omega (arith, k)

pub counted_next : (styles : List Style) (t : Txn) (before : List Txn) (old new : Counts) (text : Vec ℕ) → t.mark ≡ None
    → text.items ≡ body_text styles t → AreCounted styles old before
    → ((other : Vec ℕ) → count_of new other ≡ counted_more text (count_of old text) other (count_of old other))
    → AreCounted styles new (before ++ t ∷ [])
counted_next styles t before old new text mark same h next = λ other.
    next other
    ∙ one_more styles text.items other.items before (count_of old text) (count_of old other)
    (bytes_eq text.items other.items) refl (h text) (h other)
    ∙ ap (λ (b : Bool). alike styles other.items before + cond b 1 0)
    (ap (λ (x : List ℕ). bytes_eq x other.items) same ∙ sym
    (unmarked_hit t.mark (bytes_eq (body_text styles t) other.items) mark))
    ∙ sym (count_push (λ (x : Txn). not (is_some x.mark) && bytes_eq (body_text styles x) other.items) before t)
