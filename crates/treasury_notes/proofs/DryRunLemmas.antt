-- what is said of a dry run
use Rattle.std.proofs.Common.{◌≡◌, ◌≤◌, ◌∙◌, ℕ, min, List, ◌++◌, length, take, Option, ap, append_assoc}
use Rattle.std.proofs.lemmas.List.{take_all, take_min}
use Rattle.std.specs.List.{flat_map}
use Rattle.std.specs.Prelude.{Result, Ok, Err, OnOk}
use Rattle.money_core.specs.declared.style.Style.{Style}
use Rattle.book_core.specs.declared.entry.Entry.{Entry}
use Rattle.treasury_messages.specs.Said.{Said}
use Rattle.treasury_state.specs.declared.record.Record.{Record}
use Rattle.treasury_notes.specs.DryRun.{made_said}

-- messages, and then further ones
pub said_twice : {T E : Type 0} (r : Result T E) (old out next xs ys : List Said) → out ≡ old ++ xs
    → OnOk r (next ≡ out ++ ys) → OnOk r (next ≡ old ++ (xs ++ ys))
said_twice (Ok v) old out next xs ys e h = h ∙ ap (λ (ms : List Said). ms ++ ys) e ∙ append_assoc old xs ys
said_twice (Err v) old out next xs ys e h = h

-- those of the first, so many at most
pub said_first : {X : Type 0} (f : X → List Said) (new : List X) (m n i : ℕ) (old out : List Said)
    → m ≡ min n (length new) → length (take m new) ≤ i → out ≡ old ++ flat_map f (take i (take m new))
    → out ≡ old ++ flat_map f (take n new)
said_first {X} f new m n i old out is done before =
    before ∙ ap (λ (xs : List X). old ++ flat_map f xs)
    (take_all i (take m new) done ∙ ap (λ (k : ℕ). take k new) is ∙ take_min n new)

-- of the same entries in the same book
pub same_made : (s t : List Style) (b c : List Entry) (x y : Option (List ℕ)) (m n : List Record) → s ≡ t → b ≡ c
    → x ≡ y
    → m ≡ n → flat_map (made_said s b x) m ≡ flat_map (made_said t c y) n
same_made s t b c x y m n one two three four =
    ap (λ (u : List Style). flat_map (made_said u b x) m) one
    ∙ ap (λ (u : List Entry). flat_map (made_said t u x) m) two
    ∙ ap (λ (u : Option (List ℕ)). flat_map (made_said t c u) m) three
    ∙ ap (λ (u : List Record). flat_map (made_said t c y) u) four
