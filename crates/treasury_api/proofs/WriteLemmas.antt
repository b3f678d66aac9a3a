-- A text that is written part by part.
use Rattle.std.proofs.Common.{◌≡◌, ◌+◌, ◌-◌, ℕ, List, take, drop, length, Option, sym, subst, ap}
use Rattle.std.proofs.Math.Seq.{take-add}
use Rattle.std.proofs.KnownBytes.{Appends-trans}
use Rattle.journal_lines.proofs.LineSteps.{whole_rest}
use Rattle.std.specs.Io.KnownBytes.{Appends}

pub written_more : (a b c : Option (List ℕ)) (at n : ℕ) (text : List ℕ) → Appends a b (take at text)
    → Appends b c (take n (take (length text - at) (drop at text))) → Appends a c (take (at + n) text)
written_more a b c at n text first second =
    let e : take n (take (length text - at) (drop at text)) ≡ take n (drop at text) =
    ap (take n) (whole_rest at text) in
    let P : List ℕ → Type 0 = λ bs. Appends b c bs in
    let Q : List ℕ → Type 0 = λ bs. Appends a c bs in
    subst Q (sym (take-add at n text)) (Appends-trans a b c _ _ first (subst P e second))
