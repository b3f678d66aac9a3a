-- what was appended in several steps
use Rattle.std.proofs.Common.{◌≡◌, ◌++◌, ◌∙◌, List, ℕ, ap, append_assoc}

pub appended_four : (a b c d e w x y z : List ℕ) → b ≡ a ++ w → c ≡ b ++ x → d ≡ c ++ y → e ≡ d ++ z
    → e ≡ a ++ (((w ++ x) ++ y) ++ z)
appended_four a b c d e w x y z h k m n =
    n ∙ ap (λ (l : List ℕ). l ++ z) (m ∙ ap (λ (l : List ℕ). l ++ y) (k ∙ ap (λ (l : List ℕ). l ++ x) h)) ∙ simp
    append_assoc
