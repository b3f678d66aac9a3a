-- what was appended in several steps
use Rattle.std.proofs.Common.{◌≡◌, ◌++◌, ◌∙◌, List, ℕ, ap, take, length, append_assoc}
use Rattle.std.proofs.Math.Seq.{take-append_seam}

-- a step that failed after one that did not
pub kept_front : (a b d x : List ℕ) → b ≡ a ++ x → d ≡ b → take (length a) d ≡ a
kept_front a b d x e h = ap (take (length a)) (h ∙ e) ∙ take-append_seam a x

-- one piece more
pub append_piece : (a b c t p q : List ℕ) → b ≡ a ++ t → c ≡ b ++ p → p ≡ q → c ≡ a ++ (t ++ q)
append_piece a b c t p q h k e =
    k ∙ ap (λ (l : List ℕ). l ++ p) h ∙ append_assoc a t p ∙ ap (λ (l : List ℕ). a ++ (t ++ l)) e
