-- What was appended in several steps.
use Rattle.std.proofs.Common.{◌≡◌, ◌++◌, ℕ, List, length, take, refl}
use Rattle.std.proofs.Math.Seq.{take-append_seam}
use Rattle.money_core.proofs.PrintedLemmas.{appended_twice, kept_front}

-- what was appended in three steps
pub appended_thrice : (a b c d x y z : List ℕ) → b ≡ a ++ x → c ≡ b ++ y → d ≡ c ++ z → d ≡ a ++ (x ++ (y ++ z))
appended_thrice a b c d x y z e f g = appended_twice a b d x (y ++ z) e (appended_twice b c d y z f g)

-- a step that failed after one that did not leaves the front
pub kept_behind : (a b d x : List ℕ) → b ≡ a ++ x → take (length b) d ≡ b → take (length a) d ≡ a
kept_behind a b d x e h = kept_front a b d (length a) refl (rw e (take-append_seam a x)) h

-- a step that failed after two that did not
pub kept_behind_two : (a b c d x y : List ℕ) → b ≡ a ++ x → c ≡ b ++ y → take (length c) d ≡ c → take (length a) d ≡ a
kept_behind_two a b c d x y e f h = kept_behind a b d x e (kept_behind b c d y f h)
