-- accounts of what is on its way
use Rattle.std.proofs.Common.{◌≡◌, ℕ, Bool, true, false, List, refl, ◌∙◌, sym}
use Rattle.std.specs.Prelude.{◌↔◌, IsTrue}
use Rattle.book_core.specs.Account.{is_inside}
use Rattle.book_core.proofs.AccountLemmas.{is_inside_decides}
use Rattle.journal_lines.specs.AccountName.{transit, IsReserved}

pub reserved_test : (account : List ℕ) (b : Bool) → IsTrue b ↔ IsReserved account → b ≡ is_inside transit account
reserved_test account b h = by_test b (is_inside transit account) refl h
  where
    by_test : (b t : Bool) → is_inside transit account ≡ t → IsTrue b ↔ IsReserved account → b ≡ t
    by_test true true e h = refl
    by_test false false e h = refl
    by_test true false e h = absurd
        (let k : is_inside transit account ≡ true =
        (is_inside_decides transit account).1 (h.0 refl) in let x : false ≡ true = sym e ∙ k in cc)
    by_test false true e h = absurd (let x : false ≡ true = h.1 ((is_inside_decides transit account).0 e) in cc)
