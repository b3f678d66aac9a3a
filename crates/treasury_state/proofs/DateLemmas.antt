-- a printed date is text
use Rattle.std.proofs.Common.{◌≡◌, ◌||◌, ◌==◌, ℕ, Bool, true, List, [], ◌∷◌, refl}
use Rattle.std.specs.Char.{is_ascii_digit}
use Rattle.std.specs.List.{list_all}
use Rattle.std.specs.Str.{is_utf8}
use Rattle.std.proofs.lemmas.Bool.{and_from, and_parts}
use Rattle.money_core.specs.declared.day.Day.{Day}
use Rattle.money_core.proofs.Utf8Lemmas.{utf8_low, is_low}
use Rattle.journal_lines.specs.Date.{printed_date, IsDayNumber}
use Rattle.journal_lines.proofs.DateLemmas.{dates_print}
use Rattle.journal_lines.proofs.Utf8Lemmas.{date_low}

-- ---- the transaction can be printed

pub all_weaker : (p q : ℕ → Bool) → ((b : ℕ) → p b ≡ true → q b ≡ true) → (xs : List ℕ) → list_all p xs ≡ true
    → list_all q xs ≡ true
all_weaker p q f [] h = refl
all_weaker p q f (x ∷ xs) h = let both =
    and_parts (p x) (list_all p xs) h in and_from (q x) (list_all q xs) (f x both.0) (all_weaker p q f xs both.1)

pub date_utf8 : (day : Day) → IsDayNumber day → is_utf8 (printed_date day) ≡ true
date_utf8 day h = utf8_low (printed_date day)
    (all_weaker (λ b. is_ascii_digit b || (b == 45)) is_low date_low (printed_date day) (dates_print day h).form)
