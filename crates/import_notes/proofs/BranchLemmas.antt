-- a name without a branch has no records
use Rattle.std.proofs.Common.{◌≡◌, ◌∙◌, ap, refl, cond, ℕ, Bool, true, false, List, [], ◌∷◌, Some, None}
use Rattle.std.specs.Prelude.{find, if◌then◌else◌}
use Rattle.std.specs.Str.{bytes_eq}
use Rattle.treasury_state.specs.Federation.{Branch, has_name, records_in}

no_records_at : (b : Branch) (bs : List Branch) (name : List ℕ) (t : Bool) → bytes_eq b.name name ≡ t
    → cond t (Some b) (find (has_name name) bs) ≡ None → (find (has_name name) bs ≡ None → records_in bs name ≡ [])
    → records_in (b ∷ bs) name ≡ []
no_records_at b bs name true g e h = absurd cc
no_records_at b bs name false g e h = ap (λ (t : Bool). if t then b.records else records_in bs name) g ∙ h e

pub no_records : (bs : List Branch) (name : List ℕ) → find (has_name name) bs ≡ None → records_in bs name ≡ []
no_records [] name e = refl
no_records (b ∷ bs) name e = no_records_at b bs name (bytes_eq b.name name) refl e (no_records bs name)
