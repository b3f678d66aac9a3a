-- what a branch that was found says of its name
use Rattle.std.proofs.Common.{◌≡◌, ℕ, Bool, true, false, ◌||◌, List, [], ◌∷◌, refl, ap, ◌∙◌, Some, None}
use Rattle.std.specs.Prelude.{if◌then◌else◌, find, cond}
use Rattle.std.specs.List.{list_any}
use Rattle.std.specs.Str.{bytes_eq}
use Rattle.treasury_state.specs.Federation.{Branch, has_name, records_in, lock_in, branch_at}

-- the branch of a name is there, and has these records and this lock
pub record IsThere (bs : List Branch) (name : List ℕ) (b : Branch) : Type 0 where
  pub any : list_any (has_name name) bs ≡ true
  pub records : records_in bs name ≡ b.records
  pub lock : lock_in bs name ≡ b.locked

there_at : (x b : Branch) (bs : List Branch) (name : List ℕ) (t : Bool) → bytes_eq x.name name ≡ t
    → cond t (Some x) (find (has_name name) bs) ≡ Some b → (find (has_name name) bs ≡ Some b → IsThere bs name b)
    → IsThere (x ∷ bs) name b
there_at x b bs name true g e h =
    let same : x ≡ b = cc in
    record {
      any = ap (λ (t : Bool). t || list_any (has_name name) bs) g;
      records = ap (λ (t : Bool). if t then x.records else records_in bs name) g ∙ ap (λ (y : Branch). y.records) same;
      lock = ap (λ (t : Bool). if t then x.locked else lock_in bs name) g ∙ ap (λ (y : Branch). y.locked) same;
    }
there_at x b bs name false g e h =
    let rest = h e in
    record {
      any = ap (λ (t : Bool). t || list_any (has_name name) bs) g ∙ rest.any;
      records = ap (λ (t : Bool). if t then x.records else records_in bs name) g ∙ rest.records;
      lock = ap (λ (t : Bool). if t then x.locked else lock_in bs name) g ∙ rest.lock;
    }

pub branch_at_Some : (bs : List Branch) (name : List ℕ) (b : Branch) → branch_at bs name ≡ Some b → IsThere bs name b
branch_at_Some [] name b e = absurd cc
branch_at_Some (x ∷ bs) name b e = there_at x b bs name (bytes_eq x.name name) refl e (branch_at_Some bs name b)

-- a name without a branch
pub record IsMissing (bs : List Branch) (name : List ℕ) : Type 0 where
  pub none : list_any (has_name name) bs ≡ false
  pub lock : lock_in bs name ≡ None

missing_at : (x : Branch) (bs : List Branch) (name : List ℕ) (t : Bool) → bytes_eq x.name name ≡ t
    → cond t (Some x) (find (has_name name) bs) ≡ None → (find (has_name name) bs ≡ None → IsMissing bs name)
    → IsMissing (x ∷ bs) name
missing_at x bs name true g e h = absurd cc
missing_at x bs name false g e h =
    let rest = h e in
    record {
      none = ap (λ (t : Bool). t || list_any (has_name name) bs) g ∙ rest.none;
      lock = ap (λ (t : Bool). if t then x.locked else lock_in bs name) g ∙ rest.lock;
    }

pub branch_at_None : (bs : List Branch) (name : List ℕ) → branch_at bs name ≡ None → IsMissing bs name
branch_at_None [] name e = record { none = refl; lock = refl }
branch_at_None (x ∷ bs) name e = missing_at x bs name (bytes_eq x.name name) refl e (branch_at_None bs name)
