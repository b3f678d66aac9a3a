-- the branch of a name, by its place
use Rattle.std.proofs.Common.{◌≡◌, ℕ, zero, suc, ◌<◌, ◌≤◌, Bool, true, false, List, [], ◌∷◌, length, get_or, set, refl}
use Rattle.std.proofs.Common.{ap, ◌∙◌, sym, subst, arith}
use Rattle.std.specs.Prelude.{if◌then◌else◌}
use Rattle.std.specs.List.{AllByRecursion}
use Rattle.std.specs.Str.{bytes_eq}
use Rattle.std.proofs.lemmas.List.{length-map}
use Rattle.treasury_state.specs.declared.state.Branch.{Branch as Kept}
use Rattle.treasury_state.specs.Federation.{Branch, name_place}
use Rattle.treasury_state.specs.Joined.{changed}
use Rattle.treasury_state.specs.Seen.{branch_of, branches_of}

past_at : (g : Branch → Branch) (name : List ℕ) (b : Branch) (bs : List Branch) (n : ℕ) (t : Bool)
    → suc n ≤ (if t then 0 else suc (name_place bs name)) → (n ≤ name_place bs name → changed g name bs ≡ bs)
    → (if t then g b ∷ bs else b ∷ changed g name bs) ≡ b ∷ bs
past_at g name b bs n true h k = absurd (omega (arith, h))
past_at g name b bs n false h k = ap (λ (xs : List Branch). b ∷ xs) (k (omega (arith, h)))

pub changed_past : (g : Branch → Branch) (name : List ℕ) (bs : List Branch) → length bs ≤ name_place bs name
    → changed g name bs ≡ bs
changed_past g name [] h = refl
changed_past g name (b ∷ bs) h = past_at g name b bs (length bs) (bytes_eq b.name name) h (changed_past g name bs)

pub past_branches : {L : Type 0} (g : Branch → Branch) (name : List ℕ) (bs : List (Kept L)) (i : ℕ)
    → i ≡ name_place (branches_of bs) name → length bs ≤ i → changed g name (branches_of bs) ≡ branches_of bs
past_branches g name bs i e h = changed_past g name (branches_of bs) (omega (arith, e, h, length-map bs branch_of))

first_at : {L : Type 0} (g : Branch → Branch) (name : List ℕ) (b b' : Kept L) (bs : List (Kept L)) (t : Bool)
    → 0 ≡ (if t then 0 else suc (name_place (branches_of bs) name)) → branch_of b' ≡ g (branch_of b)
    → branches_of (b' ∷ bs) ≡ (if t then g (branch_of b) ∷ branches_of bs
    else branch_of b ∷ changed g name (branches_of bs))
first_at g name b b' bs true e h = ap (λ (x : Branch). x ∷ branches_of bs) h
first_at g name b b' bs false e h = absurd (omega (arith, e))

later_at : (g : Branch → Branch) (name : List ℕ) (b : Branch) (bs xs : List Branch) (i : ℕ) (t : Bool)
    → suc i ≡ (if t then 0 else suc (name_place bs name)) → (i ≡ name_place bs name → xs ≡ changed g name bs)
    → b ∷ xs ≡ (if t then g b ∷ bs else b ∷ changed g name bs)
later_at g name b bs xs i true e h = absurd (omega (arith, e))
later_at g name b bs xs i false e h = ap (λ (ys : List Branch). b ∷ ys) (h (omega (arith, e)))

pub branch_set : {L : Type 0} (g : Branch → Branch) (name : List ℕ) (bs : List (Kept L)) (i : ℕ) (b b' : Kept L)
    → i < length bs → i ≡ name_place (branches_of bs) name → b ≡ get_or bs i b → branch_of b' ≡ g (branch_of b)
    → branches_of (set bs i b') ≡ changed g name (branches_of bs)
branch_set g name [] i b b' h e k m = absurd (omega (arith, h))
branch_set g name (x ∷ bs) zero b b' h e k m =
    first_at g name x b' bs (bytes_eq x.name name) e (m ∙ ap (λ c. g (branch_of c)) k)
branch_set g name (x ∷ bs) (suc i) b b' h e k m =
    later_at g name (branch_of x) (branches_of bs) (branches_of (set bs i b')) i (bytes_eq x.name name) e
    (λ n. branch_set g name bs i b b' (omega (arith, h)) n k m)

-- what holds of the changed branches holds of that one
first_holds : (P : Branch → Type 0) (g : Branch → Branch) (name : List ℕ) (b : Branch) (bs : List Branch) (t : Bool)
    → 0 ≡ (if t then 0 else suc (name_place bs name)) → AllByRecursion P (if t then g b ∷ bs else b ∷ changed g name bs)
    → P (g b)
first_holds P g name b bs true e h = h.0
first_holds P g name b bs false e h = absurd (omega (arith, e))

later_holds : (P : Branch → Type 0) (g : Branch → Branch) (name : List ℕ) (b : Branch) (bs : List Branch) (i : ℕ)
    (Q : Type 0) (t : Bool) → suc i ≡ (if t then 0 else suc (name_place bs name))
    → AllByRecursion P (if t then g b ∷ bs else b ∷ changed g name bs)
    → (i ≡ name_place bs name → AllByRecursion P (changed g name bs) → Q) → Q
later_holds P g name b bs i Q true e h k = absurd (omega (arith, e))
later_holds P g name b bs i Q false e h k = k (omega (arith, e)) h.1

pub changed_holds : {L : Type 0} (P : Branch → Type 0) (g : Branch → Branch) (name : List ℕ) (bs : List (Kept L))
    (i : ℕ) (b : Kept L) → i < length bs → i ≡ name_place (branches_of bs) name → b ≡ get_or bs i b
    → AllByRecursion P (changed g name (branches_of bs)) → P (g (branch_of b))
changed_holds P g name [] i b h e k w = absurd (omega (arith, h))
changed_holds P g name (x ∷ bs) zero b h e k w =
    subst (λ c. P (g (branch_of c))) (sym k)
    (first_holds P g name (branch_of x) (branches_of bs) (bytes_eq x.name name) e w)
changed_holds P g name (x ∷ bs) (suc i) b h e k w =
    later_holds P g name (branch_of x) (branches_of bs) i (P (g (branch_of b))) (bytes_eq x.name name) e w
    (λ n v. changed_holds P g name bs i b (omega (arith, h)) n k v)
