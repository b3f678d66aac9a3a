-- a change of one branch: what holds of the others stays
use Rattle.std.proofs.Common.{◌≡◌, ℕ, suc, Bool, true, false, ◌||◌, List, [], ◌∷◌, length, refl, ap, ◌∙◌, sym, Option}
use Rattle.std.proofs.lemmas.Bool.{or_parts}
use Rattle.std.specs.Prelude.{if◌then◌else◌}
use Rattle.std.specs.List.{list_any, AllByRecursion}
use Rattle.std.specs.Str.{bytes_eq}
use Rattle.money_core.specs.declared.day.Day.{Day}
use Rattle.money_core.proofs.BytesLemmas.{same_bytes}
use Rattle.treasury_state.specs.declared.record.Record.{Record}
use Rattle.treasury_state.specs.Federation.{Branch, has_name, records_in, lock_in}
use Rattle.treasury_state.specs.Joined.{changed}
use Rattle.treasury_state.specs.Good.{HaveOwnNames}

-- a change that leaves names
abbrev pub KeepsName : (Branch → Branch) → Type 0
KeepsName g = (b : Branch) → (g b).name ≡ b.name

length_at : (g : Branch → Branch) (b : Branch) (bs xs : List Branch) (t : Bool) → length xs ≡ length bs
    → length (if t then g b ∷ bs else b ∷ xs) ≡ length (b ∷ bs)
length_at g b bs xs true e = refl
length_at g b bs xs false e = ap suc e

pub length-changed : (g : Branch → Branch) (name : List ℕ) (bs : List Branch) → length (changed g name bs) ≡ length bs
length-changed g name [] = refl
length-changed g name (b ∷ bs) = length_at g b bs (changed g name bs) (bytes_eq b.name name) (length-changed g name bs)

any_at : (g : Branch → Branch) (b : Branch) (bs xs : List Branch) (m : List ℕ) (t : Bool) → KeepsName g
    → list_any (has_name m) xs ≡ list_any (has_name m) bs
    → list_any (has_name m) (if t then g b ∷ bs else b ∷ xs) ≡ list_any (has_name m) (b ∷ bs)
any_at g b bs xs m true k e = ap (λ (n : List ℕ). bytes_eq n m || list_any (has_name m) bs) (k b)
any_at g b bs xs m false k e = ap (λ (t : Bool). bytes_eq b.name m || t) e

pub any-changed : (g : Branch → Branch) (name m : List ℕ) (bs : List Branch) → KeepsName g
    → list_any (has_name m) (changed g name bs) ≡ list_any (has_name m) bs
any-changed g name m [] k = refl
any-changed g name m (b ∷ bs) k =
    any_at g b bs (changed g name bs) m (bytes_eq b.name name) k (any-changed g name m bs k)

names_at : (g : Branch → Branch) (b : Branch) (bs xs : List Branch) (t : Bool) → KeepsName g → HaveOwnNames (b ∷ bs)
    → list_any (has_name b.name) xs ≡ list_any (has_name b.name) bs → HaveOwnNames xs
    → HaveOwnNames (if t then g b ∷ bs else b ∷ xs)
names_at g b bs xs true k h e i = (ap (λ (n : List ℕ). list_any (has_name n) bs) (k b) ∙ h.0, h.1)
names_at g b bs xs false k h e i = (e ∙ h.0, i)

pub names-changed : (g : Branch → Branch) (name : List ℕ) (bs : List Branch) → KeepsName g → HaveOwnNames bs
    → HaveOwnNames (changed g name bs)
names-changed g name [] k h = tt
names-changed g name (b ∷ bs) k h =
    names_at g b bs (changed g name bs) (bytes_eq b.name name) k h (any-changed g name b.name bs k)
    (names-changed g name bs k h.1)

-- the branches with other names
others_keep : (P Q : Branch → Type 0) (name : List ℕ) (bs : List Branch) → list_any (has_name name) bs ≡ false
    → ((b : Branch) → bytes_eq b.name name ≡ false → P b → Q b) → AllByRecursion P bs → AllByRecursion Q bs
others_keep P Q name [] n k h = tt
others_keep P Q name (b ∷ bs) n k h = let e =
    or_parts (bytes_eq b.name name) (list_any (has_name name) bs) n in (k b e.0 h.0, others_keep P Q name bs e.1 k h.1)

-- what a changed branch is: that of the name, with the records and the lock that are looked up
abbrev pub Changes : (Branch → Branch) → List ℕ → List Record → Option Day → (Branch → Type 0) → (Branch → Type 0)
    → Type 0
Changes g name rs lock P Q = (b : Branch) → b.name ≡ name → b.records ≡ rs → b.locked ≡ lock → P b → Q (g b)

abbrev pub Stays : List ℕ → (Branch → Type 0) → (Branch → Type 0) → Type 0
Stays name P Q = (b : Branch) → bytes_eq b.name name ≡ false → P b → Q b

changed_at : (P Q : Branch → Type 0) (g : Branch → Branch) (name : List ℕ) (rs : List Record) (lock : Option Day)
    (b : Branch) (bs xs : List Branch) (t : Bool) → bytes_eq b.name name ≡ t → list_any (has_name b.name) bs ≡ false
    → (if t then b.records else records_in bs name) ≡ rs → (if t then b.locked else lock_in bs name) ≡ lock
    → Changes g name rs lock P Q → Stays name P Q → P b → AllByRecursion P bs
    → (records_in bs name ≡ rs → lock_in bs name ≡ lock → AllByRecursion Q xs)
    → AllByRecursion Q (if t then g b ∷ bs else b ∷ xs)
changed_at P Q g name rs lock b bs xs true e n r l c s h hs i = (
  c b (same_bytes b.name name e) r l h,
  others_keep P Q name bs (ap (λ (m : List ℕ). list_any (has_name m) bs) (sym (same_bytes b.name name e)) ∙ n) s hs,
)
changed_at P Q g name rs lock b bs xs false e n r l c s h hs i = (s b e h, i r l)

all_from : (P Q : Branch → Type 0) (g : Branch → Branch) (name : List ℕ) (rs : List Record) (lock : Option Day)
    (bs : List Branch) → HaveOwnNames bs → records_in bs name ≡ rs → lock_in bs name ≡ lock → Changes g name rs lock P Q
    → Stays name P Q
    → AllByRecursion P bs → AllByRecursion Q (changed g name bs)
all_from P Q g name rs lock [] n r l c s h = tt
all_from P Q g name rs lock (b ∷ bs) n r l c s h =
    changed_at P Q g name rs lock b bs (changed g name bs) (bytes_eq b.name name) refl n.0 r l c s h.0 h.1
    (λ e k. all_from P Q g name rs lock bs n.1 e k c s h.1)

pub all-changed : (P Q : Branch → Type 0) (g : Branch → Branch) (name : List ℕ) (bs : List Branch) → HaveOwnNames bs
    → Changes g name (records_in bs name) (lock_in bs name) P Q → Stays name P Q → AllByRecursion P bs
    → AllByRecursion Q (changed g name bs)
all-changed P Q g name bs n c s h = all_from P Q g name (records_in bs name) (lock_in bs name) bs n refl refl c s h

-- one change after another of the same branch
twice_at : (g h : Branch → Branch) (name : List ℕ) (b : Branch) (bs xs ys : List Branch) (t : Bool)
    → bytes_eq b.name name ≡ t → KeepsName g → changed h name xs ≡ ys
    → changed h name (if t then g b ∷ bs else b ∷ xs) ≡ (if t then h (g b) ∷ bs else b ∷ ys)
twice_at g h name b bs xs ys true e k i =
    ap (λ (m : List ℕ). if bytes_eq m name then h (g b) ∷ bs else g b ∷ changed h name bs) (k b) ∙ ap
    (λ (t : Bool). if t then h (g b) ∷ bs else g b ∷ changed h name bs) e
twice_at g h name b bs xs ys false e k i =
    ap (λ (t : Bool). if t then h b ∷ xs else b ∷ changed h name xs) e ∙ ap (λ (zs : List Branch). b ∷ zs) i

pub changed-twice : (g h : Branch → Branch) (name : List ℕ) (bs : List Branch) → KeepsName g
    → changed h name (changed g name bs) ≡ changed (λ b. h (g b)) name bs
changed-twice g h name [] k = refl
changed-twice g h name (b ∷ bs) k =
    twice_at g h name b bs (changed g name bs) (changed (λ x. h (g x)) name bs) (bytes_eq b.name name) refl k
    (changed-twice g h name bs k)
