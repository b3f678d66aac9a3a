-- the rows of the parts of a transfer are of it alone
use Rattle.std.proofs.Common.{◌≡◌, ℕ, false, List, [], ◌∷◌, refl, ap, ◌∙◌, sym, map, true≢false}
use Rattle.std.proofs.lemmas.Bool.{or_parts}
use Rattle.std.specs.List.{list_any, AllByRecursion}
use Rattle.std.specs.Str.{bytes_eq}
use Rattle.money_core.specs.declared.day.Day.{Day}
use Rattle.money_core.proofs.ListLemmas.{all-append}
use Rattle.money_core.proofs.BytesLemmas.{bytes_eq-refl}
use Rattle.treasury_state.specs.declared.rows.PartRow.{PartRow}
use Rattle.treasury_state.specs.declared.transfer.Part.{Part}
use Rattle.treasury_state.specs.declared.transfer.Transfer.{Transfer}
use Rattle.treasury_state.specs.Transfer.{has_id}
use Rattle.treasury_state.specs.Rows.{part_row, part_rows}
use Rattle.treasury_state.proofs.BranchRowLemmas.{same_day}

-- ---- the rows of the parts of a transfer stand before those of the next ones

abbrev pub IsOf : List ℕ → PartRow → Type 0
IsOf id r = r.transfer ≡ id

abbrev pub IsOfOther : List ℕ → PartRow → Type 0
IsOfOther id r = r.transfer ≡ id → ⊥

pub own_rows : (id : List ℕ) (ps : List Part) → AllByRecursion (IsOf id) (map (part_row id) ps)
own_rows id [] = tt
own_rows id (p ∷ ps) = (refl, own_rows id ps)

not_own : (id other : List ℕ) (ps : List Part) → bytes_eq other id ≡ false
    → AllByRecursion (IsOfOther id) (map (part_row other) ps)
not_own id other [] e = tt
not_own id other (p ∷ ps) e =
    (λ same. true≢false (sym (bytes_eq-refl other) ∙ (ap (bytes_eq other) same ∙ e)), not_own id other ps e)

pub other_rows : (id : List ℕ) (ts : List Transfer) → list_any (has_id id) ts ≡ false
    → AllByRecursion (IsOfOther id) (part_rows ts)
other_rows id [] e = tt
other_rows id (t ∷ ts) e =
    let n = or_parts (bytes_eq t.id id) (list_any (has_id id) ts) e in
    all-append (IsOfOther id) (map (part_row t.id) t.parts) (part_rows ts) (not_own id t.id t.parts n.0)
    (other_rows id ts n.1)

-- a row says which part it is of
pub same_part : (id : List ℕ) (p q : Part) → part_row id p ≡ part_row id q → p ≡ q
same_part id p q e =
    let day : p.day ≡ q.day = same_day p.day q.day (ap (λ (r : PartRow). r.received) e) in
    ap (λ (r : PartRow). let x : Part = record { key = r.part; qty = r.qty; day = p.day; payee = r.payee } in x) e
    ∙ ap (λ (d : Day). let x : Part = record { key = q.key; qty = q.qty; day = d; payee = q.payee } in x) day
