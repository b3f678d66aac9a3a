-- Tables that have the same rows, in any order.
use Rattle.std.proofs.Common.{◌≡◌, ◌∙◌, List, [], ◌∷◌, ◌++◌, map, refl, sym, ap, subst, IsPermutation}
use Rattle.std.proofs.lemmas.List.Sorted.{IsPermutation-refl, IsPermutation-sym, IsPermutation-cons}
use Rattle.std.proofs.lemmas.List.Sorted.{IsPermutation-trans, IsPermutation-map, IsPermutation-append_comm}
use Rattle.std.proofs.lemmas.List.Sorted.{IsPermutation-append_left}
use Rattle.std.proofs.lemmas.List.{append_assoc}
use Rattle.sqlite.specs.Effect.{Database}
use Rattle.treasury_state.specs.declared.rows.UnitRow.{UnitRow}
use Rattle.treasury_state.specs.declared.rows.BranchRow.{BranchRow}
use Rattle.treasury_state.specs.declared.rows.EntryRow.{EntryRow}
use Rattle.treasury_state.specs.declared.rows.LegRow.{LegRow}
use Rattle.treasury_state.specs.declared.rows.ClaimRow.{ClaimRow}
use Rattle.treasury_state.specs.declared.rows.TransferRow.{TransferRow}
use Rattle.treasury_state.specs.declared.rows.PartRow.{PartRow}
use Rattle.treasury_tables.specs.declared.change.Change.{Change}
use Rattle.treasury_tables.specs.declared.change.Change.TheVariants as change
use Rattle.treasury_tables.specs.Rows.{Tables, HoldsTables, values_of_unit, values_of_branch, values_of_entry}
use Rattle.treasury_tables.specs.Rows.{values_of_leg, values_of_claim}
use Rattle.treasury_tables.specs.Rows.{values_of_transfer, values_of_part, row_locked, row_received, tables_changed}
use Rattle.treasury_tables.specs.Rows.{written}

pub record Same (t u : Tables) : Type 0 where
  pub units : IsPermutation t.units u.units
  pub branches : IsPermutation t.branches u.branches
  pub entries : IsPermutation t.entries u.entries
  pub legs : IsPermutation t.legs u.legs
  pub claims : IsPermutation t.claims u.claims
  pub transfers : IsPermutation t.transfers u.transfers
  pub receipts : IsPermutation t.receipts u.receipts

pub same_refl : (t : Tables) → Same t t
same_refl t = record {
  units = IsPermutation-refl t.units;
  branches = IsPermutation-refl t.branches;
  entries = IsPermutation-refl t.entries;
  legs = IsPermutation-refl t.legs;
  claims = IsPermutation-refl t.claims;
  transfers = IsPermutation-refl t.transfers;
  receipts = IsPermutation-refl t.receipts;
}

pub same_trans : (t u v : Tables) → Same t u → Same u v → Same t v
same_trans t u v a b = record {
  units = IsPermutation-trans t.units u.units v.units a.units b.units;
  branches = IsPermutation-trans t.branches u.branches v.branches a.branches b.branches;
  entries = IsPermutation-trans t.entries u.entries v.entries a.entries b.entries;
  legs = IsPermutation-trans t.legs u.legs v.legs a.legs b.legs;
  claims = IsPermutation-trans t.claims u.claims v.claims a.claims b.claims;
  transfers = IsPermutation-trans t.transfers u.transfers v.transfers a.transfers b.transfers;
  receipts = IsPermutation-trans t.receipts u.receipts v.receipts a.receipts b.receipts;
}

-- one of the tables is another
pub other_units : (t u : Tables) (xs ys : List UnitRow) → Same t u → IsPermutation xs ys
    → Same (record t { units = xs }) (record u { units = ys })
other_units t u xs ys h moved =
    record {
      units = moved;
      branches = h.branches;
      entries = h.entries;
      legs = h.legs;
      claims = h.claims;
      transfers = h.transfers;
      receipts = h.receipts;
    }

pub other_branches : (t u : Tables) (xs ys : List BranchRow) → Same t u → IsPermutation xs ys
    → Same (record t { branches = xs }) (record u { branches = ys })
other_branches t u xs ys h moved =
    record {
      units = h.units;
      branches = moved;
      entries = h.entries;
      legs = h.legs;
      claims = h.claims;
      transfers = h.transfers;
      receipts = h.receipts;
    }

pub other_entries : (t u : Tables) (xs ys : List EntryRow) → Same t u → IsPermutation xs ys
    → Same (record t { entries = xs }) (record u { entries = ys })
other_entries t u xs ys h moved =
    record {
      units = h.units;
      branches = h.branches;
      entries = moved;
      legs = h.legs;
      claims = h.claims;
      transfers = h.transfers;
      receipts = h.receipts;
    }

pub other_legs : (t u : Tables) (xs ys : List LegRow) → Same t u → IsPermutation xs ys
    → Same (record t { legs = xs }) (record u { legs = ys })
other_legs t u xs ys h moved = record {
  units = h.units;
  branches = h.branches;
  entries = h.entries;
  legs = moved;
  claims = h.claims;
  transfers = h.transfers;
  receipts = h.receipts;
}

pub other_claims : (t u : Tables) (xs ys : List ClaimRow) → Same t u → IsPermutation xs ys
    → Same (record t { claims = xs }) (record u { claims = ys })
other_claims t u xs ys h moved =
    record {
      units = h.units;
      branches = h.branches;
      entries = h.entries;
      legs = h.legs;
      claims = moved;
      transfers = h.transfers;
      receipts = h.receipts;
    }

pub other_transfers : (t u : Tables) (xs ys : List TransferRow) → Same t u → IsPermutation xs ys
    → Same (record t { transfers = xs }) (record u { transfers = ys })
other_transfers t u xs ys h moved =
    record {
      units = h.units;
      branches = h.branches;
      entries = h.entries;
      legs = h.legs;
      claims = h.claims;
      transfers = moved;
      receipts = h.receipts;
    }

pub other_receipts : (t u : Tables) (xs ys : List PartRow) → Same t u → IsPermutation xs ys
    → Same (record t { receipts = xs }) (record u { receipts = ys })
other_receipts t u xs ys h moved =
    record {
      units = h.units;
      branches = h.branches;
      entries = h.entries;
      legs = h.legs;
      claims = h.claims;
      transfers = h.transfers;
      receipts = moved;
    }

pub same_changed : (c : Change) (t u : Tables) → Same t u → Same (tables_changed c t) (tables_changed c u)
same_changed (change.Unit x) t u h =
    other_units t u (x ∷ t.units) (x ∷ u.units) h (IsPermutation-cons x t.units u.units h.units)
same_changed (change.Branch x) t u h =
    other_branches t u (x ∷ t.branches) (x ∷ u.branches) h (IsPermutation-cons x t.branches u.branches h.branches)
same_changed (change.Entry x) t u h =
    other_entries t u (x ∷ t.entries) (x ∷ u.entries) h (IsPermutation-cons x t.entries u.entries h.entries)
same_changed (change.Leg x) t u h =
    other_legs t u (x ∷ t.legs) (x ∷ u.legs) h (IsPermutation-cons x t.legs u.legs h.legs)
same_changed (change.Claim x) t u h =
    other_claims t u (x ∷ t.claims) (x ∷ u.claims) h (IsPermutation-cons x t.claims u.claims h.claims)
same_changed (change.Transfer x) t u h =
    other_transfers t u (x ∷ t.transfers) (x ∷ u.transfers) h (IsPermutation-cons x t.transfers u.transfers h.transfers)
same_changed (change.Part x) t u h =
    other_receipts t u (x ∷ t.receipts) (x ∷ u.receipts) h (IsPermutation-cons x t.receipts u.receipts h.receipts)
same_changed (change.Lock nr day) t u h =
    other_branches t u (map (row_locked nr day) t.branches) (map (row_locked nr day) u.branches) h
    (IsPermutation-map (row_locked nr day) t.branches u.branches h.branches)
same_changed (change.Receipt id day payee) t u h =
    other_transfers t u (map (row_received id day payee) t.transfers) (map (row_received id day payee) u.transfers) h
    (IsPermutation-map (row_received id day payee) t.transfers u.transfers h.transfers)

pub same_written : (cs : List Change) (t u : Tables) → Same t u → Same (written cs t) (written cs u)
same_written [] t u h = h
same_written (c ∷ cs) t u h = same_written cs (tables_changed c t) (tables_changed c u) (same_changed c t u h)

pub written-append : (cs ds : List Change) (t : Tables) → written (cs ++ ds) t ≡ written ds (written cs t)
written-append [] ds t = refl
written-append (c ∷ cs) ds t = written-append cs ds (tables_changed c t)

pub holds_same : (db : Database) (t u : Tables) → Same t u → HoldsTables db t → HoldsTables db u
holds_same db t u h k = record {
  shows = record {
    schema = k.shows.schema;
    units = IsPermutation-trans _ _ _
        (IsPermutation-map values_of_unit u.units t.units (IsPermutation-sym t.units u.units h.units)) k.shows.units;
    branches = IsPermutation-trans _ _ _
        (IsPermutation-map values_of_branch u.branches t.branches (IsPermutation-sym t.branches u.branches h.branches))
        k.shows.branches;
    entries = IsPermutation-trans _ _ _
        (IsPermutation-map values_of_entry u.entries t.entries (IsPermutation-sym t.entries u.entries h.entries))
        k.shows.entries;
    legs = IsPermutation-trans _ _ _
        (IsPermutation-map values_of_leg u.legs t.legs (IsPermutation-sym t.legs u.legs h.legs)) k.shows.legs;
    claims = IsPermutation-trans _ _ _
        (IsPermutation-map values_of_claim u.claims t.claims (IsPermutation-sym t.claims u.claims h.claims))
        k.shows.claims;
    transfers = IsPermutation-trans _ _ _
        (IsPermutation-map values_of_transfer u.transfers t.transfers
        (IsPermutation-sym t.transfers u.transfers h.transfers)) k.shows.transfers;
    receipts = IsPermutation-trans _ _ _
        (IsPermutation-map values_of_part u.receipts t.receipts (IsPermutation-sym t.receipts u.receipts h.receipts))
        k.shows.receipts;
  };
  format = k.format;
  numbered = k.numbered;
  keyed = k.keyed;
}

-- once no change is left, the tables hold all of them
pub all_written : (db : Database) (left all : List Change) (t : Tables) → left ≡ []
    → (u : Tables) × HoldsTables db u × (written left u ≡ written all t) → HoldsTables db (written all t)
all_written db left all t none kept =
    subst (HoldsTables db) (ap (λ (cs : List Change). written cs kept.0) (sym none) ∙ kept.2) kept.1

-- ---- orders
pub last_first : {X : Type 0} (x : X) (xs : List X) → IsPermutation (x ∷ xs) (xs ++ x ∷ [])
last_first x xs = IsPermutation-append_comm (x ∷ []) xs

pub front_past : {X : Type 0} (es xs ys : List X) → IsPermutation (es ++ (xs ++ ys)) (xs ++ (es ++ ys))
front_past es xs ys =
    subst (IsPermutation (es ++ (xs ++ ys))) (append_assoc xs es ys)
    (subst (λ l. IsPermutation l ((xs ++ es) ++ ys)) (append_assoc es xs ys)
    (IsPermutation-append_left ys (es ++ xs) (xs ++ es) (IsPermutation-append_comm es xs)))

pub second_first : {X : Type 0} (x y : X) (xs : List X) → IsPermutation (x ∷ y ∷ xs) (y ∷ x ∷ xs)
second_first x y xs = front_past (x ∷ []) (y ∷ []) xs

-- ---- a list of legs, and one of claims
pub legs_written : (ls : List LegRow) (t : Tables)
    → Same (written (map change.Leg ls) t) (record t { legs = ls ++ t.legs })
legs_written [] t = same_refl t
legs_written (l ∷ ls) t =
    let u : Tables = record t { legs = l ∷ t.legs } in
    let v : Tables = record t { legs = ls ++ (l ∷ t.legs) } in
    let w : Tables = record t { legs = l ∷ (ls ++ t.legs) } in
    same_trans (written (map change.Leg ls) u) v w (legs_written ls u)
    (other_legs t t (ls ++ (l ∷ t.legs)) (l ∷ (ls ++ t.legs)) (same_refl t) (front_past ls (l ∷ []) t.legs))

pub claims_written : (ls : List ClaimRow) (t : Tables)
    → Same (written (map change.Claim ls) t) (record t { claims = ls ++ t.claims })
claims_written [] t = same_refl t
claims_written (l ∷ ls) t =
    let u : Tables = record t { claims = l ∷ t.claims } in
    let v : Tables = record t { claims = ls ++ (l ∷ t.claims) } in
    let w : Tables = record t { claims = l ∷ (ls ++ t.claims) } in
    same_trans (written (map change.Claim ls) u) v w (claims_written ls u)
    (other_claims t t (ls ++ (l ∷ t.claims)) (l ∷ (ls ++ t.claims)) (same_refl t) (front_past ls (l ∷ []) t.claims))
