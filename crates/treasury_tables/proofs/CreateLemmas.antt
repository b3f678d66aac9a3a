-- What the CREATEs leave, one after another.
use Rattle.std.proofs.Common.{◌≡◌, ℕ, Bool, true, false, not, is_some, ◌&&◌, ◌||◌, List, [], ◌∷◌, ◌++◌, Ok, refl, ap}
use Rattle.std.proofs.Common.{subst, ◌∙◌}
use Rattle.std.specs.List.{list_any, AllByRecursion}
use Rattle.sqlite.specs.Table.{Table}
use Rattle.sqlite.specs.Schema.{Schema}
use Rattle.sqlite.specs.Change.{created, next_tree, KeepsRows}
use Rattle.sqlite.specs.Does.{lacks_sequence}
use Rattle.sqlite.specs.Rows.{sequence}
use Rattle.sqlite.specs.Effect.{Database}
use Rattle.sqlite.specs.Tree.{Trees}
use Rattle.sqlite.specs.State.{State, Executes}
use Rattle.money_core.proofs.ListLemmas.{all_behind, all_front}
use Rattle.treasury_tables.specs.Tables.{format_table, unit_table, branch_table, entry_table, leg_table, claim_table}
use Rattle.treasury_tables.specs.Tables.{transfer_table, receipt_table, state_tables}
use Rattle.treasury_tables.specs.Tables.{made_all, new_tables}
use Rattle.treasury_tables.specs.Creating.{has_counter, Makes, MakesAll}
use Rattle.treasury_tables.proofs.Texts.{create_format_text, create_unit_text, create_branch_text, create_entry_text}
use Rattle.treasury_tables.proofs.Texts.{create_leg_text, create_claim_text, create_transfer_text, create_receipt_text}
use Rattle.treasury_tables.proofs.Texts.{format_is, unit_is, branch_is, entry_is, leg_is, claim_is, transfer_is}
use Rattle.treasury_tables.proofs.Texts.{receipt_is}
use Rattle.treasury_tables.proofs.AnySchema.{creates_format, creates_unit, creates_branch, creates_entry, creates_leg}
use Rattle.treasury_tables.proofs.AnySchema.{creates_claim, creates_transfer, creates_receipt}
use Rattle.treasury_tables.proofs.Steps.{creates}

-- ---- under any schema with no AUTOINCREMENT
pub any_more : {X : Type 0} (p : X → Bool) (xs : List X) (y : X) → p y ≡ false → list_any p xs ≡ false
    → list_any p (xs ++ y ∷ []) ≡ false
any_more p [] y e none = ap (λ b. b || false) e
any_more {X} p (x ∷ xs) y e none = go (p x) none (any_more p xs y e)
  where
    go : (b : Bool) → (b || list_any p xs) ≡ false → (list_any p xs ≡ false → list_any p (xs ++ y ∷ []) ≡ false)
        → (b || list_any p (xs ++ y ∷ [])) ≡ false
    go true h more = h
    go false h more = more h

pub stays_uncounted : (s : Schema) (t : Table) → t.is_counted ≡ false → has_counter s ≡ false
    → has_counter (created s t) ≡ false
stays_uncounted s t e none = any_more (λ u. u.is_counted) s.tables (record t { tree = next_tree s }) e none

lacks_none : (s : Schema) → has_counter s ≡ false → lacks_sequence s ≡ false
lacks_none s none = ap (λ b. b && not (is_some (sequence s))) none

module _ (old new : State) (count : ℕ) (none : has_counter old.now.schema ≡ false) where
  pub makes_format : Executes create_format_text [] old new (Ok count) → Makes format_table old.now new.now
  makes_format h = let m = creates old new create_format_text (record format_table { tree = 0 })
      (creates_format old.now.schema) format_is
      (lacks_none (created old.now.schema format_table) (stays_uncounted old.now.schema format_table refl none)) count
      h in
      record { schema = m.schema; empty = m.empty; others = m.others }

  pub makes_unit : Executes create_unit_text [] old new (Ok count) → Makes unit_table old.now new.now
  makes_unit h = let m = creates old new create_unit_text (record unit_table { tree = 0 }) (creates_unit old.now.schema)
      unit_is (lacks_none (created old.now.schema unit_table) (stays_uncounted old.now.schema unit_table refl none))
      count h in
      record { schema = m.schema; empty = m.empty; others = m.others }

  pub makes_branch : Executes create_branch_text [] old new (Ok count) → Makes branch_table old.now new.now
  makes_branch h = let m = creates old new create_branch_text (record branch_table { tree = 0 })
      (creates_branch old.now.schema) branch_is
      (lacks_none (created old.now.schema branch_table) (stays_uncounted old.now.schema branch_table refl none)) count
      h in
      record { schema = m.schema; empty = m.empty; others = m.others }

  pub makes_entry : Executes create_entry_text [] old new (Ok count) → Makes entry_table old.now new.now
  makes_entry h =
      let m = creates old new create_entry_text (record entry_table { tree = 0 }) (creates_entry old.now.schema)
      entry_is (lacks_none (created old.now.schema entry_table) (stays_uncounted old.now.schema entry_table refl none))
      count h in
      record { schema = m.schema; empty = m.empty; others = m.others }

  pub makes_leg : Executes create_leg_text [] old new (Ok count) → Makes leg_table old.now new.now
  makes_leg h =
      let m = creates old new create_leg_text (record leg_table { tree = 0 }) (creates_leg old.now.schema) leg_is
      (lacks_none (created old.now.schema leg_table) (stays_uncounted old.now.schema leg_table refl none)) count h in
      record { schema = m.schema; empty = m.empty; others = m.others }

  pub makes_claim : Executes create_claim_text [] old new (Ok count) → Makes claim_table old.now new.now
  makes_claim h =
      let m = creates old new create_claim_text (record claim_table { tree = 0 }) (creates_claim old.now.schema)
      claim_is (lacks_none (created old.now.schema claim_table) (stays_uncounted old.now.schema claim_table refl none))
      count h in
      record { schema = m.schema; empty = m.empty; others = m.others }

  pub makes_transfer : Executes create_transfer_text [] old new (Ok count) → Makes transfer_table old.now new.now
  makes_transfer h = let m = creates old new create_transfer_text (record transfer_table { tree = 0 })
      (creates_transfer old.now.schema) transfer_is
      (lacks_none (created old.now.schema transfer_table) (stays_uncounted old.now.schema transfer_table refl none))
      count h in
      record { schema = m.schema; empty = m.empty; others = m.others }

  pub makes_receipt : Executes create_receipt_text [] old new (Ok count) → Makes receipt_table old.now new.now
  makes_receipt h = let m = creates old new create_receipt_text (record receipt_table { tree = 0 })
      (creates_receipt old.now.schema) receipt_is
      (lacks_none (created old.now.schema receipt_table) (stays_uncounted old.now.schema receipt_table refl none)) count
      h in
      record { schema = m.schema; empty = m.empty; others = m.others }

-- ---- one after another

pub kept_twice : (ts : List Table) (a b c : Trees) → KeepsRows ts a b → KeepsRows ts b c → KeepsRows ts a c
kept_twice [] a b c p q = tt
kept_twice (t ∷ ts) a b c p q = (q.0 ∙ p.0, kept_twice ts a b c p.1 q.1)

pub makes_none : (a : Database) → MakesAll [] a a
makes_none a = record { schema = refl; empty = tt; others = same a.schema.tables }
  where
    same : (ts : List Table) → KeepsRows ts a.trees a.trees
    same [] = tt
    same (t ∷ ts) = (refl, same ts)

pub makes_more : (t : Table) (ts : List Table) (a b c : Database) → Makes t a b → MakesAll ts b c
    → MakesAll (t ∷ ts) a c
makes_more t ts a b c p q =
    let new : Table = record t { tree = next_tree a.schema } in
    let all : KeepsRows (a.schema.tables ++ new ∷ []) b.trees c.trees =
    subst (λ s. KeepsRows s.tables b.trees c.trees) p.schema q.others in
    record {
      schema = q.schema ∙ ap (made_all ts) p.schema;
      empty = (
        (all_behind (λ (u : Table). c.trees u.tree ≡ b.trees u.tree) a.schema.tables (new ∷ []) all).0 ∙ p.empty,
        subst (λ s. AllByRecursion (λ (u : Table). c.trees u.tree ≡ []) (new_tables ts s)) p.schema q.empty,
      );
      others = kept_twice a.schema.tables a.trees b.trees c.trees p.others
          (all_front (λ (u : Table). c.trees u.tree ≡ b.trees u.tree) a.schema.tables (new ∷ []) all);
    }

pub still_uncounted : (t : Table) (a b : Database) → t.is_counted ≡ false → has_counter a.schema ≡ false → Makes t a b
    → has_counter b.schema ≡ false
still_uncounted t a b e none p = ap has_counter p.schema ∙ stays_uncounted a.schema t e none

pub makes_state : (a b c d e f g h : Database) → has_counter a.schema ≡ false
    → (has_counter a.schema ≡ false → Makes unit_table a b) → (has_counter b.schema ≡ false → Makes branch_table b c)
    → (has_counter c.schema ≡ false → Makes entry_table c d) → (has_counter d.schema ≡ false → Makes leg_table d e)
    → (has_counter e.schema ≡ false → Makes claim_table e f) → (has_counter f.schema ≡ false → Makes transfer_table f g)
    → (has_counter g.schema ≡ false → Makes receipt_table g h) → MakesAll state_tables a h
makes_state a b c d e f g h none one two three four five six seven =
    let p = one none in
    let none_b = still_uncounted unit_table a b refl none p in
    let q = two none_b in
    let none_c = still_uncounted branch_table b c refl none_b q in
    let r = three none_c in
    let none_d = still_uncounted entry_table c d refl none_c r in
    let s = four none_d in
    let none_e = still_uncounted leg_table d e refl none_d s in
    let t = five none_e in
    let none_f = still_uncounted claim_table e f refl none_e t in
    let u = six none_f in
    let none_g = still_uncounted transfer_table f g refl none_f u in
    let v = seven none_g in
    makes_more unit_table _ a b h p (makes_more branch_table _ b c h q
    (makes_more entry_table _ c d h r
    (makes_more leg_table _ d e h s
    (makes_more claim_table _ e f h t (makes_more transfer_table _ f g h u
    (makes_more receipt_table [] g h h v (makes_none h)))))))
