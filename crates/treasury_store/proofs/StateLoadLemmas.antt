-- What a store is of, once its state is loaded, and where it is not.
use Rattle.std.proofs.Common.{◌≡◌, ◌∙◌, ◌⊎◌, inl, inr, Result, Ok, Err, IsTrue, sym, subst, arith}
use Rattle.std.specs.Prelude.{IsErrAnd}
use Rattle.std.proofs.lemmas.Result.{err_from_is_err_and}
use Rattle.sqlite.specs.Store.{Ghosts}
use Rattle.sqlite.specs.declared.error.Error.{Error}
use Rattle.sqlite.specs.Effect.{Database}
use Rattle.sqlite.specs.State.{IsUnchanged}
use Rattle.sqlite.specs.Held.{Held, state}
use Rattle.money_core.specs.declared.cause.Cause.{Cause}
use Rattle.money_core.specs.declared.cause.Cause.TheVariants.{OutOfMemory, Damaged}
use Rattle.treasury_state.specs.declared.rows.Parts.{Parts}
use Rattle.treasury_state.specs.Federation.{Federation}
use Rattle.treasury_state.specs.Good.{IsGoodState}
use Rattle.treasury_state.specs.Rows.{rows}
use Rattle.treasury_laws.proofs.RowsLawLemmas.{same_state}
use Rattle.treasury_tables.specs.Tables.{store_schema}
use Rattle.treasury_tables.specs.Rows.{Tables, HoldsTables, ShowsTables}
use Rattle.treasury_tables.specs.Kept.{Queries, IsFaithful}
use Rattle.treasury_tables.specs.Order.{InOrder}
use Rattle.treasury_store.specs.declared.store.Store.{Store}
use Rattle.treasury_store.specs.Store.{TablesAreWhileOpen, Knows, IsOf}
use Rattle.treasury_store.proofs.OrderedLemmas.{rows_in_order}

module _ {S : Type 0} (g : Ghosts S) (old new : Held S)
    (cleaner : IsFaithful g new → IsFaithful g old) where
  -- tables that stay
  pub tables_stay : (t : Tables) → (IsFaithful g new → IsTrue (state g new).is_open
      → IsTrue (state g old).is_open)
      → (IsFaithful g new → IsTrue (state g new).is_open → HoldsTables (state g old).now t
      → (state g old).committed ≡ (state g old).now
      → ((state g new).now ≡ (state g old).now) × ((state g new).committed ≡ (state g old).committed))
      → TablesAreWhileOpen g old t → TablesAreWhileOpen g new t
  tables_stay t was_open same are clean is_open =
      let was = are (cleaner clean) (was_open clean is_open) in
      let kept = same clean is_open was.0 was.1 in
      (subst (λ (db : Database). HoldsTables db t) (sym kept.0) was.0, kept.1 ∙ (was.1 ∙ sym kept.0))

  module _ (opened : IsFaithful g new → IsTrue (state g old).is_open × IsTrue (state g new).is_open)
      (same : IsFaithful g new → (state g old).now.schema ≡ store_schema
      → IsUnchanged (state g old) (state g new)) where
    pub read_tables_stay : (t : Tables) → TablesAreWhileOpen g old t → TablesAreWhileOpen g new t
    read_tables_stay t are =
        tables_stay t (λ clean is_open. (opened clean).0)
        (λ clean is_open holds all. let kept = (same clean holds.shows.schema).0 in (kept.now_is, kept.committed_is))
        are

    module _ (parts : Parts) (read : IsFaithful g new → (t : Tables) → InOrder t
        → ShowsTables (state g old).now t → parts ≡ t) (f : Federation) (good : IsGoodState f)
        (are : TablesAreWhileOpen g old (rows f)) where
      -- the rows that were read are the state's
      pub parts_are : IsFaithful g new → rows f ≡ parts
      parts_are clean = sym (read clean (rows f) (rows_in_order f good)
          (are (cleaner clean) (opened clean).0).0.shows)

      pub loaded_is : (s : Federation) → IsGoodState s → rows s ≡ parts → IsFaithful g new → s ≡ f
      loaded_is s fine built clean = same_state s f fine good (built ∙ sym (parts_are clean))

      pub loaded_tables : (s : Federation) → IsGoodState s → rows s ≡ parts → TablesAreWhileOpen g new (rows s)
      loaded_tables s fine built clean is_open =
          subst (λ (x : Federation). TablesAreWhileOpen g new (rows x)) (sym (loaded_is s fine built clean))
          (read_tables_stay (rows f) are) clean is_open

      -- rows that are no state's are not this one's
      pub not_damaged : (e : Cause) → (e ≡ OutOfMemory)
          ⊎ ((e ≡ Damaged) × ((x : Federation) → IsGoodState x → rows x ≡ parts → ⊥)) → e ≡ Damaged
          → IsFaithful g new → ⊥
      not_damaged e (inl memory) is clean = absurd cc
      not_damaged e (inr none) is clean = none.1 f good (parts_are clean)

module _ {S X : Type 0} (g : Ghosts S) (old new : Store S) (f : Federation) where
  -- where the rows are not read, the store is of the state that it was of
  pub failed_of : (e : Error) → Queries {X = X} g old.conn new.conn (Err e) → new.numbers ≡ old.numbers → IsOf g old f
      → IsOf g new f
  failed_of e q numbers of = record {
    good = of.good;
    tables = tables_stay g old.conn new.conn (λ clean. omega (arith, q.survives.clean, clean)) (rows f) q.was_open
        (λ clean is holds all. q.undone clean is holds.shows.schema all) of.tables;
    numbers = numbers ∙ of.numbers;
  }

  module _ (x : X) (q : Queries g old.conn new.conn (Ok x))
      (same : IsFaithful g new.conn → (state g old.conn).now.schema ≡ store_schema
      → IsUnchanged (state g old.conn) (state g new.conn)) where
    cleaner : IsFaithful g new.conn → IsFaithful g old.conn
    cleaner clean = omega (arith, q.survives.clean, clean)

    -- and where they are no state's
    pub read_of : new.numbers ≡ old.numbers → IsOf g old f → IsOf g new f
    read_of numbers of = record {
      good = of.good;
      tables = read_tables_stay g old.conn new.conn cleaner q.opened same (rows f) of.tables;
      numbers = numbers ∙ of.numbers;
    }

    module _ (parts : Parts) (read : IsFaithful g new.conn → (t : Tables) → InOrder t
        → ShowsTables (state g old.conn).now t → parts ≡ t) (good : IsGoodState f)
        (are : TablesAreWhileOpen g old.conn (rows f)) where
      -- where they are, it is of the state that they make, which is the one whose rows the tables are
      pub loaded_of : (s : Federation) → IsGoodState s → rows s ≡ parts → Knows new s
          → IsOf g new s × (IsFaithful g new.conn → s ≡ f)
      loaded_of s fine built knows = (
        record {
          good = fine;
          tables = loaded_tables g old.conn new.conn cleaner q.opened same parts read f good are s
              fine built;
          numbers = knows;
        },
        loaded_is g old.conn new.conn cleaner q.opened same parts read f good are s fine built,
      )

      pub none_damaged : {Y : Type 0} (r : Result Y Cause) (e : Cause) → IsErrAnd r (λ y. y ≡ e)
          → (e ≡ OutOfMemory)
          ⊎ ((e ≡ Damaged) × ((x : Federation) → IsGoodState x → rows x ≡ parts → ⊥))
          → r ≡ Err Damaged → IsFaithful g new.conn → ⊥
      none_damaged r e is why damaged clean =
          let p = err_from_is_err_and r is in
          let same_cause : p.0 ≡ Damaged = cause_is p.0 (sym p.1 ∙ damaged) in
          not_damaged g old.conn new.conn cleaner q.opened same parts read f good are e why (sym p.2 ∙ same_cause) clean
        where
          cause_is : {Y : Type 0} (x : Cause) → ◌≡◌ {A = Result Y Cause} (Err x) (Err Damaged) → x ≡ Damaged
          cause_is x e = cc

-- where the rows that were read are no good state's, the tables show none
pub none_shown : {Y : Type 0} (db : Database) (parts : Parts)
    → ((t : Tables) → InOrder t → ShowsTables db t → parts ≡ t) → (r : Result Y Cause) (e : Cause)
    → IsErrAnd r (λ y. y ≡ e)
    → (e ≡ OutOfMemory) ⊎ ((e ≡ Damaged) × ((x : Federation) → IsGoodState x → rows x ≡ parts → ⊥))
    → r ≡ Err Damaged → (f : Federation) → IsGoodState f → ShowsTables db (rows f) → ⊥
none_shown db parts read r e is why damaged f good shows =
    why_not e (sym p.2 ∙ cause_is p.0 (sym p.1 ∙ damaged)) why
  where
    p : (x : Cause) × (r ≡ Err x) × (x ≡ e)
    p = err_from_is_err_and r is

    cause_is : {Y : Type 0} (x : Cause) → ◌≡◌ {A = Result Y Cause} (Err x) (Err Damaged) → x ≡ Damaged
    cause_is x e = cc

    why_not : (e : Cause) → e ≡ Damaged
        → (e ≡ OutOfMemory)
        ⊎ ((e ≡ Damaged) × ((x : Federation) → IsGoodState x → rows x ≡ parts → ⊥)) → ⊥
    why_not e is (inl memory) = absurd cc
    why_not e is (inr none) = none.1 f good (sym (read (rows f) (rows_in_order f good) shows))
