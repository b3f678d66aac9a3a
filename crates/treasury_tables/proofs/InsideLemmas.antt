-- What a statement leaves inside a transaction, whatever it answers.
use Rattle.std.proofs.Common.{◌≡◌, inl, inr, ℕ, List, true, false, Ok, Err, Result, OnOk, IsTrue, refl, sym, arith}
use Rattle.std.proofs.Common.{subst}
use Rattle.std.proofs.lemmas.Bool.{cases_Bool}
use Rattle.sqlite.specs.Order.{Row}
use Rattle.sqlite.specs.Store.{Ghosts}
use Rattle.sqlite.specs.declared.error.Error.{Error}
use Rattle.sqlite.specs.State.{Survives, KeepsCommit, Executes, ExecutesInside}
use Rattle.sqlite.specs.Held.{Held, state}
use Rattle.sqlite.specs.Effect.{Database}
use Rattle.sqlite.proofs.InsideLemmas.{inside_keeps}
use Rattle.sqlite.proofs.StateLemmas.{survives_then}
use Rattle.sqlite.proofs.Callers.{survives_begin}
use Rattle.treasury_tables.specs.Rows.{Tables, HoldsTables}
use Rattle.treasury_tables.specs.Kept.{Writes, IsFaithful}
use Rattle.treasury_tables.specs.Creating.{has_counter, Makes, Creates}
use Rattle.sqlite.specs.Table.{Table}

module _ {S : Type 0} (g : Ghosts S) (old new : Held S) (sql : List ℕ) (params : Row) (r : Result ℕ Error) (e : Error)
    (ended : (state g old).in_transaction ≡ false → (r ≡ Err e) × (new ≡ old))
    (runs : IsTrue (state g old).in_transaction → ExecutesInside 0 sql params (state g old) (state g new) r) where
  pub keeps_commit : KeepsCommit (state g old) (state g new)
  keeps_commit = elim (cases_Bool (state g old).in_transaction) [
    | inl begun ↦ inside_keeps (state g old) (state g new) 0 false sql params r (runs (subst IsTrue (sym begun) refl))
    | inr closed ↦ subst (λ h. KeepsCommit (state g old) (state g h)) (sym (ended closed).1)
        (record { was_open = λ h. h; committed = λ h. refl })
  ]

  pub ran_on_ok : (P : Type 0) → ((count : ℕ) → Executes sql params (state g old) (state g new) (Ok count) → P)
      → OnOk r P
  ran_on_ok P then = elim (cases_Bool (state g old).in_transaction) [
    | inl begun ↦ answer r (runs (subst IsTrue (sym begun) refl))
    | inr closed ↦ subst (λ r. OnOk r P) (sym (ended closed).0) tt
  ]
    where
      answer : (r : Result ℕ Error) → ExecutesInside 0 sql params (state g old) (state g new) r → OnOk r P
      answer (Ok count) h = then count h.0
      answer (Err e) h = tt

  pub still_inside : OnOk r (IsTrue (state g new).in_transaction)
  still_inside = elim (cases_Bool (state g old).in_transaction) [
    | inl begun ↦ answer r (runs (subst IsTrue (sym begun) refl))
    | inr closed ↦ subst (λ r. OnOk r (IsTrue (state g new).in_transaction)) (sym (ended closed).0) tt
  ]
    where
      answer : (r : Result ℕ Error) → ExecutesInside 0 sql params (state g old) (state g new) r
          → OnOk r (IsTrue (state g new).in_transaction)
      answer (Ok count) h = subst IsTrue (sym h.1.mode) refl
      answer (Err e) h = tt

-- one statement, by what it does where it succeeds
pub one_statement_writes : {S : Type 0} (g : Ghosts S) (old new : Held S) (sql : List ℕ) (params : Row)
    (r : Result ℕ Error) (e : Error)
    → ((state g old).in_transaction ≡ false → (r ≡ Err e) × (new ≡ old))
    → (IsFaithful g new → IsTrue (state g old).in_transaction
    → ExecutesInside 0 sql params (state g old) (state g new) r)
    → Survives (state g old) (state g new) (λ _. ⊥) → (change : Tables → Tables)
    → ((count : ℕ) (t : Tables) → HoldsTables (state g old).now t
    → Executes sql params (state g old) (state g new) (Ok count)
    → HoldsTables (state g new).now (change t)) → Writes g old new r change
one_statement_writes g old new sql params r e ended runs survives change step = record {
  rows = λ clean. ran_on_ok g old new sql params r e ended (runs clean) _ (λ count h t holds. step count t holds h);
  inside = λ clean. still_inside g old new sql params r e ended (runs clean);
  kept = λ clean. keeps_commit g old new sql params r e ended (runs clean);
  survives = survives;
}

-- one CREATE, by what it does where it succeeds
pub one_statement_creates : {S : Type 0} (g : Ghosts S) (old new : Held S) (sql : List ℕ) (params : Row)
    (r : Result ℕ Error) (e : Error)
    → ((state g old).in_transaction ≡ false → (r ≡ Err e) × (new ≡ old))
    → (IsFaithful g new → IsTrue (state g old).in_transaction
    → ExecutesInside 0 sql params (state g old) (state g new) r)
    → Survives (state g old) (state g new) (λ _. ⊥) → (table : Table)
    → ((count : ℕ) → has_counter (state g old).now.schema ≡ false
    → Executes sql params (state g old) (state g new) (Ok count) → Makes table (state g old).now (state g new).now)
    → Creates g old new r table
one_statement_creates g old new sql params r e ended runs survives table step = record {
  makes = λ clean. ran_on_ok g old new sql params r e ended (runs clean) _ (λ count h none. step count none h);
  inside = λ clean. still_inside g old new sql params r e ended (runs clean);
  kept = λ clean. keeps_commit g old new sql params r e ended (runs clean);
  survives = survives;
}

-- a commit leaves after a crash what was there before the transaction, or what it committed
pub survives_commit : {S : Type 0} (g : Ghosts S) (old last end : Held S) (P : Database → Type 0)
    → Survives (state g (record old { in_transaction = true })) (state g last) (λ _. ⊥)
    → Survives (state g last) (state g end) (λ db. db ≡ (state g last).now.trees)
    → (IsFaithful g last → P (state g last).now)
    → Survives (state g old) (state g end) (λ trees. (db : Database) × (trees ≡ db.trees) × P db)
survives_commit g old last end P inside commit is =
    survives_then (state g old) (state g last) (state g end) (λ _. ⊥) (λ db. db ≡ (state g last).now.trees)
    (λ trees. (db : Database) × (trees ≡ db.trees) × P db)
    (λ _ db none. absurd none) (λ clean db same. ((state g last).now, same, is (omega (arith, commit.clean))))
    (survives_begin g old (state g last) (λ _. ⊥) inside) commit
