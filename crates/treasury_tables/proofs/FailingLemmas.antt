-- Whether a connection is open after a call that failed, and what the look at that leaves.
use Rattle.std.proofs.Common.{◌≡◌, ◌∙◌, inl, inr, ℕ, List, [], Ok, Err, Result, IfOk, IfErr, IsTrue}
use Rattle.std.proofs.Common.{sym, arith}
use Rattle.sqlite.specs.Order.{Row}
use Rattle.sqlite.specs.Store.{Ghosts}
use Rattle.sqlite.specs.Tree.{Trees}
use Rattle.sqlite.specs.Outline.{Outline}
use Rattle.sqlite_resolve.specs.declared.error.CompileError.{CompileError}
use Rattle.sqlite_trees.specs.declared.error.StoreError.{StoreError}
use Rattle.sqlite_trees.specs.declared.error.StoreError.TheVariants.{OutOfMemory, Io, Corrupt, Full, Broken, Unstorable}
use Rattle.sqlite.specs.declared.error.Error.{Error}
use Rattle.sqlite.specs.declared.error.Error.TheVariants.{SqlInputError}
use Rattle.sqlite.specs.State.{State, Survives, IsUnchanged, IsNotRun, FailsToQuery, store_error}
use Rattle.sqlite.specs.Held.{Held, state}
use Rattle.sqlite.proofs.StateLemmas.{survives_then}
use Rattle.treasury_tables.specs.Kept.{ChangesNothing, Queries, IsFaithful}
use Rattle.treasury_tables.proofs.QueriesLemmas.{failed_back, fails_alone}

-- no failure of the store is a fault of a text
no_text : (fault : CompileError) (cause : StoreError) → SqlInputError fault ≡ store_error cause → ⊥
no_text fault OutOfMemory same = cc
no_text fault Io same = cc
no_text fault Corrupt same = cc
no_text fault Full same = cc
no_text fault Broken same = cc
no_text fault Unstorable same = cc

module _ (sql : List ℕ) (old new : State) where
  -- a text is refused for what is wrong with it on an open connection alone
  pub open_at_fault : (fault : CompileError) (e : Error) → e ≡ SqlInputError fault → IsNotRun old new sql [] e
      → IsTrue new.is_open
  unfolding IsNotRun
  open_at_fault fault e is (inl h) = h.1.0.is_open
  open_at_fault fault e is (inr h) = absurd (no_text fault h.0 (sym is ∙ h.1))

  -- and whether it is or not, nothing changes where no transaction is open
  pub back_of : (r : Result Outline Error) → IfOk r (λ s. (s.text ≡ sql) × IsUnchanged old new)
      → IfErr r (λ e. (params : Row) → IsNotRun old new sql params e)
      → (IsTrue old.is_open → old.now ≡ old.committed) → IsTrue new.is_open
      → IsTrue old.is_open × (new.now ≡ old.now) × (new.committed ≡ old.committed)
  unfolding FailsToQuery
  back_of (Ok s) ok err alone is =
      let h = ok.1.0 in (h.was_open, h.now_is, h.committed_is)
  back_of (Err e) ok err alone is =
      let same = fails_alone {X = Outline} sql [] old new (Err e) (inl (err [])) alone is in (
        elim (failed_back sql [] old new e (inl (err []))) [
          | inl h ↦ h.0.was_open
          | inr h ↦ h.was_open is
        ],
        same.0,
        same.1,
      )

-- so the look changes nothing
pub look_changes_nothing : {S : Type 0} (g : Ghosts S) (old new : Held S) (sql : List ℕ) (r : Result Outline Error)
    → (IsFaithful g new → IfOk r (λ s. (s.text ≡ sql) × IsUnchanged (state g old) (state g new)))
    → (IsFaithful g new
    → IfErr r (λ e. (params : Row) → IsNotRun (state g old) (state g new) sql params e))
    → (IsTrue (state g old).is_open → (state g old).now ≡ (state g old).committed)
    → Survives (state g old) (state g new) (λ _. ⊥) → ChangesNothing g old new
look_changes_nothing g old new sql r ok err alone survives = record {
  same = λ clean is. back_of sql (state g old) (state g new) r (ok clean) (err clean) alone is;
  survives = survives;
}

module _ {S : Type 0} (g : Ghosts S) (old mid new : Held S) (nothing : ChangesNothing g mid new) where
  -- what a call leaves stays so after one that changes nothing
  pub survives_behind : (P : Trees → Type 0) → Survives (state g old) (state g mid) P
      → Survives (state g old) (state g new) P
  survives_behind P one =
      survives_then (state g old) (state g mid) (state g new) P (λ _. ⊥) P (λ clean db h. h)
      (λ clean db none. absurd none) one nothing.survives

  pub clean_behind : IsFaithful g new → IsFaithful g mid
  clean_behind clean = let left = nothing.survives in omega (arith, left.clean, clean)

  pub was_behind : (IsFaithful g mid → IsTrue (state g mid).is_open → IsTrue (state g old).is_open)
      → IsFaithful g new → IsTrue (state g new).is_open → IsTrue (state g old).is_open
  was_behind was clean is = was (clean_behind clean) (nothing.same clean is).0

  pub same_behind : (IsFaithful g mid → IsTrue (state g mid).is_open
      → ((state g mid).now ≡ (state g old).now) × ((state g mid).committed ≡ (state g old).committed))
      → IsFaithful g new → IsTrue (state g new).is_open
      → ((state g new).now ≡ (state g old).now) × ((state g new).committed ≡ (state g old).committed)
  same_behind same clean is =
      let kept = nothing.same clean is in
      let was = same (clean_behind clean) kept.0 in
      (kept.1 ∙ was.0, kept.2 ∙ was.1)

  pub queries_behind : {X : Type 0} (e : Error) → Queries {X = X} g old mid (Err e) → Queries {X = X} g old new (Err e)
  queries_behind e q = record {
    opened = λ clean. tt;
    was_open = was_behind q.was_open;
    undone = λ clean is ours all.
        let kept = nothing.same clean is in
        let was = q.undone (clean_behind clean) kept.0 ours all in
        (kept.1 ∙ was.0, kept.2 ∙ was.1);
    survives = survives_behind _ q.survives;
  }
