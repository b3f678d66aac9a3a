-- Tables of version 1 are read, and are the rows of a state or of none.
use Rattle.std.proofs.Common.{◌≡◌, ◌∙◌, ◌⊎◌, inl, inr, List, [], ◌∷◌, map, IsTrue, Result, Err, sym}
use Rattle.std.proofs.Common.{refl, arith, pos, IsPermutation}
use Rattle.sqlite.specs.declared.types.Value.TheVariants.{Int}
use Rattle.sqlite.specs.Order.{Row, column}
use Rattle.sqlite.proofs.StateLemmas.{survives_weaker}
use Rattle.sqlite.specs.Store.{Ghosts}
use Rattle.sqlite.specs.Effect.{Database}
use Rattle.sqlite.specs.State.{IsUnchanged, Survives}
use Rattle.sqlite.specs.Held.{Held, state}
use Rattle.money_core.specs.declared.cause.Cause.{Cause}
use Rattle.money_core.specs.declared.cause.Cause.TheVariants.{OutOfMemory, Damaged}
use Rattle.treasury_state.specs.declared.rows.Parts.{Parts}
use Rattle.treasury_state.specs.Federation.{Federation}
use Rattle.treasury_state.specs.Good.{IsGoodState}
use Rattle.treasury_state.specs.Rows.{rows}
use Rattle.treasury_tables.specs.Rows.{Tables, HoldsFirst}
use Rattle.treasury_tables.specs.Kept.{ChangesNothing, IsFaithful}
use Rattle.treasury_tables.specs.Order.{InOrder}
use Rattle.treasury_tables.specs.Opening.{IsEither}
use Rattle.treasury_tables.specs.Judging.{ReadsFirst, HasReadFirst}
use Rattle.treasury_tables.proofs.OpenLemmas.{shown_versions}
use Rattle.treasury_tables.proofs.FailingLemmas.{survives_behind}
use Rattle.treasury_store.proofs.OrderedLemmas.{rows_in_order}

-- a look at the connection after a query that failed
pub reads_behind : {S : Type 0} (g : Ghosts S) (old mid new : Held S) → ReadsFirst g old mid
    → ChangesNothing g mid new → ReadsFirst g old new
reads_behind g old mid new reads nothing = record {
  same = λ clean is has all.
      let before : IsFaithful g mid = omega (arith, nothing.survives.clean, clean) in
      let k = nothing.same clean is in
      let first = reads.same before k.0 has all in
      (k.1 ∙ first.0, k.2 ∙ first.1);
  survives = survives_behind g old mid new nothing _ reads.survives;
}

-- where nothing was asked
pub reads_none : {S : Type 0} (g : Ghosts S) (c : Held S) → ReadsFirst g c c
reads_none g c = record {
  same = λ clean is has all. (refl, refl);
  survives = record {
    clean = omega arith;
    shield = λ h. h;
    counts = omega arith;
    limit = refl;
    closes = λ clean is. inl is;
    crash = λ clean db may. inl may;
  };
}

-- a query that failed, and was undone
pub reads_undone : {S : Type 0} (g : Ghosts S) (old new : Held S)
    → (IsFaithful g new → IsTrue (state g new).is_open
    → ((state g new).now ≡ (state g old).now) × ((state g new).committed ≡ (state g old).committed))
    → Survives (state g old) (state g new) (λ _. ⊥) → ReadsFirst g old new
reads_undone g old new undone survives = record {
  same = λ clean is has all. undone clean is;
  survives = survives_weaker (state g old) (state g new) _ _ (λ clean trees none. absurd none) survives;
}

-- the rows of `format` are queried
pub format_has_read : {S : Type 0} (g : Ghosts S) (old new : Held S)
    → (IsFaithful g new → IsUnchanged (state g old) (state g new))
    → Survives (state g old) (state g new) (λ _. ⊥) → HasReadFirst g old new
format_has_read g old new same survives = record {
  same = λ clean has. let kept = (same clean).0 in (kept.now_is, kept.committed_is);
  survives = survives_weaker (state g old) (state g new) _ _ (λ clean trees none. absurd none) survives;
}

-- what names another version is not version 1
pub other_version : (db : Database) (t : Tables) (rows : List Row)
    → (IsEither db.schema → IsPermutation (map (λ r. column r 1 ∷ []) (db.trees 0)) rows)
    → (map (λ r. column r 0) rows ≡ Int (pos 1) ∷ [] → ⊥) → HoldsFirst db t → ⊥
other_version db t rows shown other holds =
    other ((shown_versions (db.trees 0) rows (Int (pos 1)) (shown (inl holds.schema))).1 holds.format)

-- where the rows that were read are no good state's, the tables are the rows of none
pub none_held : {X : Type 0} (db : Database) (parts : Parts)
    → ((t : Tables) → InOrder t → HoldsFirst db t → parts ≡ t) → (e : Cause)
    → (e ≡ OutOfMemory) ⊎ ((e ≡ Damaged) × ((x : Federation) → IsGoodState x → rows x ≡ parts → ⊥))
    → (r : Result X Cause) → r ≡ Err e → r ≡ Err Damaged → (f : Federation) → IsGoodState f → HoldsFirst db (rows f) → ⊥
none_held db parts read e (inl memory) r is damaged f good holds = absurd cc
none_held db parts read e (inr none) r is damaged f good holds =
    none.1 f good (sym (read (rows f) (rows_in_order f good) holds))
