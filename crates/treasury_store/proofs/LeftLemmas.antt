-- What a connection leaves that was open: what it had committed, or what a call commits.
use Rattle.std.proofs.Common.{◌≡◌, ◌⊎◌, List, IsTrue, ap, ◌∙◌, inl, inr, arith}
use Rattle.sqlite.specs.Store.{Ghosts}
use Rattle.sqlite.specs.Tree.{Trees}
use Rattle.sqlite.specs.Effect.{Database}
use Rattle.sqlite.specs.State.{Survives}
use Rattle.sqlite.specs.Held.{Held, state}
use Rattle.treasury_state.specs.declared.delta.Addition.{Addition}
use Rattle.treasury_state.specs.Federation.{Federation}
use Rattle.treasury_state.specs.Joined.{joined}
use Rattle.treasury_state.specs.Rows.{rows}
use Rattle.treasury_core.specs.declared.command.Command.{Command}
use Rattle.treasury_tables.specs.Rows.{Tables, HoldsTables, AreTreesOf}
use Rattle.treasury_tables.specs.Kept.{KeepsTables, ShutsByFault, IsFaithful}
use Rattle.treasury_tables.specs.Creating.{has_receipt}
use Rattle.treasury_tables.specs.Upgrading.{KeepsOurs}
use Rattle.treasury_tables.proofs.OpenLemmas.{ours_first, ours_second, not_first, second_more}
use Rattle.treasury_tables.proofs.UpgradeLemmas.{upgraded_holds}
use Rattle.treasury_store.specs.declared.store.Store.{Store}
use Rattle.treasury_store.specs.Store.{TablesAreWhileOpen, IsOf, Joins}
use Rattle.treasury_store.specs.Treasury.{Treasury, SurvivesCommand}
use Rattle.treasury_store.specs.Left.{LeavesNoMore, LeavesRows, LeavesSame, LeavesEitherVersion, LeavesJoined}
use Rattle.treasury_store.specs.Left.{LeavesStep}

module _ {S : Type 0} (g : Ghosts S)
    (settled : (s : S) (db : Trees) → IsTrue (g.view s).is_open → g.recovers s db → db ≡ (g.view s).committed) where
  pub leaves_rows : (h : Held S) (t : Tables) → TablesAreWhileOpen g h t → IsTrue (state g h).is_open → LeavesRows g h t
  leaves_rows h t are is_open clean trees may =
      let held = are clean is_open in
      ((state g h).now, settled h.store trees is_open may ∙ ap (λ (d : Database). d.trees) held.1, held.0)

  -- what a call leaves that commits these trees at most
  pub leaves_more : (old new : Held S) (t : Tables) (Commits : Trees → Type 0)
      → Survives (state g old) (state g new) Commits → IsTrue (state g old).is_open → TablesAreWhileOpen g old t
      → IsFaithful g new → (trees : Trees) → (state g new).may_leave trees
      → AreTreesOf trees t ⊎ (HoldsTables (state g old).now t × Commits trees)
  leaves_more old new t Commits left is_open are clean trees may =
      let before : IsFaithful g old = omega (arith, left.clean, clean) in
      elim (left.crash clean trees may) [
        | inl was ↦ inl (leaves_rows old t are is_open before trees was)
        | inr made ↦ inr ((are before is_open).0, made)
      ]

  pub leaves_no_more : (old new : Held S) → KeepsTables g old new → LeavesNoMore g old new
  leaves_no_more old new left t holds clean trees may =
      elim (left.crash clean trees may) [
        | inl was ↦ was
        | inr other ↦ absurd (other holds.shows.schema)
      ]

  pub leaves_same : (old new : Held S) → KeepsTables g old new → LeavesSame g old new
  leaves_same old new left is_open t are clean trees may =
      elim (leaves_more old new t _ left is_open are clean trees may) [
        | inl was ↦ was
        | inr made ↦ absurd (made.1 made.0.shows.schema)
      ]

  -- an opening leaves the rows of version 2 as they are
  pub leaves_opened : (old new : Held S) → KeepsOurs g old new → LeavesSame g old new
  leaves_opened old new left is_open t are clean trees may =
      elim (leaves_more old new t _ left is_open are clean trees may) [
        | inl was ↦ was
        | inr made ↦ absurd (not_first (state g old).now (ap has_receipt made.0.shows.schema ∙ second_more)
            (made.1 (ours_second (state g old).now.schema made.0.shows.schema)).first)
      ]

  -- and makes those of version 1 into version 2
  pub leaves_either_version : (old new : Held S) → KeepsOurs g old new → LeavesEitherVersion g old new
  leaves_either_version old new left is_open t are clean trees may =
      let before : IsFaithful g old = omega (arith, left.clean, clean) in
      let held = are before is_open in
      elim (left.crash clean trees may) [
        | inl was ↦ inl (
          (state g old).now,
          settled old.store trees is_open was ∙ ap (λ (d : Database). d.trees) held.1,
          held.0,
        )
        | inr made ↦ (
            let second = made (ours_first (state g old).now.schema held.0.schema) in
            inr (
              second.db,
              second.is,
              upgraded_holds (state g old).now second.db t held.0
                  (second.upgrades held.0.numbered),
            ))
      ]

  pub leaves_joined : (old new : Store S) (xs : List Addition)
      → Survives (state g old.conn) (state g new.conn)
      (λ trees. (db : Database) × (trees ≡ db.trees)
      × ((f : Federation) → IsOf g old f → Joins f xs → HoldsTables (state g old.conn).now (rows f)
      → HoldsTables db (rows (joined f xs))))
      → LeavesJoined g old new xs
  leaves_joined old new xs left is_open f of next clean trees may =
      elim (leaves_more old.conn new.conn (rows f) _ left is_open of.tables clean trees may) [
        | inl was ↦ inl was
        | inr made ↦ inr (made.1.0, made.1.1, made.1.2 f of next made.0)
      ]

  pub leaves_step : (old new : Treasury S) (c : Command) → SurvivesCommand g old new c → LeavesStep g old new c
  leaves_step old new c left is_open f of fits clean trees may =
      elim (leaves_more old.store.conn new.store.conn (rows f) _ left is_open of.store.tables clean trees may) [
        | inl was ↦ inl was
        | inr made ↦ inr (made.1 f of fits made.0)
      ]

-- what a call leaves of a connection
pub shuts_by : {S : Type 0} (g : Ghosts S) (old new : Held S) (Commits : Trees → Type 0)
    → Survives (state g old) (state g new) Commits → ShutsByFault g old new
shuts_by g old new Commits left =
    record { clean = λ clean. omega (arith, left.clean, clean); counts = left.counts; closes = left.closes }

-- and one that does nothing
pub shuts_same : {S : Type 0} (g : Ghosts S) (h : Held S) → ShutsByFault g h h
shuts_same g h = record { clean = λ clean. clean; counts = omega arith; closes = λ clean is_open. inl is_open }

-- one call after another
pub shuts_then : {S : Type 0} (g : Ghosts S) (a b c : Held S) → ShutsByFault g a b → ShutsByFault g b c
    → ShutsByFault g a c
shuts_then g a b c one two = record {
  clean = λ clean. one.clean (two.clean clean);
  counts = omega (arith, one.counts, two.counts);
  closes = λ clean is_open. elim (one.closes (two.clean clean) is_open) [
    | inl still ↦ elim (two.closes clean still) [
      | inl last ↦ inl last
      | inr more ↦ inr (omega (arith, one.counts, more))
    ]
    | inr more ↦ inr (omega (arith, two.counts, more))
  ];
}
