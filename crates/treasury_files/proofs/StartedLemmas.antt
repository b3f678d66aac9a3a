-- A treasury on a database file: it is started, closed, or left.
use Rattle.std.proofs.Common.{◌≡◌, ◌≤◌, ◌⊎◌, ℕ, false, Option, Result, Ok, Err}
use Rattle.std.proofs.Common.{None, Some, IsSome, IfSome, MatchResult, IsTrue, refl, sym, ap, ◌∙◌, subst}
use Rattle.std.proofs.Common.{inl}
use Rattle.std.proofs.Math.Arith.{le-zero}
use Rattle.sqlite_disk.specs.declared.Disk as disk
use Rattle.sqlite_disk.specs.declared.Files.{Files}
use Rattle.sqlite_wal.specs.Recovery.{Image}
use Rattle.sqlite_wal.proofs.LogLemmas.{SeenMayStay}
use Rattle.sqlite_trees.specs.Tree.{Trees}
use Rattle.sqlite_trees.specs.View.{doubt}
use Rattle.sqlite_store.specs.declared.store.FileStore.{FileStore}
use Rattle.sqlite.specs.Effect.{Database}
use Rattle.sqlite.specs.Held.{Held}
use Rattle.sqlite.specs.State.{HasCleanDisk, IsLive}
use Rattle.sqlite.specs.Files.{file_state, over_files}
use Rattle.sqlite.specs.Closing.{IsCopied, HoldsAlone}
use Rattle.treasury_state.specs.Federation.{Federation}
use Rattle.treasury_state.specs.Good.{IsGoodState}
use Rattle.treasury_state.specs.Rows.{rows}
use Rattle.treasury_tables.specs.Rows.{Tables, HoldsTables, HoldsEither, ShowsTables}
use Rattle.treasury_tables.specs.Kept.{KeepsTables, StaysAsIs}
use Rattle.treasury_tables.specs.Tables.{no_schema, store_schema}
use Rattle.treasury_tables.specs.Creating.{has_one, has_all, has_receipt}
use Rattle.treasury_tables.specs.Opening.{AreOursAlone, IsFirstVersion, IsFirstNumbered, IsSecond}
use Rattle.treasury_tables.specs.Upgrading.{Upgrades}
use Rattle.treasury_tables.proofs.OpenLemmas.{ours_second, not_first, second_more}
use Rattle.treasury_store.specs.declared.store.Store.{Store}
use Rattle.treasury_store.specs.Store.{TablesAreWhileOpen, IsOf, empty_state}
use Rattle.treasury_store.specs.Treasury.{Treasury, IsTreasuryOf}
use Rattle.treasury_files.specs.declared.left.Left.{Left}
use Rattle.treasury_files.specs.declared.left.Left.TheVariants.{Closed, Open, Shut}
use Rattle.treasury_files.specs.Left.{KeepsFile}
use Rattle.treasury_files.specs.InFile.{LeavesState, MakesOver, ShowsGoodRows, HasTreasury}
use Rattle.treasury_files.specs.declared.file.Unopened.{Unopened as Why}
use Rattle.treasury_files.specs.Started.{IsUnserved, IsLeftAs, IsOpenedOn, StartsOn, IsStarted, IsClosedAs, IsStillOpen}
use Rattle.treasury_files.proofs.LeftLemmas.{alone_in, settles, stored_in, keeps_open, keeps_closed, keeps_shut}

-- what holds of a state that is held is held of one
held_by : {P : Federation → Type 0} (held : Option Federation) → IsSome held → IfSome held P
    → (f : Federation) × P f
held_by None none holds = absurd cc
held_by (Some f) some holds = (f, holds)

no_more : (n m : ℕ) → n ≤ m → m ≡ 0 → n ≡ 0
no_more n m within none = le-zero (subst (λ k. n ≤ k) none within)

module _ {D : Type 0} (g : disk.Ghosts D) where
  -- a database on which a treasury was started had one
  pub had_treasury : (opened : Held (FileStore D g)) (s : Store (FileStore D g)) (t : Treasury (FileStore D g))
      → IsTrue (has_all (file_state opened).now.schema)
      → (HasCleanDisk (file_state s.conn) → AreOursAlone (file_state opened).now.schema
      → IsFirstVersion (file_state opened).now ⊎ IsSecond (file_state opened).now)
      → (HasCleanDisk (file_state s.conn) → IsFirstNumbered (file_state opened).now
      → Upgrades (file_state opened).now (file_state s.conn).now
      × ((file_state s.conn).committed ≡ (file_state s.conn).now))
      → (HasCleanDisk (file_state s.conn) → AreOursAlone (file_state opened).now.schema
      → (IsFirstVersion (file_state opened).now → ⊥)
      → ((file_state s.conn).now ≡ (file_state opened).now)
      × ((file_state s.conn).committed ≡ (file_state opened).committed))
      → KeepsTables over_files s.conn t.store.conn
      → IsSome t.held
      → (HasCleanDisk (file_state t.store.conn) → (file_state s.conn).now.schema ≡ store_schema
      → IfSome t.held (λ f. IsGoodState f × ShowsTables (file_state s.conn).now (rows f)))
      → HasCleanDisk (file_state t.store.conn) → HasTreasury (file_state opened).now
  had_treasury opened s t named there first same keeps held shown k = record {
    named = named;
    version = there middle;
    second = λ second.
        let kept = same middle (ours_second (file_state opened).now.schema second.schema)
        (λ is. not_first (file_state opened).now (ap has_receipt second.schema ∙ second_more) is) in
        subst (λ (d : Database). ShowsGoodRows d) kept.0
        (good (ap (λ (d : Database). d.schema) kept.0 ∙ second.schema));
    first = λ numbered. let up = first middle numbered in ((file_state s.conn).now, up.0, good up.0.schema);
  }
    where
      middle : HasCleanDisk (file_state s.conn)
      middle = no_more _ _ keeps.clean k

      good : (file_state s.conn).now.schema ≡ store_schema → ShowsGoodRows (file_state s.conn).now
      good ours = let one = held_by t.held held (shown k ours) in (one.0, one.1.0, one.1.1)

  -- a treasury is started on a store that was opened on a connection
  pub starts_on : (opened : Held (FileStore D g)) (s : Store (FileStore D g)) (t : Treasury (FileStore D g))
      → ((file_state opened).committed ≡ (file_state opened).now → (rows : Tables)
      → HoldsEither (file_state opened).now rows → TablesAreWhileOpen over_files s.conn rows)
      → doubt (file_state opened).is_clean ≤ doubt (file_state s.conn).is_clean
      → (HasCleanDisk (file_state s.conn) → IsTrue (file_state s.conn).is_open)
      → (HasCleanDisk (file_state t.store.conn) → (f : Federation) → IsGoodState f
      → TablesAreWhileOpen over_files s.conn (rows f) → IsTreasuryOf over_files t f)
      → t.store.failed ≡ false
      → KeepsTables over_files s.conn t.store.conn
      → (HasCleanDisk (file_state t.store.conn) → IsTrue (file_state t.store.conn).is_open)
      → (HasCleanDisk (file_state t.store.conn) → StaysAsIs (file_state s.conn) (file_state t.store.conn))
      → (HasCleanDisk (file_state t.store.conn) → HasTreasury (file_state opened).now)
      → StartsOn g opened t
  starts_on opened s t upgraded first is_open treasury unfailed keeps still_open kept has = record {
    clean = λ k. no_more _ _ first (middle k);
    is_open = still_open;
    tables = tables;
    of = λ k same f shows. treasury k f shows.good (upgraded same (rows f) shows.holds);
    has = has;
    unfailed = unfailed;
  }
    where
      middle : HasCleanDisk (file_state t.store.conn) → HasCleanDisk (file_state s.conn)
      middle k = no_more _ _ keeps.clean k

      tables : HasCleanDisk (file_state t.store.conn) → (file_state opened).committed ≡ (file_state opened).now
          → (rows : Tables) → HoldsEither (file_state opened).now rows → TablesAreWhileOpen over_files t.store.conn rows
      tables k same rows holds _ _ =
          let held = upgraded same rows holds (middle k) (is_open (middle k)) in
          let stay = kept k held.0.shows.schema held.1 in
          (subst (λ (d : Database). HoldsTables d rows) (sym stay.0) held.0, stay.1 ∙ (held.1 ∙ sym stay.0))

  -- a treasury is started on files that were opened, or they keep what they held
  pub started_by : {E : Type 0} (why_of : E → Why) (left_of : E → Left D g)
      (result : Result (Treasury (FileStore D g)) E) (image : Image) (opened : Held (FileStore D g))
      → IsOpenedOn g image opened
      → MatchResult result (λ t. StartsOn g opened t)
      (λ r. (image : Image) → IsOpenedOn g image opened → IsUnserved g image (why_of r) (left_of r))
      → MatchResult result (λ t. IsStarted g image t) (λ r. IsUnserved g image (why_of r) (left_of r))
  started_by why_of left_of (Ok t) image opened on starts = record { opened = opened; on = on; starts = starts }
  started_by why_of left_of (Err r) image opened on unserved = unserved image on

  -- what a file holds whose connection is closed, and shows the rows of a good state
  pub left_behind : (c : Held (FileStore D g)) (closed : Files D) (f : Federation) → IsLive (file_state c)
      → IsCopied c closed → IsGoodState f → TablesAreWhileOpen over_files c (rows f) → LeavesState g closed f
  left_behind c closed f live copied good tables left image =
      let held = tables copied.was_clean copied.was_open in record {
        good = good;
        db = (file_state c).now;
        listed = (live copied.was_open).0;
        tables = held.0;
        alone = subst (λ (trees : Trees). HoldsAlone left trees) (ap (λ (db : Database). db.trees) held.1)
            (alone_in g c closed left copied image);
      }

  -- what an opening shows is committed
  pub committed_in : (image : Image) (c : Held (FileStore D g)) → IsOpenedOn g image c → HasCleanDisk (file_state c)
      → (file_state c).committed ≡ (file_state c).now
  committed_in image c on k = sym (on.serves k).0.clean

  -- tables are made on a connection, and the file is closed
  pub tables_made : (image : Image) (opened : Held (FileStore D g)) (s : Store (FileStore D g)) (closed : Files D)
      → IsOpenedOn g image opened
      → ((file_state opened).now.schema ≡ no_schema → IsOf over_files s empty_state)
      → has_one (file_state opened).now.schema ≡ false
      → doubt (file_state opened).is_clean ≤ doubt (file_state s.conn).is_clean
      → IsClosedAs g s.conn closed → MakesOver g image (Closed closed)
  tables_made image opened s closed on made free first closes = record {
    opened = opened;
    closed = closed;
    is_left = refl;
    found = λ k. on.found (no_more _ _ first (closes.copied k).was_clean);
    serves = λ k. on.serves (no_more _ _ first (closes.copied k).was_clean);
    free = free;
    makes = λ k none. left_behind s.conn closed empty_state closes.live (closes.copied k) (made none).good
        (made none).tables;
  }

  module _ (stays : SeenMayStay g) where
    -- nothing was asked of its treasury, and the file is left open
    pub keeps_left : (image : Image) (t : Treasury (FileStore D g)) (it : FileStore D g) → IsStarted g image t
        → IsLeftAs t.store.conn it → KeepsFile g image (Open it)
    keeps_left image t it started leaves =
        keeps_open g stays image started.opened t.store.conn (Open it) started.on (it, refl, leaves.by)
        started.starts.clean (λ k rows holds trees may.
        let left_so = started.starts.is_open k in
        let held = started.starts.tables k (committed_in image started.opened started.on (started.starts.clean k)) rows
        holds k left_so in
        stored_in g stays t.store.conn rows trees leaves.live left_so held.1 (inl held.0) may)

    -- or closed, or cannot be
    pub keeps_started : (image : Image) (t : Treasury (FileStore D g)) (closed : Files D) → IsStarted g image t
        → IsClosedAs g t.store.conn closed → KeepsFile g image (Closed closed)
    keeps_started image t closed started closes =
        keeps_closed g stays image started.opened t.store.conn closed (Closed closed) started.on refl closes.live
        closes.copied started.starts.clean (λ k left_so rows holds.
        let held = started.starts.tables k (committed_in image started.opened started.on (started.starts.clean k)) rows
        holds k left_so in (inl held.0, held.1))

    pub keeps_unclosed : (image : Image) (t : Treasury (FileStore D g)) (it : FileStore D g) → IsStarted g image t
        → IsStillOpen g t.store.conn it → KeepsFile g image (Shut it)
    keeps_unclosed image t it started quiet =
        keeps_shut g stays image started.opened t.store.conn (Shut it) started.on (it, refl, quiet) started.starts.clean
        (λ k rows holds trees may.
        let left_so = started.starts.is_open k in
        let held = started.starts.tables k (committed_in image started.opened started.on (started.starts.clean k)) rows
        holds k left_so in
        inl ((file_state t.store.conn).now, settles g stays t.store.conn trees left_so held.1 may, held.0))
