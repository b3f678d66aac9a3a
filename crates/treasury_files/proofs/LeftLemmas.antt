-- What is left of the files of a word holds the rows that they held.
use Rattle.std.proofs.Common.{◌≡◌, ◌⊎◌, Bool, true, false, Option, None, Some, IfSome, IsTrue, ◌↔◌, refl, sym, ap}
use Rattle.std.proofs.Common.{subst, ◌∙◌, inl, inr, arith, true≢false}
use Rattle.std.proofs.Math.Logic.{∥∥₁_elim, ∥∥₁_map}
use Rattle.sqlite_disk.specs.declared.Disk as disk
use Rattle.sqlite_disk.specs.declared.Files.{Files}
use Rattle.sqlite_wal.specs.Recovery.{Image}
use Rattle.sqlite_wal.specs.Files.{outcomes}
use Rattle.sqlite_wal.specs.Reads.{AreClean}
use Rattle.sqlite_wal.proofs.LogLemmas.{SeenMayStay}
use Rattle.sqlite_pool.proofs.StateLemmas.{may_leave_is}
use Rattle.sqlite_trees.specs.Props.{Trees-set}
use Rattle.sqlite_trees.specs.Objects.{catalog_tree}
use Rattle.sqlite_trees.specs.View.{IsClean, IsQuiet}
use Rattle.sqlite_schema.specs.Names.{same_name}
use Rattle.sqlite_schema.specs.declared.schema.Schema.{Schema}
use Rattle.sqlite_catalog.specs.Listing.{Lists}
use Rattle.sqlite_catalog.proofs.ReadLemmas.{lists_once}
use Rattle.sqlite_store.specs.declared.store.FileStore.{FileStore}
use Rattle.sqlite_store.specs.FileStore.{view, faults, recovers, files, is_shielded}
use Rattle.sqlite_store.specs.Laws.{settled_at}
use Rattle.sqlite.specs.Tree.{Trees}
use Rattle.sqlite.specs.Effect.{Database, IsDatabase}
use Rattle.sqlite.specs.Held.{Held, AreDatabases}
use Rattle.sqlite.specs.State.{HasCleanDisk, IsLive}
use Rattle.sqlite.specs.Start.{FindsIn}
use Rattle.sqlite.specs.Files.{image_of, file_state, over_files, IsOpened, HoldsDatabase, IsCleanLeft, LeavesFiles}
use Rattle.sqlite.specs.Closing.{IsCopied, HoldsAlone}
use Rattle.sqlite.specs.declared.file.Leftover.{Leftover}
use Rattle.sqlite.specs.declared.file.Leftover.TheVariants as rest
use Rattle.sqlite.proofs.Theorems.{opens_again}
use Rattle.money_core.specs.declared.cause.Cause.{Cause}
use Rattle.money_core.specs.declared.cause.Cause.TheVariants.{OutOfMemory, Store as Failed, Damaged}
use Rattle.treasury_tables.specs.Tables.{store_schema, first_schema}
use Rattle.treasury_tables.specs.Creating.{has_one, has_receipt}
use Rattle.treasury_tables.specs.Opening.{AreOursAlone, IsFirstVersion, IsSecond, IsEither}
use Rattle.treasury_tables.specs.Judging.{ReadsFirst}
use Rattle.treasury_tables.specs.Upgrading.{KeepsOurs}
use Rattle.treasury_tables.specs.Kept.{KeepsTables, StaysAsIs}
use Rattle.treasury_tables.specs.Rows.{Tables, HoldsTables, HoldsFirst, HoldsEither}
use Rattle.treasury_tables.proofs.OpenLemmas.{ours_first, ours_second, first_bare, second_more}
use Rattle.treasury_store.specs.Store.{TablesAreWhileOpen}
use Rattle.treasury_store.specs.Left.{LeavesSame, LeavesEitherVersion}
use Rattle.treasury_files.specs.declared.left.Left.{Left}
use Rattle.treasury_files.specs.declared.left.Left.TheVariants.{Untouched, Closed, Open, Shut, Unopened}
use Rattle.treasury_files.specs.Left.{HoldsRows, HaveRows, IsLeft, IsImageOf, IsCleanIn, MayBe, MayComeBack, AreSpared}
use Rattle.treasury_files.specs.Left.{KeepsFile}
use Rattle.treasury_files.specs.Started.{IsLeftBy, IsOpenedOn}
use Rattle.treasury_files.specs.Leaving.{IsLeftOpen, IsLeftShut, IsLeftClosed, IsLeftRefused, IsAsked}

-- two databases are one whose trees are the same
pub same_database : (one other : Database) → IsDatabase one → IsDatabase other → one.trees ≡ other.trees → one ≡ other
same_database one other listed found trees =
    let schema : one.schema ≡ other.schema =
    lists_once (other.trees catalog_tree) one.schema other.schema
    (subst (λ (t : Trees). Lists (t catalog_tree) one.schema) trees listed.lists) found.lists in
    ap (λ (s : Schema). record { schema = s; trees = one.trees }) schema ∙ ap
    (λ (t : Trees). record { schema = other.schema; trees = t }) trees

-- our tables are there, in either version
first_one : has_one first_schema ≡ true
unfolding same_name
first_one = refl

second_one : has_one store_schema ≡ true
unfolding same_name
second_one = refl

either_has_one : (db : Database) (t : Tables) → HoldsEither db t → has_one db.schema ≡ true
either_has_one db t (inl second) = ap has_one second.shows.schema ∙ second_one
either_has_one db t (inr first) = ap has_one first.schema ∙ first_one

either_one : (db : Database) (t : Tables) → HoldsEither db t → has_one db.schema ≡ false → ⊥
either_one db t holds free = true≢false (sym (either_has_one db t holds) ∙ free)

pub either_ours : (db : Database) (t : Tables) → HoldsEither db t → AreOursAlone db.schema
    × (IsFirstVersion db ⊎ IsSecond db)
either_ours db t (inl second) =
    (ours_second db.schema second.shows.schema, inr (record { schema = second.shows.schema; version = second.format }))
either_ours db t (inr first) =
    (ours_first db.schema first.schema, inl (record { schema = first.schema; version = first.format }))

pub in_either : (db : Database) (t : Tables) → HoldsEither db t → IsEither db.schema
in_either db t (inl second) = inr second.shows.schema
in_either db t (inr first) = inl first.schema

-- without the table that version 2 adds, they are those of version 1
pub only_first : (db : Database) (t : Tables) → has_receipt db.schema ≡ false → HoldsEither db t → HoldsFirst db t
only_first db t bare (inr first) = first
only_first db t bare (inl second) =
    absurd (true≢false (sym second_more ∙ (ap has_receipt (sym second.shows.schema) ∙ bare)))

-- trees of a database, by its own list, that holds these rows
abbrev pub AreStored : Trees → Tables → Type 0
AreStored trees t = (db : Database) × IsDatabase db × (trees ≡ db.trees) × HoldsEither db t

pub have_rows : (trees : Trees) (t : Tables) → AreStored trees t → HaveRows trees t
have_rows trees t (db, listed, is, inl second) = inl (db, is, second)
have_rows trees t (db, listed, is, inr first) = inr (db, is, first)

module _ {D : Type 0} (g : disk.Ghosts D) where
  -- an opening of files that hold rows shows the database that has these
  pub shows_same : (image : Image) (c : Held (FileStore D g)) (t : Tables) (holds : HoldsRows image t)
      → FindsIn image (file_state c) → IsOpened c → holds.db ≡ (file_state c).now
  shows_same image c t holds finds (opens, live) =
      let committed : (file_state c).committed.trees ≡ holds.db.trees =
      ∥∥₁_elim holds.both (Trees-set _ _) (finds.holds holds.db.trees) in
      same_database holds.db (file_state c).now holds.listed (live opens.is_open).0
      (sym (ap (λ (db : Database). db.trees) opens.clean ∙ committed))

  pub shows_rows : (image : Image) (c : Held (FileStore D g)) (t : Tables) → HoldsRows image t
      → FindsIn image (file_state c) → IsOpened c → HoldsEither (file_state c).now t
  shows_rows image c t holds finds opened =
      subst (λ (db : Database). HoldsEither db t) (shows_same image c t holds finds opened) holds.tables

  -- files that were closed hold the last commit, with the log or without
  pub alone_in : (c : Held (FileStore D g)) (closed : Files D) (left : Image) → IsCopied c closed
      → IsImageOf g closed.log closed.db left → HoldsAlone left (file_state c).committed.trees
  alone_in c closed left copied (inl same) =
      subst (λ (image : Image). HoldsAlone image (file_state c).committed.trees) (sym same) copied.seen
  alone_in c closed left copied (inr out) = copied.left left out

  next_in : (left next : Image) (trees : Trees) → IsLeft left next → HoldsAlone left trees
      → ∥ HoldsDatabase next trees ∥₁
  next_in left next trees (inl same) alone =
      subst (λ (image : Image). ∥ HoldsDatabase image trees ∥₁) (sym same) alone.both
  next_in left next trees (inr bare) alone =
      subst (λ (image : Image). ∥ HoldsDatabase image trees ∥₁) (sym bare) alone.alone

  module _ (stays : SeenMayStay g) where
    -- whatever is left of a connection that shows rows, and is open, is what it shows
    pub settles : (c : Held (FileStore D g)) (trees : Trees) → IsTrue (file_state c).is_open
        → (file_state c).committed ≡ (file_state c).now → (file_state c).may_leave trees
        → trees ≡ (file_state c).now.trees
    settles c trees is_open same may = settled_at c.store stays trees is_open may ∙ ap (λ (d : Database). d.trees) same

    pub stored_in : (c : Held (FileStore D g)) (t : Tables) (trees : Trees) → IsLive (file_state c)
        → IsTrue (file_state c).is_open → (file_state c).committed ≡ (file_state c).now
        → HoldsEither (file_state c).now t → (file_state c).may_leave trees → AreStored trees t
    stored_in c t trees live is_open same holds may =
        ((file_state c).now, (live is_open).0, settles c trees is_open same may, holds)

    -- files that a store leaves open hold what it may come back as
    next_holds : (it : FileStore D g) (t : Tables) → IsTrue (view it).is_numbered → AreDatabases (recovers it)
        → AreClean g (files it).0 (files it).1 → ((trees : Trees) → recovers it trees → AreStored trees t)
        → (next : Image) → outcomes g (files it).0 (files it).1 next → ∥ HoldsRows next t ∥₁
    next_holds it t numbered sound clean stored next out =
        ∥∥₁_map (opens_again it numbered sound next (may_leave_is it.pool next clean out)) (λ found.
        let one = stored found.0 found.1 in
        let r : HoldsRows next t = record {
          db = one.0;
          listed = one.1;
          tables = one.3;
          both = ∣ subst (λ (x : Trees). HoldsDatabase next x) one.2 found.2 ∣₁;
        } in r)

    pub image_holds : (it : FileStore D g) (t : Tables) → IsTrue (view it).is_numbered → AreDatabases (recovers it)
        → AreClean g (files it).0 (files it).1 → ((trees : Trees) → recovers it trees → AreStored trees t)
        → (next : Image) → IsImageOf g (files it).0 (files it).1 next → ∥ HoldsRows next t ∥₁
    image_holds it t numbered sound clean stored next (inl same) =
        subst (λ (image : Image). ∥ HoldsRows image t ∥₁) (sym same)
        (next_holds it t numbered sound clean stored _ (stays (files it).0, stays (files it).1))
    image_holds it t numbered sound clean stored next (inr out) = next_holds it t numbered sound clean stored next out

    -- a connection that is left open keeps the rows that an opening found, where whatever it may leave has them
    pub keeps_open : (image : Image) (opened c : Held (FileStore D g)) (left : Left D g) → IsOpenedOn g image opened
        → IsLeftOpen c left → (HasCleanDisk (file_state c) → HasCleanDisk (file_state opened))
        → (HasCleanDisk (file_state c) → (t : Tables) → HoldsEither (file_state opened).now t → (trees : Trees)
        → (file_state c).may_leave trees → AreStored trees t) → KeepsFile g image left
    keeps_open image opened c left on (it, is, by) first stored = subst (KeepsFile g image) (sym is) (record {
      finds = λ clean next may t holds.
          image_holds it t (by.numbered clean.0) (by.sound clean.0) clean.1 (each clean.0 t holds) next may;
      comes_back = λ clean trees may t holds. have_rows trees t (each clean.0 t holds trees may);
      spared = λ clean. tt;
    })
      where
        each : IsClean (view it) → (t : Tables) → HoldsRows image t → (trees : Trees) → recovers it trees
            → AreStored trees t
        each clean t holds trees may =
            let last : HasCleanDisk (file_state c) = omega (arith, by.quiet.clean, clean) in
            stored last t (shows_rows image opened t holds (on.found (first last)) (on.serves (first last))) trees
            (by.quiet.outcomes trees may)

    -- and so does one that a failure shut, as far as it is said
    pub keeps_shut : (image : Image) (opened c : Held (FileStore D g)) (left : Left D g) → IsOpenedOn g image opened
        → IsLeftShut c left → (HasCleanDisk (file_state c) → HasCleanDisk (file_state opened))
        → (HasCleanDisk (file_state c) → (t : Tables) → HoldsEither (file_state opened).now t → (trees : Trees)
        → (file_state c).may_leave trees → HaveRows trees t) → KeepsFile g image left
    keeps_shut image opened c left on (it, is, quiet) first have = subst (KeepsFile g image) (sym is) (record {
      finds = λ clean next none. absurd none;
      comes_back = λ clean trees may t holds.
          let last : HasCleanDisk (file_state c) = omega (arith, quiet.clean, clean.0) in
          have last t (shows_rows image opened t holds (on.found (first last)) (on.serves (first last))) trees
          (quiet.outcomes trees may);
      spared = λ clean. tt;
    })

    -- and one that is closed, where it shows them
    pub keeps_closed : (image : Image) (opened c : Held (FileStore D g)) (closed : Files D) (left : Left D g)
        → IsOpenedOn g image opened → left ≡ Closed closed → IsLive (file_state c)
        → (AreClean g closed.log closed.db → IsCopied c closed)
        → (HasCleanDisk (file_state c) → HasCleanDisk (file_state opened))
        → (HasCleanDisk (file_state c) → IsTrue (file_state c).is_open → (t : Tables)
        → HoldsEither (file_state opened).now t
        → HoldsEither (file_state c).now t × ((file_state c).committed ≡ (file_state c).now))
        → KeepsFile g image left
    keeps_closed image opened c closed left on is live copies first shows = subst (KeepsFile g image) (sym is) (record {
      finds = λ clean next may t holds.
          let copied = copies clean in
          let last = first copied.was_clean in
          let still = shows copied.was_clean copied.was_open t
          (shows_rows image opened t holds (on.found last) (on.serves last)) in
          let r : HoldsRows next t = record {
            db = (file_state c).now;
            listed = (live copied.was_open).0;
            tables = still.0;
            both = subst (λ (trees : Trees). ∥ HoldsDatabase next trees ∥₁) (ap (λ (d : Database). d.trees) still.1)
                (next_in may.0 next _ may.2 (alone_in c closed may.0 copied may.1));
          } in ∣ r ∣₁;
      comes_back = λ clean trees none. absurd none;
      spared = λ clean. tt;
    })

    -- the same of one that is closed, where it can be
    pub keeps_left_closed : (image : Image) (opened c : Held (FileStore D g)) (left : Left D g)
        → IsOpenedOn g image opened → IsLeftClosed c left
        → (HasCleanDisk (file_state c) → HasCleanDisk (file_state opened))
        → (HasCleanDisk (file_state c) → IsTrue (file_state c).is_open → (t : Tables)
        → HoldsEither (file_state opened).now t
        → HoldsEither (file_state c).now t × ((file_state c).committed ≡ (file_state c).now))
        → (HasCleanDisk (file_state c) → (t : Tables) → HoldsEither (file_state opened).now t → (trees : Trees)
        → (file_state c).may_leave trees → HaveRows trees t) → KeepsFile g image left
    keeps_left_closed image opened c left on (inl (closed, is, closes)) first shows have =
        keeps_closed image opened c closed left on is closes.live closes.copied first shows
    keeps_left_closed image opened c left on (inr shut) first shows have =
        keeps_shut image opened c left on shut first have

    -- a connection of which nothing was asked is left open
    pub keeps_unasked : (image : Image) (opened : Held (FileStore D g)) (left : Left D g) → IsOpenedOn g image opened
        → IsLeftOpen opened left → KeepsFile g image left
    keeps_unasked image opened left on left_so =
        keeps_open image opened opened left on left_so (λ clean. clean) (λ clean t holds trees may.
        let (opens, live) = on.serves clean in stored_in opened t trees live opens.is_open (sym opens.clean) holds may)

    -- and so is one whose tables of version 1 were judged
    pub keeps_judged : (image : Image) (opened judged : Held (FileStore D g)) (left : Left D g)
        → IsOpenedOn g image opened → IsLeftOpen judged left → ReadsFirst over_files opened judged
        → has_receipt (file_state opened).now.schema ≡ false → KeepsFile g image left
    keeps_judged image opened judged left on left_so reads bare =
        keeps_open image opened judged left on left_so (λ clean. omega (arith, reads.survives.clean, clean))
        (λ clean t holds trees may.
        let before : HasCleanDisk (file_state opened) = omega (arith, reads.survives.clean, clean) in
        let (opens, live) = on.serves before in
        elim (reads.survives.crash clean trees may) [
          | inl was ↦ stored_in opened t trees live opens.is_open (sym opens.clean) holds was
          | inr other ↦ absurd (other (only_first (file_state opened).now t bare holds).schema)
        ])

    -- one whose tables were not opened: 43 comes where they are in neither version, and what else refuses them leaves
    -- version 2 as it is
    pub keeps_refused : (image : Image) (opened refused last : Held (FileStore D g)) (cause : Cause) (is_first : Bool)
        (left : Left D g) → IsOpenedOn g image opened
        → is_first ≡ false ↔ has_receipt (file_state opened).now.schema ≡ true
        → (cause ≡ Damaged) ⊎ ((cause ≡ OutOfMemory) ⊎ (cause ≡ Failed))
        → (cause ≡ Damaged → HasCleanDisk (file_state refused) → AreOursAlone (file_state opened).now.schema
        → IsFirstVersion (file_state opened).now ⊎ IsSecond (file_state opened).now → ⊥)
        → KeepsOurs over_files opened refused → LeavesSame over_files opened refused
        → LeavesEitherVersion over_files opened refused
        → IsAsked g refused cause last → IsLeftRefused last cause is_first left → KeepsFile g image left
    keeps_refused image opened refused last cause is_first left on bare causes damaged ours same either asked left_as =
        elim causes [
          | inl is ↦ strange is left_as
          | inr other ↦ failed (asked.same (no_damage other)) left_as
        ]
      where
        no_damage : (cause ≡ OutOfMemory) ⊎ (cause ≡ Failed) → cause ≡ Damaged → ⊥
        no_damage (inl memory) is = let clash : OutOfMemory ≡ Damaged = sym memory ∙ is in absurd cc
        no_damage (inr failed) is = let clash : Failed ≡ Damaged = sym failed ∙ is in absurd cc

        first : HasCleanDisk (file_state refused) → HasCleanDisk (file_state opened)
        first clean = omega (arith, ours.clean, clean)

        never : cause ≡ Damaged → HasCleanDisk (file_state last) → (t : Tables) → HoldsEither (file_state opened).now t
            → ⊥
        never is clean t holds =
            let there = either_ours (file_state opened).now t holds in damaged is (asked.clean clean) there.0 there.1

        strange : cause ≡ Damaged → IsLeftRefused last cause is_first left → KeepsFile g image left
        strange is (inl (why, left_so)) =
            keeps_open image opened last left on left_so (λ clean. first (asked.clean clean))
            (λ clean t holds trees may. absurd (never is clean t holds))
        strange is (inr shut) = keeps_shut image opened last left on shut (λ clean. first (asked.clean clean))
            (λ clean t holds trees may. absurd (never is clean t holds))

        tables : (t : Tables) → HoldsTables (file_state opened).now t → HasCleanDisk (file_state opened)
            → TablesAreWhileOpen over_files opened t
        tables t holds clean _ _ = (holds, sym (on.serves clean).0.clean)

        have : HasCleanDisk (file_state refused) → (t : Tables) → HoldsEither (file_state opened).now t
            → (trees : Trees) → (file_state refused).may_leave trees → HaveRows trees t
        have clean t (inl second) trees may =
            inl (same (on.serves (first clean)).0.is_open t (tables t second (first clean)) clean trees may)
        have clean t (inr held) trees may =
            elim (either (on.serves (first clean)).0.is_open t (λ _ _. (held, sym (on.serves (first clean)).0.clean))
            clean trees may) [
              | inl stayed ↦ inr stayed
              | inr made ↦ inl made
            ]

        kept : is_first ≡ false → HasCleanDisk (file_state refused) → (t : Tables)
            → HoldsEither (file_state opened).now t → (trees : Trees) → (file_state refused).may_leave trees
            → AreStored trees t
        kept is clean t (inr held) trees may =
            absurd (true≢false (sym (bare.0 is) ∙ (ap has_receipt held.schema ∙ first_bare)))
        kept is clean t (inl second) trees may =
            let (opens, live) = on.serves (first clean) in
            elim (ours.crash clean trees may) [
              | inl was ↦ stored_in opened t trees live opens.is_open (sym opens.clean) (inl second) was
              | inr made ↦ (let up = made (ours_second (file_state opened).now.schema second.shows.schema) in
                  absurd (true≢false (sym second_more ∙
                  (ap has_receipt (sym second.shows.schema) ∙ (ap has_receipt up.first.schema ∙ first_bare)))))
            ]

        failed : last ≡ refused → IsLeftRefused last cause is_first left → KeepsFile g image left
        failed same_one (inr shut) = keeps_shut image opened refused left on
            (subst (λ (c : Held (FileStore D g)). IsLeftShut c left) same_one shut) first have
        failed same_one (inl (inl is, left_so)) =
            keeps_open image opened refused left on
            (subst (λ (c : Held (FileStore D g)). IsLeftOpen c left) same_one left_so) first (kept is)
        failed same_one (inl (inr is, left_so)) = strange is (inl (inr is, left_so))

    -- one whose rows are no state
    pub keeps_unstarted : (image : Image) (opened store last : Held (FileStore D g)) (left : Left D g)
        → IsOpenedOn g image opened
        → (HasCleanDisk (file_state store) → HasCleanDisk (file_state opened))
        → (HasCleanDisk (file_state store) → IsTrue (file_state store).is_open) → IsLive (file_state store)
        → ((file_state opened).committed ≡ (file_state opened).now → (t : Tables)
        → HoldsEither (file_state opened).now t → TablesAreWhileOpen over_files store t)
        → KeepsTables over_files store last
        → (HasCleanDisk (file_state last) → IsTrue (file_state last).is_open
        → StaysAsIs (file_state store) (file_state last))
        → IsLeftOpen last left ⊎ IsLeftClosed last left → KeepsFile g image left
    keeps_unstarted image opened store last left on first is_open live tables keeps unchanged left_as = elim left_as [
      | inl left_so ↦ keeps_open image opened last left on left_so before stored
      | inr closed ↦ keeps_left_closed image opened last left on closed before shown
          (λ clean t holds trees may. have_rows trees t (stored clean t holds trees may))
    ]
      where
        middle : HasCleanDisk (file_state last) → HasCleanDisk (file_state store)
        middle clean = omega (arith, keeps.clean, clean)

        before : HasCleanDisk (file_state last) → HasCleanDisk (file_state opened)
        before clean = first (middle clean)

        are : HasCleanDisk (file_state last) → (t : Tables) → HoldsEither (file_state opened).now t
            → HoldsTables (file_state store).now t × ((file_state store).committed ≡ (file_state store).now)
        are clean t holds =
            tables (sym (on.serves (before clean)).0.clean) t holds (middle clean) (is_open (middle clean))

        stored : HasCleanDisk (file_state last) → (t : Tables) → HoldsEither (file_state opened).now t → (trees : Trees)
            → (file_state last).may_leave trees → AreStored trees t
        stored clean t holds trees may = let held = are clean t holds in elim (keeps.crash clean trees may) [
          | inl was ↦ stored_in store t trees live (is_open (middle clean)) held.1 (inl held.0) was
          | inr other ↦ absurd (other held.0.shows.schema)
        ]

        shown : HasCleanDisk (file_state last) → IsTrue (file_state last).is_open → (t : Tables)
            → HoldsEither (file_state opened).now t
            → HoldsEither (file_state last).now t × ((file_state last).committed ≡ (file_state last).now)
        shown clean left_so t holds =
            let held = are clean t holds in
            let stay = unchanged clean left_so held.0.shows.schema held.1 in
            (inl (subst (λ (d : Database). HoldsTables d t) (sym stay.0) held.0), stay.1 ∙ (held.1 ∙ sym stay.0))

  -- files that were not opened are as they were, or as the kit has it
  pub keeps_untouched : (image : Image) (left : Left D g) → left ≡ Untouched → KeepsFile g image left
  keeps_untouched image left is = subst (KeepsFile g image) (sym is) (record {
    finds = λ clean next same t holds. ∣ subst (λ (i : Image). HoldsRows i t) (sym same) holds ∣₁;
    comes_back = λ clean trees none. absurd none;
    spared = λ clean. tt;
  })

  pub keeps_unopened : (image : Image) (unopened : Leftover D g) (found : Files D) → image_of g found ≡ image
      → (IsCleanLeft unopened → LeavesFiles found unopened) → KeepsFile g image (Unopened unopened)
  keeps_unopened image unopened found same leaves = record {
    finds = λ clean next none. absurd none;
    comes_back = back unopened leaves;
    spared = λ clean. (found, same, leaves clean);
  }
    where
      back : (unopened : Leftover D g) → (IsCleanLeft unopened → LeavesFiles found unopened) → IsCleanLeft unopened
          → (trees : Trees) → MayComeBack g (Unopened unopened) trees → (t : Tables) → HoldsRows image t
          → HaveRows trees t
      back (rest.Files now) leaves clean trees none t holds = absurd none
      back (rest.Unopened now) leaves clean trees none t holds = absurd none
      back (rest.Store now) leaves clean trees may t holds =
          let is : trees ≡ holds.db.trees =
          ∥∥₁_elim holds.both (Trees-set _ _)
          (λ both. (leaves clean trees may).1 holds.db.trees
          (subst (λ (i : Image). HoldsDatabase i holds.db.trees) (sym same) both)) in
          have_rows trees t (holds.db, holds.listed, is, holds.tables)

  module _ (stays : SeenMayStay g) where
    -- a database in which no tables were made: because they are there, or they are not
    pub keeps_unmade : (image : Image) (opened refused : Held (FileStore D g)) (cause : Cause) (left : Left D g)
        → IsOpenedOn g image opened
        → ((cause ≡ Damaged) × IsTrue (has_one (file_state opened).now.schema))
        ⊎ ((cause ≡ OutOfMemory) ⊎ (cause ≡ Failed))
        → (IsTrue (has_one (file_state opened).now.schema) → (refused ≡ opened) × (cause ≡ Damaged))
        → (HasCleanDisk (file_state refused) → HasCleanDisk (file_state opened))
        → (cause ≡ Damaged → IsLeftOpen refused left) → ((cause ≡ Damaged → ⊥) → IsLeftClosed refused left)
        → KeepsFile g image left
    keeps_unmade image opened refused cause left on (inl (is, has)) taken first left_so closed =
        keeps_unasked stays image opened left on
        (subst (λ (c : Held (FileStore D g)). IsLeftOpen c left) (taken has).0 (left_so is))
    keeps_unmade image opened refused cause left on (inr other) taken first left_so closed =
        keeps_left_closed stays image opened refused left on (closed (undamaged other)) first
        (λ clean is_open t holds. absurd (never t holds)) (λ clean t holds trees may. absurd (never t holds))
      where
        undamaged : (cause ≡ OutOfMemory) ⊎ (cause ≡ Failed) → cause ≡ Damaged → ⊥
        undamaged (inl memory) is = let clash : OutOfMemory ≡ Damaged = sym memory ∙ is in absurd cc
        undamaged (inr failed) is = let clash : Failed ≡ Damaged = sym failed ∙ is in absurd cc

        never : (t : Tables) → HoldsEither (file_state opened).now t → ⊥
        never t holds = undamaged other (taken (either_has_one (file_state opened).now t holds)).1

    -- a database in which they were made, which cannot be closed: it had none
    pub keeps_made : (image : Image) (opened last : Held (FileStore D g)) (it : FileStore D g)
        → IsOpenedOn g image opened → has_one (file_state opened).now.schema ≡ false
        → (HasCleanDisk (file_state last) → HasCleanDisk (file_state opened))
        → IsQuiet view faults recovers is_shielded last.store it → KeepsFile g image (Shut it)
    keeps_made image opened last it on free first quiet =
        keeps_shut stays image opened last (Shut it) on (it, refl, quiet) first
        (λ clean t holds trees may. absurd (either_one (file_state opened).now t holds free))
