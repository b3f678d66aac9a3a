-- `serve`: its treasury is started, serves connections and is closed; what is told of it.
use Rattle.std.proofs.Common.{◌≡◌, ◌≢◌, ◌<◌, ◌⊎◌, ℕ, ◌+◌, Bool, true, false, Err, List, [], ◌++◌, take, length, Option}
use Rattle.std.proofs.Common.{None, Some, Result, IsTrue, arith, slice_index, codes, refl, sym, ap, subst, ◌∙◌, inl}
use Rattle.std.proofs.Common.{inr}
use Rattle.std.proofs.lemmas.List.{length-append, take-append-le}
use Rattle.std.proofs.Math.Seq.{take-append_seam, take-append-add}
use Rattle.std.proofs.Math.Logic.{∥∥₁_map}
use Rattle.std.proofs.KnownBytes.{Appends-trans}
use Rattle.std.specs.Fmt.{digits}
use Rattle.std.specs.Io.KnownBytes.{Appends}
use Rattle.clap.specs.Walk.{Row, rows_of, one_of}
use Rattle.clap.specs.Matches.{one_text, ReadsOne}
use Rattle.clap.specs.declared.parser.matches.Found.{Found}
use Rattle.clap.proofs.WalkLemmas.{one_text-rows}
use Rattle.sqlite_disk.specs.declared.Disk as disk
use Rattle.sqlite_disk.specs.declared.Files.{Files}
use Rattle.sqlite_wal.specs.Recovery.{Image}
use Rattle.sqlite_wal.specs.Files.{seen_image}
use Rattle.sqlite_wal.specs.Reads.{AreClean}
use Rattle.sqlite_wal.proofs.LogLemmas.{SeenMayStay}
use Rattle.sqlite_pool.proofs.StateLemmas.{may_leave_is}
use Rattle.sqlite_store.specs.declared.store.FileStore.{FileStore}
use Rattle.sqlite_store.specs.FileStore.{view, recovers, files}
use Rattle.sqlite.specs.Tree.{Trees}
use Rattle.sqlite.specs.Held.{Held, AreDatabases}
use Rattle.sqlite.specs.State.{HasCleanDisk}
use Rattle.sqlite.specs.Files.{file_state, over_files, HoldsDatabase}
use Rattle.sqlite.proofs.Theorems.{opens_again}
use Rattle.money_core.specs.declared.cause.Cause.TheVariants.{OutOfMemory, Store as Failed}
use Rattle.book_core.specs.declared.refusal.Refusal.{Refusal}
use Rattle.book_core.specs.declared.refusal.Refusal.TheVariants.{Plain}
use Rattle.treasury_state.specs.Federation.{Federation}
use Rattle.treasury_state.specs.Good.{IsGoodState}
use Rattle.treasury_state.specs.Rows.{rows}
use Rattle.treasury_tables.specs.Rows.{AreTreesOf}
use Rattle.treasury_store.specs.Store.{TablesAreWhileOpen}
use Rattle.treasury_store.specs.Treasury.{Treasury, IsTreasuryOf}
use Rattle.treasury_api.specs.declared.asking.Asked.{Asked}
use Rattle.treasury_api.specs.Answer.{answer_text}
use Rattle.treasury_api.specs.Replied.{standing}
use Rattle.treasury_api.specs.Step.{Standing}
use Rattle.treasury_api.specs.Left.{end_state, LeavesAsked}
use Rattle.treasury_api.specs.Web.{AnsweredCall, AreServed, LeavesCalls, HasServed}
use Rattle.treasury_api.proofs.WebLemmas.{one_fails_or, one_fails_map}
use Rattle.treasury_files.specs.declared.left.Left.{Left}
use Rattle.treasury_files.specs.declared.left.Left.TheVariants.{Untouched, Closed, Open, Shut}
use Rattle.treasury_files.specs.declared.file.Unopened.{Unopened as Why}
use Rattle.treasury_files.specs.declared.file.Unopened.TheVariants as why
use Rattle.treasury.specs.OverFile.{Spoken, IsRefusedBy, Tells}
use Rattle.treasury_files.specs.InFile.{ShowsState, LeavesState}
use Rattle.treasury_files.specs.Left.{HoldsOf, IsImageOf, IsCleanStore, KeepsFile}
use Rattle.treasury.specs.Serving.{IsNumber, LacksNumber, listening, after_listening, ServesOver, LeavesOpen}
use Rattle.treasury.specs.Serving.{HaveRowsAfter, ComesBack, ServesOpen, ServesShut, RefusesFile, IsNotClosed}
use Rattle.treasury.specs.Serving.{IsServedOver}
use Rattle.treasury_files.specs.Started.{cause_of_why, IsUnserved, IsStarted, IsClosedAs, IsStillOpen, IsLeftAs}
use Rattle.treasury.specs.ServingParts.{ends_unwritten, IsAnnounced, SaysAtEnd, SaysServing, ServesIfHeard}
use Rattle.treasury.specs.ServingParts.{KeepsUnheard, EndsServeBy}
use Rattle.treasury.specs.declared.words.serving.Ending.{Ending}
use Rattle.treasury.specs.declared.words.serving.Ending.TheVariants.{Unbound, Unwritten, Unaccepted, Changed, Finished}
use Rattle.treasury_files.proofs.LeftLemmas.{image_holds, stored_in, settles}
use Rattle.treasury_files.proofs.StartedLemmas.{left_behind, committed_in}
use Rattle.treasury.proofs.OverFileLemmas.{tells_nothing}

-- ---- its values

-- a number that is not read is not given
pub lacks_number : {E : Type 0} (gives : List ℕ → Result ℕ E → Type 0) (bits : ℕ) (name : List ℕ) (f : Found)
    (o : Option (List ℕ)) (result : Option ℕ)
    → one_text f name ≡ o → ((text : List ℕ) → one_text f name ≡ Some text → ReadsOne gives text result) → result ≡ None
    → ((text : List ℕ) (error : E) → gives text (Err error) → IsNumber bits text → ⊥)
    → LacksNumber bits name (rows_of f)
lacks_number gives bits name f None result is reads none fails = inl (sym (one_text-rows f name) ∙ is)
lacks_number gives bits name f (Some text) result is reads none fails =
    let unread = subst (λ (r : Option ℕ). ReadsOne gives text r) none (reads text is) in
    inr (text, sym (one_text-rows f name) ∙ is, fails text unread.0 unread.1)

-- it is no run
serve_byte_not_run : (s r : ℕ) → s ≡ 115 → r ≡ 114 → s ≡ r → ⊥
serve_byte_not_run s r of_serve of_run same = omega arith

pub serve_is_not_run : codes "serve" ≡ codes "run" → ⊥
serve_is_not_run same = serve_byte_not_run (slice_index (codes "serve") 0) (slice_index (codes "run") 0) refl refl
    (ap (λ (text : List ℕ). slice_index text 0) same)

-- ---- what is told

-- the line of 41 is no empty one
line_of_41 : codes "refused 41 Store\n" ≡ answer_text [] (Err (Plain Failed))
unfolding answer_text digits
line_of_41 = refl

some_41 : 0 < length (answer_text [] (Err (Plain Failed)))
some_41 = subst (λ (text : List ℕ). 0 < length text) line_of_41 (omega arith)

-- a part of a text is one of a longer text, and so is all of it; and a part of what follows is one of both
part_within : (n : ℕ) (xs ys : List ℕ) → n < length xs → n < length (xs ++ ys)
part_within n xs ys within = let long = length-append xs ys in omega (arith, within, long)

whole_within : (xs ys : List ℕ) → 0 < length ys → length xs < length (xs ++ ys)
whole_within xs ys more = let long = length-append xs ys in omega (arith, more, long)

part_past : (n : ℕ) (xs ys : List ℕ) → n < length ys → length xs + n < length (xs ++ ys)
part_past n xs ys within = let long = length-append xs ys in omega (arith, within, long)

-- `listening` is told, and then what is said
tells_after : {W : Type 0} (contents : W → Option (List ℕ)) (w0 w1 w2 : W) (status : ℕ) (said : Spoken)
    → Appends (contents w0) (contents w1) listening → Tells contents w1 w2 status said
    → Tells contents w0 w2 status (after_listening said)
tells_after contents w0 w1 w2 status said first (inl (then, is)) =
    inl (Appends-trans (contents w0) (contents w1) (contents w2) listening said.text first then, is)
tells_after contents w0 w1 w2 status said first (inr (taken, within, then, one)) =
    inr (
      length listening + taken,
      part_past taken listening said.text within,
      subst (λ (bytes : List ℕ). Appends (contents w0) (contents w2) bytes)
          (sym (take-append-add listening said.text taken))
          (Appends-trans (contents w0) (contents w1) (contents w2) listening (take taken said.text) first then),
      one,
    )

-- or a first part of it
tells_part : {W : Type 0} (contents : W → Option (List ℕ)) (w0 w1 : W) (status taken : ℕ) (said : Spoken)
    → taken < length listening → Appends (contents w0) (contents w1) (take taken listening) → status ≡ 1
    → Tells contents w0 w1 status (after_listening said)
tells_part contents w0 w1 status taken said within written one =
    inr (
      taken,
      part_within taken listening said.text within,
      subst (λ (bytes : List ℕ). Appends (contents w0) (contents w1) bytes)
          (sym (take-append-le taken listening said.text (omega (arith, within)))) written,
      one,
    )

-- or no more than that, where something is said
tells_no_more : {W : Type 0} (contents : W → Option (List ℕ)) (w0 w1 : W) (status : ℕ) (said : Spoken)
    → 0 < length said.text → Appends (contents w0) (contents w1) listening → status ≡ 1
    → Tells contents w0 w1 status (after_listening said)
tells_no_more contents w0 w1 status said some written one =
    inr (
      length listening,
      whole_within listening said.text some,
      subst (λ (bytes : List ℕ). Appends (contents w0) (contents w1) bytes)
          (sym (take-append_seam listening said.text)) written,
      one,
    )

tells_alone : {W : Type 0} (contents : W → Option (List ℕ)) (w0 w1 w2 : W) (status : ℕ) (said : Spoken)
    → w1 ≡ w0 → Tells contents w1 w2 status said → Tells contents w0 w2 status said
tells_alone contents w0 w1 w2 status said same tells = subst (λ w. Tells contents w w2 status said) same tells

-- ---- over a file

module _ {D : Type 0} (g : disk.Ghosts D) where
  -- its treasury serves connections, and the file is closed
  pub serves_over : (image : Image) (old new : Treasury (FileStore D g)) (closed : Files D) → IsStarted g image old
      → HasServed over_files old new → IsClosedAs g new.store.conn closed → ServesOver g image (Closed closed)
  serves_over image old new closed started served closes = record {
    opened = started.opened;
    closed = closed;
    calls = served.calls;
    is_left = refl;
    found = λ k. started.on.found (at_first k);
    serves = λ k. started.on.serves (at_first k);
    has = λ k. started.starts.has (served.clean (closes.copied k).was_clean);
    answers = answers;
  }
    where
      at_first : AreClean g closed.log closed.db → HasCleanDisk (file_state started.opened)
      at_first k = started.starts.clean (served.clean (closes.copied k).was_clean)

      answers : AreClean g closed.log closed.db → (f : Federation) → ShowsState g started.opened f
          → (end : Standing) × AreServed (record { now = f; failed = false }) served.calls end
          × LeavesState g closed end.now
      answers k f shows =
          let at_end = (closes.copied k).was_clean in
          let r = served.served at_end f (started.starts.of (served.clean at_end)
          (committed_in g image started.opened started.on (at_first k)) f shows) in (
            standing new r.0,
            subst (λ (failed : Bool). AreServed (record { now = f; failed = failed }) served.calls (standing new r.0))
                started.starts.unfailed r.1.1.0,
            left_behind g new.store.conn closed r.0 closes.live (closes.copied k) r.1.0.store.good
                r.1.0.store.tables,
          )

  module _ (stays : SeenMayStay g) where
    -- what is left open of a connection that shows the rows of a good state holds that state
    open_behind : (c : Held (FileStore D g)) (it : FileStore D g) (f : Federation) → IsLeftAs c it → IsCleanStore g it
        → HasCleanDisk (file_state c) → IsGoodState f → TablesAreWhileOpen over_files c (rows f)
        → IsTrue (view it).is_open → LeavesOpen g it f
    open_behind c it f leaves clean last good tables still next may =
        let is_open = leaves.by.was_open clean.0 still in
        let held = tables last is_open in
        ∥∥₁_map (image_holds g stays it (rows f) (leaves.by.numbered clean.0) (leaves.by.sound clean.0) clean.1
        (λ trees came. stored_in g stays c (rows f) trees leaves.live is_open held.1 (inl held.0)
        (leaves.by.quiet.outcomes trees came)) next may)
        (λ found. let r : HoldsOf next f = record { good = good; held = found } in r)

    -- what may come back of a connection has the rows that the calls leave which were answered over it
    came_back : (old new : Treasury (FileStore D g)) (f e : Federation) (calls : List AnsweredCall)
        (answered : AreServed (standing old f) calls (standing new e)) → IsTreasuryOf over_files new e
        → HasCleanDisk (file_state new.store.conn) → IsTrue (file_state old.store.conn).is_open
        → old.store.failed ≡ false
        → LeavesCalls over_files old new (standing old f) calls (standing new e) answered
        → (trees : Trees) → (file_state new.store.conn).may_leave trees
        → HaveRowsAfter trees (standing old f) calls (standing new e) answered
    came_back old new f e calls answered of clean is_open unfailed leaves trees may =
        elim (leaves is_open unfailed) [
          | inl still ↦ (
              let held = of.store.tables clean still.0 in
              inl (
                (file_state new.store.conn).now,
                settles g stays new.store.conn trees still.0 held.1 may,
                held.0,
              ))
          | inr fails ↦
              one_fails_or (λ (s : Federation). AreTreesOf trees (rows s))
              (λ (s : Federation) (asked : Result Asked Refusal). AreTreesOf trees (rows (end_state s asked)))
              (standing old f) calls (standing new e) answered
              (one_fails_map (LeavesAsked over_files new.store.conn)
              (λ (s : Federation) (asked : Result Asked Refusal).
              AreTreesOf trees (rows s) ⊎ AreTreesOf trees (rows (end_state s asked)))
              (standing old f) calls (standing new e) answered (λ s asked left. left clean trees may) fails.1)
        ]

    -- the next word finds what may come back of files that are left open
    found_in : (it : FileStore D g) → IsTrue (view it).is_numbered → AreDatabases (recovers it)
        → AreClean g (files it).0 (files it).1 → (next : Image) → IsImageOf g (files it).0 (files it).1 next
        → ∥ ((trees : Trees) × recovers it trees × HoldsDatabase next trees) ∥₁
    found_in it numbered sound clean next (inl same) =
        subst (λ (image : Image). ∥ ((trees : Trees) × recovers it trees × HoldsDatabase image trees) ∥₁) (sym same)
        (opens_again it numbered sound (seen_image g (files it).0 (files it).1)
        (may_leave_is it.pool (seen_image g (files it).0 (files it).1) clean
        (stays (files it).0, stays (files it).1)))
    found_in it numbered sound clean next (inr out) =
        opens_again it numbered sound next (may_leave_is it.pool next clean out)

    -- its treasury serves connections, and the file is left open
    pub serves_open : (image : Image) (old new : Treasury (FileStore D g)) (it : FileStore D g)
        → IsStarted g image old → HasServed over_files old new → IsLeftAs new.store.conn it
        → ServesOpen g image (Open it)
    serves_open image old new it started served leaves = record {
      opened = started.opened;
      it = it;
      calls = served.calls;
      is_left = refl;
      found = λ k. started.on.found (at_first k);
      serves = λ k. started.on.serves (at_first k);
      has = λ k. started.starts.has (served.clean (at_end k));
      answers = answers;
      finds = λ k next found. found_in it (leaves.by.numbered k.0) (leaves.by.sound k.0) k.1 next found;
    }
      where
        at_end : IsCleanStore g it → HasCleanDisk (file_state new.store.conn)
        at_end k = omega (arith, leaves.by.quiet.clean, k.0)

        at_first : IsCleanStore g it → HasCleanDisk (file_state started.opened)
        at_first k = started.starts.clean (served.clean (at_end k))

        answers : IsCleanStore g it → (f : Federation) → ShowsState g started.opened f
            → (end : Standing) × (answered : AreServed (record { now = f; failed = false }) served.calls end)
            × (IsTrue (view it).is_open → LeavesOpen g it end.now)
            × ComesBack g it (record { now = f; failed = false }) served.calls end answered
        answers k f shows =
            let last = at_end k in
            let first = served.clean last in
            let r = served.served last f (started.starts.of first
            (committed_in g image started.opened started.on (at_first k)) f shows) in
            let back = came_back old new f r.0 served.calls r.1.1.0 r.1.0 last (started.starts.is_open first)
            started.starts.unfailed r.1.1.1 in
            let told = subst (λ (failed : Bool).
            (answered : AreServed (record { now = f; failed = failed }) served.calls (standing new r.0))
            × ComesBack g it (record { now = f; failed = failed }) served.calls (standing new r.0) answered)
            started.starts.unfailed (r.1.1.0, λ trees may. back trees (leaves.by.quiet.outcomes trees may)) in (
              standing new r.0,
              told.0,
              open_behind new.store.conn it r.0 leaves k last r.1.0.store.good r.1.0.store.tables,
              told.1,
            )

    -- or cannot be closed
    pub serves_shut : (image : Image) (old new : Treasury (FileStore D g)) (it : FileStore D g)
        → IsStarted g image old → HasServed over_files old new → IsStillOpen g new.store.conn it
        → ServesShut g image (Shut it)
    serves_shut image old new it started served quiet = record {
      opened = started.opened;
      it = it;
      calls = served.calls;
      is_left = refl;
      found = λ k. started.on.found (at_first k);
      serves = λ k. started.on.serves (at_first k);
      has = λ k. started.starts.has (served.clean (at_end k));
      answers = answers;
    }
      where
        at_end : IsCleanStore g it → HasCleanDisk (file_state new.store.conn)
        at_end k = omega (arith, quiet.clean, k.0)

        at_first : IsCleanStore g it → HasCleanDisk (file_state started.opened)
        at_first k = started.starts.clean (served.clean (at_end k))

        answers : IsCleanStore g it → (f : Federation) → ShowsState g started.opened f
            → (end : Standing) × (answered : AreServed (record { now = f; failed = false }) served.calls end)
            × ComesBack g it (record { now = f; failed = false }) served.calls end answered
        answers k f shows =
            let last = at_end k in
            let first = served.clean last in
            let r = served.served last f (started.starts.of first
            (committed_in g image started.opened started.on (at_first k)) f shows) in
            let back = came_back old new f r.0 served.calls r.1.1.0 r.1.0 last (started.starts.is_open first)
            started.starts.unfailed r.1.1.1 in
            let told = subst (λ (failed : Bool).
            (answered : AreServed (record { now = f; failed = failed }) served.calls (standing new r.0))
            × ComesBack g it (record { now = f; failed = failed }) served.calls (standing new r.0) answered)
            started.starts.unfailed (r.1.1.0, λ trees may. back trees (quiet.outcomes trees may)) in
            (standing new r.0, told.0, told.1)

  -- a file that serves no word refuses `serve`, whatever the cause is, and 43 has its reason
  pub refuses_file : (image : Image) (why : Why) (said : Spoken) (left : Left D g) → IsRefusedBy (cause_of_why why) said
      → IsUnserved g image why left → RefusesFile g image said left
  refuses_file image why.NoMemory said left refused unserved = (inl refused, unserved.keeps)
  refuses_file image (why.Unusable reason) said left refused unserved = (inr (inl refused), unserved.keeps)
  refuses_file image (why.NoTreasury reason) said left refused unserved =
      (inr (inr (refused, unserved.reason refl)), unserved.keeps)
  refuses_file image (why.OtherVersion version) said left refused unserved =
      (inr (inr (refused, unserved.reason refl)), unserved.keeps)
  refuses_file image (why.Strange told) said left refused unserved =
      (inr (inr (refused, unserved.reason refl)), unserved.keeps)

  -- a file that is left open was not closed, however serving ended
  pub ends_open : (image : Image) (ending : Ending) (said : Spoken) (left : Left D g) → IsRefusedBy Failed said
      → ServesOpen g image left → KeepsUnheard g image ending left → EndsServeBy g image ending said left
  ends_open image (Unbound reason) said left refused serves keeps = (inl (refused, inl serves), keeps)
  ends_open image Unwritten said left refused serves keeps = (inl (refused, inl serves), keeps)
  ends_open image (Unaccepted port) said left refused serves keeps = (inl (refused, inl serves), keeps)
  ends_open image Changed said left refused serves keeps = (refused, serves)
  ends_open image Finished said left refused serves keeps = (inl (refused, inl serves), keeps)

  -- one that another program did not change is closed, or cannot be
  pub ends_otherwise : (image : Image) (ending : Ending) (said : Spoken) (left : Left D g) → ending ≢ Changed
      → IsNotClosed g image said left ⊎ (ServesOver g image left × SaysAtEnd ending said)
      → KeepsUnheard g image ending left → EndsServeBy g image ending said left
  ends_otherwise image (Unbound reason) said left other ends keeps = (ends, keeps)
  ends_otherwise image Unwritten said left other ends keeps = (ends, keeps)
  ends_otherwise image (Unaccepted port) said left other ends keeps = (ends, keeps)
  ends_otherwise image Changed said left other ends keeps = absurd (other refl)
  ends_otherwise image Finished said left other ends keeps = (ends, keeps)

  -- where nothing was served, the file holds what it held
  pub keeps_unheard : {S : Type 0} (image : Image) (ending : Ending) (old new : Treasury S) (left : Left D g)
      → ServesIfHeard ending old new → (new ≡ old → KeepsFile g image left) → KeepsUnheard g image ending left
  keeps_unheard image (Unbound reason) old new left same keeps = keeps same
  keeps_unheard image Unwritten old new left same keeps = keeps same
  keeps_unheard image (Unaccepted port) old new left heard keeps = tt
  keeps_unheard image Changed old new left heard keeps = tt
  keeps_unheard image Finished old new left heard keeps = tt

  -- what is said to it is told
  pub told_served : {W : Type 0} (image : Image) (contents : W → Option (List ℕ)) (w0 w1 w2 : W) (status : ℕ)
      (values : List Row) (ending : Option Ending) (said : Spoken) (left : Left D g)
      → IsAnnounced contents w0 w1 ending → SaysServing g image values ending said left → ends_unwritten ending ≡ false
      → Tells contents w1 w2 status said
      → IsServedOver g image contents w0 w2 status values left
  told_served image contents w0 w1 w2 status values None said left same (inl lacks) other tells =
      inl (said, tells_alone contents w0 w1 w2 status said same tells, inr (inl lacks))
  told_served image contents w0 w1 w2 status values None said left same (inr file) other tells =
      inl (said, tells_alone contents w0 w1 w2 status said same tells, inr (inr (inl file)))
  told_served image contents w0 w1 w2 status values (Some (Unbound reason)) said left same (inl file, keeps) other
      tells = inl (
        said,
        tells_alone contents w0 w1 w2 status said same tells,
        inr (inr (inl (inr (inl file.0), keeps))),
      )
  told_served image contents w0 w1 w2 status values (Some (Unbound reason)) said left same (inr port, keeps) other
      tells = inl (
        said,
        tells_alone contents w0 w1 w2 status said same tells,
        inr (inr (inr (inl (port.0, port.1, keeps)))),
      )
  told_served image contents w0 w1 w2 status values (Some Unwritten) said left first says other tells = absurd cc
  told_served image contents w0 w1 w2 status values (Some (Unaccepted port)) said left first (inl file, keeps) other
      tells = inl (
        after_listening said,
        tells_after contents w0 w1 w2 status said first tells,
        inr (inr (inr (inr (said, refl, inr file)))),
      )
  told_served image contents w0 w1 w2 status values (Some (Unaccepted port)) said left first
      (inr (serves, refused), keeps) other tells = inl (
        after_listening said,
        tells_after contents w0 w1 w2 status said first tells,
        inr (inr (inr (inr (said, refl, inl (serves, inr refused))))),
      )
  told_served image contents w0 w1 w2 status values (Some Changed) said left first (refused, serves) other tells = inl (
    after_listening said,
    tells_after contents w0 w1 w2 status said first tells,
    inr (inr (inr (inr (said, refl, inr (refused, inl serves))))),
  )
  told_served image contents w0 w1 w2 status values (Some Finished) said left first (inl file, keeps) other tells =
      inl (
        after_listening said,
        tells_after contents w0 w1 w2 status said first tells,
        inr (inr (inr (inr (said, refl, inr file)))),
      )
  told_served image contents w0 w1 w2 status values (Some Finished) said left first (inr (serves, is), keeps) other
      tells = inl (
        after_listening said,
        tells_after contents w0 w1 w2 status said first tells,
        inr (inr (inr (inr (said, refl, inl (serves, inl is))))),
      )

  -- and a first part where `listening` cannot be written
  pub told_unwritten : {W : Type 0} (image : Image) (contents : W → Option (List ℕ)) (w0 w1 : W) (status : ℕ)
      (values : List Row) (ending : Option Ending) (said : Spoken) (left : Left D g)
      → IsAnnounced contents w0 w1 ending → SaysServing g image values ending said left → ends_unwritten ending ≡ true
      → status ≡ 1
      → IsServedOver g image contents w0 w1 status values left
  told_unwritten image contents w0 w1 status values (Some Unwritten) said left (inl (taken, within, written))
      (inl file, keeps) is one = inl (
        after_listening said,
        tells_part contents w0 w1 status taken said within written one,
        inr (inr (inr (inr (said, refl, inr file)))),
      )
  told_unwritten image contents w0 w1 status values (Some Unwritten) said left (inl (taken, within, written))
      (inr (serves, silence), keeps) is one = inl (
        after_listening said,
        tells_part contents w0 w1 status taken said within written one,
        inr (inr (inr (inr (said, refl, inl (serves, inl silence))))),
      )
  told_unwritten image contents w0 w1 status values (Some Unwritten) said left (inr written) (inl file, keeps) is one =
      inl (
        after_listening said,
        tells_no_more contents w0 w1 status said
            (subst (λ (text : List ℕ). 0 < length text) (sym file.0.0) some_41) written one,
        inr (inr (inr (inr (said, refl, inr file)))),
      )
  told_unwritten image contents w0 w1 status values (Some Unwritten) said left (inr written)
      (inr (serves, silence), keeps) is one = inr (written, one, serves, keeps)
  told_unwritten image contents w0 w1 status values None said left first says is one = absurd cc
  told_unwritten image contents w0 w1 status values (Some (Unbound reason)) said left first says is one = absurd cc
  told_unwritten image contents w0 w1 status values (Some (Unaccepted port)) said left first says is one = absurd cc
  told_unwritten image contents w0 w1 status values (Some Changed) said left first says is one = absurd cc
  told_unwritten image contents w0 w1 status values (Some Finished) said left first says is one = absurd cc

  -- nothing is told, where there is no memory to read the words
  pub served_nothing : {W : Type 0} (image : Image) (contents : W → Option (List ℕ)) (w0 w1 : W) (status : ℕ)
      (values : List Row) (left : Left D g)
      → left ≡ Untouched → w1 ≡ w0 → status ≡ 1 → IsServedOver g image contents w0 w1 status values left
  served_nothing image contents w0 w1 status values left none same one = inl (
    record { text = answer_text [] (Err (Plain OutOfMemory)); refused = true },
    tells_nothing contents w0 w1 status same one,
    inl ((refl, refl), none),
  )

  -- what is told to some values is told to equal ones
  pub served_alike : {W : Type 0} (image : Image) (contents : W → Option (List ℕ)) (w0 w1 : W) (status : ℕ)
      (these those : List Row) (left : Left D g)
      → these ≡ those → IsServedOver g image contents w0 w1 status these left
      → IsServedOver g image contents w0 w1 status those left
  served_alike image contents w0 w1 status these those left alike is =
      subst (λ (values : List Row). IsServedOver g image contents w0 w1 status values left) alike is
