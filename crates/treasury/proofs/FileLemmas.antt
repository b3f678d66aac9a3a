-- Words over a file, one after another.
use Rattle.std.proofs.Common.{◌≡◌, ◌∙◌, false, List, [], ◌∷◌, length, refl, sym, ap, subst, inl, inr, arith}
use Rattle.std.specs.List.{AllZip}
use Rattle.std.proofs.Math.Logic.{∥∥₁_elim, ∥∥₁_map}
use Rattle.sqlite_disk.specs.declared.Disk as disk
use Rattle.sqlite_disk.specs.declared.Files.{Files}
use Rattle.sqlite_wal.specs.Recovery.{Image}
use Rattle.sqlite_wal.specs.Reads.{AreClean}
use Rattle.sqlite_trees.specs.Tree.{Trees}
use Rattle.sqlite_trees.specs.Objects.{catalog_tree}
use Rattle.sqlite_schema.specs.declared.schema.Schema.{Schema}
use Rattle.sqlite_schema.specs.declared.schema.Table.{Table}
use Rattle.sqlite_schema.specs.declared.schema.Index.{Index}
use Rattle.sqlite_schema.specs.declared.schema.View.{View as Stored}
use Rattle.sqlite_catalog.specs.Listing.{Lists, IsTableRow, IsIndexRow, IsViewRow}
use Rattle.sqlite_store.specs.declared.store.FileStore.{FileStore}
use Rattle.sqlite.specs.Order.{Row}
use Rattle.sqlite.specs.Effect.{Database}
use Rattle.sqlite.specs.Held.{Held}
use Rattle.sqlite.specs.Start.{FindsIn}
use Rattle.sqlite.specs.Files.{file_state, IsOpened, AreFoundIn}
use Rattle.treasury_state.specs.Federation.{Federation}
use Rattle.treasury_state.specs.Good.{IsGoodState}
use Rattle.treasury_state.specs.Rows.{rows}
use Rattle.treasury_tables.specs.Tables.{no_schema}
use Rattle.treasury_api.specs.Step.{Standing}
use Rattle.treasury.specs.Word.{AnswersWord, Told, AreTold}
use Rattle.treasury_files.specs.declared.left.Left.{Left}
use Rattle.treasury_files.specs.declared.left.Left.TheVariants.{Closed}
use Rattle.treasury_files.specs.Left.{HoldsRows, HoldsOf, IsLeft, IsCleanIn, MayBe}
use Rattle.treasury_files.specs.InFile.{HoldsState, LeavesState, ShowsState}
use Rattle.treasury.specs.OverFile.{AnswersOver, said_to, IsFileRefused, SaysOver}
use Rattle.treasury.specs.OverFile.{has_no_memory, has_no_treasury, cannot_be_used, is_answered}
use Rattle.treasury.specs.OverFile.{AreToldOver, AreAnsweredOver, AreToldBut}
use Rattle.treasury_files.proofs.LeftLemmas.{shows_rows}

-- the files that were left hold what they held, and so does the database file alone
pub still_holds : (left next : Image) (f : Federation) → IsLeft left next → HoldsState left f → HoldsState next f
still_holds left next f (inl same) holds = subst (λ (image : Image). HoldsState image f) (sym same) holds
still_holds left next f (inr alone) holds = subst (λ (image : Image). HoldsState image f) (sym alone) (record {
  good = holds.good;
  db = holds.db;
  listed = holds.listed;
  tables = holds.tables;
  alone = record { both = holds.alone.alone; alone = holds.alone.alone };
})

-- files that hold the rows of a state hold these
pub holds_of : (image : Image) (f : Federation) → HoldsState image f → HoldsOf image f
holds_of image f holds = record {
  good = holds.good;
  held = record { db = holds.db; listed = holds.listed; tables = inl holds.tables; both = holds.alone.both };
}

-- an empty list of objects lists nothing
none_zipped : {A B : Type 0} (R : A → B → Type 0) (ys : List B) → AllZip R [] ys → ys ≡ []
none_zipped R [] zip = refl
none_zipped R (y ∷ ys) zip = absurd zip

lists_nothing : (s : Schema) → Lists [] s → s ≡ no_schema
lists_nothing s lists =
    ap (λ (l : List Table). record { tables = l; indexes = s.indexes; views = s.views })
    (none_zipped IsTableRow s.tables lists.listed.tables)
    ∙ (ap (λ (l : List Index). record { tables = []; indexes = l; views = s.views })
    (none_zipped (IsIndexRow s.tables) s.indexes lists.listed.indexes)
    ∙ ap (λ (l : List Stored). record { tables = []; indexes = []; views = l })
    (none_zipped IsViewRow s.views lists.listed.views))

-- no database is found in an empty file
found_empty : (image : Image) (trees : Trees) → image.db ≡ [] → AreFoundIn image trees → trees catalog_tree ≡ []
found_empty image trees empty (inl (size, pages, wanted, adopts, ours, is)) =
    let some = adopts.found.present in
    let none : length image.db ≡ 0 = ap length empty in
    let never : ⊥ = omega (arith, some, none) in absurd never
found_empty image trees empty (inr (nothing, none)) = none.1

module _ {D : Type 0} (g : disk.Ghosts D) where
  -- an opening of an empty file shows no table
  pub shows_nothing : (image : Image) (c : Held (FileStore D g)) → image.db ≡ [] → FindsIn image (file_state c)
      → IsOpened c → (file_state c).now.schema ≡ no_schema
  shows_nothing image c empty finds (opens, live) =
      let none : (file_state c).now.trees catalog_tree ≡ [] =
      ap (λ (db : Database). db.trees catalog_tree) opens.clean
      ∙ found_empty image (file_state c).committed.trees empty finds.reads in
      lists_nothing (file_state c).now.schema
      (subst (λ (objects : List Row). Lists objects (file_state c).now.schema) none (live opens.is_open).0.lists)

  -- an opening of files that hold the rows of a state shows that state
  pub shows_of : (image : Image) (c : Held (FileStore D g)) (f : Federation) → HoldsOf image f
      → FindsIn image (file_state c) → IsOpened c → ShowsState g c f
  shows_of image c f holds finds opened =
      record { good = holds.good; holds = shows_rows g image c (rows f) holds.held finds opened }

  -- what is found of files that were closed holds the state that they were left with
  pub found_closed : (start : Image) (left : Left D g) (next : Image) (f : Federation)
      → ((closed : Files D) × (left ≡ Closed closed) × LeavesState g closed f) → MayBe g start left next
      → HoldsState next f
  found_closed start left next f (closed, is, leaves) may =
      let found = subst (λ (l : Left D g). MayBe g start l next) is may in
      still_holds found.0 next f found.2 (leaves found.0 found.1)

  -- a word that is answered leads on from the state that the files hold
  answered_on : (start : Image) (w : Told) (left : Left D g) (next : Image) (f : Federation) → HoldsOf start f
      → (word : AnswersOver g start w.request (said_to w) left) → AreClean g word.closed.log word.closed.db
      → MayBe g start left next → (mid : Standing)
      × AnswersWord (record { now = f; failed = false }) w.request w.text w.refused mid × HoldsState next mid.now
  answered_on start w left next f holds word clean may =
      let shown = shows_of start word.opened f holds (word.found clean) (word.serves clean) in
      let answered = word.answers clean f shown in
      (answered.0, answered.1, found_closed start left next answered.0.now (word.closed, word.is_left, answered.2) may)

  -- words one after another, each answered on the state that the files held, leave the files holding the state where
  -- they lead
  pub answers_file : (start : Image) (words : List Told) (end : Image) (f : Federation) → HoldsState start f
      → AreAnsweredOver g start words end
      → (last : Federation) × AreTold f words last × HoldsState end last
  answers_file start [] end f holds same = (f, refl, subst (λ (image : Image). HoldsState image f) (sym same) holds)
  answers_file start (w ∷ ws) end f holds (left, word, clean, (next, may, more)) =
      let one = answered_on start w left next f (holds_of start f holds) word clean may in
      let behind = answers_file next ws end one.0.now one.2 more in
      (behind.0, (one.0, one.1, behind.1), behind.2)

  -- a word leads from one state to another: to whichever words then lead on from that one
  abbrev LeadsTo : Federation → Told → Federation → Type 0
  LeadsTo f w mid = (ws : List Told) → (end : Federation) → AreToldBut mid ws end → AreToldBut f (w ∷ ws) end

  -- a word that is refused leaves what it found
  left_alone : (w : Told) (next : Image) (f : Federation) → IsGoodState f → IsFileRefused (said_to w)
      → ∥ HoldsRows next (rows f) ∥₁ → ∥ ((mid : Federation) × LeadsTo f w mid × HoldsOf next mid) ∥₁
  left_alone w next f good refused held = ∥∥₁_map held (λ one.
      let r : (mid : Federation) × LeadsTo f w mid × HoldsOf next mid =
      (f, λ ws end told. inr (refused, told), record { good = good; held = one }) in r)

  -- one word, be it answered or refused
  keeps_one : (start : Image) (w : Told) (left : Left D g) (next : Image) (f : Federation) → HoldsOf start f
      → SaysOver g start w.request (said_to w) left → IsCleanIn g left → MayBe g start left next
      → ∥ ((mid : Federation) × LeadsTo f w mid × HoldsOf next mid) ∥₁
  keeps_one start w left next f holds (has_no_memory memory keeps) clean may =
      left_alone w next f holds.good (inl memory) (keeps.finds clean next may (rows f) holds.held)
  keeps_one start w left next f holds (has_no_treasury damaged reason keeps) clean may =
      left_alone w next f holds.good (inr (inr damaged)) (keeps.finds clean next may (rows f) holds.held)
  keeps_one start w left next f holds (cannot_be_used store done) clean may =
      left_alone w next f holds.good (inr (inl store)) (done.finds clean next may f holds)
  keeps_one start w left next f holds (is_answered word) clean may =
      let one =
      answered_on start w left next f holds word (subst (λ (l : Left D g). IsCleanIn g l) word.is_left clean) may in
      let r : (mid : Federation) × LeadsTo f w mid × HoldsOf next mid =
      (one.0.now, λ ws end told. inl (one.0, one.1, told), holds_of next one.0.now one.2) in ∣ r ∣₁

  -- and so do words of which some are refused, each of which leaves what it found
  pub keeps_file : (start : Image) (words : List Told) (end : Image) (f : Federation) → HoldsOf start f
      → AreToldOver g start words end
      → ∥ ((last : Federation) × AreToldBut f words last × HoldsOf end last) ∥₁
  keeps_file start [] end f holds same = ∣ (f, refl, subst (λ (image : Image). HoldsOf image f) (sym same) holds) ∣₁
  keeps_file start (w ∷ ws) end f holds (left, says, clean, (next, may, more)) =
      ∥∥₁_elim (keeps_one start w left next f holds says clean may) squash₁ (λ one.
      ∥∥₁_map (keeps_file next ws end one.0 one.2 more) (λ behind.
      let r : (last : Federation) × AreToldBut f (w ∷ ws) last × HoldsOf end last =
      (behind.0, one.1 ws behind.0 behind.1, behind.2) in r))
