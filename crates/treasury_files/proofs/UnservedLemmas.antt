-- 43 has its reason: what an opened file holds is no treasury, in neither version.
use Rattle.std.proofs.Common.{◌≡◌, ◌⊎◌, Bool, sym, subst, inl, inr, arith}
use Rattle.sqlite_disk.specs.declared.Disk as disk
use Rattle.sqlite_wal.specs.Recovery.{Image}
use Rattle.sqlite_store.specs.declared.store.FileStore.{FileStore}
use Rattle.sqlite.specs.Held.{Held}
use Rattle.sqlite.specs.State.{HasCleanDisk}
use Rattle.sqlite.specs.Files.{file_state, over_files}
use Rattle.money_core.specs.declared.cause.Cause.{Cause}
use Rattle.money_core.specs.declared.cause.Cause.TheVariants.{Damaged}
use Rattle.treasury_state.specs.Federation.{Federation}
use Rattle.treasury_state.specs.Good.{IsGoodState}
use Rattle.treasury_state.specs.Rows.{rows}
use Rattle.treasury_tables.specs.Opening.{AreOursAlone, IsFirstVersion, IsSecond}
use Rattle.treasury_tables.specs.Judging.{ReadsFirst}
use Rattle.treasury_tables.specs.Rows.{Tables, HoldsEither}
use Rattle.treasury_store.specs.Store.{TablesAreWhileOpen}
use Rattle.treasury_files.specs.declared.left.Left.{Left}
use Rattle.treasury_files.specs.Left.{HoldsOf, IsCleanIn, HasNoTreasury}
use Rattle.treasury_files.specs.Started.{IsOpenedOn}
use Rattle.treasury_files.specs.Leaving.{IsLeftOpen, IsLeftShut, IsLeftClosed, IsLeftRefused, IsAsked}
use Rattle.treasury_files.proofs.LeftLemmas.{shows_rows, either_ours}

module _ {D : Type 0} (g : disk.Ghosts D) where
  -- where what is left of a connection is clean, the connection was
  clean_open : (c : Held (FileStore D g)) (left : Left D g) → IsLeftOpen c left → IsCleanIn g left
      → HasCleanDisk (file_state c)
  clean_open c left (it, is, by) clean =
      let now = subst (λ (l : Left D g). IsCleanIn g l) is clean in omega (arith, by.quiet.clean, now.0)

  clean_shut : (c : Held (FileStore D g)) (left : Left D g) → IsLeftShut c left → IsCleanIn g left
      → HasCleanDisk (file_state c)
  clean_shut c left (it, is, quiet) clean =
      let now = subst (λ (l : Left D g). IsCleanIn g l) is clean in omega (arith, quiet.clean, now.0)

  clean_either : (c : Held (FileStore D g)) (left : Left D g) → IsLeftOpen c left ⊎ IsLeftClosed c left
      → IsCleanIn g left → HasCleanDisk (file_state c)
  clean_either c left (inl left_so) clean = clean_open c left left_so clean
  clean_either c left (inr (inl (closed, is, closes))) clean =
      (closes.copied (subst (λ (l : Left D g). IsCleanIn g l) is clean)).was_clean
  clean_either c left (inr (inr shut)) clean = clean_shut c left shut clean

  clean_refused : (c : Held (FileStore D g)) (cause : Cause) (is_first : Bool) (left : Left D g)
      → IsLeftRefused c cause is_first left → IsCleanIn g left → HasCleanDisk (file_state c)
  clean_refused c cause is_first left (inl (why, left_so)) clean = clean_open c left left_so clean
  clean_refused c cause is_first left (inr shut) clean = clean_shut c left shut clean

  -- a connection that showed the rows of no good state
  none_shown : (image : Image) (opened : Held (FileStore D g)) (left : Left D g) → IsOpenedOn g image opened
      → (IsCleanIn g left → HasCleanDisk (file_state opened))
      → (IsCleanIn g left → (f : Federation) → HoldsOf image f → HoldsEither (file_state opened).now (rows f) → ⊥)
      → HasNoTreasury g image left
  none_shown image opened left on first never = inr (λ clean f holds.
      let k = first clean in
      never clean f holds (shows_rows g image opened (rows f) holds.held (on.found k) (on.serves k)))

  -- its tables were looked at
  pub none_checked : (image : Image) (opened last : Held (FileStore D g)) (left : Left D g) → IsOpenedOn g image opened
      → last ≡ opened → IsLeftOpen last left
      → (HasCleanDisk (file_state last) → (f : Federation) → IsGoodState f
      → HoldsEither (file_state opened).now (rows f) → ⊥) → HasNoTreasury g image left
  none_checked image opened last left on same left_so damaged =
      none_shown image opened left on
      (λ clean. subst (λ (h : Held (FileStore D g)). HasCleanDisk (file_state h)) same (clean_open last left left_so
      clean))
      (λ clean f holds held. damaged (clean_open last left left_so clean) f holds.good held)

  -- and read, where they were of version 1
  pub none_judged : (image : Image) (opened last : Held (FileStore D g)) (left : Left D g) → IsOpenedOn g image opened
      → IsLeftOpen last left → ReadsFirst over_files opened last
      → (HasCleanDisk (file_state last) → (f : Federation) → IsGoodState f
      → HoldsEither (file_state opened).now (rows f) → ⊥) → HasNoTreasury g image left
  none_judged image opened last left on left_so reads damaged =
      none_shown image opened left on
      (λ clean. omega (arith, reads.survives.clean, clean_open last left left_so clean))
      (λ clean f holds held. damaged (clean_open last left left_so clean) f holds.good held)

  -- they were not opened
  pub none_opened : (image : Image) (opened refused last : Held (FileStore D g)) (cause : Cause) (is_first : Bool)
      (left : Left D g) → IsOpenedOn g image opened → cause ≡ Damaged
      → (HasCleanDisk (file_state refused) → HasCleanDisk (file_state opened))
      → (cause ≡ Damaged → HasCleanDisk (file_state refused) → AreOursAlone (file_state opened).now.schema
      → IsFirstVersion (file_state opened).now ⊎ IsSecond (file_state opened).now → ⊥)
      → IsAsked g refused cause last → IsLeftRefused last cause is_first left → HasNoTreasury g image left
  none_opened image opened refused last cause is_first left on is first damaged asked left_as =
      none_shown image opened left on (λ clean. first (before clean)) (λ clean f holds held.
      let there = either_ours (file_state opened).now (rows f) held in
      damaged is (before clean) there.0 there.1)
    where
      before : IsCleanIn g left → HasCleanDisk (file_state refused)
      before clean = asked.clean (clean_refused last cause is_first left left_as clean)

  -- or their rows were no state's
  pub none_started : (image : Image) (opened store last : Held (FileStore D g)) (left : Left D g)
      → IsOpenedOn g image opened
      → (HasCleanDisk (file_state store) → HasCleanDisk (file_state opened))
      → (HasCleanDisk (file_state last) → HasCleanDisk (file_state store))
      → ((file_state opened).committed ≡ (file_state opened).now → (t : Tables)
      → HoldsEither (file_state opened).now t → TablesAreWhileOpen over_files store t)
      → (HasCleanDisk (file_state last) → (f : Federation) → IsGoodState f
      → TablesAreWhileOpen over_files store (rows f) → ⊥)
      → IsLeftOpen last left ⊎ IsLeftClosed last left → HasNoTreasury g image left
  none_started image opened store last left on first middle tables damaged left_as =
      none_shown image opened left on before (λ clean f holds held.
      damaged (clean_either last left left_as clean) f holds.good
      (tables (sym (on.serves (before clean)).0.clean) (rows f) held))
    where
      before : IsCleanIn g left → HasCleanDisk (file_state opened)
      before clean = first (middle (clean_either last left left_as clean))
