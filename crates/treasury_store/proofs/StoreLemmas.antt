-- What a store is of, once its changes are written, and where they are not.
use Rattle.std.proofs.Common.{◌≡◌, List, Option, Some, refl, sym, ap, subst, ◌∙◌, inl, inr, arith, IsTrue}
use Rattle.sqlite.specs.Store.{Ghosts}
use Rattle.sqlite.specs.Effect.{Database}
use Rattle.sqlite.specs.Tree.{Trees}
use Rattle.sqlite.specs.State.{State, Survives}
use Rattle.sqlite.specs.Held.{Held, state}
use Rattle.sqlite.proofs.StateLemmas.{survives_weaker}
use Rattle.treasury_state.specs.declared.delta.Addition.{Addition}
use Rattle.treasury_state.specs.Federation.{Federation}
use Rattle.treasury_state.specs.Good.{IsGoodState}
use Rattle.treasury_state.specs.Joined.{joined}
use Rattle.treasury_state.specs.Rows.{rows}
use Rattle.treasury_state.proofs.BackLemmas.{good_room}
use Rattle.treasury_tables.specs.Kept.{IsFaithful}
use Rattle.treasury_tables.specs.declared.change.Change.{Change}
use Rattle.treasury_tables.specs.Rows.{Tables, HoldsTables, HoldsEither, written}
use Rattle.treasury_tables.specs.Creating.{has_receipt}
use Rattle.treasury_tables.specs.Opening.{AreOursAlone, IsFirstVersion, IsFirstNumbered}
use Rattle.treasury_tables.specs.Upgrading.{Upgrades}
use Rattle.treasury_tables.proofs.SameLemmas.{Same, holds_same}
use Rattle.treasury_tables.proofs.OpenLemmas.{not_first, ours_second, second_more}
use Rattle.treasury_tables.proofs.UpgradeLemmas.{upgraded_holds}
use Rattle.treasury_store.specs.declared.store.Store.{Store}
use Rattle.treasury_store.specs.Numbers.{Numbering, numbers_of}
use Rattle.treasury_store.specs.Changes.{changes_of, numbers_with}
use Rattle.treasury_store.specs.Store.{TablesAreWhileOpen, IsOf, empty_state, Joins}
use Rattle.treasury_store.proofs.AdditionLemmas.{writes_joined, numbers_joined}

pub survives_same : (s : State) (P : Trees → Type 0) → Survives s s P
survives_same s P = record {
  clean = omega arith;
  shield = λ h. h;
  counts = omega arith;
  limit = refl;
  closes = λ clean is. inl is;
  crash = λ clean db left. inl left;
}

pub some_numbers : (n m : Numbering) → ◌≡◌ {A = Option Numbering} (Some n) (Some m) → n ≡ m
some_numbers n m e = cc

-- the changes written to the rows of the state are the rows of the joined one
pub holds_joined : (f : Federation) (xs : List Addition) (n : Numbering) (changes : List Change) (db : Database)
    → IsGoodState f → Joins f xs → n ≡ numbers_of f → changes ≡ changes_of n xs
    → HoldsTables db (written changes (rows f)) → HoldsTables db (rows (joined f xs))
holds_joined f xs n changes db good next e is h =
    holds_same db (written changes (rows f)) (rows (joined f xs))
    (subst (λ (cs : List Change). Same (written cs (rows f)) (rows (joined f xs)))
    (sym (is ∙ ap (λ (m : Numbering). changes_of m xs) e))
    (writes_joined f xs good next.good (good_room (joined f xs) next.good) next.found)) h

module _ {S : Type 0} (g : Ghosts S) (old : Store S) (f : Federation) (of : IsOf g old f) where
  -- while the tables stay, so does the state
  pub stays_of : (new : Store S) → new.numbers ≡ old.numbers
      → (IsFaithful g new.conn → IsFaithful g old.conn)
      → (IsFaithful g new.conn → IsTrue (state g new.conn).is_open → IsTrue (state g old.conn).is_open)
      → (IsFaithful g new.conn → IsTrue (state g new.conn).is_open
      → ((state g new.conn).now ≡ (state g old.conn).now)
      × ((state g new.conn).committed ≡ (state g old.conn).committed)) → IsOf g new f
  stays_of new numbers clean opened same = record {
    good = of.good;
    tables = λ is_clean is_open.
        let was = of.tables (clean is_clean) (opened is_clean is_open) in
        let now = same is_clean is_open in
        (subst (λ (db : Database). HoldsTables db (rows f)) (sym now.0) was.0, now.1 ∙ (was.1 ∙ sym now.0));
    numbers = numbers ∙ of.numbers;
  }

  module _ (xs : List Addition) (next : Joins f xs) (n : Numbering) (known : old.numbers ≡ Some n)
      (changes : List Change) (is : changes ≡ changes_of n xs) where
    same_numbers : n ≡ numbers_of f
    same_numbers = some_numbers n (numbers_of f) (sym known ∙ of.numbers)

    pub holds_next : (db : Database) → HoldsTables db (written changes (rows f)) → HoldsTables db (rows (joined f xs))
    holds_next db h = holds_joined f xs n changes db of.good next same_numbers is h

    -- once the changes are written, the store is of the joined state
    pub becomes_of : (new : Store S) → new.numbers ≡ Some (numbers_with n xs)
        → (IsFaithful g new.conn → IsFaithful g old.conn)
        → (IsFaithful g new.conn → IsTrue (state g new.conn).is_open → IsTrue (state g old.conn).is_open)
        → (IsFaithful g new.conn → (t : Tables) → HoldsTables (state g old.conn).now t
        → HoldsTables (state g new.conn).now (written changes t)
        × ((state g new.conn).committed ≡ (state g new.conn).now))
        → IsOf g new (joined f xs)
    becomes_of new numbers clean opened puts = record {
      good = next.good;
      tables = λ is_clean is_open.
          let was = of.tables (clean is_clean) (opened is_clean is_open) in
          let put = puts is_clean (rows f) was.0 in
          (holds_next (state g new.conn).now put.0, put.1);
      numbers = numbers ∙ ap (λ (m : Numbering). Some m)
          (ap (λ (m : Numbering). numbers_with m xs) same_numbers ∙ numbers_joined f xs);
    }

-- the numbers after what is written are those of the joined state
pub knows_joined : (f : Federation) (xs : List Addition) (n : Numbering) (now : Option Numbering) → now ≡ Some n
    → now ≡ Some (numbers_of f)
    → ◌≡◌ {A = Option Numbering} (Some (numbers_with n xs)) (Some (numbers_of (joined f xs)))
knows_joined f xs n now known knows =
    ap (λ (m : Numbering). Some m) (ap (λ (m : Numbering). numbers_with m xs)
    (some_numbers n (numbers_of f) (sym known ∙ knows)) ∙ numbers_joined f xs)

-- what a crash leaves are the rows of one of the two states
pub crash_joined : {S : Type 0} (g : Ghosts S) (old : Store S) (new : Held S) (xs : List Addition) (n : Numbering)
    → old.numbers ≡ Some n → (changes : List Change) → changes ≡ changes_of n xs
    → Survives (state g old.conn) (state g new)
    (λ trees. (db : Database) × (trees ≡ db.trees)
    × ((t : Tables) → HoldsTables (state g old.conn).now t → HoldsTables db (written changes t)))
    → Survives (state g old.conn) (state g new)
    (λ trees. (db : Database) × (trees ≡ db.trees)
    × ((f : Federation) → IsOf g old f → Joins f xs → HoldsTables (state g old.conn).now (rows f)
    → HoldsTables db (rows (joined f xs))))
crash_joined g old new xs n known changes is left =
    survives_weaker (state g old.conn) (state g new) _ _
    (λ clean trees p.
    (p.0, p.1, λ f of next h. holds_next g old f of xs next n known changes is p.0 (p.2 (rows f) h))) left

pub empty_good : IsGoodState empty_state
empty_good = record {
  styles = record { each = λ i style h. absurd cc; found = λ i style h. absurd cc; few = omega arith };
  few = omega arith;
  names = tt;
  branches = tt;
  ids = tt;
  transfers = tt;
  carried = tt;
}

-- whichever version held these rows, version 2 holds them after an opening
pub opened_holds : {S : Type 0} (g : Ghosts S) (old new : Held S)
    → (IsFaithful g new → IsFirstNumbered (state g old).now
    → Upgrades (state g old).now (state g new).now × ((state g new).committed ≡ (state g new).now))
    → (IsFaithful g new → AreOursAlone (state g old).now.schema → (IsFirstVersion (state g old).now → ⊥)
    → ((state g new).now ≡ (state g old).now) × ((state g new).committed ≡ (state g old).committed))
    → (state g old).committed ≡ (state g old).now → (t : Tables) → HoldsEither (state g old).now t
    → TablesAreWhileOpen g new t
opened_holds g old new first same settled t (inr holds) clean is_open =
    let up = first clean (record { schema = holds.schema; version = holds.format }, holds.numbered) in
    (upgraded_holds (state g old).now (state g new).now t holds up.0, up.1)
opened_holds g old new first same settled t (inl holds) clean is_open =
    let kept = same clean (ours_second (state g old).now.schema holds.shows.schema)
    (λ is. not_first (state g old).now (ap has_receipt holds.shows.schema ∙ second_more) is) in
    (subst (λ (d : Database). HoldsTables d t) (sym kept.0) holds, kept.1 ∙ (settled ∙ sym kept.0))
