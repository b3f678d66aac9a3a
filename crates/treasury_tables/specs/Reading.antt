-- What a query of our tables, whose rows are read one by one, has given so far.
use Rattle.std.specs.Prelude.{◌≡◌, ℕ, List, [], ◌∷◌, ◌++◌, map, Option, Some, None, Result, Ok, Err, IsTrue}
use Rattle.sqlite.specs.Order.{Row}
use Rattle.sqlite.specs.Store.{Ghosts}
use Rattle.sqlite.specs.declared.error.Error.{Error}
use Rattle.sqlite.specs.State.{IsUnchanged, Shown}
use Rattle.sqlite.specs.Held.{Held, state}
use Rattle.sqlite.specs.Given.{HasGiven, IsPlain}
use Rattle.sqlite.specs.Listing.{understood}
use Rattle.treasury_tables.specs.Tables.{store_schema}
use Rattle.treasury_tables.specs.Kept.{KeepsTables, Queries, IsFaithful}

-- These items were read from these rows. Items whose columns begin with these rows begin with these items, and the
-- columns of these items are the front of these rows.
pub record AreReadFrom {X : Type 0} (columns : X → Row) (front : Row → Row) (given : List Row) (xs : List X)
    : Type 0 where
  pub same : (ys : List X) (rest : List Row) → given ++ rest ≡ map columns ys
      → (more : List X) × (ys ≡ xs ++ more) × (map columns more ≡ rest)
  pub shown : map columns xs ≡ map front given

module _ {S X : Type 0} (g : Ghosts S) (columns : X → Row) (front : Row → Row) (sql : List ℕ) (first now : Held S)
    (xs : List X) where
  -- the query has given some rows, which were read as these items, and nothing has changed
  pub record HasReadSoFar : Type 0 where
    pub plain : IsPlain (understood store_schema sql)
    pub opened : IsFaithful g now → IsTrue (state g first).is_open × IsTrue (state g now).is_open
    pub given : IsFaithful g now → (state g first).now.schema ≡ store_schema
        → IsUnchanged (state g first) (state g now)
        × ((given : List Row) × HasGiven g sql [] now given × AreReadFrom columns front given xs)
    pub survives : KeepsTables g first now

  -- the query has given all its rows, which were read as these items
  pub record HasReadAll : Type 0 where
    pub plain : IsPlain (understood store_schema sql)
    pub opened : IsFaithful g now → IsTrue (state g first).is_open × IsTrue (state g now).is_open
    pub given : IsFaithful g now → (state g first).now.schema ≡ store_schema
        → (given : List Row) × Shown sql [] (state g first) (state g now) given
        × AreReadFrom columns front given xs
    pub survives : KeepsTables g first now

module _ {S X : Type 0} (g : Ghosts S) (columns : X → Row) (front : Row → Row) (sql : List ℕ) (first now : Held S) where
  -- the next row is read as one more item, or there is none; an error changes nothing
  abbrev pub GivesNext : List X → Result (Option X) Error → Type 0
  GivesNext xs (Ok (Some x)) = HasReadSoFar g columns front sql first now (xs ++ x ∷ [])
  GivesNext xs (Ok None) = HasReadAll g columns front sql first now xs
  GivesNext xs (Err e) = Queries {X = List X} g first now (Err e)

  -- all rows are read; an error changes nothing
  abbrev pub GivesAll : Result (List X) Error → Type 0
  GivesAll (Ok xs) = HasReadAll g columns front sql first now xs
  GivesAll (Err e) = Queries {X = List X} g first now (Err e)
