-- What a store is of.
use Rattle.std.specs.Prelude.{◌≡◌, ◌⊎◌, Bool, true, false, List, [], ◌∷◌, Some, Result, Err, IsTrue, MatchResult, ⊤}
use Rattle.std.specs.List.{list_any}
use Rattle.money_core.specs.declared.cause.Cause.{Cause}
use Rattle.money_core.specs.declared.cause.Cause.TheVariants.{OutOfMemory, Store as Failed, Damaged}
use Rattle.sqlite.specs.Store.{Ghosts}
use Rattle.sqlite.specs.Held.{Held, state}
use Rattle.treasury_state.specs.declared.delta.Addition.{Addition}
use Rattle.treasury_state.specs.declared.delta.Addition.TheVariants as add
use Rattle.treasury_state.specs.Federation.{Federation}
use Rattle.treasury_state.specs.Transfer.{is_all, has_id}
use Rattle.treasury_state.specs.Joined.{joined_one, joined}
use Rattle.treasury_state.specs.Good.{IsGoodState}
use Rattle.treasury_state.specs.Rows.{rows}
use Rattle.treasury_tables.specs.Kept.{IsFaithful}
use Rattle.treasury_tables.specs.Rows.{Tables, HoldsTables}
use Rattle.treasury_store.specs.Numbers.{numbers_of}
use Rattle.treasury_store.specs.declared.store.Store.{Store}

-- no commodity, branch or transfer
abbrev pub empty_state : Federation
empty_state = record { styles = []; branches = []; transfers = [] }

-- while the disk returned what was written and the connection is open, the tables hold these rows, and so does what is
-- committed
abbrev pub TablesAreWhileOpen : {S : Type 0} → Ghosts S → Held S → Tables → Type 0
TablesAreWhileOpen g h t = IsFaithful g h → IsTrue (state g h).is_open
    → HoldsTables (state g h).now t × ((state g h).committed ≡ (state g h).now)

-- the store knows by which numbers the rows of a state go on
abbrev pub Knows : {S : Type 0} → Store S → Federation → Type 0
Knows s f = s.numbers ≡ Some (numbers_of f)

-- a new transfer has no receipts of parts yet, and a receipt of a part is of a transfer that is there
abbrev pub Finds : Federation → Addition → Type 0
Finds f (add.Commodity style) = ⊤
Finds f (add.Branch name) = ⊤
Finds f (add.Record name r) = ⊤
Finds f (add.Dispatched t) = t.parts ≡ []
Finds f (add.Received id p) = is_all p.key ≡ false → list_any (has_id id) f.transfers ≡ true
Finds f (add.Locked name day) = ⊤

-- the same of each addition of a list, in the state that the ones before it make
abbrev pub FindsAll : Federation → List Addition → Type 0
FindsAll f [] = ⊤
FindsAll f (x ∷ xs) = Finds f x × FindsAll (joined_one f x) xs

-- additions that join a state: each finds what it is of, and the state with them is good
pub record Joins (f : Federation) (xs : List Addition) : Type 0 where
  pub found : FindsAll f xs
  pub good : IsGoodState (joined f xs)

-- The store is of a good state: its tables are that state's rows, and new rows are numbered after these.
pub record IsOf {S : Type 0} (g : Ghosts S) (s : Store S) (f : Federation) : Type 0 where
  pub good : IsGoodState f
  pub tables : TablesAreWhileOpen g s.conn (rows f)
  pub numbers : Knows s f

-- what a call on a store that no call has failed answers, and whether it has failed then: 40 and 41 are its errors, and
-- 41 is for ever
abbrev pub AnswersStore : {T : Type 0} → Result T Cause → Bool → Type 0
AnswersStore r failed =
    MatchResult r (λ _. failed ≡ false) (λ e. ((e ≡ OutOfMemory) × (failed ≡ false)) ⊎ ((e ≡ Failed) × (failed ≡ true)))

-- the same of a call that reads the rows of a state, which also answers 43, and has not failed then
abbrev pub AnswersState : {T : Type 0} → Result T Cause → Bool → Type 0
AnswersState r failed = AnswersStore r failed ⊎ ((r ≡ Err Damaged) × (failed ≡ false))

-- by which cause a call on a store that no call has failed refuses, and whether it has failed then
abbrev pub FailsAs : Cause → Bool → Type 0
FailsAs e failed =
    ((e ≡ OutOfMemory) × (failed ≡ false)) ⊎ (((e ≡ Failed) × (failed ≡ true)) ⊎ ((e ≡ Damaged) × (failed ≡ false)))
