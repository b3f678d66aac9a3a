-- Mirrors code: the changes of the tables by which additions are written. What they make of the rows of a state is said
-- by `commit` alone.
use Rattle.std.specs.Prelude.{◌≤◌, ◌<◌, ◌^◌, ℕ, Bool, true, false, suc, pos, if◌then◌else◌, nat_lt, List, [], ◌∷◌, ◌++◌}
use Rattle.std.specs.Prelude.{map, length, slice_index, slice_set, ⊤}
use Rattle.std.specs.List.{AllByRecursion}
use Rattle.money_core.specs.declared.style.Style.{Style}
use Rattle.book_core.specs.declared.claim.Placed.{Placed}
use Rattle.journal_format.specs.Printable.{IsPrintable}
use Rattle.treasury_state.specs.declared.record.Record.{Record}
use Rattle.treasury_state.specs.declared.transfer.Part.{Part}
use Rattle.treasury_state.specs.declared.delta.Addition.{Addition}
use Rattle.treasury_state.specs.declared.delta.Addition.TheVariants as add
use Rattle.treasury_state.specs.Federation.{Branch, name_place}
use Rattle.treasury_state.specs.Joined.{new_branch}
use Rattle.treasury_state.specs.Rows.{unit_row, branch_row, entry_row, leg_rows, claim_rows, transfer_row, part_row}
use Rattle.treasury_state.specs.Transfer.{is_all}
use Rattle.treasury_tables.specs.declared.change.Change.{Change}
use Rattle.treasury_tables.specs.declared.change.Change.TheVariants as change
use Rattle.treasury_store.specs.Numbers.{Numbering}

-- how many commodities there are, and how many records each branch has
pub record Counts : Type 0 where
  pub units : ℕ
  pub records : List ℕ

-- branches of these names
abbrev pub branches_named : List (List ℕ) → List Branch
branches_named names = map new_branch names

-- the place of a name, from 0; how many there are where none is it
abbrev pub place_in : List (List ℕ) → List ℕ → ℕ
place_in names name = name_place (branches_named names) name

-- the rows of the n-th record of the b-th branch
abbrev pub record_changes : List Style → ℕ → ℕ → Record → List Change
record_changes styles b n r =
    change.Entry (entry_row styles b n r) ∷ (map change.Leg (leg_rows b n r) ++ map change.Claim (claim_rows b n r))

-- the change by a receipt of the transfer of that ID: under the key `all` two columns of the transfer's row, else a row
-- of its own
abbrev pub receipt_change : Bool → List ℕ → Part → Change
receipt_change true id p = change.Receipt id p.day.0 p.payee
receipt_change false id p = change.Part (part_row id p)

-- the changes by one addition, under the styles and the names that there are at last
abbrev pub changes_by : List Style → List (List ℕ) → Counts → Addition → List Change
changes_by styles names n (add.Commodity style) = change.Unit (unit_row n.units style) ∷ []
changes_by styles names n (add.Branch name) = change.Branch (branch_row (length n.records) (new_branch name)) ∷ []
changes_by styles names n (add.Record name r) =
    if nat_lt (place_in names name) (length n.records)
    then record_changes styles (place_in names name) (suc (slice_index n.records (place_in names name))) r else []
changes_by styles names n (add.Dispatched t) = change.Transfer (transfer_row (branches_named names) t) ∷ []
changes_by styles names n (add.Received id p) = receipt_change (is_all p.key) id p ∷ []
changes_by styles names n (add.Locked name day) = change.Lock (pos (place_in names name)) day.0 ∷ []

-- the numbers after it
abbrev pub counts_after : List (List ℕ) → Counts → Addition → Counts
counts_after names n (add.Commodity style) = record n { units = suc n.units }
counts_after names n (add.Branch name) = record n { records = n.records ++ 0 ∷ [] }
counts_after names n (add.Record name r) =
    record n { records = slice_set n.records (place_in names name) (suc (slice_index n.records (place_in names name))) }
counts_after names n (add.Dispatched t) = n
counts_after names n (add.Received id p) = n
counts_after names n (add.Locked name day) = n

-- the changes by a list of additions, in order, and the numbers after them
abbrev pub changes_from : List Style → List (List ℕ) → Counts → List Addition → List Change
changes_from styles names n [] = []
changes_from styles names n (x ∷ xs) =
    changes_by styles names n x ++ changes_from styles names (counts_after names n x) xs

-- the numbers after a list of additions
abbrev pub counts_after_all : List (List ℕ) → Counts → List Addition → Counts
counts_after_all names n [] = n
counts_after_all names n (x ∷ xs) = counts_after_all names (counts_after names n x) xs

-- the styles and the names with those that are added
abbrev pub styles_with_one : List Style → Addition → List Style
styles_with_one styles (add.Commodity style) = styles ++ style ∷ []
styles_with_one styles _ = styles

-- the names of the branches, with the one that is added
abbrev pub names_with_one : List (List ℕ) → Addition → List (List ℕ)
names_with_one names (add.Branch name) = names ++ name ∷ []
names_with_one names _ = names

-- the styles, with those that are added
abbrev pub styles_with : List Style → List Addition → List Style
styles_with styles [] = styles
styles_with styles (x ∷ xs) = styles_with (styles_with_one styles x) xs

-- the names of the branches, with those that are added
abbrev pub names_with : List (List ℕ) → List Addition → List (List ℕ)
names_with names [] = names
names_with names (x ∷ xs) = names_with (names_with_one names x) xs

-- the counts from which new rows are numbered
abbrev pub counts_of_numbering : Numbering → Counts
counts_of_numbering n = record { units = length n.styles; records = n.records }

-- the changes by which additions are written, and the numbers after them
abbrev pub changes_of : Numbering → List Addition → List Change
changes_of n xs = changes_from (styles_with n.styles xs) (names_with n.names xs) (counts_of_numbering n) xs

-- the numbers after additions are written
abbrev pub numbers_with : Numbering → List Addition → Numbering
numbers_with n xs = record {
  styles = styles_with n.styles xs;
  names = names_with n.names xs;
  records = (counts_after_all (names_with n.names xs) (counts_of_numbering n) xs).records;
}

-- ---- what can be written
-- a record whose body can be printed, and whose numbers are within SQLite's
pub record IsWritable (styles : List Style) (n : ℕ) (r : Record) : Type 0 where
  pub printable : IsPrintable styles r.txn
  pub few : n < 2 ^ 32
  pub claims : AllByRecursion (λ (x : Placed). x.leg ≤ length r.entry.legs) r.entry.claims

-- an addition can be written
abbrev pub CanWrite : List Style → List (List ℕ) → Counts → Addition → Type 0
CanWrite styles names n (add.Commodity style) = n.units < 2 ^ 32
CanWrite styles names n (add.Branch name) = ⊤
CanWrite styles names n (add.Record name r) =
    place_in names name < length n.records → IsWritable styles (slice_index n.records (place_in names name)) r
CanWrite styles names n (add.Dispatched t) = ⊤
CanWrite styles names n (add.Received id p) = ⊤
CanWrite styles names n (add.Locked name day) = ⊤

-- each addition of a list can be written, one after another
abbrev pub CanWriteFrom : List Style → List (List ℕ) → Counts → List Addition → Type 0
CanWriteFrom styles names n [] = ⊤
CanWriteFrom styles names n (x ∷ xs) = CanWrite styles names n x × CanWriteFrom styles names (counts_after names n x) xs
