-- What contracts see of a state that is kept with ledgers and indexes: the federation.
use Rattle.std.specs.Prelude.{List, map}
use Rattle.money_core.specs.declared.style.Style.{Style}
use Rattle.treasury_state.specs.declared.transfer.Transfer.{Transfer}
use Rattle.treasury_state.specs.declared.state.Branch.{Branch as Kept}
use Rattle.treasury_state.specs.Federation.{Branch, Federation}

-- of a branch its name, its lock day and its records
abbrev pub branch_of : {L : Type 0} → Kept L → Branch
branch_of b = record { name = b.name; locked = b.locked; records = b.records }

-- the same of each branch, in order
abbrev pub branches_of : {L : Type 0} → List (Kept L) → List Branch
branches_of bs = map branch_of bs

-- of a state its commodities, its branches and its transfers
abbrev pub federation_of : {L : Type 0} → List Style → List (Kept L) → List Transfer → Federation
federation_of styles bs ts = record { styles = styles; branches = branches_of bs; transfers = ts }
