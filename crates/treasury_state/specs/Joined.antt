-- What additions make of a state (own rules).
use Rattle.std.specs.Prelude.{ℕ, Bool, true, false, if◌then◌else◌, List, [], ◌∷◌, ◌++◌, Option, Some, None}
use Rattle.std.specs.Ordering.{is_lt}
use Rattle.std.specs.Str.{bytes_eq}
use Rattle.money_core.specs.declared.style.Style.{Style}
use Rattle.money_core.specs.declared.day.Day.{Day}
use Rattle.book_core.specs.Account.{name_cmp}
use Rattle.treasury_state.specs.declared.record.Record.{Record}
use Rattle.treasury_state.specs.declared.transfer.Part.{Part}
use Rattle.treasury_state.specs.declared.transfer.Receipt.{Receipt}
use Rattle.treasury_state.specs.declared.transfer.Transfer.{Transfer}
use Rattle.treasury_state.specs.declared.delta.Addition.{Addition}
use Rattle.treasury_state.specs.declared.delta.Addition.TheVariants as add
use Rattle.treasury_state.specs.Federation.{Branch, Federation}
use Rattle.treasury_state.specs.Transfer.{is_all}

-- a branch without records or lock
abbrev pub new_branch : List ℕ → Branch
new_branch name = record { name = name; locked = None; records = [] }

-- a branch with more records, and with a lock day
abbrev pub with_records : List Record → Branch → Branch
with_records rs b = record b { records = b.records ++ rs }

-- a branch with a lock day
abbrev pub with_lock : Day → Branch → Branch
with_lock day b = record b { locked = Some day }

-- the branches, of which that of the name is changed
abbrev pub changed : (Branch → Branch) → List ℕ → List Branch → List Branch
changed g name [] = []
changed g name (b ∷ bs) = if bytes_eq b.name name then g b ∷ bs else b ∷ changed g name bs

-- a transfer put in, in byte order of the IDs
abbrev pub inserted : Transfer → List Transfer → List Transfer
inserted t [] = t ∷ []
inserted t (x ∷ xs) = if is_lt (name_cmp x.id t.id) then x ∷ inserted t xs else t ∷ x ∷ xs

-- a part put in, in byte order of the keys
abbrev pub put_part : Part → List Part → List Part
put_part p [] = p ∷ []
put_part p (x ∷ xs) = if is_lt (name_cmp x.key p.key) then x ∷ put_part p xs else p ∷ x ∷ xs

-- the parts with one receipt more, and the receipt of the rest: that is the one under the key `all`
abbrev pub parts_with : Bool → Part → List Part → List Part
parts_with true p ps = ps
parts_with false p ps = put_part p ps

-- the receipt of the rest, after one receipt more
abbrev pub rest_with : Bool → Part → Option Receipt → Option Receipt
rest_with true p o = Some (record { day = p.day; payee = p.payee })
rest_with false p o = o

-- a transfer with one receipt more
abbrev pub with_receipt : Part → Transfer → Transfer
with_receipt p t =
    record t { parts = parts_with (is_all p.key) p t.parts; receipt = rest_with (is_all p.key) p t.receipt }

-- the transfers, of which that of the ID has one receipt more
abbrev pub received : List ℕ → Part → List Transfer → List Transfer
received id p [] = []
received id p (x ∷ xs) = if bytes_eq x.id id then with_receipt p x ∷ xs else x ∷ received id p xs

-- the state with more commodities, branches, records, locks, transfers, receipts
abbrev pub with_style : Federation → Style → Federation
with_style f style = record f { styles = f.styles ++ style ∷ [] }

-- the state with one branch more
abbrev pub with_branch : Federation → List ℕ → Federation
with_branch f name = record f { branches = f.branches ++ new_branch name ∷ [] }

-- the state with more records of a branch
abbrev pub with_entered : Federation → List ℕ → List Record → Federation
with_entered f name rs = record f { branches = changed (with_records rs) name f.branches }

-- the state with a lock day of a branch
abbrev pub with_locked : Federation → List ℕ → Day → Federation
with_locked f name day = record f { branches = changed (with_lock day) name f.branches }

-- the state with one transfer more
abbrev pub with_dispatched : Federation → Transfer → Federation
with_dispatched f t = record f { transfers = inserted t f.transfers }

-- the state with one receipt more of a transfer
abbrev pub with_received : Federation → List ℕ → Part → Federation
with_received f id p = record f { transfers = received id p f.transfers }

-- the state with one addition
abbrev pub joined_one : Federation → Addition → Federation
joined_one f (add.Commodity style) = with_style f style
joined_one f (add.Branch name) = with_branch f name
joined_one f (add.Record name r) = with_entered f name (r ∷ [])
joined_one f (add.Dispatched t) = with_dispatched f t
joined_one f (add.Received id p) = with_received f id p
joined_one f (add.Locked name day) = with_locked f name day

-- the state with a list of them, in order
abbrev pub joined : Federation → List Addition → Federation
joined f [] = f
joined f (x ∷ xs) = joined (joined_one f x) xs
