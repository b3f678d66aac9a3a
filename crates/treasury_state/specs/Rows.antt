-- The rows of a state (docs/FORMATS.md, "Tables").
use Rattle.std.specs.Prelude.{ℕ, ℤ, pos, Bool, true, false, List, [], ◌∷◌, map}
use Rattle.std.specs.List.{enumerate_from, flat_map}
use Rattle.std.specs.Option.{option_map}
use Rattle.money_core.specs.declared.style.Style.{Style}
use Rattle.money_core.specs.declared.claim.ClaimKind.{ClaimKind}
use Rattle.money_core.specs.declared.claim.ClaimKind.TheVariants.{Exact, Sole, ExactIn, SoleIn}
use Rattle.money_core.specs.Mark.{decimal_byte}
use Rattle.book_core.specs.declared.claim.Placed.{Placed}
use Rattle.book_core.specs.declared.leg.Leg.{Leg}
use Rattle.journal_format.specs.CanonicalText.{body_text}
use Rattle.treasury_state.specs.declared.record.Record.{Record}
use Rattle.treasury_state.specs.declared.transfer.Part.{Part}
use Rattle.treasury_state.specs.declared.transfer.Transfer.{Transfer}
use Rattle.treasury_state.specs.declared.rows.UnitRow.{UnitRow}
use Rattle.treasury_state.specs.declared.rows.BranchRow.{BranchRow}
use Rattle.treasury_state.specs.declared.rows.EntryRow.{EntryRow}
use Rattle.treasury_state.specs.declared.rows.LegRow.{LegRow}
use Rattle.treasury_state.specs.declared.rows.ClaimRow.{ClaimRow}
use Rattle.treasury_state.specs.declared.rows.TransferRow.{TransferRow}
use Rattle.treasury_state.specs.declared.rows.PartRow.{PartRow}
use Rattle.treasury_state.specs.declared.rows.Parts.{Parts}
use Rattle.treasury_state.specs.Federation.{Branch, Federation, name_place}

-- truth values are 0 and 1
abbrev pub truth : Bool → ℤ
truth false = pos 0
truth true = pos 1

-- the kinds of an assertion are 1 `=`, 2 `==`, 3 `=*`, 4 `==*`
abbrev pub kind_number : ClaimKind → ℤ
kind_number Exact = pos 1
kind_number Sole = pos 2
kind_number ExactIn = pos 3
kind_number SoleIn = pos 4

-- the row of the n-th commodity
abbrev pub unit_row : ℕ → Style → UnitRow
unit_row n s = record {
  nr = pos n;
  symbol = s.symbol;
  decimals = pos s.decimals;
  mark = decimal_byte s.mark ∷ [];
  grouped = truth s.grouped;
  leftside = truth s.left;
  spaced = truth s.spaced;
}

-- the row of the b-th branch
abbrev pub branch_row : ℕ → Branch → BranchRow
branch_row b x = record { nr = pos b; name = x.name; locked = option_map (λ d. d.0) x.locked }

-- the rows of the n-th record of the b-th branch: one of the entry, one of each leg, one of each assertion
abbrev pub entry_row : List Style → ℕ → ℕ → Record → EntryRow
entry_row styles b n r =
    record { branch = pos b; nr = pos n; day = r.entry.day.0; mark = r.mark; body = body_text styles r.txn }

-- the row of the k-th leg of the n-th record of the b-th branch
abbrev pub leg_row : ℕ → ℕ → ℕ → Leg → LegRow
leg_row b n k x =
    record { branch = pos b; entry = pos n; nr = pos k; account = x.account; unit = pos x.unit.0; qty = x.qty }

-- the row of an assertion of the n-th record of the b-th branch
abbrev pub claim_row : ℕ → ℕ → Placed → ClaimRow
claim_row b n x = record {
  branch = pos b;
  entry = pos n;
  leg = pos x.leg;
  kind = kind_number x.claim.kind;
  unit = pos x.claim.unit.0;
  qty = x.claim.qty;
}

-- the rows of all legs of a record
abbrev pub leg_rows : ℕ → ℕ → Record → List LegRow
leg_rows b n r = map (λ p. leg_row b n p.0 p.1) (enumerate_from 1 r.entry.legs)

-- the rows of all assertions of a record
abbrev pub claim_rows : ℕ → ℕ → Record → List ClaimRow
claim_rows b n r = map (claim_row b n) r.entry.claims

-- the rows of records, of which the first is the n-th of the b-th branch
abbrev pub entry_rows_from : List Style → ℕ → ℕ → List Record → List EntryRow
entry_rows_from styles b n rs = map (λ p. entry_row styles b p.0 p.1) (enumerate_from n rs)

-- the rows of the legs of records, numbered from n
abbrev pub leg_rows_from : ℕ → ℕ → List Record → List LegRow
leg_rows_from b n rs = flat_map (λ p. leg_rows b p.0 p.1) (enumerate_from n rs)

-- the rows of the assertions of records, numbered from n
abbrev pub claim_rows_from : ℕ → ℕ → List Record → List ClaimRow
claim_rows_from b n rs = flat_map (λ p. claim_rows b p.0 p.1) (enumerate_from n rs)

-- the rows of commodities, numbered from 0
abbrev pub unit_rows : List Style → List UnitRow
unit_rows styles = map (λ p. unit_row p.0 p.1) (enumerate_from 0 styles)

-- the rows of branches, of which the first is the b-th, and those of their records
abbrev pub branch_rows_from : ℕ → List Branch → List BranchRow
branch_rows_from b bs = map (λ p. branch_row p.0 p.1) (enumerate_from b bs)

-- the rows of the entries of branches, numbered from b
abbrev pub entry_rows_in : List Style → ℕ → List Branch → List EntryRow
entry_rows_in styles b bs = flat_map (λ p. entry_rows_from styles p.0 1 p.1.records) (enumerate_from b bs)

-- the rows of the legs of branches, numbered from b
abbrev pub leg_rows_in : ℕ → List Branch → List LegRow
leg_rows_in b bs = flat_map (λ p. leg_rows_from p.0 1 p.1.records) (enumerate_from b bs)

-- the rows of the assertions of branches, numbered from b
abbrev pub claim_rows_in : ℕ → List Branch → List ClaimRow
claim_rows_in b bs = flat_map (λ p. claim_rows_from p.0 1 p.1.records) (enumerate_from b bs)

-- the row of a transfer between branches, which it names by their numbers
abbrev pub transfer_row : List Branch → Transfer → TransferRow
transfer_row bs t = record {
  id = t.id;
  source = pos (name_place bs t.source);
  target = pos (name_place bs t.target);
  unit = pos t.unit.0;
  qty = t.qty;
  dispatched = t.day.0;
  payer = t.payer;
  received = option_map (λ r. r.day.0) t.receipt;
  payee = option_map (λ r. r.payee) t.receipt;
}

-- the row of a part of the transfer of that ID
abbrev pub part_row : List ℕ → Part → PartRow
part_row id p = record { transfer = id; part = p.key; qty = p.qty; received = p.day.0; payee = p.payee }

-- the rows of the parts of transfers: the receipt of the rest has its columns in the transfer's row
abbrev pub part_rows : List Transfer → List PartRow
part_rows ts = flat_map (λ (t : Transfer). map (part_row t.id) t.parts) ts

-- the rows of a state, each list in the order of its key: commodities and branches are numbered from 0, entries and
-- legs from 1
abbrev pub rows : Federation → Parts
rows f = record {
  units = unit_rows f.styles;
  branches = branch_rows_from 0 f.branches;
  entries = entry_rows_in f.styles 0 f.branches;
  legs = leg_rows_in 0 f.branches;
  claims = claim_rows_in 0 f.branches;
  transfers = map (transfer_row f.branches) f.transfers;
  receipts = part_rows f.transfers;
}
