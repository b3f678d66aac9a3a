-- How much a treasury has, and when none of it is missing later (own rules; docs/RULES.md, "The program").
use Rattle.std.specs.Prelude.{◌≤◌, ◌<◌, ℕ, List, map, length, slice_index}
use Rattle.std.specs.List.{sum_by}
use Rattle.treasury_state.specs.declared.transfer.Transfer.{Transfer}
use Rattle.treasury_state.specs.Federation.{Branch, Federation}
use Rattle.treasury_files.specs.declared.shrinking.Counts.{Counts}

-- the receipts of parts of a transfer
abbrev pub count_of_parts : Transfer → ℕ
count_of_parts t = length t.parts

-- the entries of a branch
abbrev pub count_of_records : Branch → ℕ
count_of_records b = length b.records

-- how many commodities, transfers and receipts of parts a state has, and how many entries each branch
abbrev pub counts_of : Federation → Counts
counts_of f = record {
  commodities = length f.styles;
  transfers = length f.transfers;
  receipts = sum_by count_of_parts f.transfers;
  entries = map count_of_records f.branches;
}

-- no number is missing later, or smaller than the one at its place before
pub record AreNoFewer (before after : List ℕ) : Type 0 where
  pub all : length before ≤ length after
  pub each : (place : ℕ) → place < length before → slice_index before place ≤ slice_index after place

-- all that was there before is there later, as far as numbers tell
pub record Keeps (before after : Counts) : Type 0 where
  pub commodities : before.commodities ≤ after.commodities
  pub transfers : before.transfers ≤ after.transfers
  pub receipts : before.receipts ≤ after.receipts
  pub entries : AreNoFewer before.entries after.entries
