-- The order in which rows are read.
use Rattle.std.specs.Prelude.{◌≡◌}
use Rattle.std.specs.declared.cmp.Ordering.{Ordering}
use Rattle.std.specs.declared.cmp.Ordering.TheVariants.{Less}
use Rattle.std.specs.Ordering.{int_cmp, nat_cmp, on, then_cmp}
use Rattle.std.specs.Cmp.Lexicographic.{slice_cmp}
use Rattle.sqlite.specs.Tree.{IsAscending}
use Rattle.treasury_state.specs.declared.rows.UnitRow.{UnitRow}
use Rattle.treasury_state.specs.declared.rows.BranchRow.{BranchRow}
use Rattle.treasury_state.specs.declared.rows.EntryRow.{EntryRow}
use Rattle.treasury_state.specs.declared.rows.LegRow.{LegRow}
use Rattle.treasury_state.specs.declared.rows.ClaimRow.{ClaimRow}
use Rattle.treasury_state.specs.declared.rows.TransferRow.{TransferRow}
use Rattle.treasury_state.specs.declared.rows.PartRow.{PartRow}
use Rattle.treasury_tables.specs.Rows.{Tables}

-- commodities by number
abbrev pub unit_cmp : UnitRow → UnitRow → Ordering
unit_cmp = on (λ u. u.nr) int_cmp

-- branches by number
abbrev pub branch_cmp : BranchRow → BranchRow → Ordering
branch_cmp = on (λ b. b.nr) int_cmp

-- entries by branch and number
abbrev pub entry_cmp : EntryRow → EntryRow → Ordering
entry_cmp = then_cmp (on (λ e. e.branch) int_cmp) (on (λ e. e.nr) int_cmp)

-- legs by branch, entry and number
abbrev pub leg_cmp : LegRow → LegRow → Ordering
leg_cmp = then_cmp (on (λ l. l.branch) int_cmp) (then_cmp (on (λ l. l.entry) int_cmp) (on (λ l. l.nr) int_cmp))

-- assertions by branch, entry and leg
abbrev pub claim_cmp : ClaimRow → ClaimRow → Ordering
claim_cmp = then_cmp (on (λ c. c.branch) int_cmp) (then_cmp (on (λ c. c.entry) int_cmp) (on (λ c. c.leg) int_cmp))

-- transfers by the bytes of their IDs
abbrev pub transfer_cmp : TransferRow → TransferRow → Ordering
transfer_cmp = on (λ x. x.id) (slice_cmp nat_cmp)

-- receipts of parts by the bytes of the transfer's ID and of the key
abbrev pub part_cmp : PartRow → PartRow → Ordering
part_cmp = then_cmp (on (λ p. p.transfer) (slice_cmp nat_cmp)) (on (λ p. p.part) (slice_cmp nat_cmp))

-- by their keys, of which none comes twice
pub record InOrder (t : Tables) : Type 0 where
  pub units : IsAscending (λ a b. unit_cmp a b ≡ Less) t.units
  pub branches : IsAscending (λ a b. branch_cmp a b ≡ Less) t.branches
  pub entries : IsAscending (λ a b. entry_cmp a b ≡ Less) t.entries
  pub legs : IsAscending (λ a b. leg_cmp a b ≡ Less) t.legs
  pub claims : IsAscending (λ a b. claim_cmp a b ≡ Less) t.claims
  pub transfers : IsAscending (λ a b. transfer_cmp a b ≡ Less) t.transfers
  pub receipts : IsAscending (λ a b. part_cmp a b ≡ Less) t.receipts
