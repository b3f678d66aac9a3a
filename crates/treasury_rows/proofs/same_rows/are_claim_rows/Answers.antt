use Rattle.std.proofs.Common.{◌≡◌, ◌<◌, ◌∙◌, ℕ, pos, length, get_or, sym, true, false, arith, map}
use Rattle.money_core.specs.declared.claim.ClaimKind.TheVariants.{Exact}
use Rattle.book_core.specs.declared.claim.Placed.{Placed}
use Rattle.treasury_state.specs.declared.rows.ClaimRow.{ClaimRow}
use Rattle.treasury_state.specs.Rows.{claim_row}
use Rattle.treasury_state.proofs.TransferRowLemmas.{numbered_const}
use Rattle.treasury_rows.proofs.SameRowLemmas.{says_no, says_yes, walk_next, walk_stop, walk_end, same_at}
use Rattle.treasury_rows.proofs.same_rows.are_claim_rows.Goals as goal

abbrev no_claim : Placed
no_claim = record { leg = 0; claim = record { kind = Exact; unit = record { 0 = 0 }; qty = pos 0 } }

abbrev no_row : ClaimRow
no_row = record { branch = pos 0; entry = pos 0; leg = pos 0; kind = pos 0; unit = pos 0; qty = pos 0 }

pub returns-then-not-is_claim_row : goal.returns-then-not-is_claim_row
returns-then-not-is_claim_row c =
    let i = c.loop-i.i in
    let xs = c.args.claims.now in
    let ys = c.args.list.now in
    let g = claim_row c.args.branch c.args.entry in
    let lt : i < length ys = omega arith in
    says_no (map g xs ≡ ys)
    (λ e. walk_stop (λ (k : ℕ). g) 0 i i xs ys (get_or xs i no_claim) (get_or ys i no_row) c.loop-i-test.true
    (same_at xs i no_claim (get_or xs i no_claim) c.loop-i-test.true) lt
    (same_at ys i no_row (get_or ys i no_row) lt)
    (λ h. let k : true ≡ false = sym (c.is_claim_row.ensures.1 h) ∙ c.if-not-is_claim_row.true in cc) c.loop-i.invariant
    (numbered_const g 0 xs ∙ e))

pub loop-i-preserved : goal.loop-i-preserved
loop-i-preserved c =
    let i = c.loop-i.i in
    let xs = c.args.claims.now in
    let ys = c.args.list.now in
    let g = claim_row c.args.branch c.args.entry in
    let lt : i < length ys = omega arith in
    walk_next (λ (k : ℕ). g) 0 i i xs ys (get_or xs i no_claim) (get_or ys i no_row) c.loop-i-test.true
    (same_at xs i no_claim (get_or xs i no_claim) c.loop-i-test.true) lt
    (same_at ys i no_row (get_or ys i no_row) lt)
    (c.is_claim_row.ensures.0 c.if-not-is_claim_row.false) c.loop-i.invariant

pub returns : goal.returns
returns c =
    let g = claim_row c.args.branch c.args.entry in
    says_yes (map g c.args.claims.now ≡ c.args.list.now)
    (sym (numbered_const g 0 c.args.claims.now) ∙ walk_end (λ (k : ℕ). g) 0 c.loop-i.i c.loop-i.i c.args.claims.now
    c.args.list.now (omega arith) (omega arith) c.loop-i.invariant)
