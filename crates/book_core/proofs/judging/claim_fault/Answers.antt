use Rattle.std.proofs.Common.{◌≡◌, rules, ap, sym, ◌∙◌, w64, to_z, of_z}
use Rattle.std.proofs.lemmas.Int.{to_z-of_z}
use Rattle.book_core.specs.declared.claim.Asserted.{Asserted}
use Rattle.book_core.proofs.ClaimLemmas.{same_bits, fault_wrong, fault_plain, fault_alone, fault_stray}
use Rattle.book_core.proofs.judging.claim_fault.Goals as goal

pub returns-then-found-claim : goal.returns-then-found-claim
returns-then-found-claim g c =
    let x : Asserted = record { place = c.args.place; account = c.args.account.now; claim = c.args.claim } in
    let found : to_z w64 (of_z w64 c.found-found.result) ≡ c.found-found.result =
    to_z-of_z w64 c.found-found.result (search rules) in
    let qty : to_z w64 (of_z w64 c.args.claim.qty) ≡ c.args.claim.qty = to_z-of_z w64 c.args.claim.qty (search rules) in
    let reach = c.reach_of_kind.ensures in
    let balance = c.found-found.ensures in
    rw (found, qty) (fault_wrong (g.B.Balances.book c.args.book.now) x c.found-found.result (cc)
    (λ e. c.if-found-claim.true (ap (of_z w64) e)))

pub returns-then-not-is_sole_kind : goal.returns-then-not-is_sole_kind
returns-then-not-is_sole_kind g c =
    let x : Asserted = record { place = c.args.place; account = c.args.account.now; claim = c.args.claim } in
    let same = same_bits c.found-found.result c.args.claim.qty (search rules) (search rules) c.if-found-claim.false in
    let reach = c.reach_of_kind.ensures in
    let balance = c.found-found.ensures in
    fault_plain (g.B.Balances.book c.args.book.now) x c.found-found.result (cc) same
    (sym c.is_sole_kind.ensures ∙ c.if-not-is_sole_kind.true)

pub returns-in-None : goal.returns-in-None
returns-in-None g c =
    let x : Asserted = record { place = c.args.place; account = c.args.account.now; claim = c.args.claim } in
    let same = same_bits c.found-found.result c.args.claim.qty (search rules) (search rules) c.if-found-claim.false in
    let reach = c.reach_of_kind.ensures in
    let balance = c.found-found.ensures in
    let stray = c.stray.ensures in
    let none = c.in-None.is in
    fault_alone (g.B.Balances.book c.args.book.now) x c.found-found.result (cc) same (cc)

pub returns-in-Some : goal.returns-in-Some
returns-in-Some g c =
    let x : Asserted = record { place = c.args.place; account = c.args.account.now; claim = c.args.claim } in
    let same = same_bits c.found-found.result c.args.claim.qty (search rules) (search rules) c.if-found-claim.false in
    let other : to_z w64 (of_z w64 c.found-other.result) ≡ c.found-other.result =
    to_z-of_z w64 c.found-other.result (search rules) in
    let reach = c.reach_of_kind.ensures in
    let balance = c.found-found.ensures in
    let stray = c.stray.ensures in
    let some = c.in-Some.is in
    let rest = c.found-other.ensures in
    rw other (fault_stray (g.B.Balances.book c.args.book.now) x c.found-found.result c.in-Some.unit c.found-other.result
    (cc) same (sym c.is_sole_kind.ensures ∙ c.if-not-is_sole_kind.false) (cc) (cc))
