use Rattle.std.proofs.Common.{◌≡◌, ap, sym, ◌∙◌, inr, true, false, Bool, Option, Some, None}
use Rattle.std.specs.Str.{bytes_eq}
use Rattle.treasury_state.specs.Transfer.{is_id, transfer_at}
use Rattle.treasury_state.specs.Good.{IsGoodBranch}
use Rattle.treasury_state.specs.Seen.{branch_of}
use Rattle.treasury_state.specs.Federation.{branch_at}
use Rattle.treasury_state.proofs.FindLemmas.{branch_at_Some, branch_at_None}
use Rattle.treasury_state.proofs.HoldsLemmas.{found_holds}
use Rattle.treasury_state.proofs.NotLemmas.{not_true, not_false}
use Rattle.treasury_core.specs.declared.command.Command.TheVariants.{Receive}
use Rattle.treasury_core.specs.Step.{has_bad_key, has_nothing_left, receipt_refusal}
use Rattle.treasury_core.proofs.TransferReplyLemmas.{IsClaimed, IsAimed, so_held, same_test, same_find}
use Rattle.treasury_core.proofs.TransferReplyLemmas.{decides_repeated}
use Rattle.treasury_core.proofs.TransferReplyLemmas.{decides_done_or_refused, no_branch, bad_receipt_id, bad_key}
use Rattle.treasury_core.proofs.TransferReplyLemmas.{no_transfer}
use Rattle.treasury_core.proofs.TransferReplyLemmas.{wrong_branch, received_so, received_other, received_all}
use Rattle.treasury_core.proofs.TransferReplyLemmas.{received_new, receipt_adds, transfer_good, asked_small}
use Rattle.treasury_core.proofs.receive.decide_receive.Goals as goal

pub returns-in_default : goal.returns-in_default
returns-in_default g c =
    let f = c.args.state.now in
    let r = c.args.receive.now in
    let found : branch_at f.branches r.branch ≡ None =
    ap (branch_at f.branches) (sym c.as_str.ensures) ∙ c.in_default.ensures.found in
    inr (no_branch f r (branch_at_None f.branches r.branch found).none)

pub returns-then-not-is_id : goal.returns-then-not-is_id
returns-then-not-is_id g c =
    let f = c.args.state.now in
    let r = c.args.receive.now in
    let b = branch_of c.in-Some.target.now in
    let found : branch_at f.branches r.branch ≡ Some b =
    ap (branch_at f.branches) (sym c.as_str.ensures) ∙ c.in-Some.ensures.found in
    let branch = (branch_at_Some f.branches r.branch b found).any in
    inr (bad_receipt_id f r branch (ap is_id (sym (c.as_bytes.ensures.value ∙ c.as_str-2.ensures)) ∙
    (sym c.is_id.ensures ∙ c.if-not-is_id.true)))

pub returns-then-has_bad_key : goal.returns-then-has_bad_key
returns-then-has_bad_key g c =
    let f = c.args.state.now in
    let r = c.args.receive.now in
    let b = branch_of c.in-Some.target.now in
    let found : branch_at f.branches r.branch ≡ Some b =
    ap (branch_at f.branches) (sym c.as_str.ensures) ∙ c.in-Some.ensures.found in
    let branch = (branch_at_Some f.branches r.branch b found).any in
    inr (bad_key f r branch (ap is_id (sym (c.as_bytes.ensures.value ∙ c.as_str-2.ensures)) ∙
    (sym c.is_id.ensures ∙ c.if-not-is_id.false)) (sym c.has_bad_key.ensures ∙ c.if-has_bad_key.true))

pub returns-in_default-find_transfer : goal.returns-in_default-find_transfer
returns-in_default-find_transfer g c =
    let f = c.args.state.now in
    let r = c.args.receive.now in
    let b = branch_of c.in-Some.target.now in
    let found : branch_at f.branches r.branch ≡ Some b =
    ap (branch_at f.branches) (sym c.as_str.ensures) ∙ c.in-Some.ensures.found in
    let branch = (branch_at_Some f.branches r.branch b found).any in
    let claimed : IsClaimed f r = record {
      branch = branch;
      id = ap is_id (sym (c.as_bytes.ensures.value ∙ c.as_str-2.ensures)) ∙
          (sym c.is_id.ensures ∙ c.if-not-is_id.false);
      key = sym c.has_bad_key.ensures ∙ c.if-has_bad_key.false;
    } in
    inr (no_transfer f r claimed (same_find (sym c.as_str-3.ensures) (sym c.transfers.ensures)
    (sym c.in_default-find_transfer.ensures)))

pub returns-then-ne : goal.returns-then-ne
returns-then-ne g c =
    let f = c.args.state.now in
    let r = c.args.receive.now in
    let b = branch_of c.in-Some.target.now in
    let found : branch_at f.branches r.branch ≡ Some b =
    ap (branch_at f.branches) (sym c.as_str.ensures) ∙ c.in-Some.ensures.found in
    let branch = (branch_at_Some f.branches r.branch b found).any in
    let claimed : IsClaimed f r = record {
      branch = branch;
      id = ap is_id (sym (c.as_bytes.ensures.value ∙ c.as_str-2.ensures)) ∙
          (sym c.is_id.ensures ∙ c.if-not-is_id.false);
      key = sym c.has_bad_key.ensures ∙ c.if-has_bad_key.false;
    } in
    let t = c.in-Some-find_transfer.transfer.now in
    let at : transfer_at f r.id ≡ Some t =
    same_find (sym c.as_str-3.ensures) (sym c.transfers.ensures) (sym c.in-Some-find_transfer.ensures) in
    inr (wrong_branch f r t claimed at
    (same_test c.as_str-4.ensures c.as_str-5.ensures (not_true c.ne.ensures c.if-ne.true)))

pub judged-requires-clause-good : goal.judged-requires-clause-good
judged-requires-clause-good g c =
    let f = c.args.state.now in
    let r = c.args.receive.now in
    let b = branch_of c.in-Some.target.now in
    let found : branch_at f.branches r.branch ≡ Some b =
    ap (branch_at f.branches) (sym c.as_str.ensures) ∙ c.in-Some.ensures.found in
    (found_holds (IsGoodBranch f.styles) f.branches r.branch b found c.is_good.ensures.branches).book

pub judged-requires-clause-parts : goal.judged-requires-clause-parts
judged-requires-clause-parts g c =
    let f = c.args.state.now in
    let r = c.args.receive.now in
    let t = c.in-Some-find_transfer.transfer.now in
    let at : transfer_at f r.id ≡ Some t =
    same_find (sym c.as_str-3.ensures) (sym c.transfers.ensures) (sym c.in-Some-find_transfer.ensures) in
    (transfer_good f r.id t c.is_good.ensures at).parts

pub judged-requires-clause-small : goal.judged-requires-clause-small
judged-requires-clause-small g c =
    let f = c.args.state.now in
    let r = c.args.receive.now in
    let t = c.in-Some-find_transfer.transfer.now in
    let at : transfer_at f r.id ≡ Some t =
    same_find (sym c.as_str-3.ensures) (sym c.transfers.ensures) (sym c.in-Some-find_transfer.ensures) in
    asked_small f r t c.is_good.ensures c.requires at

pub held_so-requires-clause-parts : goal.held_so-requires-clause-parts
held_so-requires-clause-parts g c =
    let f = c.args.state.now in
    let r = c.args.receive.now in
    let t = c.in-Some-find_transfer.transfer.now in
    let at : transfer_at f r.id ≡ Some t =
    same_find (sym c.as_str-3.ensures) (sym c.transfers.ensures) (sym c.in-Some-find_transfer.ensures) in
    (transfer_good f r.id t c.is_good.ensures at).parts

pub has_nothing_left-requires : goal.has_nothing_left-requires
has_nothing_left-requires g c =
    let f = c.args.state.now in
    let r = c.args.receive.now in
    let t = c.in-Some-find_transfer.transfer.now in
    let at : transfer_at f r.id ≡ Some t =
    same_find (sym c.as_str-3.ensures) (sym c.transfers.ensures) (sym c.in-Some-find_transfer.ensures) in
    (transfer_good f r.id t c.is_good.ensures at).parts

pub returns-then-is_so : goal.returns-then-is_so
returns-then-is_so g c =
    let f = c.args.state.now in
    let r = c.args.receive.now in
    let b = branch_of c.in-Some.target.now in
    let found : branch_at f.branches r.branch ≡ Some b =
    ap (branch_at f.branches) (sym c.as_str.ensures) ∙ c.in-Some.ensures.found in
    let branch = (branch_at_Some f.branches r.branch b found).any in
    let claimed : IsClaimed f r = record {
      branch = branch;
      id = ap is_id (sym (c.as_bytes.ensures.value ∙ c.as_str-2.ensures)) ∙
          (sym c.is_id.ensures ∙ c.if-not-is_id.false);
      key = sym c.has_bad_key.ensures ∙ c.if-has_bad_key.false;
    } in
    let t = c.in-Some-find_transfer.transfer.now in
    let at : transfer_at f r.id ≡ Some t =
    same_find (sym c.as_str-3.ensures) (sym c.transfers.ensures) (sym c.in-Some-find_transfer.ensures) in
    let aimed : IsAimed f r t = record {
      claimed = claimed;
      at = at;
      own = same_test c.as_str-4.ensures c.as_str-5.ensures (not_false c.ne.ensures c.if-ne.false);
    } in
    let so : so_held t r ≡ Some true =
    sym c.held_so.ensures ∙
    (c.in-Some-held_so.is ∙ ap (λ (b : Bool). let o : Option Bool = Some b in o) c.if-is_so.true) in
    decides_repeated f (Receive r) c.repeated.result (received_so f r t aimed so) c.repeated.ensures

pub returns-in-Some-held_so : goal.returns-in-Some-held_so
returns-in-Some-held_so g c =
    let f = c.args.state.now in
    let r = c.args.receive.now in
    let b = branch_of c.in-Some.target.now in
    let found : branch_at f.branches r.branch ≡ Some b =
    ap (branch_at f.branches) (sym c.as_str.ensures) ∙ c.in-Some.ensures.found in
    let branch = (branch_at_Some f.branches r.branch b found).any in
    let claimed : IsClaimed f r = record {
      branch = branch;
      id = ap is_id (sym (c.as_bytes.ensures.value ∙ c.as_str-2.ensures)) ∙
          (sym c.is_id.ensures ∙ c.if-not-is_id.false);
      key = sym c.has_bad_key.ensures ∙ c.if-has_bad_key.false;
    } in
    let t = c.in-Some-find_transfer.transfer.now in
    let at : transfer_at f r.id ≡ Some t =
    same_find (sym c.as_str-3.ensures) (sym c.transfers.ensures) (sym c.in-Some-find_transfer.ensures) in
    let aimed : IsAimed f r t = record {
      claimed = claimed;
      at = at;
      own = same_test c.as_str-4.ensures c.as_str-5.ensures (not_false c.ne.ensures c.if-ne.false);
    } in
    let so : so_held t r ≡ Some false =
    sym c.held_so.ensures ∙
    (c.in-Some-held_so.is ∙ ap (λ (b : Bool). let o : Option Bool = Some b in o) c.if-is_so.false) in
    inr (received_other f r t aimed so)

pub returns-then-has_nothing_left : goal.returns-then-has_nothing_left
returns-then-has_nothing_left g c =
    let f = c.args.state.now in
    let r = c.args.receive.now in
    let b = branch_of c.in-Some.target.now in
    let found : branch_at f.branches r.branch ≡ Some b =
    ap (branch_at f.branches) (sym c.as_str.ensures) ∙ c.in-Some.ensures.found in
    let branch = (branch_at_Some f.branches r.branch b found).any in
    let claimed : IsClaimed f r = record {
      branch = branch;
      id = ap is_id (sym (c.as_bytes.ensures.value ∙ c.as_str-2.ensures)) ∙
          (sym c.is_id.ensures ∙ c.if-not-is_id.false);
      key = sym c.has_bad_key.ensures ∙ c.if-has_bad_key.false;
    } in
    let t = c.in-Some-find_transfer.transfer.now in
    let at : transfer_at f r.id ≡ Some t =
    same_find (sym c.as_str-3.ensures) (sym c.transfers.ensures) (sym c.in-Some-find_transfer.ensures) in
    let aimed : IsAimed f r t = record {
      claimed = claimed;
      at = at;
      own = same_test c.as_str-4.ensures c.as_str-5.ensures (not_false c.ne.ensures c.if-ne.false);
    } in
    let none : so_held t r ≡ None = sym c.held_so.ensures ∙ c.in_default-held_so.is in
    inr (received_all f r t aimed none (sym c.has_nothing_left.ensures ∙ c.if-has_nothing_left.true))

pub returns : goal.returns
returns g c =
    let f = c.args.state.now in
    let r = c.args.receive.now in
    let b = branch_of c.in-Some.target.now in
    let found : branch_at f.branches r.branch ≡ Some b =
    ap (branch_at f.branches) (sym c.as_str.ensures) ∙ c.in-Some.ensures.found in
    let branch = (branch_at_Some f.branches r.branch b found).any in
    let claimed : IsClaimed f r = record {
      branch = branch;
      id = ap is_id (sym (c.as_bytes.ensures.value ∙ c.as_str-2.ensures)) ∙
          (sym c.is_id.ensures ∙ c.if-not-is_id.false);
      key = sym c.has_bad_key.ensures ∙ c.if-has_bad_key.false;
    } in
    let t = c.in-Some-find_transfer.transfer.now in
    let at : transfer_at f r.id ≡ Some t =
    same_find (sym c.as_str-3.ensures) (sym c.transfers.ensures) (sym c.in-Some-find_transfer.ensures) in
    let aimed : IsAimed f r t = record {
      claimed = claimed;
      at = at;
      own = same_test c.as_str-4.ensures c.as_str-5.ensures (not_false c.ne.ensures c.if-ne.false);
    } in
    let none : so_held t r ≡ None = sym c.held_so.ensures ∙ c.in_default-held_so.is in
    decides_done_or_refused f (Receive r) _ (receipt_refusal b.locked b.records t r) c.judged.result c.settled.result
    (received_new f r t b aimed none (sym c.has_nothing_left.ensures ∙ c.if-has_nothing_left.false)
    (branch_at_Some f.branches r.branch b found)) (receipt_adds f r t at)
    c.settled.ensures c.judged.ensures.value c.judged.ensures.passes c.judged.ensures.err
