use Rattle.std.proofs.Common.{◌≡◌, ap, sym, ◌∙◌, inr, true, false, Some, None}
use Rattle.std.specs.Str.{bytes_eq}
use Rattle.treasury_state.specs.Federation.{has_branch, branch_at}
use Rattle.treasury_state.specs.Transfer.{is_id, transfer_at}
use Rattle.treasury_state.specs.Good.{IsGoodBranch}
use Rattle.treasury_state.specs.Seen.{branch_of}
use Rattle.treasury_state.proofs.FindLemmas.{branch_at_Some, branch_at_None}
use Rattle.treasury_state.proofs.HoldsLemmas.{found_holds}
use Rattle.treasury_core.specs.declared.command.Command.TheVariants.{Dispatch}
use Rattle.treasury_core.specs.Step.{dispatch_refusal}
use Rattle.treasury_core.proofs.TransferReplyLemmas.{IsAsked, same_test, same_find, decides_repeated}
use Rattle.treasury_core.proofs.TransferReplyLemmas.{decides_done_or_refused, no_source}
use Rattle.treasury_core.proofs.TransferReplyLemmas.{no_target, same_branch, bad_id, dispatched_so, dispatched_other}
use Rattle.treasury_core.proofs.TransferReplyLemmas.{dispatched_new, dispatch_adds}
use Rattle.treasury_core.proofs.dispatch.decide_dispatch.Goals as goal

pub returns-in_default : goal.returns-in_default
returns-in_default g c =
    let f = c.args.state.now in
    let d = c.args.dispatch.now in
    let found : branch_at f.branches d.source ≡ None =
    ap (branch_at f.branches) (sym c.as_str.ensures) ∙ c.in_default.ensures.found in
    inr (no_source f d (branch_at_None f.branches d.source found).none)

pub returns-then-not-has_branch : goal.returns-then-not-has_branch
returns-then-not-has_branch g c =
    let f = c.args.state.now in
    let d = c.args.dispatch.now in
    let b = branch_of c.in-Some.source.now in
    let found : branch_at f.branches d.source ≡ Some b =
    ap (branch_at f.branches) (sym c.as_str.ensures) ∙ c.in-Some.ensures.found in
    let source = (branch_at_Some f.branches d.source b found).any in
    inr (no_target f d source (ap (has_branch f) (sym c.as_str-2.ensures) ∙
    (sym c.has_branch.ensures ∙ c.if-not-has_branch.true)))

pub returns-then-eq : goal.returns-then-eq
returns-then-eq g c =
    let f = c.args.state.now in
    let d = c.args.dispatch.now in
    let b = branch_of c.in-Some.source.now in
    let found : branch_at f.branches d.source ≡ Some b =
    ap (branch_at f.branches) (sym c.as_str.ensures) ∙ c.in-Some.ensures.found in
    let source = (branch_at_Some f.branches d.source b found).any in
    let target : has_branch f d.target ≡ true =
    ap (has_branch f) (sym c.as_str-2.ensures) ∙ (sym c.has_branch.ensures ∙ c.if-not-has_branch.false) in
    inr (same_branch f d source target
    (same_test c.as_str-3.ensures c.as_str-4.ensures (sym c.eq.ensures ∙ c.if-eq.true)))

pub returns-then-not-is_id : goal.returns-then-not-is_id
returns-then-not-is_id g c =
    let f = c.args.state.now in
    let d = c.args.dispatch.now in
    let b = branch_of c.in-Some.source.now in
    let found : branch_at f.branches d.source ≡ Some b =
    ap (branch_at f.branches) (sym c.as_str.ensures) ∙ c.in-Some.ensures.found in
    let source = (branch_at_Some f.branches d.source b found).any in
    let target : has_branch f d.target ≡ true =
    ap (has_branch f) (sym c.as_str-2.ensures) ∙ (sym c.has_branch.ensures ∙ c.if-not-has_branch.false) in
    let apart : bytes_eq d.source d.target ≡ false =
    same_test c.as_str-3.ensures c.as_str-4.ensures (sym c.eq.ensures ∙ c.if-eq.false) in
    inr (bad_id f d source target apart
    (ap is_id (sym (c.as_bytes.ensures.value ∙ c.as_str-5.ensures)) ∙ (sym c.is_id.ensures ∙ c.if-not-is_id.true)))

pub returns-then-is_dispatched_so : goal.returns-then-is_dispatched_so
returns-then-is_dispatched_so g c =
    let f = c.args.state.now in
    let d = c.args.dispatch.now in
    let b = branch_of c.in-Some.source.now in
    let found : branch_at f.branches d.source ≡ Some b =
    ap (branch_at f.branches) (sym c.as_str.ensures) ∙ c.in-Some.ensures.found in
    let source = (branch_at_Some f.branches d.source b found).any in
    let target : has_branch f d.target ≡ true =
    ap (has_branch f) (sym c.as_str-2.ensures) ∙ (sym c.has_branch.ensures ∙ c.if-not-has_branch.false) in
    let apart : bytes_eq d.source d.target ≡ false =
    same_test c.as_str-3.ensures c.as_str-4.ensures (sym c.eq.ensures ∙ c.if-eq.false) in
    let asked : IsAsked f d = record {
      source = source;
      target = target;
      apart = apart;
      id = ap is_id (sym (c.as_bytes.ensures.value ∙ c.as_str-5.ensures)) ∙
          (sym c.is_id.ensures ∙ c.if-not-is_id.false);
    } in
    let t = c.in-Some-find_transfer.transfer.now in
    let at : transfer_at f d.id ≡ Some t =
    same_find (sym c.as_str-6.ensures) (sym c.transfers.ensures) (sym c.in-Some-find_transfer.ensures) in
    decides_repeated f (Dispatch d) c.repeated.result
    (dispatched_so f d t asked at (sym c.is_dispatched_so.ensures ∙ c.if-is_dispatched_so.true)) c.repeated.ensures

pub returns-in-Some-find_transfer : goal.returns-in-Some-find_transfer
returns-in-Some-find_transfer g c =
    let f = c.args.state.now in
    let d = c.args.dispatch.now in
    let b = branch_of c.in-Some.source.now in
    let found : branch_at f.branches d.source ≡ Some b =
    ap (branch_at f.branches) (sym c.as_str.ensures) ∙ c.in-Some.ensures.found in
    let source = (branch_at_Some f.branches d.source b found).any in
    let target : has_branch f d.target ≡ true =
    ap (has_branch f) (sym c.as_str-2.ensures) ∙ (sym c.has_branch.ensures ∙ c.if-not-has_branch.false) in
    let apart : bytes_eq d.source d.target ≡ false =
    same_test c.as_str-3.ensures c.as_str-4.ensures (sym c.eq.ensures ∙ c.if-eq.false) in
    let asked : IsAsked f d = record {
      source = source;
      target = target;
      apart = apart;
      id = ap is_id (sym (c.as_bytes.ensures.value ∙ c.as_str-5.ensures)) ∙
          (sym c.is_id.ensures ∙ c.if-not-is_id.false);
    } in
    let t = c.in-Some-find_transfer.transfer.now in
    let at : transfer_at f d.id ≡ Some t =
    same_find (sym c.as_str-6.ensures) (sym c.transfers.ensures) (sym c.in-Some-find_transfer.ensures) in
    inr (dispatched_other f d t asked at (sym c.is_dispatched_so.ensures ∙ c.if-is_dispatched_so.false))

pub judged-requires-clause-good : goal.judged-requires-clause-good
judged-requires-clause-good g c =
    let f = c.args.state.now in
    let d = c.args.dispatch.now in
    let b = branch_of c.in-Some.source.now in
    let found : branch_at f.branches d.source ≡ Some b =
    ap (branch_at f.branches) (sym c.as_str.ensures) ∙ c.in-Some.ensures.found in
    (found_holds (IsGoodBranch f.styles) f.branches d.source b found c.is_good.ensures.branches).book

pub returns : goal.returns
returns g c =
    let f = c.args.state.now in
    let d = c.args.dispatch.now in
    let b = branch_of c.in-Some.source.now in
    let found : branch_at f.branches d.source ≡ Some b =
    ap (branch_at f.branches) (sym c.as_str.ensures) ∙ c.in-Some.ensures.found in
    let source = (branch_at_Some f.branches d.source b found).any in
    let target : has_branch f d.target ≡ true =
    ap (has_branch f) (sym c.as_str-2.ensures) ∙ (sym c.has_branch.ensures ∙ c.if-not-has_branch.false) in
    let apart : bytes_eq d.source d.target ≡ false =
    same_test c.as_str-3.ensures c.as_str-4.ensures (sym c.eq.ensures ∙ c.if-eq.false) in
    let asked : IsAsked f d = record {
      source = source;
      target = target;
      apart = apart;
      id = ap is_id (sym (c.as_bytes.ensures.value ∙ c.as_str-5.ensures)) ∙
          (sym c.is_id.ensures ∙ c.if-not-is_id.false);
    } in
    let at : transfer_at f d.id ≡ None =
    same_find (sym c.as_str-6.ensures) (sym c.transfers.ensures) (sym c.in_default-find_transfer.ensures) in
    decides_done_or_refused f (Dispatch d) _ (dispatch_refusal b.locked b.records d) c.judged.result c.settled.result
    (dispatched_new f d b asked at (branch_at_Some f.branches d.source b found)) (dispatch_adds f d) c.settled.ensures
    c.judged.ensures.value c.judged.ensures.passes c.judged.ensures.err
