-- a dispatch and a receipt leave a good state good
use Rattle.std.proofs.Common.{◌≡◌, ℕ, true, false, cond, List, [], ◌∷◌, ◌++◌, refl, ap, ◌∙◌, sym, subst}
use Rattle.std.proofs.Common.{arith, Some, None}
use Rattle.std.specs.Prelude.{find}
use Rattle.std.specs.List.{list_any, AllByRecursion}
use Rattle.std.specs.Str.{bytes_eq}
use Rattle.money_core.specs.declared.style.Style.{Style}
use Rattle.money_core.proofs.ListLemmas.{all_weaker}
use Rattle.money_core.proofs.BytesLemmas.{bytes_eq-refl, other_bytes}
use Rattle.book_core.specs.GoodBook.{verdict}
use Rattle.treasury_state.specs.declared.record.Record.{Record}
use Rattle.treasury_state.specs.declared.transfer.Transfer.{Transfer}
use Rattle.treasury_state.specs.declared.transfer.Part.{Part}
use Rattle.treasury_state.specs.Federation.{Branch, Federation, entries, book_of}
use Rattle.treasury_state.specs.Mark.{is_held, held, is_of_transfer, is_closing}
use Rattle.treasury_state.specs.Transfer.{has_id, asked, receipts_of, dispatch_record, receipt_record}
use Rattle.treasury_state.specs.Joined.{with_records, changed, inserted, received, with_receipt, with_entered}
use Rattle.treasury_state.specs.Joined.{with_dispatched, with_received}
use Rattle.treasury_state.specs.Good.{IsGoodRecord, IsGoodBranch, IsGoodTransfer, IsCarried, AreAscending, IsGoodState}
use Rattle.treasury_state.specs.Fair.{IsMarked}
use Rattle.treasury_state.proofs.MarkLemmas.{id_no_colon}
use Rattle.treasury_state.proofs.AskedLemmas.{no_out}
use Rattle.treasury_state.proofs.CarriedLemmas.{agree_carried}
use Rattle.treasury_state.proofs.FairLemmas.{in_step, good_marked}
use Rattle.treasury_state.proofs.OrderLemmas.{own_ids}
use Rattle.treasury_state.proofs.DispatchLemmas.{IsWhole, all_whole}
use Rattle.treasury_core.proofs.PassLemmas.{inserted_elsewhere, inserted_here, received_elsewhere, received_here}
use Rattle.treasury_core.proofs.ReceiveLemmas.{in_step_with_record, no_receipt, IsReceipt, good_with, asks_more}
use Rattle.treasury_core.proofs.TransferLemmas.{sorted_inserted, sorted_received, other_branches, all-inserted}
use Rattle.treasury_core.proofs.TransferLemmas.{all-received}
use Rattle.treasury_core.proofs.ChangeLemmas.{length-changed, names-changed, all-changed}
use Rattle.treasury_core.proofs.KeepLemmas.{branch_entered, same_names, transfers-changed}

-- a transfer's record comes into its branch
gets_record : (styles : List Style) (ts ts' : List Transfer) (b : Branch) (r : Record) → IsWhole styles ts b
    → IsGoodRecord styles r → is_of_transfer r ≡ true → is_closing r ≡ false
    → verdict (entries b.records ++ r.entry ∷ []) ≡ None
    → held (asked ts b.name) r.mark ≡ None
    → ((m : List ℕ) → held (asked ts' b.name) m ≡ cond (bytes_eq r.mark m) (Some r) (held (asked ts b.name) m))
    → AllByRecursion IsMarked ts' → AreAscending ts' → IsWhole styles ts' (with_records (r ∷ []) b)
gets_record styles ts ts' b r h new own other passes free after marked ids =
    let got = in_step_with_record ts ts' b r (in_step styles ts b h.good h.carried) own free after in
    record {
      good = branch_entered styles (r ∷ []) b h.good got.own_marks (new, tt)
          ((λ e. absurd (let k : true ≡ false = sym own ∙ e in cc)), tt)
          ((λ e. absurd (let k : true ≡ false = sym e ∙ other in cc)), tt) passes;
      carried = agree_carried ts' (with_records (r ∷ []) b) marked ids got.asked_for;
    }

stays_whole : (styles : List Style) (ts ts' : List Transfer) (b : Branch) → asked ts' b.name ≡ asked ts b.name
    → IsWhole styles ts b → IsWhole styles ts' b
stays_whole styles ts ts' b e h = record {
  good = h.good;
  carried = record {
    there = subst (AllByRecursion (λ (r : Record). held b.records r.mark ≡ Some r)) (sym e) h.carried.there;
    asked_for = subst (λ (rows : List Record). AllByRecursion
        (λ (r : Record). is_of_transfer r ≡ true → is_held rows r.mark ≡ true) b.records) (sym e) h.carried.asked_for;
  };
}

-- a dispatch
pub good_dispatched : (f : Federation) (t : Transfer) → IsGoodState f → receipts_of t ≡ [] → IsGoodTransfer f.branches t
    → list_any (has_id t.id) f.transfers ≡ false → IsGoodRecord f.styles (dispatch_record t)
    → verdict (book_of f t.source ++ (dispatch_record t).entry ∷ []) ≡ None
    → IsGoodState (with_dispatched (with_entered f t.source (dispatch_record t ∷ [])) t)
good_dispatched f t good none fair new written passes =
    let g : Branch → Branch = with_records (dispatch_record t ∷ []) in
    let ts = f.transfers in
    let ids = sorted_inserted t ts new good.ids in
    let transfers = all-inserted (IsGoodTransfer (changed g t.source f.branches)) t ts
    (other_branches f.branches _ t (same_names g t.source f.branches (λ b. refl)) fair)
    (transfers-changed g t.source f.branches ts (λ b. refl) good.transfers) in
    let marked = good_marked (changed g t.source f.branches) (inserted t ts) transfers in
    let whole = all-changed (IsWhole f.styles ts) (IsWhole f.styles (inserted t ts)) g t.source f.branches good.names
    (λ b n e l h. gets_record f.styles ts (inserted t ts) b (dispatch_record t) h written refl refl (rw e passes)
    (no_out ts b.name t.id new)
    (λ m. inserted_here t ts b.name m none (ap (λ (x : List ℕ). bytes_eq t.source x) n ∙ bytes_eq-refl t.source) new)
    marked ids)
    (λ b n h. stays_whole f.styles ts (inserted t ts) b
    (inserted_elsewhere t ts b.name none (other_bytes b.name t.source n)) h)
    (all_whole f.styles ts f.branches good.branches good.carried) in
    record {
      styles = good.styles;
      few = omega (arith, good.few, length-changed g t.source f.branches);
      names = names-changed g t.source f.branches (λ b. refl) good.names;
      branches = all_weaker (IsWhole f.styles (inserted t ts)) (IsGoodBranch f.styles) (changed g t.source f.branches)
          (λ b h. h.good) whole;
      ids = ids;
      transfers = transfers;
      carried = all_weaker (IsWhole f.styles (inserted t ts)) (IsCarried (inserted t ts))
          (changed g t.source f.branches) (λ b h. h.carried) whole;
    }

-- a receipt
pub good_received : (f : Federation) (t : Transfer) (p : Part) → IsGoodState f → find (has_id t.id) f.transfers ≡ Some t
    → IsGoodTransfer f.branches t → IsReceipt t p → IsGoodRecord f.styles (receipt_record t p)
    → verdict (book_of f t.target ++ (receipt_record t p).entry ∷ []) ≡ None
    → IsGoodState (with_received (with_entered f t.target (receipt_record t p ∷ [])) t.id p)
good_received f t p good here fair may written passes =
    let g : Branch → Branch = with_records (receipt_record t p ∷ []) in
    let ts = f.transfers in
    let ts' = received t.id p f.transfers in
    let marked = good_marked f.branches ts good.transfers in
    let plain = id_no_colon t.id fair.id in
    let ids = sorted_received t.id p ts good.ids in
    let transfers = all-received (IsGoodTransfer (changed g t.target f.branches)) p t ts here
    (other_branches f.branches _ (with_receipt p t) (same_names g t.target f.branches (λ b. refl))
    (good_with f.branches t p fair may))
    (transfers-changed g t.target f.branches ts (λ b. refl) good.transfers) in
    let whole = all-changed (IsWhole f.styles ts) (IsWhole f.styles ts') g t.target f.branches good.names
    (λ b n e l h. gets_record f.styles ts ts' b (receipt_record t p) h written refl refl (rw e passes)
    (no_receipt t p.key ts b.name marked plain here may.fresh (own_ids ts good.ids))
    (λ m. received_here p t ts b.name m marked plain here (asks_more t p plain may)
    (ap (λ (x : List ℕ). bytes_eq t.target x) n ∙ bytes_eq-refl t.target))
    (good_marked (changed g t.target f.branches) ts' transfers) ids)
    (λ b n h. stays_whole f.styles ts ts' b (received_elsewhere p t ts b.name here (other_bytes b.name t.target n)) h)
    (all_whole f.styles ts f.branches good.branches good.carried) in
    record {
      styles = good.styles;
      few = omega (arith, good.few, length-changed g t.target f.branches);
      names = names-changed g t.target f.branches (λ b. refl) good.names;
      branches = all_weaker (IsWhole f.styles ts') (IsGoodBranch f.styles) (changed g t.target f.branches)
          (λ b h. h.good) whole;
      ids = ids;
      transfers = transfers;
      carried =
          all_weaker (IsWhole f.styles ts') (IsCarried ts') (changed g t.target f.branches) (λ b h. h.carried) whole;
    }
