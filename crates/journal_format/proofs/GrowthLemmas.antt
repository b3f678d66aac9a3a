-- What reading a line answers, want of memory aside.
use Rattle.std.proofs.Common.{◌≡◌, ◌≤◌, ◌⊎◌, ◌∙◌, ℕ, List, length, arith, ap, sym, subst, Option, Some, None, Result}
use Rattle.std.proofs.Common.{Ok, Err, inl, inr, true, not, nat_lt}
use Rattle.std.specs.Prelude.{option_to_list, IsErrAnd}
use Rattle.std.proofs.lemmas.Result.{err_from_is_err_and}
use Rattle.money_core.specs.declared.style.Style.{Style}
use Rattle.money_core.specs.declared.cause.Cause.{Cause}
use Rattle.money_core.specs.declared.cause.Cause.TheVariants.{OutOfMemory}
use Rattle.money_core.specs.declared.cause.Fault.{Fault}
use Rattle.journal_lines.specs.Header.{HeaderParts, length_of}
use Rattle.journal_lines.specs.HeaderReading.{header_of}
use Rattle.journal_lines.specs.AccountName.{is_account}
use Rattle.journal_lines.proofs.HeaderLemmas.{past}
use Rattle.journal_format.specs.declared.posting.Posting.{Posting}
use Rattle.journal_format.specs.declared.txn.Txn.{Txn}
use Rattle.journal_format.specs.Line.{is_line}
use Rattle.journal_format.specs.Machine.{bare, begun, with_remark}
use Rattle.journal_format.specs.PostingParts.{is_virtual}
use Rattle.journal_format.specs.Posting.{PostingCut, Value, cut_posting, posting_of, posting_with_value, judged_posting}
use Rattle.journal_format.specs.Posting.{value_of_cut}
use Rattle.journal_format.specs.Printable.{is_posting}
use Rattle.journal_format.specs.Fault.{memory_fault}
use Rattle.journal_format.specs.PostingRead.{IsUnlessMemory, first_of}
use Rattle.journal_format.proofs.StepLemmas.{ok_same, err_same}
use Rattle.journal_format.proofs.ReadLemmas.{posting_read}

pub unless_ok : {T : Type 0} (x : T) (r : Result T Cause) → IsUnlessMemory (Ok x) r → r ≡ Ok x
unless_ok x r (inl e) = sym e
unless_ok x r (inr memory) = absurd cc

-- the fault of a line, or want of memory
pub fault_told : {T : Type 0} (r : Result T Cause) (n : ℕ) (cause : Cause) (fault : Fault)
    → IsUnlessMemory (Err cause) r → (fault ≡ memory_fault) ⊎ ((fault.line ≡ n) × (fault.cause ≡ cause))
    → (cause ≡ OutOfMemory → fault ≡ memory_fault) → (fault ≡ memory_fault) ⊎ ((fault.line ≡ n) × (r ≡ Err fault.cause))
fault_told r n cause fault told (inl memory) h = inl memory
fault_told {T = T} r n cause fault (inl e) (inr at) h = inr (at.0, sym e ∙ (λ i. Err (sym at.1 i)))
fault_told {T = T} r n cause fault (inr memory) (inr at) h = inl (h (err_same {A = T} cause OutOfMemory memory))

-- the same where an error came through a `?`
pub unless_exit : {T : Type 0} (r : Result (T × ℕ) Cause) (e : Cause) (wanted : Result T Cause)
    → IsErrAnd r (λ x. x ≡ e) → IsUnlessMemory (Err e) wanted → IsUnlessMemory (first_of r) wanted
unless_exit {T = T} r e wanted h told =
    let p = err_from_is_err_and r h in
    subst (λ (x : Result (T × ℕ) Cause). IsUnlessMemory (first_of x) wanted) (sym p.1)
    (subst (λ (c : Cause). IsUnlessMemory (Err c) wanted) (sym p.2) told)

-- the transaction of a header that is read
pub begun_as : (line : List ℕ) (h : HeaderParts) (t : Txn) (r : Result Txn Cause) → header_of line ≡ Ok h → bare h ≡ t
    → IsUnlessMemory r (with_remark t h.comment) → IsUnlessMemory r (begun (header_of line))
begun_as line h t r read is told =
    subst (λ (x : Result HeaderParts Cause). IsUnlessMemory r (begun x)) (sym read)
    (subst (λ (u : Txn). IsUnlessMemory r (with_remark u h.comment)) (sym is) told)

-- a posting that is read has at most the comment of its line
few_comments : (cut : PostingCut) (r : Result Value Cause) (p : Posting) → posting_with_value cut r ≡ Ok p
    → length p.comments ≤ 1
few_comments cut (Ok v) p e =
    let made : Posting = record {
      status = cut.status;
      account = cut.name;
      amount = v.amount;
      price = v.price;
      claim = v.claim;
      comments = option_to_list cut.comment;
    } in
    let same : made ≡ p = ok_same made p e in
    omega (arith, one cut.comment, ap (λ (x : Posting). length x.comments) same)
  where
    one : (o : Option (List ℕ)) → length (option_to_list o) ≤ 1
    one None = omega arith
    one (Some text) = omega arith
few_comments cut (Err c) p e = absurd cc

pub read_posting : (styles : List Style) (line : List ℕ) (p : Posting) → is_line line ≡ true
    → IsUnlessMemory (Ok p) (posting_of styles line)
    → (is_posting styles p ≡ true) × (length p.comments ≤ 1)
unfolding judged_posting
read_posting styles line p right h =
    let e = unless_ok p (posting_of styles line) h in
    let cut = cut_posting line in
    let one = past (nat_lt 900 (length_of cut.comment)) _ _ p e in
    let two = past (is_virtual cut.name) _ _ p one.1 in
    let three = past (not (is_account cut.name)) _ _ p two.1 in
    (posting_read styles line p right e, few_comments cut (value_of_cut styles cut) p three.1)
