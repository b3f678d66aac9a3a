-- what the closing of a branch is answered
use Rattle.std.proofs.Common.{◌≡◌, ◌⊎◌, ◌≤◌, inl, inr, Bool, true, false, List, [], ◌∷◌, ◌++◌, length, refl, ap, ◌∙◌}
use Rattle.std.proofs.Common.{sym, subst, Option, Some, None, Ok, Err}
use Rattle.std.specs.Prelude.{if◌then◌else◌, nat_lt, Result}
use Rattle.std.specs.Cmp.Lexicographic.{pointwise}
use Rattle.std.specs.Str.{bytes_eq}
use Rattle.money_core.specs.declared.style.Style.{Style}
use Rattle.money_core.specs.declared.cause.Cause.TheVariants.{UnknownBranch, MarkClash, Limit, OutOfMemory}
use Rattle.book_core.specs.declared.entry.Entry.{Entry}
use Rattle.book_core.specs.declared.refusal.Refusal.{Refusal}
use Rattle.book_core.specs.declared.refusal.Refusal.TheVariants.{Plain}
use Rattle.book_core.specs.GoodBook.{IsFit, verdict}
use Rattle.journal_lines.specs.Date.{IsDayNumber}
use Rattle.journal_format.specs.declared.txn.Txn.{Txn}
use Rattle.journal_format.specs.Pieces.{posting_limit}
use Rattle.journal_balance.specs.Legs.{balanced_entry}
use Rattle.journal_balance.specs.Plain.{written_entry}
use Rattle.treasury_state.specs.declared.record.Record.{Record}
use Rattle.treasury_state.specs.declared.delta.Addition.TheVariants as add
use Rattle.treasury_state.specs.Federation.{Branch, Federation, has_branch, entries}
use Rattle.treasury_state.specs.Mark.{held, close_mark}
use Rattle.treasury_state.specs.Good.{IsGoodState}
use Rattle.treasury_state.proofs.FindLemmas.{IsThere}
use Rattle.treasury_state.proofs.RecordLemmas.{fit_records}
use Rattle.treasury_core.specs.declared.command.Answer.TheVariants.{Done, Repeated}
use Rattle.treasury_core.specs.declared.command.Close.{Close}
use Rattle.treasury_core.specs.declared.command.Command.TheVariants as cmd
use Rattle.treasury_core.specs.Choice.{is_selected, target_in, choice_comments, choice_refusal}
use Rattle.treasury_core.specs.Closing.{closing_record, closing_in, closing_answer, closing_reply}
use Rattle.treasury_core.specs.Step.{unless, reply, added, entering_refusal, close_refusal, closed_reply}
use Rattle.treasury_core.proofs.ClosingPrinted.{closing_legs}
use Rattle.treasury_core.proofs.ClosingReply.{of_branch, not_more, is_closing_of, closing_record_good}

pub no_branch : (f : Federation) (x : Close) → has_branch f x.branch ≡ false
    → reply f (cmd.Close x) ≡ Err (Plain UnknownBranch)
unfolding reply
no_branch f x s = rw s refl

-- the branch was closed at that day: asked for just so, or otherwise
pub closed_so : (f : Federation) (x : Close) (b : Branch) (r : Record) → IsThere f.branches x.branch b
    → held b.records (close_mark x.day) ≡ Some r → pointwise bytes_eq r.txn.comments (choice_comments x.choice) ≡ true
    → reply f (cmd.Close x) ≡ Ok Repeated
unfolding reply
closed_so f x b r there h same =
    rw there.any (ap (closed_reply f x) (ap (λ (rs : List Record). held rs (close_mark x.day)) there.records ∙ h) ∙ rw
    same refl)

pub closed_other : (f : Federation) (x : Close) (b : Branch) (r : Record) → IsThere f.branches x.branch b
    → held b.records (close_mark x.day) ≡ Some r → pointwise bytes_eq r.txn.comments (choice_comments x.choice) ≡ false
    → reply f (cmd.Close x) ≡ Err (Plain MarkClash)
unfolding reply
closed_other f x b r there h same =
    rw there.any (ap (closed_reply f x) (ap (λ (rs : List Record). held rs (close_mark x.day)) there.records ∙ h) ∙ rw
    same refl)

pub closes_now : (f : Federation) (x : Close) (b : Branch) → IsThere f.branches x.branch b
    → held b.records (close_mark x.day) ≡ None
    → reply f (cmd.Close x) ≡ unless Done (close_refusal b.locked b.records x (closing_in f x.branch x.day x.choice))
unfolding reply
closes_now f x b there h = rw there.any
    (ap (closed_reply f x) (ap (λ (rs : List Record). held rs (close_mark x.day)) there.records ∙ h) ∙ rw
    (there.records, there.lock) refl)

pub closing_adds : (f : Federation) (x : Close) (t : Txn) → closing_in f x.branch x.day x.choice ≡ Some t
    → added f (cmd.Close x) ≡ add.Record x.branch (closing_record x.day t) ∷ add.Locked x.branch x.day ∷ []
unfolding added
closing_adds f x t e = rw e refl

-- ---- by the closing entry

pub record IsTold (f : Federation) (x : Close) (t : Txn) : Type 0 where
  pub chosen : choice_refusal x.choice ≡ None
  pub closes : closing_in f x.branch x.day x.choice ≡ Some t
  pub answer : closing_answer (closing_in f x.branch x.day x.choice) ≡ Ok t
  pub few : length t.postings ≤ posting_limit

abbrev limited : Bool → Txn → Result Txn Refusal
limited b t = if b then Err (Plain Limit) else Ok t

told_txn : (f : Federation) (x : Close) (t s : Txn) (b : Bool) → choice_refusal x.choice ≡ None
    → nat_lt posting_limit (length s.postings) ≡ b → closing_in f x.branch x.day x.choice ≡ Some s
    → closing_answer (closing_in f x.branch x.day x.choice) ≡ Ok t → limited b s ≡ Ok t → IsTold f x t
told_txn f x t s true chosen few e a h = absurd cc
told_txn f x t s false chosen few e a h =
    let same : s ≡ t = cc in
    record {
      chosen = chosen;
      closes = e ∙ ap (λ (x : Txn). let o : Option Txn = Some x in o) same;
      answer = a;
      few = subst (λ (x : Txn). length x.postings ≤ posting_limit) same (not_more (length s.postings) few);
    }

told_at : (f : Federation) (x : Close) (t : Txn) (o : Option Txn) → choice_refusal x.choice ≡ None
    → closing_in f x.branch x.day x.choice ≡ o → closing_answer (closing_in f x.branch x.day x.choice) ≡ Ok t
    → closing_answer o ≡ Ok t → IsTold f x t
told_at f x t None chosen e a h = absurd cc
told_at f x t (Some s) chosen e a h = told_txn f x t s (nat_lt posting_limit (length s.postings)) chosen refl e a h

pub closing_told : (f : Federation) (x : Close) (t : Txn) (r : Result Txn Refusal) → r ≡ Ok t
    → has_branch f x.branch ≡ true
    → choice_refusal x.choice ≡ None → (r ≡ closing_reply f x.branch x.day x.choice) ⊎ (r ≡ Err (Plain OutOfMemory))
    → IsTold f x t
closing_told f x t r is here chosen (inl e) =
    let a : closing_answer (closing_in f x.branch x.day x.choice) ≡ Ok t =
    sym (of_branch f x.branch x.day x.choice here chosen) ∙ (sym e ∙ is) in
    told_at f x t (closing_in f x.branch x.day x.choice) chosen refl a a
closing_told f x t r is here chosen (inr e) = absurd (let k : Ok t ≡ Err (Plain OutOfMemory) = sym is ∙ e in cc)

pub closing_refused : (f : Federation) (x : Close) (held : List Record) (e : Refusal) (r : Result Txn Refusal)
    → r ≡ Err e → has_branch f x.branch ≡ true → choice_refusal x.choice ≡ None
    → (r ≡ closing_reply f x.branch x.day x.choice) ⊎ (r ≡ Err (Plain OutOfMemory))
    → (e ≡ Plain OutOfMemory) ⊎ (entering_refusal held x.day (closing_answer (closing_in f x.branch x.day x.choice))
    ≡ Some e)
closing_refused f x held e r is here chosen (inl k) =
    inr (ap (entering_refusal held x.day) (sym (of_branch f x.branch x.day x.choice here chosen) ∙ (sym k ∙ is)))
closing_refused f x held e r is here chosen (inr k) = inl (same_refusal e (Plain OutOfMemory) (sym is ∙ k))
  where
    same_refusal : (a b : Refusal) → ◌≡◌ {A = Result Txn Refusal} (Err a) (Err b) → a ≡ b
    same_refusal a b h = cc

-- ---- its record

pub told_legs : (f : Federation) (x : Close) (t : Txn) (styles : List Style) → styles ≡ f.styles → IsGoodState f
    → IsTold f x t → balanced_entry styles t ≡ Ok (written_entry t)
told_legs f x t styles same good told =
    ap (λ (ss : List Style). balanced_entry ss t) same
    ∙ closing_legs (is_selected x.choice.accounts) (target_in x.choice.into)
    f x.branch x.day t (is_closing_of f x.branch x.day x.choice t good told.chosen told.closes)

pub told_fit : (f : Federation) (x : Close) (t : Txn) (r : Record) → IsGoodState f → IsDayNumber x.day → IsTold f x t
    → r ≡ closing_record x.day t → IsFit r.entry
told_fit f x t r good number told is =
    subst (λ (x : Record). IsFit x.entry) (sym is)
    (fit_records f.styles (closing_record x.day t ∷ [])
    (closing_record_good f x.branch x.day x.choice t good number told.chosen told.closes told.few, tt)).0

pub told_refusal : (f : Federation) (x : Close) (t : Txn) (r : Record) (held : List Record) (book : List Entry)
    → IsTold f x t → r ≡ closing_record x.day t → book ≡ entries held
    → entering_refusal held x.day (closing_answer (closing_in f x.branch x.day x.choice))
    ≡ verdict (book ++ entries (r ∷ []))
told_refusal f x t r held book told is same =
    ap (entering_refusal held x.day) told.answer ∙
    (ap (λ (x : Record). verdict (entries held ++ entries (x ∷ []))) (sym is) ∙ ap
    (λ (b : List Entry). verdict (b ++ entries (r ∷ []))) (sym same))
