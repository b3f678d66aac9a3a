-- what an accepted file adds to its branch; a branch's own transactions, printed, read and entered again
use Rattle.std.proofs.Common.{◌≡◌, ◌+◌, ◌-◌, ℕ, Bool, true, false, ◌||◌, ◌&&◌, List, [], ◌∷◌, ◌++◌, length, refl, ap}
use Rattle.std.proofs.Common.{◌∙◌, sym, subst, arith, inl, inr, append-nil, Option, Some, None, Ok, Err, suc}
use Rattle.std.proofs.Math.Bool.{or-true}
use Rattle.std.specs.Prelude.{if◌then◌else◌, Result, not}
use Rattle.std.specs.List.{list_any, AllByRecursion}
use Rattle.std.specs.Option.{option_or}
use Rattle.std.specs.Str.{bytes_eq}
use Rattle.money_core.specs.declared.style.Style.{Style}
use Rattle.money_core.specs.declared.day.Day.{Day}
use Rattle.money_core.specs.declared.cause.Cause.{Cause}
use Rattle.money_core.specs.declared.cause.Cause.TheVariants.{UnknownBranch}
use Rattle.money_core.proofs.BytesLemmas.{bytes_eq-refl}
use Rattle.book_core.specs.declared.entry.Entry.{Entry}
use Rattle.book_core.specs.declared.refusal.Refusal.{Refusal}
use Rattle.book_core.specs.declared.refusal.Refusal.TheVariants.{Plain}
use Rattle.book_core.specs.GoodBook.{IsGoodBook, verdict}
use Rattle.book_core.proofs.GoodBookLemmas.{verdict_good, good_nil}
use Rattle.journal_format.specs.declared.txn.Txn.{Txn}
use Rattle.journal_format.specs.declared.txn.Located.{Located}
use Rattle.journal_format.specs.CanonicalText.{body_text, txn_lines, journal_text}
use Rattle.journal_format.specs.Pieces.{Reads}
use Rattle.journal_format.specs.Printable.{IsPrintable, FitsText, located_from}
use Rattle.journal_format.proofs.JournalLemmas.{lists_read_back}
use Rattle.journal_format.proofs.FaultLemmas.{one_list}
use Rattle.journal_balance.specs.Legs.{balanced_entry}
use Rattle.treasury_state.specs.declared.record.Record.{Record}
use Rattle.treasury_state.specs.Federation.{Federation, has_branch, records_of, lock_of, entries, book_of, txns_in}
use Rattle.treasury_state.specs.Mark.{is_repeat, transaction_mark}
use Rattle.treasury_state.specs.Joined.{with_entered}
use Rattle.treasury_state.specs.Good.{IsGoodRecord, IsGoodState}
use Rattle.treasury_state.proofs.BranchLemmas.{of_branch}
use Rattle.treasury_core.specs.declared.command.Answer.{Answer}
use Rattle.treasury_core.specs.declared.command.Answer.TheVariants.{Done, Entered, Repeated}
use Rattle.treasury_core.specs.declared.command.Command.TheVariants as cmd
use Rattle.treasury_core.specs.Step.{unless, reply, done, after, step, entered_answer, number_in, fault_on, unbalanced}
use Rattle.treasury_core.specs.Step.{recorded, records_from, records_in_file, refused_in, new_in, new_records}
use Rattle.treasury_core.specs.Step.{enter_refusal}
use Rattle.treasury_core.specs.declared.command.Command.TheVariants.{Enter}
use Rattle.treasury_core.proofs.FileLemmas.{length-new, length-records}
use Rattle.treasury_core.proofs.JoinedLemmas.{with_none}
use Rattle.treasury_core.proofs.ReplyLemmas.{file_accepted}
use Rattle.treasury_laws.specs.History.{IsAmong, IsOwn, IsOwnJournal, AreAmong}
use Rattle.treasury_laws.proofs.HistoryLemmas.{records-entered}

pub among_all : (P : Record → Type 0) (rs : List Record) (r : Record) → IsAmong r rs → AllByRecursion P rs → P r
among_all P [] r a h = absurd a
among_all P (x ∷ xs) r (inl e) h = subst P e h.0
among_all P (x ∷ xs) r (inr a) h = among_all P xs r a h.1

pub among_any : (p : Record → Bool) (rs : List Record) (r : Record) → p r ≡ true → IsAmong r rs → list_any p rs ≡ true
among_any p [] r e a = absurd a
among_any p (x ∷ xs) r e (inl s) = ap (λ (t : Bool). t || list_any p xs) (ap p s ∙ e)
among_any p (x ∷ xs) r e (inr a) = ap (λ (t : Bool). p x || t) (among_any p xs r e a) ∙ or-true (p x)

-- the record of a record's transaction is that record
recorded_again : (styles : List Style) (r : Record) (n : ℕ) → IsGoodRecord styles r
    → recorded r.txn (transaction_mark styles r.txn n r.txn.mark) (balanced_entry styles r.txn) ≡ r ∷ []
recorded_again styles r n good =
    let mark : transaction_mark styles r.txn n r.txn.mark ≡ r.mark =
    ap (λ (o : Option (List ℕ)). transaction_mark styles r.txn n o) good.marked in
    ap (λ (m : List ℕ). recorded r.txn m (balanced_entry styles r.txn)) mark
    ∙ (ap (λ (e : Result Entry Cause). recorded r.txn r.mark e) good.legs
    ∙ ap (λ (o : Option (List ℕ)). let s : Record =
    record { mark = r.mark; txn = record r.txn { mark = o }; entry = r.entry } in s ∷ []) (sym good.marked))

pub recorded_own : (styles : List Style) (rs : List Record) (x : Located) (n : ℕ)
    → AllByRecursion (IsGoodRecord styles) rs → (own : IsOwn rs x)
    → recorded x.txn (transaction_mark styles x.txn n x.txn.mark) (balanced_entry styles x.txn) ≡ own.holder ∷ []
recorded_own styles rs x n good own =
    ap (λ (t : Txn). recorded t (transaction_mark styles t n t.mark) (balanced_entry styles t)) own.same
    ∙ recorded_again styles own.holder n (among_all (IsGoodRecord styles) rs own.holder own.among good)

among_file : (styles : List Style) (rs : List Record) (before : List Txn) (file : List Located)
    → AllByRecursion (IsGoodRecord styles) rs → IsOwnJournal rs file
    → AllByRecursion (λ (r : Record). IsAmong r rs) (records_from styles before file)
among_file styles rs before [] good own = tt
among_file styles rs before (x ∷ xs) good own =
    let rest = among_file styles rs (before ++ x.txn ∷ []) xs good own.1 in
    subst (λ (ys : List Record). AllByRecursion (λ (r : Record). IsAmong r rs)
    (ys ++ records_from styles (before ++ x.txn ∷ []) xs))
    (sym (recorded_own styles rs x (number_in styles before x.txn) good own.0)) (own.0.among, rest)

pub balanced_own : (styles : List Style) (rs : List Record) (file : List Located)
    → AllByRecursion (IsGoodRecord styles) rs → IsOwnJournal rs file → unbalanced styles file ≡ None
balanced_own styles rs [] good own = refl
balanced_own styles rs (x ∷ xs) good own =
    let fine : balanced_entry styles x.txn ≡ Ok own.0.holder.entry =
    ap (balanced_entry styles) own.0.same ∙ (among_all (IsGoodRecord styles) rs own.0.holder own.0.among good).legs in
    ap (λ (e : Result Entry Cause). option_or (fault_on x.line e) (unbalanced styles xs)) fine ∙ balanced_own styles rs
    xs good own.1

-- repeats alone
is_repeat_of : (styles : List Style) (rs : List Record) (r : Record) → IsAmong r rs → is_repeat styles rs r ≡ true
is_repeat_of styles rs r a = among_any
    (λ (h : Record). bytes_eq h.mark r.mark && bytes_eq (body_text styles h.txn) (body_text styles r.txn)) rs r
    (rw (bytes_eq-refl r.mark, bytes_eq-refl (body_text styles r.txn)) refl) a

none_refused : (styles : List Style) (lock : Option Day) (rs file : List Record)
    → AllByRecursion (λ (r : Record). IsAmong r rs) file → refused_in styles lock rs file ≡ None
none_refused styles lock rs [] h = refl
none_refused styles lock rs (r ∷ file) h = rw (is_repeat_of styles rs r h.0) (none_refused styles lock rs file h.1)

none_new : (rs file : List Record) → AllByRecursion (λ (r : Record). IsAmong r rs) file → new_in rs file ≡ []
none_new rs [] h = refl
none_new rs (r ∷ file) h =
    rw (among_any (λ (x : Record). bytes_eq x.mark r.mark) rs r (bytes_eq-refl r.mark) h.0) (none_new rs file h.1)

abbrev answer_of : List Record → ℕ → Option Refusal → Result Answer Refusal
answer_of new n o = unless (entered_answer (length new) n) o

pub own_reply : (f : Federation) (name : List ℕ) (file : List Located) → IsGoodState f → has_branch f name ≡ true
    → IsOwnJournal (records_of f name) file → reply f (cmd.Enter name file) ≡ Ok (Entered 0 (length file))
unfolding reply
own_reply f name file good here own =
    let rs = records_of f name in
    let all = of_branch (λ xs. AllByRecursion (IsGoodRecord f.styles) xs) f.styles f.branches name tt (λ b h. h.records)
    good.branches in
    let book : IsGoodBook (book_of f name) =
    of_branch (λ xs. IsGoodBook (entries xs)) f.styles f.branches name good_nil (λ b h. h.book) good.branches in
    let among = among_file f.styles rs [] file all own in
    let none : new_records f name file ≡ [] = none_new rs (records_in_file f.styles file) among in
    let passes : verdict (book_of f name ++ entries (new_records f name file)) ≡ None =
    ap (λ (xs : List Record). verdict (book_of f name ++ entries xs)) none ∙
    (ap verdict (append-nil (book_of f name)) ∙ verdict_good (book_of f name) book) in
    let refusal : enter_refusal f name file ≡ None =
    rw (
      balanced_own f.styles rs file all own,
      none_refused f.styles (lock_of f name) rs (records_in_file f.styles file) among,
    ) passes in
    ap (λ (t : Bool). if not t then Err (Plain UnknownBranch)
    else unless (entered_answer (length (new_records f name file)) (length file)) (enter_refusal f name file)) here
    ∙ (ap (λ (o : Option Refusal). answer_of (new_records f name file) (length file) o) refusal
    ∙ (ap (λ (xs : List Record). answer_of xs (length file) None) none
    ∙ ap (λ (n : ℕ). let r : Result Answer Refusal = Ok (Entered 0 n) in r) (omega arith)))

-- no new transaction: the state stays
no_records : (rs : List Record) → length rs ≡ 0 → rs ≡ []
no_records [] h = refl
no_records (r ∷ rs) h = absurd (omega arith)

abbrev count_in : Answer → ℕ
count_in (Entered new repeated) = new
count_in Done = 1
count_in Repeated = 1

abbrev count_of : Result Answer Refusal → ℕ
count_of (Ok a) = count_in a
count_of (Err e) = 1

entered_none_new : (new : List Record) (n repeated : ℕ) (t : Bool) (e : Refusal) (o : Option Refusal)
    → (if not t then Err e else answer_of new n o) ≡ Ok (Entered 0 repeated) → length new ≡ 0
entered_none_new new n repeated true e None h = ap count_of h
entered_none_new new n repeated true e (Some r) h = absurd cc
entered_none_new new n repeated false e o h = absurd cc

done_without_new : (f : Federation) (name : List ℕ) (file : List Located) → new_records f name file ≡ []
    → done f (cmd.Enter name file) ≡ f
unfolding done
done_without_new f name file h = ap (λ (xs : List Record). with_entered f name xs) h ∙ with_none f name

pub none_new_stays : (f : Federation) (name : List ℕ) (file : List Located) (repeated : ℕ)
    → reply f (cmd.Enter name file) ≡ Ok (Entered 0 repeated) → (step f (cmd.Enter name file)).next ≡ f
unfolding reply
none_new_stays f name file repeated h =
    ap (λ (r : Result Answer Refusal). after f (cmd.Enter name file) r) h
    ∙ done_without_new f name file (no_records (new_records f name file)
    (entered_none_new (new_records f name file) (length file) repeated (has_branch f name) (Plain UnknownBranch)
    (enter_refusal f name file) h))

-- what an accepted file counts
abbrev repeats_in : Answer → ℕ
repeats_in (Entered new repeated) = repeated
repeats_in Done = 0
repeats_in Repeated = 0

abbrev repeats_of : Result Answer Refusal → ℕ
repeats_of (Ok a) = repeats_in a
repeats_of (Err e) = 0

entered_counts : (new : List Record) (n m repeated : ℕ) (t : Bool) (e : Refusal) (o : Option Refusal)
    → (if not t then Err e else answer_of new n o) ≡ Ok (Entered m repeated)
    → (length new ≡ m) × (n - length new ≡ repeated)
entered_counts new n m repeated true e None h = (ap count_of h, ap repeats_of h)
entered_counts new n m repeated true e (Some r) h = absurd cc
entered_counts new n m repeated false e o h = absurd cc

pub accepted_counts : (f : Federation) (name : List ℕ) (file : List Located) (new repeated : ℕ)
    → reply f (cmd.Enter name file) ≡ Ok (Entered new repeated)
    → (length (new_records f name file) ≡ new) × (new + repeated ≡ length file)
unfolding reply
accepted_counts f name file new repeated h =
    let counted_ = entered_counts (new_records f name file) (length file) new repeated (has_branch f name)
    (Plain UnknownBranch) (enter_refusal f name file) h in
    let few = length-new (records_of f name) (records_in_file f.styles file) in
    let all = length-records f.styles [] file in
    (counted_.0, omega (arith, counted_.0, counted_.1, few, all))

all_printable : (styles : List Style) (all rs : List Record) → AllByRecursion (IsGoodRecord styles) all
    → AreAmong all rs → AllByRecursion (IsPrintable styles) (txns_in rs)
all_printable styles all [] good among = tt
all_printable styles all (r ∷ rs) good among =
    ((among_all (IsGoodRecord styles) all r among.0 good).printable, all_printable styles all rs good among.1)

pub printed_reads : (f : Federation) (name : List ℕ) (rs : List Record) → IsGoodState f
    → AreAmong (records_of f name) rs → FitsText f.styles (txns_in rs)
    → Reads f.styles (journal_text f.styles (txns_in rs)) (located_from f.styles 1 (txns_in rs))
printed_reads f name rs good among fits =
    let all = of_branch (λ xs. AllByRecursion (IsGoodRecord f.styles) xs) f.styles f.branches name tt (λ b h. h.records)
    good.branches in
    lists_read_back f.styles good.styles (txns_in rs) (all_printable f.styles (records_of f name) rs all among) fits

-- what is read is the branch's own
printed_own : (styles : List Style) (all : List Record) (n : ℕ) (rs : List Record) → AreAmong all rs
    → IsOwnJournal all (located_from styles n (txns_in rs))
printed_own styles all n [] among = tt
printed_own styles all n (r ∷ rs) among = (
  record { holder = r; among = among.0; same = refl },
  printed_own styles all (n + (length (txn_lines styles r.txn) + 1)) rs among.1,
)

printed_length : (styles : List Style) (n : ℕ) (rs : List Record)
    → length (located_from styles n (txns_in rs)) ≡ length rs
printed_length styles n [] = refl
printed_length styles n (r ∷ rs) = ap suc (printed_length styles (n + (length (txn_lines styles r.txn) + 1)) rs)

pub printed_enters : (f : Federation) (name : List ℕ) (rs : List Record) (file : List Located) → IsGoodState f
    → has_branch f name ≡ true → AreAmong (records_of f name) rs → FitsText f.styles (txns_in rs)
    → Reads f.styles (journal_text f.styles (txns_in rs)) file
    → (reply f (Enter name file) ≡ Ok (Entered 0 (length rs))) × ((step f (Enter name file)).next ≡ f)
printed_enters f name rs file good here among fits reads =
    let same : file ≡ located_from f.styles 1 (txns_in rs) =
    one_list f.styles (journal_text f.styles (txns_in rs)) file (located_from f.styles 1 (txns_in rs)) reads
    (printed_reads f name rs good among fits) in
    let own =
    subst (IsOwnJournal (records_of f name)) (sym same) (printed_own f.styles (records_of f name) 1 rs among) in
    let answer = own_reply f name file good here own in (
      answer ∙ ap (λ (n : ℕ). let r : Result Answer Refusal = Ok (Entered 0 n) in r)
          (ap (λ (xs : List Located). length xs) same ∙ printed_length f.styles 1 rs),
      none_new_stays f name file (length file) answer,
    )

done_records : (f : Federation) (name : List ℕ) (file : List Located) (a : Answer) → reply f (Enter name file) ≡ Ok a
    → records_of (done f (Enter name file)) name ≡ records_of f name ++ new_records f name file
unfolding done
done_records f name file a h =
    records-entered (new_records f name file) f.branches name name (file_accepted f name file a h).there
    ∙ ap (λ (t : Bool). records_of f name ++ (if t then new_records f name file else [])) (bytes_eq-refl name)

pub entered_records : (f : Federation) (name : List ℕ) (file : List Located) (new repeated : ℕ)
    → reply f (Enter name file) ≡ Ok (Entered new repeated)
    → records_of (step f (Enter name file)).next name ≡ records_of f name ++ new_records f name file
entered_records f name file new repeated h =
    ap (λ (r : Result Answer Refusal). records_of (after f (Enter name file) r) name) h ∙ done_records f name file
    (Entered new repeated) h
