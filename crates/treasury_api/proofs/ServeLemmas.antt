-- A line is served on a treasury as a run answers it.
use Rattle.std.proofs.Common.{◌≡◌, ◌++◌, ◌⊎◌, ◌||◌, ℕ, ℤ, List, [], Bool, true, false, not, if◌then◌else◌, Option, Some}
use Rattle.std.proofs.Common.{None, Result, Ok, Err, IsSome, IsTrue, MatchResult, refl, ap, ◌∙◌, sym, subst, inl, inr}
use Rattle.std.proofs.Common.{◌≢◌, append-nil}
use Rattle.sqlite.specs.Store.{Ghosts}
use Rattle.sqlite.specs.Held.{Held, state}
use Rattle.money_core.specs.declared.style.Style.{Style}
use Rattle.money_core.specs.declared.unit.Unit.{Unit as Commodity}
use Rattle.money_core.specs.declared.day.Day.{Day}
use Rattle.money_core.specs.Sampling.{style_of}
use Rattle.money_core.specs.Reading.{amount}
use Rattle.money_core.specs.declared.cause.Cause.{Cause}
use Rattle.money_core.specs.declared.cause.Cause.TheVariants.{OutOfMemory, UnknownBranch, Closed, Request as NoRequest}
use Rattle.money_core.specs.declared.cause.Cause.TheVariants.{Store as Failed}
use Rattle.book_core.specs.declared.refusal.Refusal.{Refusal}
use Rattle.book_core.specs.declared.refusal.Refusal.TheVariants.{Plain, Text, ClaimFailed}
use Rattle.treasury_state.specs.Federation.{Federation}
use Rattle.treasury_state.specs.Rows.{rows}
use Rattle.treasury_core.specs.declared.command.Answer.{Answer}
use Rattle.treasury_core.specs.declared.command.Answer.TheVariants.{Done}
use Rattle.treasury_core.specs.declared.command.Command.{Command as AnyCommand}
use Rattle.treasury_tables.specs.Kept.{IsFaithful}
use Rattle.treasury_store.specs.Treasury.{Treasury, IsTreasuryOf, is_failure}
use Rattle.treasury_store.proofs.LeftLemmas.{shuts_same}
use Rattle.treasury_requests.specs.declared.request.Spelled.{Spelled}
use Rattle.treasury_requests.specs.declared.request.Request.{Request}
use Rattle.treasury_requests.specs.declared.request.Request.TheVariants.{Branch as ForBranch, Commodity as ForCommodity}
use Rattle.treasury_requests.specs.declared.request.Request.TheVariants.{Import as ForImport, Dispatch as ForDispatch}
use Rattle.treasury_requests.specs.declared.request.Request.TheVariants.{Receive as ForReceive, Lock as ForLock}
use Rattle.treasury_requests.specs.declared.request.Request.TheVariants.{Close as ForClose}
use Rattle.http_request.specs.declared.call.Form.TheVariants as form
use Rattle.treasury_api.specs.declared.asking.Asked.{Asked}
use Rattle.treasury_api.specs.declared.asking.Asked.TheVariants.{Command, DryRun, Report}
use Rattle.treasury_requests.specs.Request.{spelled, is_report}
use Rattle.treasury_api.specs.Asked.{AsksOf, Asks, RequestAsks, SpelledAsks, asked_by_sample, asked_by_amount}
use Rattle.treasury_api.specs.Asked.{asked_by_part}
use Rattle.treasury_api.specs.Report.{report_text, has_its_branch}
use Rattle.treasury_api.specs.Answer.{answer_text, IsPlainAnswer}
use Rattle.treasury_api.specs.Step.{Answers, MayReplyAsked, after_asked, next, reply_text}
use Rattle.treasury_api.specs.Left.{IsOpenBut, KeepsDatabase, LeavesRequest, LeavesReply}
use Rattle.treasury_api.specs.Replied.{standing, body_of, IsLineOf, IsLineIn, IsAnswered, Serves}
use Rattle.treasury_api.specs.Serving.{end_of_report, OrMemory}
use Rattle.treasury_api.specs.WebReply.{cause_of}
use Rattle.treasury_api.specs.WebServing.{IsLineBy, IsToldBy}
use Rattle.treasury_api.proofs.AnswerLemmas.{ReadsAll, spelled_asks}
use Rattle.treasury_api.proofs.SpelledLemmas.{spelled_command, spelled_report, spelled_dry_run}
use Rattle.treasury_api.proofs.ReplyLemmas.{state_is, same_line, refusal_is}
use Rattle.treasury_api.proofs.LeftLemmas.{LeavesShown, leaves_first}

-- every line asks something
line_asks : ReadsAll → (failed : Bool) (f : Federation) (line : List ℕ)
    → (asked : Result Asked Refusal) × Asks failed f line asked
line_asks law failed f line = by_request (spelled line) refl
  where
    of_request : (b : Bool) (request : Spelled) → (asked : Result Asked Refusal) × AsksOf b f request asked
    of_request true request = (Err (Plain Closed), refl)
    of_request false request = spelled_asks law f request

    by_request : (o : Option Spelled) → spelled line ≡ o
        → (asked : Result Asked Refusal) × Asks failed f line asked
    by_request (Some request) e = let a = of_request failed request in (a.0, inl (request, (e, a.1)))
    by_request None e = (Err (Plain NoRequest), inr (e, refl))

or_false : (b : Bool) → b ≡ (b || false)
or_false true = refl
or_false false = refl

-- a plain refusal is the same line under all commodities
pub plain_line : (styles : List Style) (cause : Cause)
    → answer_text [] (Err (Plain cause)) ≡ answer_text styles (Err (Plain cause))
unfolding answer_text
plain_line styles cause = refl

-- the line of a refusal, on an empty vector
pub refused_line : (styles : List Style) (refusal : Refusal) (cause : Cause) (empty text : List ℕ) → empty ≡ []
    → text ≡ empty ++ answer_text styles (Err refusal) → cause ≡ cause_of refusal → IsLineBy styles refusal cause text
refused_line styles (Plain because) cause empty text none said is = (
  said ∙ (ap (λ (xs : List ℕ). xs ++ answer_text styles (Err (Plain because))) none ∙ sym
      (plain_line styles because)),
  is,
)
refused_line styles (Text fault) cause empty text none said is =
    inr (said ∙ ap (λ (xs : List ℕ). xs ++ answer_text styles (Err (Text fault))) none, is)
refused_line styles (ClaimFailed failure) cause empty text none said is =
    inr (said ∙ ap (λ (xs : List ℕ). xs ++ answer_text styles (Err (ClaimFailed failure))) none, is)

-- that of want of memory in place of one that is not plain
pub memory_line : (styles : List Style) (refusal : Refusal) (text : List ℕ) → ((x : Cause) → refusal ≢ Plain x)
    → text ≡ answer_text [] (Err (Plain OutOfMemory)) → IsLineBy styles refusal OutOfMemory text
memory_line styles (Plain because) text other said = absurd (other because refl)
memory_line styles (Text fault) text other said = inl (said, refl)
memory_line styles (ClaimFailed failure) text other said = inl (said, refl)

-- what is known of the line alone
line_in : (styles : List Style) (refusal : Refusal) (cause : Cause) (text : List ℕ) → IsLineBy styles refusal cause text
    → IsLineIn styles refusal text
line_in styles (Plain because) cause text by = by.0
line_in styles (Text fault) cause text (inl memory) = inl memory.0
line_in styles (Text fault) cause text (inr said) = inr said.0
line_in styles (ClaimFailed failure) cause text (inl memory) = inl memory.0
line_in styles (ClaimFailed failure) cause text (inr said) = inr said.0

pub line_of : {S : Type 0} (t : Treasury S) (refusal : Refusal) (cause : Cause) (text : List ℕ)
    → IsToldBy t refusal cause text → IsLineOf t refusal text
line_of t (Plain because) cause text by = by.0
line_of t (Text fault) cause text (s, (held, by)) = (s, (held, line_in s.styles (Text fault) cause text by))
line_of t (ClaimFailed failure) cause text (s, (held, by)) =
    (s, (held, line_in s.styles (ClaimFailed failure) cause text by))

-- ---- a line that spells no request, or for which there was no memory

pub after_plain : (f : Federation) (asked : Result Asked Refusal) (refusal : Refusal)
    → f ≡ after_asked f asked (Err refusal)
after_plain f (Ok (Command c)) refusal = refl
after_plain f (Ok (DryRun c)) refusal = refl
after_plain f (Ok (Report report)) refusal = refl
after_plain f (Err e) refusal = refl

next_of_harmless : {S : Type 0} (t : Treasury S) (f : Federation) (asked : Result Asked Refusal) (cause : Cause)
    → is_failure (Err (Plain cause)) ≡ false → standing t f ≡ next (standing t f) asked (Err (Plain cause))
next_of_harmless t f asked cause harmless =
    let same : t.store.failed ≡ (t.store.failed || is_failure (Err (Plain cause))) =
    or_false t.store.failed ∙ ap (λ (b : Bool). t.store.failed || b) (sym harmless) in
    ap (λ (now : Federation). record { now = now; failed = t.store.failed }) (after_plain f asked (Plain cause)) ∙ ap
    (λ (b : Bool). record { now = after_asked f asked (Err (Plain cause)); failed = b }) same

pub unread_line_served : {S : Type 0} → ReadsAll → (g : Ghosts S) → LeavesShown g
    → (t : Treasury S) (line text : List ℕ) (cause : Cause) (read : Result Spelled Cause) → read ≡ Err cause
    → (read ≡ Err NoRequest → spelled line ≡ None)
    → (cause ≡ NoRequest) ⊎ (cause ≡ OutOfMemory) → text ≡ answer_text [] (Err (Plain cause)) → Serves g t line text t
unread_line_served law g shown t line text cause read is none causes said = record {
  answers = λ clean f of. (
    f,
    (
      of,
      (
        by_cause f causes,
        λ is_open unfailed.
            (leaves_first g t.store.conn (rows f) _ (shown t.store.conn (rows f) of.store.tables is_open), inl is_open),
      ),
    ),
  );
  shuts = shuts_same g t.store.conn;
  closed = λ failed. refl;
}
  where
    by_cause : (f : Federation) → (cause ≡ NoRequest) ⊎ (cause ≡ OutOfMemory)
        → Answers (standing t f) line text (standing t f)
    by_cause f (inl form) = record {
      asked = Err (Plain NoRequest);
      reply = Err (Plain NoRequest);
      asks = inr (none (is ∙ ap (λ (x : Cause). Err x) form), refl);
      replies = (inl refl, λ e. absurd cc);
      text = said ∙ (plain_line f.styles cause ∙ ap (λ (x : Cause). answer_text f.styles (Err (Plain x))) form);
      left = next_of_harmless t f (Err (Plain NoRequest)) NoRequest refl;
    }
    by_cause f (inr memory) =
        let asked = line_asks law t.store.failed f line in
        record {
          asked = asked.0;
          reply = Err (Plain OutOfMemory);
          asks = asked.1;
          replies = (inr (inl refl), λ e. absurd cc);
          text = said ∙ (plain_line f.styles cause ∙ ap (λ (x : Cause). answer_text f.styles (Err (Plain x))) memory);
          left = next_of_harmless t f asked.0 OutOfMemory refl;
        }

-- ---- a request that is answered

-- what asks for a command is no report
command_asks : (styles : List Style) (request : Request) (c : AnyCommand) → RequestAsks styles request (Ok (Command c))
    → is_report request ≡ false
command_asks styles (ForBranch name) c asks = refl
command_asks styles (ForCommodity sample) c asks = refl
command_asks styles (ForImport name journal) c asks = refl
command_asks styles (ForDispatch id from to day text account) c asks = refl
command_asks styles (ForReceive id name day account part) c asks = refl
command_asks styles (ForLock name day) c asks = refl
command_asks styles (ForClose name day accounts into) c asks = refl
command_asks styles request c asks = absurd cc

dry_run_asks : (styles : List Style) (request : Request) (c : AnyCommand) → RequestAsks styles request (Ok (DryRun c))
    → is_report request ≡ false
dry_run_asks styles (ForBranch name) c asks = refl
dry_run_asks styles (ForCommodity sample) c asks = refl
dry_run_asks styles (ForImport name journal) c asks = refl
dry_run_asks styles (ForDispatch id from to day text account) c asks = refl
dry_run_asks styles (ForReceive id name day account part) c asks = refl
dry_run_asks styles (ForLock name day) c asks = refl
dry_run_asks styles (ForClose name day accounts into) c asks = refl
dry_run_asks styles request c asks = absurd cc

pub asks_report : (failed : Bool) (f : Federation) (request : Spelled) (c : AnyCommand)
    → AsksOf failed f request (Ok (Command c)) → is_report request.request ≡ false
asks_report true f request c asks = absurd cc
asks_report false f request c asks = command_asks f.styles request.request c (spelled_command f request c asks)

pub asks_dry_run : (failed : Bool) (f : Federation) (request : Spelled) (c : AnyCommand)
    → AsksOf failed f request (Ok (DryRun c)) → is_report request.request ≡ false
asks_dry_run true f request c asks = absurd cc
asks_dry_run false f request c asks = elim (spelled_dry_run f request c asks) [
  | inl command ↦ command_asks f.styles request.request c command
  | inr dry ↦ dry_run_asks f.styles request.request c dry
]

by_sample : (o : Option Style) (report : Request) (P : Type 0) → Ok (Report report) ≡ asked_by_sample o → P
by_sample None report P e = absurd cc
by_sample (Some style) report P e = absurd cc

by_amount : (id from to account : List ℕ) (day : Day) (r : Result (Commodity × ℤ) Cause) (report : Request)
    (P : Type 0) → Ok (Report report) ≡ asked_by_amount id from to day account r → P
by_amount id from to account day (Ok (unit, qty)) report P e = absurd cc
by_amount id from to account day (Err cause) report P e = absurd cc

by_part : (id name account key : List ℕ) (day : Day) (r : Result (Commodity × ℤ) Cause) (report : Request)
    (P : Type 0) → Ok (Report report) ≡ asked_by_part id name day account key r → P
by_part id name account key day (Ok (unit, qty)) report P e = absurd cc
by_part id name account key day (Err cause) report P e = absurd cc

pub report_asks : (styles : List Style) (request report : Request)
    → RequestAsks styles request (Ok (Report report)) → is_report request ≡ true
report_asks styles (ForBranch name) report asks = absurd cc
report_asks styles (ForCommodity sample) report asks = by_sample (style_of sample) report _ asks
report_asks styles (ForImport name journal) report (inl reads) = absurd (let e = reads.1.1 in cc)
report_asks styles (ForImport name journal) report (inr fault) = absurd (let e = fault.1.1 in cc)
report_asks styles (ForDispatch id from to day text account) report asks =
    by_amount id from to account day (amount styles text) report _ asks
report_asks styles (ForReceive id name day account None) report asks = absurd cc
report_asks styles (ForReceive id name day account (Some part)) report asks =
    by_part id name account part.key day (amount styles part.amount) report _ asks
report_asks styles (ForLock name day) report asks = absurd cc
report_asks styles (ForClose name day accounts into) report asks = absurd cc
report_asks styles request report asks = refl

pub no_report : (failed : Bool) (f : Federation) (request : Spelled) (report : Request)
    → AsksOf failed f request (Ok (Report report)) → is_report request.request ≡ true
no_report true f request report asks = absurd cc
no_report false f request report asks =
    report_asks f.styles request.request report (spelled_report f request report asks)

-- what is asked is a report where the request is one
pub asked_report : (f : Federation) (request : Spelled) (asked : Asked) (report : Request)
    → asked ≡ Report report → OrMemory (SpelledAsks f request) (Ok asked) → is_report request.request ≡ true
asked_report f request asked report is (inl memory) = absurd cc
asked_report f request asked report is (inr asks) =
    no_report false f request report (subst (λ (x : Asked). SpelledAsks f request (Ok x)) is asks)

-- what is replied leads on
pub standing_is_next : {S : Type 0} (old new : Treasury S) (f : Federation) (asked : Result Asked Refusal)
    (r : Result Answer Refusal) → new.store.failed ≡ (old.store.failed || is_failure r)
    → standing new (after_asked f asked r) ≡ next (standing old f) asked r
standing_is_next old new f asked r left = ap (λ (b : Bool). record { now = after_asked f asked r; failed = b }) left

spelled_some : (line : List ℕ) (request : Spelled) → spelled line ≡ Some request → IsSome (spelled line)
spelled_some line request is = subst (λ (o : Option Spelled). IsSome o) (sym is) cc

-- a report whose branch is there is replied to by `ok`
done_only : (f : Federation) (failed : Bool) (report : Request) (answer : Answer)
    → MayReplyAsked (record { now = f; failed = failed }) (Ok (Report report)) (Ok answer) → answer ≡ Done
done_only f failed report answer (inl e) = by_branch (has_its_branch f report) e
  where
    by_branch : (t : Bool) → Ok answer ≡ (if not t then Err (Plain UnknownBranch) else Ok Done) → answer ≡ Done
    by_branch true e = cc
    by_branch false e = absurd cc
done_only f failed report answer (inr (inl e)) = absurd cc
done_only f failed report answer (inr (inr e)) = absurd (let k = e.1 in cc)

-- nothing that is refused is answered
pub refused_only : (f : Federation) (failed : Bool) (refusal : Refusal) (answer : Answer) (P : Type 0)
    → MayReplyAsked (record { now = f; failed = failed }) (Err refusal) (Ok answer) → P
refused_only f failed refusal answer P (inl e) = absurd cc
refused_only f failed refusal answer P (inr (inl e)) = absurd cc
refused_only f failed refusal answer P (inr (inr e)) = absurd (let k = e.1 in cc)

-- the text of an answer: the line that ends a report stands after it
whole_text : (f : Federation) (failed : Bool) (request : Spelled) (asked : Result Asked Refusal) (answer : Answer)
    (written text : List ℕ) → AsksOf failed f request asked
    → MayReplyAsked (record { now = f; failed = failed }) asked (Ok answer) → written ≡ []
    ++ body_of form.Text f asked answer
    → text ≡ written ++ end_of_report request.request → text ≡ reply_text f asked (Ok answer)
whole_text f failed request (Ok (Command c)) answer written text asks replies said ended =
    let none : end_of_report request.request ≡ [] =
    ap (λ (t : Bool). if t then answer_text [] (Ok Done) else []) (asks_report failed f request c asks) in
    ended ∙ (ap (λ (xs : List ℕ). written ++ xs) none ∙ (append-nil written ∙ said))
whole_text f failed request (Ok (DryRun c)) answer written text asks replies said ended =
    let none : end_of_report request.request ≡ [] =
    ap (λ (t : Bool). if t then answer_text [] (Ok Done) else []) (asks_dry_run failed f request c asks) in
    ended ∙ (ap (λ (xs : List ℕ). written ++ xs) none ∙ (append-nil written ∙ said))
whole_text f failed request (Ok (Report report)) answer written text asks replies said ended =
    let last : end_of_report request.request ≡ answer_text [] (Ok Done) =
    ap (λ (t : Bool). if t then answer_text [] (Ok Done) else []) (no_report failed f request report asks) in
    ended ∙ (ap (λ (xs : List ℕ). written ++ xs) (last ∙ same_line f.styles Done) ∙
    (ap (λ (xs : List ℕ). xs ++ answer_text f.styles (Ok Done)) said
    ∙ ap (λ (a : Answer). report_text f report ++ answer_text f.styles (Ok a))
    (sym (done_only f failed report answer replies))))
whole_text f failed request (Err refusal) answer written text asks replies said ended =
    refused_only f failed refusal answer _ replies

-- what else a request makes of a treasury
pub record Beside {S : Type 0} (g : Ghosts S) (old new : Treasury S) (request : Spelled)
    (made : Result (Unit {0}) Refusal) : Type 0 where
  pub database : KeepsDatabase g old.store.conn new.store.conn made
  pub closed : IsTrue old.store.failed → (made ≡ Err (Plain Closed)) × (new ≡ old)
  pub left : LeavesRequest g old new request

-- where it is replied to so, the database is open, or not
replied_open : {S T X : Type 0} (g : Ghosts S) (new : Held S) (made : Result T Refusal) (reply : Result X Refusal)
    → (made ≡ Err (Plain Failed) → reply ≡ Err (Plain Failed)) → IsOpenBut g new made → IsOpenBut g new reply
replied_open g new made reply failed (inl still) = inl still
replied_open g new made reply failed (inr is) = inr (failed is)

done_not : (r : Result (Unit {0}) Refusal) (x : Unit {0}) (e : Refusal) → r ≡ Ok x → r ≡ Err e → ⊥
done_not r x e h k = cc

-- an answer with its end
pub answered_line_served : {S : Type 0} (g : Ghosts S) (old new : Treasury S) (line written text : List ℕ)
    (request : Spelled) (made : Result (Unit {0}) Refusal) (x : Unit {0}) → spelled line ≡ Some request → made ≡ Ok x
    → Beside g old new request made
    → (IsFaithful g new.store.conn → (f : Federation) → IsTreasuryOf g old f
    → IsAnswered g old.store.failed new f request made [] written)
    → text ≡ written ++ end_of_report request.request → Serves g old line text new
answered_line_served g old new line written text request made x is ok beside answers ended = record {
  answers = λ k f of. by_reply k f of (answers k f of);
  shuts = beside.database.shuts;
  closed = λ failed. (beside.closed failed).1;
}
  where
    by_reply : IsFaithful g new.store.conn → (f : Federation) → IsTreasuryOf g old f
        → IsAnswered g old.store.failed new f request made [] written
        → (end : Federation) × (IsTreasuryOf g new end
        × ((a : Answers (standing old f) line text (standing new end)) × LeavesReply g old new f a.asked a.reply))
    by_reply clean f of (asked, (asks, r)) =
        let told = subst (λ (m : Result (Unit {0}) Refusal).
        MatchResult m (λ _. (answer : Answer)
        × ((r.reply ≡ Ok answer) × (written ≡ [] ++ body_of form.Text f asked answer)))
        (λ refusal. (r.reply ≡ Err refusal) × (written ≡ []))) ok r.text in (
          after_asked f asked r.reply,
          (
            r.of,
            (
              record {
                asked = asked;
                reply = r.reply;
                asks = inl (request, (is, asks));
                replies = (r.replies, λ _. spelled_some line request is);
                text = whole_text f old.store.failed request asked told.0 written text asks
                    (subst (λ (y : Result Answer Refusal).
                    MayReplyAsked (record { now = f; failed = old.store.failed }) asked y) told.1.0 r.replies) told.1.1
                    ended
                    ∙ ap (λ (y : Result Answer Refusal). reply_text f asked y) (sym told.1.0);
                left = standing_is_next old new f asked r.reply r.left;
              },
              λ is_open unfailed. (
                beside.left clean is_open f of asked asks,
                replied_open g new.store.conn made r.reply
                    (λ e. absurd (done_not made x (Plain Failed) ok e)) (beside.database.open_but clean is_open),
              ),
            ),
          ),
        )

-- want of memory in place of the end of a report
pub served_memory : {S : Type 0} (g : Ghosts S) (old new : Treasury S) (line written text : List ℕ) (request : Spelled)
    (made : Result (Unit {0}) Refusal) (x : Unit {0}) → spelled line ≡ Some request → made ≡ Ok x
    → Beside g old new request made
    → (IsFaithful g new.store.conn → (f : Federation) → IsTreasuryOf g old f
    → IsAnswered g old.store.failed new f request made [] written)
    → is_report request.request ≡ true → text ≡ answer_text [] (Err (Plain OutOfMemory)) → Serves g old line text new
served_memory g old new line written text request made x is ok beside answers report said = record {
  answers = λ k f of. by_reply k f of (answers k f of);
  shuts = beside.database.shuts;
  closed = λ failed. (beside.closed failed).1;
}
  where
    Told : Federation → Type 0
    Told f = (end : Federation) × (IsTreasuryOf g new end
        × ((a : Answers (standing old f) line text (standing new end)) × LeavesReply g old new f a.asked a.reply))

    by_asked : (f : Federation) (asked : Result Asked Refusal) (answer : Answer)
        → AsksOf old.store.failed f request asked
        → MayReplyAsked (record { now = f; failed = old.store.failed }) asked (Ok answer)
        → IsTreasuryOf g new (after_asked f asked (Ok answer)) → new.store.failed ≡ (old.store.failed || false)
        → LeavesReply g old new f asked (Err (Plain OutOfMemory)) → Told f
    by_asked f (Ok (Command c)) answer asks replies of left leaves =
        absurd (let e : true ≡ false = sym report ∙ asks_report old.store.failed f request c asks in cc)
    by_asked f (Ok (DryRun c)) answer asks replies of left leaves =
        absurd (let e : true ≡ false = sym report ∙ asks_dry_run old.store.failed f request c asks in cc)
    by_asked f (Ok (Report asked)) answer asks replies of left leaves = (
      f,
      (
        of,
        (
          record {
            asked = Ok (Report asked);
            reply = Err (Plain OutOfMemory);
            asks = inl (request, (is, asks));
            replies = (inr (inl refl), λ e. absurd cc);
            text = said ∙ plain_line f.styles OutOfMemory;
            left = standing_is_next old new f (Ok (Report asked)) (Err (Plain OutOfMemory)) left;
          },
          leaves,
        ),
      ),
    )
    by_asked f (Err refusal) answer asks replies of left leaves =
        refused_only f old.store.failed refusal answer _ replies

    by_reply : IsFaithful g new.store.conn → (f : Federation) → IsTreasuryOf g old f
        → IsAnswered g old.store.failed new f request made [] written → Told f
    by_reply clean f of (asked, (asks, r)) =
        let told = subst (λ (m : Result (Unit {0}) Refusal).
        MatchResult m (λ _. (answer : Answer)
        × ((r.reply ≡ Ok answer) × (written ≡ [] ++ body_of form.Text f asked answer)))
        (λ refusal. (r.reply ≡ Err refusal) × (written ≡ []))) ok r.text in
        by_asked f asked told.0 asks (subst
        (λ (y : Result Answer Refusal). MayReplyAsked (record { now = f; failed = old.store.failed }) asked y) told.1.0
        r.replies)
        (subst (λ (y : Result Answer Refusal). IsTreasuryOf g new (after_asked f asked y)) told.1.0 r.of)
        (r.left ∙ ap (λ (y : Result Answer Refusal). old.store.failed || is_failure y) told.1.0)
        (λ is_open unfailed. (
          beside.left clean is_open f of asked asks,
          replied_open g new.store.conn made (Err (Plain OutOfMemory))
              (λ e. absurd (done_not made x (Plain Failed) ok e)) (beside.database.open_but clean is_open),
        ))

-- ---- a request that is refused

-- the line of a refusal on the treasury that is of the state, or that of 40
pub data_line : {S : Type 0} (g : Ghosts S) (new : Treasury S) (f : Federation) (refusal : Refusal) (text : List ℕ)
    → IsTreasuryOf g new f → IsLineOf new refusal text
    → (text ≡ answer_text f.styles (Err refusal))
    ⊎ ((text ≡ answer_text f.styles (Err (Plain OutOfMemory))) × (is_failure (Err refusal) ≡ false))
data_line g new f (Plain cause) text of said = inl (said ∙ plain_line f.styles cause)
data_line g new f (Text fault) text of (s, (held, inl memory)) = inr (memory ∙ plain_line f.styles OutOfMemory, refl)
data_line g new f (Text fault) text of (s, (held, inr said)) =
    inl (said ∙ ap (λ (x : Federation). answer_text x.styles (Err (Text fault))) (state_is g new s f of held))
data_line g new f (ClaimFailed failure) text of (s, (held, inl memory)) =
    inr (memory ∙ plain_line f.styles OutOfMemory, refl)
data_line g new f (ClaimFailed failure) text of (s, (held, inr said)) =
    inl (said ∙ ap (λ (x : Federation). answer_text x.styles (Err (ClaimFailed failure))) (state_is g new s f of held))

pub served_refusal : {S : Type 0} (g : Ghosts S) (old new : Treasury S) (line written text : List ℕ) (request : Spelled)
    (made : Result (Unit {0}) Refusal) (refusal : Refusal) → spelled line ≡ Some request → made ≡ Err refusal
    → Beside g old new request made
    → (IsFaithful g new.store.conn → (f : Federation) → IsTreasuryOf g old f
    → IsAnswered g old.store.failed new f request made [] written)
    → IsLineOf new refusal text → Serves g old line text new
served_refusal g old new line written text request made refusal is refused beside answers said = record {
  answers = λ k f of. by_reply k f of (answers k f of);
  shuts = beside.database.shuts;
  closed = λ failed. (beside.closed failed).1;
}
  where
    Told : Federation → Type 0
    Told f = (end : Federation) × (IsTreasuryOf g new end
        × ((a : Answers (standing old f) line text (standing new end)) × LeavesReply g old new f a.asked a.reply))

    same_refusal : (other : Refusal) → made ≡ Err other → refusal ≡ other
    same_refusal other e = refusal_is made refusal other refused e

    by_line : IsFaithful g new.store.conn → (f : Federation) → IsTreasuryOf g old f
        → (asked : Result Asked Refusal) → AsksOf old.store.failed f request asked
        → MayReplyAsked (record { now = f; failed = old.store.failed }) asked (Err refusal) → IsTreasuryOf g new f
        → new.store.failed ≡ (old.store.failed || is_failure (Err refusal))
        → (text ≡ answer_text f.styles (Err refusal))
        ⊎ ((text ≡ answer_text f.styles (Err (Plain OutOfMemory))) × (is_failure (Err refusal) ≡ false)) → Told f
    by_line clean f was asked asks replies of left (inl told) = (
      f,
      (
        of,
        (
          record {
            asked = asked;
            reply = Err refusal;
            asks = inl (request, (is, asks));
            replies = (replies, λ _. spelled_some line request is);
            text = told;
            left =
                ap (λ (x : Federation). standing new x) (after_plain f asked refusal) ∙ standing_is_next old new f asked
                (Err refusal) left;
          },
          λ is_open unfailed. (
            beside.left clean is_open f was asked asks,
            replied_open g new.store.conn made (Err refusal)
                (λ e. ap (λ (x : Refusal). Err x) (same_refusal (Plain Failed) e))
                (beside.database.open_but clean is_open),
          ),
        ),
      ),
    )
    by_line clean f was asked asks replies of left (inr (told, harmless)) = (
      f,
      (
        of,
        (
          record {
            asked = asked;
            reply = Err (Plain OutOfMemory);
            asks = inl (request, (is, asks));
            replies = (inr (inl refl), λ _. spelled_some line request is);
            text = told;
            left = ap (λ (x : Federation). standing new x) (after_plain f asked (Plain OutOfMemory))
                ∙ standing_is_next old new f asked (Err (Plain OutOfMemory))
                (left ∙ ap (λ (b : Bool). old.store.failed || b) harmless);
          },
          λ is_open unfailed. (
            beside.left clean is_open f was asked asks,
            replied_open g new.store.conn made (Err (Plain OutOfMemory))
                (λ e. absurd (let clash : true ≡ false =
                sym (ap (λ (x : Refusal). is_failure (Err x)) (same_refusal (Plain Failed) e)) ∙ harmless in cc))
                (beside.database.open_but clean is_open),
          ),
        ),
      ),
    )

    by_reply : IsFaithful g new.store.conn → (f : Federation) → IsTreasuryOf g old f
        → IsAnswered g old.store.failed new f request made [] written → Told f
    by_reply clean f was (asked, (asks, r)) =
        let told = subst (λ (m : Result (Unit {0}) Refusal).
        MatchResult m (λ _. (answer : Answer)
        × ((r.reply ≡ Ok answer) × (written ≡ [] ++ body_of form.Text f asked answer)))
        (λ e. (r.reply ≡ Err e) × (written ≡ []))) refused r.text in
        let of : IsTreasuryOf g new f =
        subst (IsTreasuryOf g new) (sym (after_plain f asked refusal))
        (subst (λ (y : Result Answer Refusal). IsTreasuryOf g new (after_asked f asked y)) told.0 r.of) in
        by_line clean f was asked asks (subst
        (λ (y : Result Answer Refusal). MayReplyAsked (record { now = f; failed = old.store.failed }) asked y) told.0
        r.replies) of
        (r.left ∙ ap (λ (y : Result Answer Refusal). old.store.failed || is_failure y) told.0)
        (data_line g new f refusal text of said)
