-- A request is answered in JSON.
use Rattle.std.proofs.Common.{◌≡◌, ◌≤◌, ◌<◌, ◌-◌, ◌+◌, ◌++◌, ◌∷◌, [], ◌⊎◌, ℕ, List, length, take, codes, arith, true}
use Rattle.std.proofs.Common.{false}
use Rattle.std.proofs.Common.{Bool, ◌==◌, ◌&&◌, ◌||◌, if◌then◌else◌, Option, Some, None, IfSome, option_and_then}
use Rattle.std.specs.Prelude.{nat_le, MatchOption, option_map}
use Rattle.std.proofs.Common.{refl, ap, ◌∙◌, sym, subst, inl, inr, Result, Ok, Err, IsTrue, decimal, length-append}
use Rattle.std.proofs.lemmas.List.{take_at}
use Rattle.std.specs.Fmt.{digits}
use Rattle.std.specs.Str.{is_utf8}
use Rattle.sqlite.specs.Store.{Ghosts}
use Rattle.sqlite.specs.Held.{state}
use Rattle.http_request.specs.declared.call.Form.TheVariants as form
use Rattle.money_core.specs.declared.style.Style.{Style}
use Rattle.money_core.specs.declared.cause.Cause.{Cause}
use Rattle.money_core.specs.declared.cause.Cause.TheVariants as is
use Rattle.money_core.specs.declared.cause.Cause.TheVariants.{OutOfMemory, Store as Failed, Request as NoRequest}
use Rattle.money_core.specs.Cause.{cause_number, cause_name}
use Rattle.book_core.specs.declared.refusal.Refusal.{Refusal}
use Rattle.book_core.specs.declared.refusal.Refusal.TheVariants.{Plain, Text, ClaimFailed}
use Rattle.treasury_state.specs.Federation.{Federation}
use Rattle.treasury_core.specs.declared.command.Answer.{Answer}
use Rattle.treasury_store.specs.Treasury.{Treasury, IsTreasuryOf, is_failure}
use Rattle.treasury_requests.specs.declared.request.Spelled.{Spelled}
use Rattle.treasury_requests.specs.Request.{is_report}
use Rattle.treasury_api.specs.declared.asking.Asked.{Asked}
use Rattle.treasury_api.specs.declared.asking.Asked.TheVariants.{Command, DryRun, Report}
use Rattle.treasury_api.specs.Asked.{AsksOf, entries_asked}
use Rattle.treasury_api.specs.Answer.{answer_text, done_text, refusal_text}
use Rattle.treasury_api.specs.Step.{MayReplyAsked, after_asked}
use Rattle.treasury_api.specs.Left.{FailsWith, IsOpenBut}
use Rattle.treasury_api.specs.Replied.{body_of}
use Rattle.treasury_api.specs.WebReply.{status_of, status_of_number, cause_of, form_of_reply}
use Rattle.treasury_api.specs.JsonReply.{IsJsonOf}
use Rattle.treasury_api.specs.Web.{IsBodyIn, IsJsonTo, TellsEntries}
use Rattle.treasury_api.specs.WebServing.{IsToldBy, IsJsonDone, IsJsonRefused, IsJsonRefusal, entries_told}
use Rattle.treasury_api.proofs.SpelledLemmas.{spelled_in_earnest}
use Rattle.treasury_api.proofs.ReplyLemmas.{state_is, refusal_is}
use Rattle.treasury_api.proofs.ServeLemmas.{asks_report, asks_dry_run, no_report, refused_only}
use Rattle.treasury_api.proofs.OneRequestLemmas.{IsRefusedAs}

-- ---- lines

-- a line without the line feed that ends it
take_before_line_feed : (line : List ℕ) → take (length (line ++ codes "\n") - 1) (line ++ codes "\n") ≡ line
take_before_line_feed line =
    let e = length-append line (codes "\n") in
    take_at line (codes "\n") (length (line ++ codes "\n") - 1) (omega (arith, e))

done_front : (styles : List Style) (answer : Answer) (text : List ℕ) → text ≡ answer_text styles (Ok answer)
    → take (length text - 1) text ≡ done_text answer
unfolding answer_text
done_front styles answer text said =
    ap (λ (t : List ℕ). take (length t - 1) t) said ∙ take_before_line_feed (done_text answer)

refusal_front : (styles : List Style) (refusal : Refusal) (text : List ℕ) → text ≡ answer_text styles (Err refusal)
    → take (length text - 1) text ≡ refusal_text styles refusal
unfolding answer_text
refusal_front styles refusal text said =
    ap (λ (t : List ℕ). take (length t - 1) t) said ∙ take_before_line_feed (refusal_text styles refusal)

-- the line of a plain refusal
plain_short : (c : Cause) → length (answer_text [] (Err (Plain c))) ≤ 64
unfolding digits answer_text
plain_short is.Utf8 = omega arith
plain_short is.TooLong = omega arith
plain_short is.Date = omega arith
plain_short is.Header = omega arith
plain_short is.Directive = omega arith
plain_short is.StrayLine = omega arith
plain_short is.Account = omega arith
plain_short is.Amount = omega arith
plain_short is.UnknownCommodity = omega arith
plain_short is.Decimals = omega arith
plain_short is.CommodityStyle = omega arith
plain_short is.Cost = omega arith
plain_short is.CostNotExact = omega arith
plain_short is.Assignment = omega arith
plain_short is.Virtual = omega arith
plain_short is.Marks = omega arith
plain_short is.TwoBlanks = omega arith
plain_short is.Unbalanced = omega arith
plain_short is.UnknownBranch = omega arith
plain_short is.BranchName = omega arith
plain_short is.CommodityExists = omega arith
plain_short is.Full = omega arith
plain_short is.MarkClash = omega arith
plain_short is.ReservedMark = omega arith
plain_short is.ReservedAccount = omega arith
plain_short is.Locked = omega arith
plain_short is.Limit = omega arith
plain_short is.ClaimFailed = omega arith
plain_short is.SameBranch = omega arith
plain_short is.UnknownTransfer = omega arith
plain_short is.WrongBranch = omega arith
plain_short is.AlreadyReceived = omega arith
plain_short is.TooEarly = omega arith
plain_short is.LockBack = omega arith
plain_short is.NothingToClose = omega arith
plain_short is.BadAccount = omega arith
plain_short is.BadAmount = omega arith
plain_short is.BadId = omega arith
plain_short is.OutOfMemory = omega arith
plain_short is.Store = omega arith
plain_short is.Closed = omega arith
plain_short is.Damaged = omega arith
plain_short is.Request = omega arith
plain_short is.ReadFault = omega arith
plain_short is.WriteFault = omega arith
plain_short is.TooMuch = omega arith
plain_short is.Changed = omega arith

-- ---- the entries of a branch

module _ {S : Type 0} (g : Ghosts S) (new : Treasury S) (f : Federation) (request : Spelled) where
  by_terms : (dry : Bool) (held : Option Federation) → request.terms.is_dry_run ≡ dry → IfSome held (λ s. s ≡ f)
      → TellsEntries f request
      (if dry then option_and_then (λ s. entries_asked s request.request) held else None)
  by_terms false held is same = inl refl
  by_terms true None is same = inl refl
  by_terms true (Some s) is same = inr (is, ap (λ (x : Federation). entries_asked x request.request) same)

  -- those that are told are those of the state that the treasury is of
  pub entries_of : IsTreasuryOf g new f → TellsEntries f request (entries_told new.held request)
  entries_of of = by_terms request.terms.is_dry_run new.held refl of.held

  -- and none of a command that is performed
  entries_of_command : request.terms.is_dry_run ≡ false → TellsEntries f request (entries_told new.held request)
  entries_of_command is =
      subst (λ (dry : Bool). TellsEntries f request
      (if dry then option_and_then (λ s. entries_asked s request.request) new.held else None)) (sym is) (inl refl)

  pub entries_after : (failed : Bool) (asked : Result Asked Refusal) (answer : Answer) → AsksOf failed f request asked
      → IsTreasuryOf g new (after_asked f asked (Ok answer)) → TellsEntries f request (entries_told new.held request)
  entries_after false (Ok (Command c)) answer asks of = entries_of_command (spelled_in_earnest f request c asks)
  entries_after true (Ok (Command c)) answer asks of = absurd cc
  entries_after failed (Ok (DryRun c)) answer asks of = entries_of of
  entries_after failed (Ok (Report report)) answer asks of = entries_of of
  entries_after failed (Err refusal) answer asks of = entries_of of

-- those of the state in memory
pub told_of : {X : Type 0} (now : X → Federation) (o : Option X) (held : Option Federation) (request : Spelled)
    (entries : Option ℕ) → entries ≡ entries_told (option_map now o) request
    → MatchOption o (held ≡ None) (λ x. held ≡ Some (now x)) → entries ≡ entries_told held request
told_of now None held request entries told e =
    told ∙ ap (λ (h : Option Federation). entries_told h request) (sym e)
told_of now (Some s) held request entries told e =
    told ∙ ap (λ (h : Option Federation). entries_told h request) (sym e)

-- ---- an answer that is no refusal

pub done_object : (styles : List Style) (answer : Answer) (entries : Option ℕ) (text body : List ℕ)
    → text ≡ answer_text styles (Ok answer) → IsJsonDone (take (length text - 1) text) entries body
    → IsJsonOf entries styles (Ok answer) body
done_object styles answer entries text body said done =
    subst (λ (line : List ℕ). IsJsonDone line entries body) (done_front styles answer text said) done

pub done_body : (failed : Bool) (f : Federation) (request : Spelled) (asked : Result Asked Refusal) (answer : Answer)
    (entries : Option ℕ) (text body : List ℕ) → AsksOf failed f request asked
    → MayReplyAsked (record { now = f; failed = failed }) asked (Ok answer) → TellsEntries f request entries
    → text ≡ [] ++ body_of form.Json f asked answer
    → (IsTrue (is_report request.request) → body ≡ text)
    → (is_report request.request ≡ false → IsJsonDone (take (length text - 1) text) entries body)
    → IsBodyIn form.Json body request f asked (Ok answer)
done_body failed f request (Ok (Command c)) answer entries text body asks replies tells said report other =
    (entries, (tells, done_object f.styles answer entries text body said (other (asks_report failed f request c asks))))
done_body failed f request (Ok (DryRun c)) answer entries text body asks replies tells said report other = (
  entries,
  (
    tells,
    done_object f.styles answer entries text body said
        (other (asks_dry_run failed f request c asks)),
  ),
)
done_body failed f request (Ok (Report r)) answer entries text body asks replies tells said report other =
    report (no_report failed f request r asks) ∙ said
done_body failed f request (Err refusal) answer entries text body asks replies tells said report other =
    refused_only f failed refusal answer _ replies

-- ---- a refusal

-- whatever is asked for
refused_body : (request : Spelled) (f : Federation) (refusal : Refusal) (body : List ℕ)
    → IsJsonTo request f (Err refusal) body
    → (asked : Result Asked Refusal) → IsBodyIn form.Json body request f asked (Err refusal)
refused_body request f refusal body object (Ok (Command c)) = object
refused_body request f refusal body object (Ok (DryRun c)) = object
refused_body request f refusal body object (Ok (Report report)) = object
refused_body request f refusal body object (Err e) = object

refused_object : (styles : List Style) (refusal : Refusal) (cause : Cause) (entries : Option ℕ) (text body : List ℕ)
    → text ≡ answer_text styles (Err refusal) → cause ≡ cause_of refusal
    → IsJsonRefused (take (length text - 1) text) cause entries body → IsJsonOf entries styles (Err refusal) body
refused_object styles refusal cause entries text body said is object =
    subst (λ (c : Cause). IsJsonRefused (refusal_text styles refusal) c entries body) is
    (subst (λ (line : List ℕ). IsJsonRefused line cause entries body) (refusal_front styles refusal text said) object)

memory_line : (styles : List Style) → codes "refused 40 OutOfMemory" ≡ refusal_text styles (Plain OutOfMemory)
unfolding digits
memory_line styles = refl

request_line : (styles : List Style) → codes "refused 44 Request" ≡ refusal_text styles (Plain NoRequest)
unfolding digits
request_line styles = refl

memory_object : (styles : List Style) (body : List ℕ)
    → IsJsonRefused (codes "refused 40 OutOfMemory") OutOfMemory None body
    → IsJsonOf None styles (Err (Plain OutOfMemory)) body
memory_object styles body object =
    subst (λ (line : List ℕ). IsJsonRefused line OutOfMemory None body) (memory_line styles) object

pub request_object : (body : List ℕ) → IsJsonRefused (codes "refused 44 Request") NoRequest None body
    → IsJsonOf None [] (Err (Plain NoRequest)) body
request_object body object = subst (λ (line : List ℕ). IsJsonRefused line NoRequest None body) (request_line []) object

-- the line of a plain refusal is the same under all commodities
plain_said : (styles : List Style) (c : Cause) → answer_text [] (Err (Plain c)) ≡ answer_text styles (Err (Plain c))
unfolding answer_text
plain_said styles c = refl

-- the object of a plain refusal is its own
plain_own : (c because cause : Cause) (entries : Option ℕ) (text body : List ℕ) → text ≡ answer_text [] (Err (Plain c))
    → IsJsonRefusal text because entries cause body
    → IsJsonRefused (take (length text - 1) text) because entries body × (cause ≡ because)
plain_own c because cause entries text body said (inl own) = own
plain_own c because cause entries text body said (inr (long, other, same)) =
    absurd (let s = subst (λ (t : List ℕ). length t ≤ 64) (sym said) (plain_short c) in omega (arith, s, long))

module _ {S : Type 0} (g : Ghosts S) (new : Treasury S) (request : Spelled) (f : Federation) (status : ℕ)
    (text body : List ℕ) (because cause : Cause) (of : IsTreasuryOf g new f)
    (object : IsJsonRefusal text because (entries_told new.held request) cause body)
    (code : status ≡ status_of_number (cause_number cause)) where
  abbrev pub Refuses : Refusal → Type 0
  Refuses refusal = IsRefusedAs (λ (x : Federation) (asked : Result Asked Refusal) (r : Result Answer Refusal).
      IsBodyIn form.Json body request x asked r) (λ (r : Result Answer Refusal). status ≡ status_of r) f refusal

  abbrev own_entries : Option ℕ
  own_entries = entries_told new.held request

  status_of_cause : (refusal : Refusal) → cause ≡ cause_of refusal → status ≡ status_of (Err refusal)
  status_of_cause refusal is = code ∙ ap (λ (c : Cause). status_of_number (cause_number c)) is

  -- by its own object
  by_own : (refusal : Refusal) → text ≡ answer_text f.styles (Err refusal) → because ≡ cause_of refusal
      → IsJsonRefused (take (length text - 1) text) because own_entries body × (cause ≡ because) → Refuses refusal
  by_own refusal said is (own, same) = inl (
    refused_body request f refusal body (
      own_entries,
      (
        entries_of g new f request of,
        refused_object f.styles refusal because own_entries text body said is own,
      ),
    ),
    status_of_cause refusal (same ∙ is),
  )

  -- by that of 40 in its place
  by_memory : (refusal : Refusal) → is_failure (Err refusal) ≡ false
      → IsJsonTo request f (Err (Plain OutOfMemory)) body → cause ≡ OutOfMemory → Refuses refusal
  by_memory refusal harmless made is =
      inr (refused_body request f (Plain OutOfMemory) body made, harmless, status_of_cause (Plain OutOfMemory) is)

  memory_own : because ≡ OutOfMemory → text ≡ answer_text [] (Err (Plain OutOfMemory))
      → IsJsonTo request f (Err (Plain OutOfMemory)) body × (cause ≡ OutOfMemory)
  memory_own is said =
      let own = plain_own OutOfMemory because cause own_entries text body said object in (
        (
          own_entries,
          (
            entries_of g new f request of,
            refused_object f.styles (Plain OutOfMemory) because own_entries text body
                (said ∙ plain_said f.styles OutOfMemory) is own.0,
          ),
        ),
        own.1 ∙ is,
      )

  by_object : (refusal : Refusal) → is_failure (Err refusal) ≡ false → text ≡ answer_text f.styles (Err refusal)
      → because ≡ cause_of refusal → IsJsonRefusal text because own_entries cause body → Refuses refusal
  by_object refusal harmless said is (inl own) = by_own refusal said is own
  by_object refusal harmless said is (inr (long, made, memory)) =
      by_memory refusal harmless (None, (inl refl, memory_object f.styles body made)) memory

  pub refused_in_json : (refusal : Refusal) → IsToldBy new refusal because text → Refuses refusal
  refused_in_json (Plain c) (said, is) =
      by_own (Plain c) (said ∙ plain_said f.styles c) is (plain_own c because cause own_entries text body said object)
  refused_in_json (Text fault) (s, (held, inl (said, is))) =
      let m = memory_own is said in by_memory (Text fault) refl m.0 m.1
  refused_in_json (Text fault) (s, (held, inr (said, is))) =
      by_object (Text fault) refl
      (said ∙ ap (λ (x : Federation). answer_text x.styles (Err (Text fault))) (state_is g new s f of held)) is object
  refused_in_json (ClaimFailed failure) (s, (held, inl (said, is))) =
      let m = memory_own is said in by_memory (ClaimFailed failure) refl m.0 m.1
  refused_in_json (ClaimFailed failure) (s, (held, inr (said, is))) =
      by_object (ClaimFailed failure) refl
      (said ∙ ap (λ (x : Federation). answer_text x.styles (Err (ClaimFailed failure))) (state_is g new s f of held)) is
      object

-- ---- whether the database is open after a refusal

-- a plain refusal has its own cause
pub plain_cause : {S : Type 0} (new : Treasury S) (refusal : Refusal) (c because cause : Cause) (entries : Option ℕ)
    (text body : List ℕ) → IsToldBy new refusal because text → IsJsonRefusal text because entries cause body
    → refusal ≡ Plain c → cause ≡ c
plain_cause new refusal c because cause entries text body told object is =
    let own = subst (λ (r : Refusal). IsToldBy new r because text) is told in
    (plain_own c because cause entries text body own.0 object).1 ∙ own.1

pub open_but_json : {S T : Type 0} (g : Ghosts S) (old new : Treasury S) (result : Result T Refusal)
    (refusal : Refusal) (because cause : Cause) (entries : Option ℕ) (status : ℕ) (text body : List ℕ)
    → result ≡ Err refusal → IsToldBy new refusal because text → IsJsonRefusal text because entries cause body
    → status ≡ status_of_number (cause_number cause)
    → IsTrue (state g old.store.conn).is_open → (old.store.failed ≡ false → FailsWith result new.store.failed)
    → (IsTrue old.store.failed → new ≡ old) → IsOpenBut g new.store.conn result
    → IsTrue (state g new.store.conn).is_open ⊎ ((status ≡ 503) × IsTrue new.store.failed)
open_but_json g old new result refusal because cause entries status text body is told object code is_open fails closed
    (inl still) = inl still
open_but_json {S = S} g old new result refusal because cause entries status text body is told object code is_open
    fails closed
    (inr failed) = either old.store.failed refl
  where
    either : (before : Bool) → old.store.failed ≡ before
        → IsTrue (state g new.store.conn).is_open ⊎ ((status ≡ 503) × IsTrue new.store.failed)
    either true was =
        inl (subst (λ (t : Treasury S). IsTrue (state g t.store.conn).is_open) (sym (closed was)) is_open)
    either false was = inr (
      code ∙ ap (λ (c : Cause). status_of_number (cause_number c))
          (plain_cause new refusal Failed because cause entries text body told object
          (refusal_is result refusal (Plain Failed) is failed)),
      (fails was).1 failed,
    )

-- ---- the form of a refusal

pub json_status : (n : ℕ) → form.Json ≡ form_of_reply form.Json (status_of_number n)
json_status n =
    by_tests (n == 44) ((nat_le 20 n && nat_le n 39) || (nat_le 47 n && nat_le n 48)) (nat_le 1 n && nat_le n 18)
    (n == 43)
  where
    by_tests : (a b c d : Bool)
        → form.Json ≡ form_of_reply form.Json (if a then 400 else if b then 409 else if c then 422 else if d then 500
        else 503)
    by_tests true b c d = refl
    by_tests false true c d = refl
    by_tests false false true d = refl
    by_tests false false false true = refl
    by_tests false false false false = refl
