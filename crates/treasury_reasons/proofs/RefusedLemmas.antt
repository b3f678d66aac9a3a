-- the transaction at which a text is refused
use Rattle.std.proofs.Common.{◌≡◌, ◌∙◌, ℕ, Bool, true, false, List, [], ◌∷◌, ◌++◌, refl, ap, sym, subst}
use Rattle.std.proofs.Common.{Option, Some, None}
use Rattle.std.proofs.Common.{◌⊎◌, inl, inr}
use Rattle.std.specs.Prelude.{if◌then◌else◌, slice_get}
use Rattle.std.specs.List.{list_any}
use Rattle.std.specs.Option.{option_or}
use Rattle.money_core.specs.declared.cause.Cause.{Cause}
use Rattle.money_core.specs.declared.cause.Cause.TheVariants.{OutOfMemory, MarkClash, ReservedMark, ReservedAccount}
use Rattle.money_core.specs.declared.cause.Cause.TheVariants.{Locked}
use Rattle.money_core.specs.declared.day.Day.{Day}
use Rattle.money_core.specs.declared.style.Style.{Style}
use Rattle.book_core.specs.declared.refusal.Refusal.{Refusal}
use Rattle.book_core.specs.declared.refusal.Refusal.TheVariants.{Plain}
use Rattle.journal_format.specs.declared.txn.Located.{Located}
use Rattle.treasury_state.specs.declared.record.Record.{Record}
use Rattle.treasury_state.specs.Federation.{Branch, Federation, branch_at, records_of, lock_of, is_locked}
use Rattle.treasury_state.specs.Mark.{is_held, is_product_mark, is_repeat}
use Rattle.treasury_state.specs.Transfer.{is_transit}
use Rattle.treasury_state.proofs.FindLemmas.{branch_at_Some}
use Rattle.treasury_core.specs.Step.{records_in_file, refused_in, refusal_of, StopsAt}
use Rattle.treasury_requests.specs.declared.request.Request.{Request}
use Rattle.treasury_messages.specs.Said.{Said}
use Rattle.treasury_reasons.specs.Refused.{is_of_transaction, transaction_said, stopped_said, TellsRefused}
use Rattle.treasury_reasons.specs.Told.{BeginsWithSentence}

-- ---- by which causes a transaction is refused
abbrev IsOf : Option Refusal → Cause → Type 0
IsOf o cause = o ≡ Some (Plain cause) → is_of_transaction cause ≡ true

same_cause : (x y : Cause) → Some (Plain x) ≡ Some (Plain y) → is_of_transaction x ≡ true → is_of_transaction y ≡ true
same_cause x y e h = let same : x ≡ y = cc in ap is_of_transaction (sym same) ∙ h

of_one : (a b c d : Bool) (cause : Cause)
    → IsOf (if a then Some (Plain MarkClash) else if b then Some (Plain ReservedMark)
    else if c then Some (Plain ReservedAccount) else if d then Some (Plain Locked) else None) cause
of_one true b c d cause e = same_cause MarkClash cause e refl
of_one false true c d cause e = same_cause ReservedMark cause e refl
of_one false false true d cause e = same_cause ReservedAccount cause e refl
of_one false false false true cause e = same_cause Locked cause e refl
of_one false false false false cause e = absurd cc

of_either : (t : Bool) (o p q : Option Refusal) (cause : Cause) → IsOf o cause → IsOf p cause → IsOf q cause
    → IsOf (if t then o else option_or p q) cause
of_either true o p q cause h k l = h
of_either false o None q cause h k l = l
of_either false o (Some x) q cause h k l = k

pub refused_of_one : (styles : List Style) (lock : Option Day) (held rows : List Record) (cause : Cause)
    → refused_in styles lock held rows ≡ Some (Plain cause) → is_of_transaction cause ≡ true
refused_of_one styles lock held [] cause = λ e. absurd cc
refused_of_one styles lock held (r ∷ rs) cause =
    of_either (is_repeat styles held r) (refused_in styles lock held rs) (refusal_of lock held r)
    (refused_in styles lock (held ++ r ∷ []) rs) cause (refused_of_one styles lock held rs cause)
    (of_one (is_held held r.mark) (is_product_mark r.mark) (list_any is_transit r.entry.legs)
    (is_locked lock r.entry.day) cause) (refused_of_one styles lock (held ++ r ∷ []) rs cause)

-- ---- where it stops
pub none_refused : (o p : Option Refusal) (refusal : Refusal) → o ≡ None → o ≡ p → p ≡ Some refusal → ⊥
none_refused o p refusal e f g = let wrong : None ≡ Some refusal = sym e ∙ f ∙ g in cc

pub stops_so : (styles : List Style) (lock : Option Day) (held rows : List Record) (place : ℕ) (refusal : Refusal)
    (read cause : Cause) → (refusal ≡ Plain OutOfMemory → read ≡ OutOfMemory) → ¬ (read ≡ OutOfMemory)
    → (refusal ≡ Plain OutOfMemory) ⊎ (refused_in styles lock held rows ≡ Some refusal)
    → (refusal ≡ Plain OutOfMemory) ⊎ StopsAt styles lock held rows place refusal
    → refused_in styles lock held rows ≡ Some (Plain cause) → StopsAt styles lock held rows place (Plain cause)
stops_so styles lock held rows place refusal read cause is other (inl e) b all = absurd (other (is e))
stops_so styles lock held rows place refusal read cause is other (inr a) (inl e) all = absurd (other (is e))
stops_so styles lock held rows place refusal read cause is other (inr a) (inr b) all =
    let both : Some refusal ≡ Some (Plain cause) = sym a ∙ all in
    let same : refusal ≡ Plain cause = cc in subst (StopsAt styles lock held rows place) same b

-- ---- in a state, by the branch that is found
pub refused_there : (f : Federation) (name : List ℕ) (b : Branch) (styles : List Style) (list : List Located)
    (cause : Cause) → branch_at f.branches name ≡ Some b → styles ≡ f.styles
    → refused_in f.styles (lock_of f name) (records_of f name) (records_in_file f.styles list) ≡ Some (Plain cause)
    → refused_in styles b.locked b.records (records_in_file styles list) ≡ Some (Plain cause)
refused_there f name b styles list cause found s is =
    let at = branch_at_Some f.branches name b found in
    ap (λ (ss : List Style). refused_in ss b.locked b.records (records_in_file ss list)) s
    ∙ ap (λ (o : Option Day). refused_in f.styles o b.records (records_in_file f.styles list)) (sym at.lock)
    ∙ ap (λ (rs : List Record). refused_in f.styles (lock_of f name) rs (records_in_file f.styles list))
    (sym at.records)
    ∙ is

pub refused_told : (f : Federation) (request : Request) (name source journal : List ℕ) (list file : List Located)
    (cause : Cause) (said : List Said) (b : Branch) (styles : List Style) (rows : List Record) (place : ℕ)
    → branch_at f.branches name ≡ Some b → styles ≡ f.styles → file ≡ list → rows ≡ records_in_file styles list
    → StopsAt styles b.locked b.records rows place (Plain cause)
    → said ≡ stopped_said f request source journal b.records file rows cause place
    → TellsRefused f request name source journal list cause said
refused_told f request name source journal list file cause said b styles rows place found s l made stops is =
    let at = branch_at_Some f.branches name b found in
    let held = records_of f name in
    let all : rows ≡ records_in_file f.styles list = made ∙ ap (λ (ss : List Style). records_in_file ss list) s in
    let say = λ (rs : List Record) (xs : List Located) (ys : List Record).
    stopped_said f request source journal rs xs ys cause place in record {
      place = place;
      stops = subst (λ (ys : List Record). StopsAt f.styles (lock_of f name) held ys place (Plain cause)) all
          (subst (λ (rs : List Record). StopsAt f.styles (lock_of f name) rs rows place (Plain cause)) (sym at.records)
          (subst (λ (o : Option Day). StopsAt f.styles o b.records rows place (Plain cause)) (sym at.lock)
          (subst (λ (ss : List Style). StopsAt ss b.locked b.records rows place (Plain cause)) s stops)));
      all = is ∙ ap (λ (rs : List Record). say rs file rows) (sym at.records)
          ∙ ap (λ (xs : List Located). say held xs rows) l
          ∙ ap (λ (ys : List Record). say held list ys) all;
    }

-- ---- the sentence comes first
transaction_begins : (f : Federation) (request : Request) (source text : List ℕ) (records : List Record)
    (file : List Located) (rows : List Record) (cause : Cause) (x : Option Located) (r : Option Record)
    → BeginsWithSentence cause (transaction_said f request source text records file rows cause x r)
transaction_begins f request source text records file rows cause (Some x) (Some r) = inr (source, x.line, refl)
transaction_begins f request source text records file rows cause (Some x) None = inl refl
transaction_begins f request source text records file rows cause None (Some r) = inl refl
transaction_begins f request source text records file rows cause None None = inl refl

pub stopped_begins : (f : Federation) (request : Request) (source text : List ℕ) (records : List Record)
    (file : List Located) (rows : List Record) (cause : Cause) (place : ℕ)
    → BeginsWithSentence cause (stopped_said f request source text records file rows cause place)
stopped_begins f request source text records file rows cause place =
    transaction_begins f request source text records file rows cause (slice_get file place) (slice_get rows place)
