-- what a command makes of a treasury
use Rattle.std.proofs.Common.{◌≡◌, ℕ, IsTrue, Bool, true, false, ◌||◌, cond, List, [], ◌∷◌, map, refl, ap, ◌∙◌, sym}
use Rattle.std.proofs.Common.{subst, inl, inr, Some, None, Ok, Err}
use Rattle.std.specs.Prelude.{if◌then◌else◌, find, Result, Option, IfSome, IsSome, ⊤}
use Rattle.std.specs.List.{list_any, AllByRecursion}
use Rattle.money_core.specs.declared.cause.Cause.{Cause}
use Rattle.money_core.specs.declared.cause.Cause.TheVariants.{Damaged}
use Rattle.book_core.specs.declared.refusal.Refusal.{Refusal}
use Rattle.book_core.specs.declared.refusal.Refusal.TheVariants.{Plain}
use Rattle.sqlite.specs.Store.{Ghosts}
use Rattle.sqlite.specs.Effect.{Database}
use Rattle.sqlite.specs.State.{Survives}
use Rattle.sqlite.specs.Held.{Held, state}
use Rattle.sqlite.proofs.StateLemmas.{survives_weaker, survives_then}
use Rattle.money_core.proofs.ListLemmas.{all-append}
use Rattle.treasury_state.specs.declared.record.Record.{Record}
use Rattle.treasury_state.specs.declared.transfer.Transfer.{Transfer}
use Rattle.treasury_state.specs.declared.delta.Addition.{Addition}
use Rattle.treasury_state.specs.declared.delta.Addition.TheVariants as add
use Rattle.treasury_state.specs.Federation.{Federation}
use Rattle.treasury_state.specs.Good.{IsGoodState}
use Rattle.treasury_state.specs.Joined.{joined_one, joined}
use Rattle.treasury_state.specs.Transfer.{transfer_at, has_id}
use Rattle.treasury_state.specs.Rows.{rows}
use Rattle.treasury_core.specs.declared.command.Answer.{Answer}
use Rattle.treasury_core.specs.declared.command.Answer.TheVariants.{Done, Entered, Repeated}
use Rattle.treasury_core.specs.declared.command.Command.{Command}
use Rattle.treasury_core.specs.declared.command.Command.TheVariants as cmd
use Rattle.treasury_core.specs.declared.command.Receive.{Receive}
use Rattle.treasury_core.specs.Fits.{Fits}
use Rattle.treasury_core.specs.Step.{reply, after, added, delta, step, new_records, receipt_additions, closing_records}
use Rattle.treasury_core.specs.Closing.{closing_in}
use Rattle.treasury_core.specs.Run.{IsRun, state_after}
use Rattle.treasury_laws.specs.Headline.{KeepsBooks}
use Rattle.treasury_laws.proofs.HeadlineLemmas.{keeps_books}
use Rattle.treasury_tables.specs.Rows.{HoldsTables, AreTreesOf}
use Rattle.treasury_tables.specs.Kept.{KeepsTables, IsFaithful}
use Rattle.treasury_store.specs.declared.store.Store.{Store}
use Rattle.treasury_store.specs.Store.{IsOf, AnswersState, FailsAs, Finds, FindsAll, Joins}
use Rattle.treasury_store.specs.Treasury.{Treasury, IsTreasuryOf, RepliesOrFails, Performs, is_failure, turn_if}
use Rattle.treasury_store.specs.Treasury.{SurvivesCommand, IsUnfit}

-- ---- loading

-- what was loaded is the state that the treasury is of
pub held_again : {S : Type 0} (g : Ghosts S) (old new : Treasury S) (s f : Federation) → new.held ≡ Some s
    → IsTreasuryOf g old f → IsOf g new.store s → s ≡ f → IsTreasuryOf g new f
held_again g old new s f is was of same = record {
  store = subst (λ (x : Federation). IsOf g new.store x) same of;
  held = subst (λ (o : Option Federation). IfSome o (λ x. x ≡ f)) (sym is) same;
}

-- ---- performing

-- what was decided, once it is written, is the step
pub performs_decided : {S : Type 0} (g : Ghosts S) (new : Treasury S) (f : Federation) (c : Command) (a : Answer)
    (next : Federation)
    → reply f c ≡ Ok a → next ≡ (step f c).next → IsOf g new.store next
    → IfSome new.held (λ s. s ≡ next) → Performs g new f c (Ok a)
performs_decided g new f c a next replied is of held =
    let same : next ≡ after f c (Ok a) = is ∙ ap (λ (r : Result Answer Refusal). after f c r) replied in
    record {
      replies = inl (inl (sym replied));
      next = record {
        store = subst (λ (s : Federation). IsOf g new.store s) same of;
        held = subst (λ (x : Federation). IfSome new.held (λ s. s ≡ x)) same held;
      };
    }

-- a command that fits the state in memory
pub fits_held : (held : Option Federation) (s : Federation) (c : Command)
    → IfSome held (λ (x : Federation). Fits x.styles c) → held ≡ Some s → Fits s.styles c
fits_held held s c fits is = subst (λ (o : Option Federation). IfSome o (λ (x : Federation). Fits x.styles c)) is fits

-- a command that fits the state in memory fits the state that the treasury is of
pub fits_of : {S : Type 0} (g : Ghosts S) (old : Treasury S) (s f : Federation) (c : Command) → old.held ≡ Some s
    → IsTreasuryOf g old f → Fits s.styles c → Fits f.styles c
fits_of g old s f c is of fits =
    let same : s ≡ f = subst (λ (o : Option Federation). IfSome o (λ x. x ≡ f)) is of.held in
    subst (λ (x : Federation). Fits x.styles c) same fits

-- what is performed on the state in memory is performed on the state that the treasury is of
pub performs_held : {S : Type 0} (g : Ghosts S) (old new : Treasury S) (s f : Federation) (c : Command)
    (r : Result Answer Refusal)
    → old.held ≡ Some s → IsTreasuryOf g old f → (IsOf g old.store s → Performs g new s c r) → Performs g new f c r
performs_held g old new s f c r is of performs =
    let same : s ≡ f = subst (λ (o : Option Federation). IfSome o (λ x. x ≡ f)) is of.held in
    subst (λ (x : Federation). Performs g new x c r) same
    (performs (subst (λ (x : Federation). IsOf g old.store x) (sym same) of.store))

-- while memory holds a state, a reply on the state that was had is one on it
pub replies_held : (held : Option Federation) (s : Federation) (c : Command) (r : Result Answer Refusal)
    → (IsSome held → held ≡ Some s) → RepliesOrFails s c r → IfSome held (λ (x : Federation). RepliesOrFails x c r)
replies_held None s c r same replies = tt
replies_held (Some x) s c r same replies =
    subst (λ (o : Option Federation). IfSome o (λ (y : Federation). RepliesOrFails y c r)) (sym (same refl)) replies

-- a call that succeeded has not failed
pub ok_unfailed : {T : Type 0} (x : T) (failed : Bool) → AnswersState (Ok x) failed → failed ≡ false
ok_unfailed x failed (inl unfailed) = unfailed
ok_unfailed x failed (inr damaged) = damaged.1

-- why a call that reads the rows of a state is refused
pub fails_as : {T : Type 0} (e : Cause) (failed : Bool) → AnswersState {T = T} (Err e) failed → FailsAs e failed
fails_as e failed (inl (inl memory)) = inl memory
fails_as e failed (inl (inr failure)) = inr (inl failure)
fails_as {T = T} e failed (inr damaged) = inr (inr (err_is {T = T} e Damaged damaged.0, damaged.1))
  where
    cause_in : {T : Type 0} → Cause → Result T Cause → Cause
    cause_in e (Ok x) = e
    cause_in e (Err d) = d

    err_is : {T : Type 0} (e d : Cause) → ◌≡◌ {A = Result T Cause} (Err e) (Err d) → e ≡ d
    err_is {T = T} e d same = ap (cause_in {T = T} e) same

-- ---- the headline

-- a reply of the step, or 40, is a turn of a run; 41 is none
pub turn_runs : (f : Federation) (c : Command) (r : Result Answer Refusal) → Fits f.styles c → RepliesOrFails f c r
    → IsRun f (turn_if c r)
turn_runs f c r fits replies = by_test (is_failure r) refl replies
  where
    by_test : (t : Bool) → is_failure r ≡ t → RepliesOrFails f c r
        → IsRun f (if t then [] else record { command = c; reply = r } ∷ [])
    by_test true e h = tt
    by_test false e (inl h) = (fits, h, tt)
    by_test false e (inr failed) = absurd (let h : false ≡ true = sym e ∙ ap is_failure failed in cc)

-- and it leads to the state after the reply
pub turn_leads : (f : Federation) (c : Command) (r : Result Answer Refusal) → state_after f (turn_if c r) ≡ after f c r
turn_leads f c (Ok answer) = refl
turn_leads f c (Err refusal) = either_way (is_failure (Err refusal))
  where
    either_way : (t : Bool) → state_after f (if t then [] else record { command = c; reply = Err refusal } ∷ []) ≡ f
    either_way true = refl
    either_way false = refl

-- where the state cannot be loaded, the command is answered 40 or 41
pub performs_unheld : {S T : Type 0} (g : Ghosts S) (new : Treasury S) (f : Federation) (c : Command) (cause : Cause)
    (failed : Bool) → AnswersState {T = T} (Err cause) failed
    → (◌≡◌ {A = Result T Cause} (Err cause) (Err Damaged) → ⊥) → IsTreasuryOf g new f
    → Performs g new f c (Err (Plain cause))
performs_unheld g new f c cause failed (inl (inl memory)) sound of =
    record { replies = inl (inr (ap (λ (x : Cause). Err (Plain x)) memory.0)); next = of }
performs_unheld g new f c cause failed (inl (inr failure)) sound of =
    record { replies = inr (ap (λ (x : Cause). Err (Plain x)) failure.0); next = of }
performs_unheld g new f c cause failed (inr damaged) sound of = absurd (sound damaged.0)

-- it is answered so too where no state could be had
pub unfit_unheld : {T : Type 0} (cause : Cause) (failed : Bool) → AnswersState {T = T} (Err cause) failed
    → IsUnfit (Err (Plain cause))
unfit_unheld cause failed (inl (inl memory)) = inr (inl (ap (λ (x : Cause). Err (Plain x)) memory.0))
unfit_unheld cause failed (inl (inr failure)) = inr (inr (ap (λ (x : Cause). Err (Plain x)) failure.0))
unfit_unheld {T = T} cause failed (inr damaged) = inl (same {T = T} damaged.0)
  where
    same : {T : Type 0} → ◌≡◌ {A = Result T Cause} (Err cause) (Err Damaged)
        → ◌≡◌ {A = Result Answer Refusal} (Err (Plain cause)) (Err (Plain Damaged))
    same e = let k : cause ≡ Damaged = cc in ap (λ (x : Cause). Err (Plain x)) k

-- what is performed keeps the books
pub headline_of : {S : Type 0} (g : Ghosts S) (new : Treasury S) (f : Federation) (c : Command)
    (r : Result Answer Refusal) → IsGoodState f → Fits f.styles c → Performs g new f c r
    → KeepsBooks f (turn_if c r) × IsTreasuryOf g new (state_after f (turn_if c r))
headline_of g new f c r good fits performs = (
  keeps_books f (turn_if c r) good (turn_runs f c r fits performs.replies),
  subst (λ (s : Federation). IsTreasuryOf g new s) (sym (turn_leads f c r)) performs.next,
)

-- ---- crashes

-- what a crash leaves of a store of a state while its rows become those of another
abbrev pub SurvivesChange : {S : Type 0} → Ghosts S → Store S → Held S → Federation → Federation → Type 0
SurvivesChange g old new f next =
    Survives (state g old.conn) (state g new)
    (λ trees. IsOf g old f → HoldsTables (state g old.conn).now (rows f) → AreTreesOf trees (rows next))

-- what is written, whichever way the store is left
pub survives_write : {S : Type 0} (g : Ghosts S) (old : Store S) (new : Held S) (now : Federation) (xs : List Addition)
    → Joins now xs
    → Survives (state g old.conn) (state g new)
    (λ trees. (db : Database) × (trees ≡ db.trees)
    × ((f : Federation) → IsOf g old f → Joins f xs → HoldsTables (state g old.conn).now (rows f)
    → HoldsTables db (rows (joined f xs))))
    → SurvivesChange g old new now (joined now xs)
survives_write g old new now xs good left =
    survives_weaker (state g old.conn) (state g new) _ _ (λ clean trees p of h. (p.0, p.1, p.2 now of good h)) left

-- the tables of a state that was loaded
pub rows_loaded : {S : Type 0} (g : Ghosts S) (new : Store S) (s f : Federation) → IsOf g new s → s ≡ f
    → IsFaithful g new.conn → IsTrue (state g new.conn).is_open → HoldsTables (state g new.conn).now (rows f)
rows_loaded g new s f of same clean is_open =
    subst (λ (x : Federation). HoldsTables (state g new.conn).now (rows x)) same (of.tables clean is_open).0

module _ {S : Type 0} (g : Ghosts S) (old new : Treasury S) (c : Command) where
  -- a state that is loaded at most
  pub survives_load : KeepsTables g old.store.conn new.store.conn → SurvivesCommand g old new c
  survives_load left = survives_weaker (state g old.store.conn) (state g new.store.conn) _ _
      (λ clean trees none f of fits h. absurd (none h.shows.schema)) left

  -- a command that is settled on the state in memory, after that
  pub survives_settle : (mid : Treasury S) (s : Federation)
      → (IsFaithful g new.store.conn → IsFaithful g mid.store.conn)
      → KeepsTables g old.store.conn mid.store.conn
      → (IsFaithful g mid.store.conn → (f : Federation) → IsTreasuryOf g old f → IsTreasuryOf g mid f)
      → (IsFaithful g mid.store.conn → (f : Federation) → IsTreasuryOf g old f
      → HoldsTables (state g old.store.conn).now (rows f) → HoldsTables (state g mid.store.conn).now (rows f))
      → mid.held ≡ Some s
      → SurvivesChange g mid.store new.store.conn s (step s c).next → SurvivesCommand g old new c
  survives_settle mid s cleaner held of_mid rows_mid is settled =
      survives_then (state g old.store.conn) (state g mid.store.conn) (state g new.store.conn) _ _ _
      (λ clean trees none f of fits h. absurd (none h.shows.schema))
      (λ clean trees made f of fits h.
      let there = of_mid (cleaner clean) f of in
      let same : s ≡ f = subst (λ (o : Option Federation). IfSome o (λ x. x ≡ f)) is there.held in
      let moved = subst (λ (x : Federation). IsOf g mid.store x → HoldsTables (state g mid.store.conn).now (rows x)
      → AreTreesOf trees (rows (step x c).next)) same made in
      moved there.store (rows_mid (cleaner clean) f of h))
      held settled

-- ---- what is decided finds what it is of

-- an addition that is no transfer and no receipt
abbrev IsApart : Addition → Type 0
IsApart (add.Commodity style) = ⊤
IsApart (add.Branch name) = ⊤
IsApart (add.Record name r) = ⊤
IsApart (add.Dispatched t) = ⊥
IsApart (add.Received id p) = ⊥
IsApart (add.Locked name day) = ⊤

finds_apart : (f : Federation) (x : Addition) → IsApart x → Finds f x
finds_apart f (add.Commodity style) h = tt
finds_apart f (add.Branch name) h = tt
finds_apart f (add.Record name r) h = tt
finds_apart f (add.Dispatched t) h = absurd h
finds_apart f (add.Received id p) h = absurd h
finds_apart f (add.Locked name day) h = tt

all_apart : (xs : List Addition) (f : Federation) → AllByRecursion IsApart xs → FindsAll f xs
all_apart [] f h = tt
all_apart (x ∷ xs) f h = (finds_apart f x h.0, all_apart xs (joined_one f x) h.1)

records_apart : (name : List ℕ) (rs : List Record) → AllByRecursion IsApart (map (λ (r : Record). add.Record name r) rs)
records_apart name [] = tt
records_apart name (r ∷ rs) = (tt, records_apart name rs)

any_found : {X : Type 0} (p : X → Bool) (xs : List X) (x : X) → find p xs ≡ Some x → list_any p xs ≡ true
any_found p [] x h = absurd cc
any_found {X} p (y ∷ ys) x h = by_test (p y) h (any_found p ys x)
  where
    by_test : (t : Bool) → cond t (Some y) (find p ys) ≡ Some x → (find p ys ≡ Some x → list_any p ys ≡ true)
        → (t || list_any p ys) ≡ true
    by_test true e k = refl
    by_test false e k = k e

finds_receipt : (f : Federation) (r : Receive) (o : Option Transfer) → transfer_at f r.id ≡ o
    → FindsAll f (receipt_additions r o)
finds_receipt f r None e = tt
finds_receipt f r (Some t) e = (tt, (λ part. any_found (has_id r.id) f.transfers t e, tt))

finds_added : (f : Federation) (c : Command) → FindsAll f (added f c)
unfolding added
finds_added f (cmd.Branch name) = (tt, tt)
finds_added f (cmd.Commodity style) = (tt, tt)
finds_added f (cmd.Enter name file) = all_apart _ f (records_apart name (new_records f name file))
finds_added f (cmd.Dispatch d) = (tt, (refl, tt))
finds_added f (cmd.Receive r) = finds_receipt f r (transfer_at f r.id) refl
finds_added f (cmd.Lock name day) = (tt, tt)
finds_added f (cmd.Close c) = all_apart _ f
    (all-append IsApart
    (map (λ (r : Record). add.Record c.branch r) (closing_records c.day (closing_in f c.branch c.day c.choice)))
    (add.Locked c.branch c.day ∷ []) (records_apart c.branch _) (tt, tt))

finds_delta : (f : Federation) (c : Command) (a : Answer) → FindsAll f (delta f c (Ok a))
finds_delta f c Done = finds_added f c
finds_delta f c (Entered new repeated) = finds_added f c
finds_delta f c Repeated = tt

pub decided_joins : (f : Federation) (c : Command) (a : Answer) (xs : List Addition) → xs ≡ delta f c (Ok a)
    → IsGoodState (joined f xs) → Joins f xs
decided_joins f c a xs is good = record { found = subst (FindsAll f) (sym is) (finds_delta f c a); good = good }
