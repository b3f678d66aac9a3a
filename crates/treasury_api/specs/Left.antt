-- What a request leaves of a treasury, beside its state: whether the database is open, and what the next opening may
-- find, after a crash, a stop, or a failure that shuts it (own rules; docs/RULES.md, "Runs").
use Rattle.std.specs.Prelude.{◌≡◌, ◌⊎◌, ◌↔◌, Bool, false, List, ◌∷◌, ◌++◌, Result, Err, OnOk, IsTrue}
use Rattle.sqlite.specs.Store.{Ghosts}
use Rattle.sqlite.specs.Held.{Held, state}
use Rattle.money_core.specs.declared.cause.Cause.TheVariants.{OutOfMemory, Store as Failed, Damaged}
use Rattle.book_core.specs.declared.refusal.Refusal.{Refusal}
use Rattle.book_core.specs.declared.refusal.Refusal.TheVariants.{Plain}
use Rattle.treasury_state.specs.Federation.{Federation}
use Rattle.treasury_state.specs.Rows.{rows}
use Rattle.treasury_core.specs.declared.command.Answer.{Answer}
use Rattle.treasury_store.specs.Treasury.{Treasury, IsTreasuryOf}
use Rattle.treasury_store.specs.Left.{LeavesRows, LeavesEither}
use Rattle.treasury_requests.specs.declared.request.Spelled.{Spelled}
use Rattle.treasury_api.specs.declared.asking.Asked.{Asked}
use Rattle.treasury_api.specs.Asked.{AsksOf}
use Rattle.treasury_api.specs.Step.{Standing, reply_to, after_asked}
use Rattle.treasury_api.specs.History.{LineTurn, standing_after}
use Rattle.treasury_tables.specs.Kept.{ShutsByFault, IsFaithful}

-- ---- one request

-- a request on a treasury on which no call has failed: one fails just where it is refused by 41
abbrev pub FailsWith : {T : Type 0} → Result T Refusal → Bool → Type 0
FailsWith r failed = IsTrue failed ↔ (r ≡ Err (Plain Failed))

-- the state could not be had: 43, or 40 or 41
abbrev pub IsUnread : {T : Type 0} → Result T Refusal → Type 0
IsUnread r = (r ≡ Err (Plain Damaged)) ⊎ ((r ≡ Err (Plain OutOfMemory)) ⊎ (r ≡ Err (Plain Failed)))

-- the database is open after a call, or the call is refused by 41
abbrev pub IsOpenBut : {S T : Type 0} → Ghosts S → Held S → Result T Refusal → Type 0
IsOpenBut g new r = IsTrue (state g new).is_open ⊎ (r ≡ Err (Plain Failed))

-- What a request does to the database: one that was open is open after an answer, and after each refusal but 41; no
-- fault of the disk is forgotten, and only a fault shuts it.
pub record KeepsDatabase {S T : Type 0} (g : Ghosts S) (old new : Held S) (r : Result T Refusal) : Type 0 where
  pub still_open : IsFaithful g new → IsTrue (state g old).is_open → OnOk r (IsTrue (state g new).is_open)
  pub open_but : IsFaithful g new → IsTrue (state g old).is_open → IsOpenBut g new r
  pub shuts : ShutsByFault g old new

-- the state where what is asked leads, once it is done
abbrev pub end_state : Federation → Result Asked Refusal → Federation
end_state f asked = after_asked f asked (reply_to f asked)

-- whatever is left are the rows of the state, or of the one where what is asked leads
abbrev pub LeavesAsked : {S : Type 0} → Ghosts S → Held S → Federation → Result Asked Refusal → Type 0
LeavesAsked g h f asked = LeavesEither g h (rows f) (rows (end_state f asked))

-- a request on an open treasury of a state: whatever is left are the rows of that state, or of the one where what it
-- asks leads
abbrev pub LeavesRequest : {S : Type 0} → Ghosts S → Treasury S → Treasury S → Spelled → Type 0
LeavesRequest g old new request =
    IsFaithful g new.store.conn → IsTrue (state g old.store.conn).is_open → (f : Federation)
    → IsTreasuryOf g old f
    → (asked : Result Asked Refusal) → AsksOf old.store.failed f request asked
    → LeavesAsked g new.store.conn f asked

-- ---- one line of a run

-- what is asked of an open treasury of a state, on which no call has failed, and replied to
abbrev pub LeavesReply : {S : Type 0} → Ghosts S → Treasury S → Treasury S → Federation → Result Asked Refusal
    → Result Answer Refusal → Type 0
LeavesReply g old new f asked r =
    IsTrue (state g old.store.conn).is_open → old.store.failed ≡ false
    → LeavesAsked g new.store.conn f asked × IsOpenBut g new.store.conn r

-- ---- a run

-- One of the turns was answered 41: whatever is left are the rows of the state before what it asks, or of the one after
-- it.
pub record FailedAt {S : Type 0} (g : Ghosts S) (new : Held S) (start : Standing) (turns : List LineTurn) : Type 0 where
  pub before : List LineTurn
  pub turn : LineTurn
  pub behind : List LineTurn
  pub split : turns ≡ before ++ turn ∷ behind
  pub failed : turn.reply ≡ Err (Plain Failed)
  pub left : LeavesAsked g new (standing_after start before).now turn.asked

-- What a run leaves of an open treasury of a state, on which no call has failed: it is open, and whatever is left are
-- the rows of the state at the end; or it failed at one turn, with the rows of the state before that or after it.
abbrev pub LeavesRun : {S : Type 0} → Ghosts S → Treasury S → Treasury S → Standing → List LineTurn → Standing → Type 0
LeavesRun g old new start turns end =
    IsTrue (state g old.store.conn).is_open → old.store.failed ≡ false
    → (IsTrue (state g new.store.conn).is_open × LeavesRows g new.store.conn (rows end.now))
    ⊎ FailedAt g new.store.conn start turns
