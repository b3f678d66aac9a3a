-- What `run` does, over a federation that has nothing yet.
use Rattle.std.proofs.Common.{◌≡◌, ℕ, Bool, false, List, Option, Result, Ok, Err, OnErr, OnOk, inr, subst}
use Rattle.sqlite.specs.Store.{Ghosts}
use Rattle.money_core.specs.declared.cause.Cause.{Cause}
use Rattle.treasury_store.specs.Store.{empty_state}
use Rattle.treasury_store.specs.Treasury.{Treasury}
use Rattle.treasury_api.specs.Step.{Standing, at_first}
use Rattle.treasury_api.specs.Replied.{standing}
use Rattle.treasury_api.specs.Kept.{AnswersAll, Runs}
use Rattle.treasury.specs.CutOff.{IsCutShort}

-- a treasury on which no call has failed, of a federation that has nothing yet, stands where a run begins
pub from_first : {T R W S : Type 0} (g : Ghosts S) (new : Treasury S) (result : Result T Cause)
    (remaining : R → Option (List ℕ)) (r0 r1 : R) (contents : W → Option (List ℕ)) (w0 w1 : W) (old : Treasury S)
    (end : Standing)
    → old.store.failed ≡ false → Runs g old new result remaining r0 r1 contents w0 w1 (standing old empty_state) end
    → Runs g old new result remaining r0 r1 contents w0 w1 at_first end
from_first g new result remaining r0 r1 contents w0 w1 old end unfailed runs =
    subst (λ (failed : Bool). Runs g old new result remaining r0 r1 contents w0 w1
    (record { now = empty_state; failed = failed }) end) unfailed runs

-- where it ends with Ok, all is answered
pub answers_all : {T S R W : Type 0} (g : Ghosts S) (old new : Treasury S) (result : Result T Cause)
    (remaining : R → Option (List ℕ)) (r0 r1 : R) (contents : W → Option (List ℕ)) (w0 w1 : W) (end : Standing)
    → Runs g old new result remaining r0 r1 contents w0 w1 at_first end
    → OnOk result ((last : Standing) × AnswersAll remaining r0 r1 contents w0 w1 at_first last)
answers_all g old new (Ok x) remaining r0 r1 contents w0 w1 end (all, left) = (end, all)
answers_all g old new (Err cause) remaining r0 r1 contents w0 w1 end cut = tt

-- where it is refused, it is cut off
pub cut_off : {T S R W : Type 0} (g : Ghosts S) (old new : Treasury S) (result : Result T Cause)
    (remaining : R → Option (List ℕ)) (r0 r1 : R) (contents : W → Option (List ℕ)) (w0 w1 : W) (end : Standing)
    → Runs g old new result remaining r0 r1 contents w0 w1 at_first end
    → OnErr result (IsCutShort remaining r0 r1 contents w0 w1)
cut_off g old new (Ok x) remaining r0 r1 contents w0 w1 end all = tt
cut_off g old new (Err cause) remaining r0 r1 contents w0 w1 end (cut, left) = inr (cause, end, cut)
