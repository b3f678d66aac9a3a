-- Values worked out by hand, so that a wrong definition of a book, of a reply or of a history does not check.
use Rattle.std.proofs.Common.{◌≡◌, refl, ℕ, List, [], ◌∷◌, pos, neg_ℤ, Some, None, Ok, Err}
use Rattle.std.specs.Prelude.{codes}
use Rattle.money_core.specs.declared.cause.Cause.TheVariants.{UnknownBranch, Unbalanced, ReservedMark, Locked, LockBack}
use Rattle.book_core.specs.declared.refusal.Refusal.{Refusal}
use Rattle.book_core.specs.declared.refusal.Refusal.TheVariants.{Plain, Text, ClaimFailed}
use Rattle.book_core.specs.Balance.{balance}
use Rattle.book_core.specs.Claim.{fault, stray, failure}
use Rattle.book_core.specs.GoodBook.{verdict}
use Rattle.journal_format.specs.declared.txn.Txn.{Txn}
use Rattle.journal_format.specs.Pieces.{located}
use Rattle.journal_balance.specs.Legs.{leg, balancing_fault, balanced_entry}
use Rattle.treasury_state.proofs.WorkedHistory.{day, euros, receipt, statement, late_receipt, stated, federation}
use Rattle.treasury_core.specs.declared.command.Answer.TheVariants.{Done, Entered, Repeated}
use Rattle.treasury_core.specs.declared.command.Command.{Command}
use Rattle.treasury_core.specs.declared.command.Close.{Close as Closing}
use Rattle.treasury_core.specs.declared.command.Command.TheVariants.{Branch as NewBranch, Enter, Lock, Close}
use Rattle.treasury_core.specs.Step.{reply}
use Rattle.treasury_core.specs.Run.{Turn}

abbrev pub into : List ℕ → Txn → Command
into name t = Enter name (located 3 t ∷ [])

-- the statement is accepted; after it the receipt would break its assertion, before it it does not
pub replies : (reply (federation None []) (into (codes "north") statement) ≡ Ok (Entered 1 0))
    × (reply (federation None []) (into (codes "north") late_receipt) ≡ Ok (Entered 1 0))
    × (reply (federation None (stated ∷ [])) (into (codes "north") late_receipt)
    ≡ Err (ClaimFailed (record {
      place = record { day = day (pos 31); entry = 1; leg = 1 };
      unit = euros;
      asserted = pos 1000;
      found = pos 1100;
    })))
unfolding reply verdict failure fault stray balance balancing_fault balanced_entry
replies = (refl, refl, refl)

-- a branch that is not there, before a transaction that does not sum to zero; that transaction, with the line of its
-- header; a mark of the product, also where the day is locked; a locked day
pub refusals : (reply (federation None []) (into (codes "west") (receipt (codes "w") (pos 1) (pos 100) None (pos 100)))
    ≡ Err (Plain UnknownBranch))
    × (reply (federation None []) (into (codes "south") (receipt (codes "w") (pos 1) (pos 100) None (pos 100)))
    ≡ Err (Text (record { line = 3; cause = Unbalanced })))
    × (reply (federation (Some (day (pos 20))) [])
    (into (codes "north") (receipt (codes "in:x") (pos 1) (pos 100) None (neg_ℤ (pos 100))))
    ≡ Err (Plain ReservedMark))
    × (reply (federation (Some (day (pos 20))) []) (into (codes "north") late_receipt) ≡ Err (Plain Locked))
unfolding reply balancing_fault balanced_entry
refusals = (refl, refl, refl, refl)

-- a branch that is there, a lock, the same again, one before it
pub repeats : (reply (federation None []) (NewBranch (codes "south")) ≡ Ok Repeated)
    × (reply (federation None []) (Lock (codes "north") (day (pos 20))) ≡ Ok Done)
    × (reply (federation (Some (day (pos 20))) []) (Lock (codes "north") (day (pos 20))) ≡ Ok Repeated)
    × (reply (federation (Some (day (pos 20))) []) (Lock (codes "north") (day (pos 19))) ≡ Err (Plain LockBack))
unfolding reply
repeats = (refl, refl, refl, refl)

-- of three turns the first enters the statement, and the other two leave the state
abbrev pub turns : Refusal → List Turn
turns refusal =
    record { command = into (codes "north") statement; reply = Ok (Entered 1 0) }
    ∷ record { command = into (codes "north") late_receipt; reply = Err refusal }
    ∷ record { command = NewBranch (codes "south"); reply = Ok Repeated } ∷ []

-- a closing at the 31st, without a choice
abbrev pub north_closed : Closing
north_closed = record { branch = codes "north"; day = day (pos 31); choice = record { accounts = None; into = None } }

-- the statement, a closing through the 31st, and a branch that is there
abbrev pub month : List Turn
month =
    record { command = into (codes "north") statement; reply = Ok (Entered 1 0) }
    ∷ record { command = Close north_closed; reply = Ok Done }
    ∷ record { command = NewBranch (codes "south"); reply = Ok Repeated } ∷ []
