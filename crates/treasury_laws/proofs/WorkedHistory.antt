-- Values worked out by hand, so that a wrong definition of a book, of a reply or of a history does not check.
use Rattle.std.proofs.Common.{◌≡◌, refl, [], ◌∷◌, pos, None, Ok}
use Rattle.std.specs.Prelude.{codes}
use Rattle.book_core.specs.declared.refusal.Refusal.{Refusal}
use Rattle.journal_balance.specs.Legs.{balancing_fault, balanced_entry}
use Rattle.treasury_state.specs.declared.record.Record.{Record}
use Rattle.treasury_state.specs.declared.delta.Addition.TheVariants as add
use Rattle.treasury_state.specs.Federation.{Federation}
use Rattle.treasury_state.proofs.WorkedHistory.{day, euros, statement, stated, federation, in_north}
use Rattle.treasury_core.specs.declared.command.Answer.TheVariants.{Done, Entered}
use Rattle.treasury_core.specs.declared.command.Command.TheVariants.{Close}
use Rattle.treasury_core.specs.Step.{reply, done, added}
use Rattle.treasury_core.specs.Run.{after_turn, state_after}
use Rattle.treasury_core.proofs.WorkedHistory.{into, turns, north_closed, month}
use Rattle.treasury_laws.specs.History.{history, records_among}
use Rattle.treasury_laws.specs.Headline.{KeepsBooks}

-- what came into one branch, in order, between what came into another
pub among : (a b c d : Record) →
    let xs = add.Record (codes "north") a ∷ add.Record (codes "south") b ∷ add.Locked (codes "north") (day (pos 1))
    ∷ add.Record (codes "north") c ∷ add.Record (codes "north") d ∷ [] in
    (records_among (codes "north") xs ≡ a ∷ c ∷ d ∷ []) × (records_among (codes "south") xs ≡ b ∷ [])
    × (records_among (codes "west") xs ≡ [])
among a b c d = (refl, refl, refl)

pub run : (refusal : Refusal) → (state_after (federation None []) (turns refusal) ≡ federation None (stated ∷ []))
    × (history (federation None []) (turns refusal) ≡ add.Record (codes "north") stated ∷ [])
unfolding done added balancing_fault balanced_entry
run refusal = (refl, refl)

-- What the headline says of them: at the end income is at zero. The closing left the bank as it was, and the last turn
-- everything.
pub headline : (f : Federation) → KeepsBooks f month →
    let entered = state_after f (record { command = into (codes "north") statement; reply = Ok (Entered 1 0) } ∷ []) in
    let closed = after_turn entered (record { command = Close north_closed; reply = Ok Done }) in
    (in_north (state_after f month) (codes "income") ≡ pos 0)
    × (in_north closed (codes "bank") ≡ in_north entered (codes "bank")) × (state_after f month ≡ closed)
headline f kept =
    let closing = kept.closings.1.0 north_closed refl refl in (
      closing.stays (codes "income") euros refl,
      closing.untouched (codes "bank") euros (day (pos 31)) refl refl,
      kept.refusals.1.1.0 tt,
    )
