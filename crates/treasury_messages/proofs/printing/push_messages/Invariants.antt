use Rattle.std.proofs.Common.{◌≡◌, ◌++◌, ℕ, List, take}
use Rattle.treasury_messages.specs.Printed.{IsTextOf}
use Rattle.treasury_messages.proofs.printing.push_messages.Given as goal

-- the lines of the messages so far are appended
abbrev pub invariant-loop-message : goal.invariant-loop-message
invariant-loop-message l =
    (text : List ℕ) × IsTextOf (take l.message-index l.messages) text × (l.out.items ≡ l.fn.out.items ++ text)
