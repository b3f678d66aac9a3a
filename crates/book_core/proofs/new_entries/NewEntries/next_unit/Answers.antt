use Rattle.std.proofs.Common.{List, ap, ◌∙◌, nat_lt}
use Rattle.money_core.specs.declared.unit.Unit.{Unit as Commodity}
use Rattle.book_core.specs.declared.entry.Entry.{Entry}
use Rattle.book_core.specs.Book.{legs_of}
use Rattle.book_core.specs.Claim.{least_unit}
use Rattle.book_core.proofs.NextLemmas.{next_of_legs}
use Rattle.book_core.proofs.new_entries.NewEntries.next_unit.Goals as goal

pub returns-in-None : goal.returns-in-None
returns-in-None c =
    next_of_legs (legs_of c.args.self.now) c.args.unit c.tally_entries.result.next
    (c.tally_entries.ensures.next ∙ ap
    (λ (es : List Entry). least_unit (λ (v : Commodity). nat_lt c.args.unit.0 v.0) (legs_of es)) c.self.view_is)
