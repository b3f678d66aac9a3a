-- Imports into the wrong branch: another one holds the same transactions already (own rule; docs/RULES.md, "Notes").
use Rattle.std.specs.Prelude.{ℕ, ◌-◌, nat_le, nat_lt, Bool, false, not, ◌||◌, if◌then◌else◌, List, [], ◌∷◌}
use Rattle.std.specs.Prelude.{length, decimal, Option, Some, None}
use Rattle.std.specs.List.{count_by, AllByRecursion}
use Rattle.std.specs.Str.{bytes_eq}
use Rattle.money_core.specs.declared.style.Style.{Style}
use Rattle.journal_format.specs.CanonicalText.{body_text}
use Rattle.journal_format.specs.Printable.{IsPrintable}
use Rattle.treasury_state.specs.declared.record.Record.{Record}
use Rattle.treasury_state.specs.Federation.{Branch, Federation, records_of}
use Rattle.treasury_state.specs.Mark.{held}
use Rattle.import_notes.specs.declared.other_branch.Holding.{Holding}
use Rattle.import_notes.specs.Edited.{is_marked}
use Rattle.treasury_messages.specs.declared.kind.MessageKind.TheVariants as is
use Rattle.treasury_messages.specs.Said.{Said, says}

-- the transactions can be printed
abbrev pub AreAllPrintable : List Style → List Record → Type 0
AreAllPrintable styles records = AllByRecursion (λ (r : Record). IsPrintable styles r.txn) records

-- two records with one mark have the same text; a mark that was made of a text tells that
abbrev pub has_text_of : List Style → Record → Record → Bool
has_text_of styles r other = not (is_marked r) || bytes_eq (body_text styles r.txn) (body_text styles other.txn)

abbrev pub has_text_of_held : List Style → Record → Option Record → Bool
has_text_of_held styles r None = false
has_text_of_held styles r (Some other) = has_text_of styles r other

-- one of the records has the mark and the text of this one
abbrev pub is_held_so : List Style → List Record → Record → Bool
is_held_so styles records r = has_text_of_held styles r (held records r.mark)

-- how many of the new records the branch of that name holds so
abbrev pub held_count : Federation → List ℕ → List Record → ℕ
held_count f name new = count_by (is_held_so f.styles (records_of f name)) new

-- the branch with the most, and how many it holds: the first of several
abbrev pub with_more : Option (List ℕ × ℕ) → List ℕ × ℕ → Option (List ℕ × ℕ)
with_more None b = Some b
with_more (Some a) b = if nat_le b.1 a.1 then Some a else Some b

-- the same once the branch of that name was looked at: the branch of the import is no other one
abbrev pub more_holding : Federation → List ℕ → List Record → Option (List ℕ × ℕ) → List ℕ → Option (List ℕ × ℕ)
more_holding f branch new most name =
    if bytes_eq name branch then most else with_more most (name, held_count f name new)

-- the same of these branches, after those before them
abbrev pub most_from : Federation → List ℕ → List Record → Option (List ℕ × ℕ) → List Branch → Option (List ℕ × ℕ)
most_from f branch new most [] = most
most_from f branch new most (b ∷ bs) = most_from f branch new (more_holding f branch new most b.name) bs

abbrev pub most_holding : Federation → List ℕ → List Record → Option (List ℕ × ℕ)
most_holding f branch new = most_from f branch new None f.branches

abbrev pub holding_view : Holding → List ℕ × ℕ
holding_view h = (h.branch.now, h.count)

-- a branch that holds half or more of so many new transactions, and of at least ten, is noted
abbrev pub holding_said : ℕ → Option (List ℕ × ℕ) → List Said
holding_said new None = []
holding_said new (Some h) =
    if nat_le (new - h.1) h.1 then says is.OtherBranch (h.0 ∷ decimal h.1 ∷ decimal new ∷ []) ∷ [] else []

abbrev pub least_new : ℕ
least_new = 10

unfoldable pub other_note : Federation → List ℕ → List Record → List Said
other_note f branch new =
    if nat_lt (length new) least_new then [] else holding_said (length new) (most_holding f branch new)
