-- What an import brings to the book of a branch (own rule; docs/RULES.md, "Notes").
use Rattle.std.specs.Prelude.{ℕ, List}
use Rattle.treasury_state.specs.declared.record.Record.{Record}
use Rattle.import_notes.specs.declared.import.Import.{Import}

-- the name of the journal and its text, the branch, the records that it held before, and the new ones
pub record Imported : Type 0 where
  pub source : List ℕ
  pub text : List ℕ
  pub branch : List ℕ
  pub held : List Record
  pub new : List Record

abbrev pub imported : List ℕ → List ℕ → List ℕ → List Record → List Record → Imported
imported source text branch held new =
    record { source = source; text = text; branch = branch; held = held; new = new }

abbrev pub import_view : Import → Imported
import_view it = imported it.source.now it.text.now it.branch.now it.held.now it.new.now
