use Rattle.treasury_laws.proofs.LateEntryLemmas.{late_entry_refused, late_entry_named}
use Rattle.treasury_laws.proofs.law.late_entry_law.Goals as goal

pub returns-clause-refused : goal.returns-clause-refused
returns-clause-refused c f name file r broken replies = late_entry_refused f name file r broken replies

pub returns-clause-named : goal.returns-clause-named
returns-clause-named c f name file there balanced taken within broken =
    late_entry_named f name file there balanced taken within broken
