use Rattle.std.proofs.Common.{◌&&◌, ◌∙◌, ap, sym, not, is_some, bytes_eq, ℕ, List, None}
use Rattle.std.specs.HashMap.{get_by_text}
use Rattle.std.proofs.lemmas.Map.Text.{hash_map_updates_text}
use Rattle.import_notes.proofs.AccountLemmas.{is_taken}
use Rattle.import_notes.proofs.BroughtLemmas.{no_key, no_key_taken}
use Rattle.import_notes.proofs.accounts.take_account.Goals as goal

pub returns-in-Ok-clause-left : goal.returns-in-Ok-clause-left
returns-in-Ok-clause-left c = λ other.
    let old = c.args.accounts.now in
    ap is_some (hash_map_updates_text c.in-Ok.account.now old c.remove.new.self None c.remove.ensures.updates other)
    ∙ is_taken (get_by_text old other) (bytes_eq c.in-Ok.account.now other)
    ∙ ap (λ (k : List ℕ). is_some (get_by_text old other) && not (bytes_eq k other)) c.in-Ok.ensures.cases.0

pub returns-in-Err-clause-was : goal.returns-in-Err-clause-was
returns-in-Err-clause-was c = sym (no_key c.args.accounts.now.entries c.args.name.now c.in-Err.ensures.cases.0)

pub returns-in-Err-clause-left : goal.returns-in-Err-clause-left
returns-in-Err-clause-left c = λ other.
    no_key_taken c.args.accounts.now.entries c.args.name.now other c.in-Err.ensures.cases.0
