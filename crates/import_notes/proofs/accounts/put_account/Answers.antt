use Rattle.std.proofs.Common.{◌∙◌, ap, List, ℕ, cond, Some}
use Rattle.std.specs.Prelude.{is_some}
use Rattle.std.specs.Str.{bytes_eq}
use Rattle.std.specs.String.{string_bytes}
use Rattle.std.specs.HashMap.{get_by_text}
use Rattle.std.proofs.lemmas.Map.Text.{hash_map_updates_text}
use Rattle.import_notes.proofs.AccountLemmas.{is_put}
use Rattle.import_notes.proofs.accounts.put_account.Goals as goal

pub returns : goal.returns
returns c = λ other.
    ap is_some
    (hash_map_updates_text (string_bytes c.in-Ok.key) c.args.accounts.now c.insert.new.self (Some tt)
    c.in-Ok-insert.ensures.updates other
    ∙ ap (λ (k : List ℕ). cond (bytes_eq k other) (Some tt) (get_by_text c.args.accounts.now other)) c.in-Ok.ensures.ok)
    ∙ is_put (get_by_text c.args.accounts.now other) (bytes_eq c.args.account.now other)
