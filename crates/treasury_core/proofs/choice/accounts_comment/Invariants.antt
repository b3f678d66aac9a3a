use Rattle.std.proofs.Common.{◌≡◌, ◌++◌, codes, drop}
use Rattle.std.specs.String.{string_bytes}
use Rattle.treasury_core.specs.Choice.{list_text}
use Rattle.treasury_core.proofs.ChoiceLemmas.{behind_names}
use Rattle.treasury_core.proofs.choice.accounts_comment.Given as goal

-- the text so far, and the rest of the names, are all of it
abbrev pub invariant-rest : goal.invariant-rest
invariant-rest l =
    string_bytes l.text ++ behind_names (drop l.name-index l.rest) ≡ codes "accounts:" ++ list_text l.names
