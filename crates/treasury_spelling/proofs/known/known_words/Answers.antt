use Rattle.std.proofs.Common.{◌≡◌, ◌∙◌, [], true, ap, rules, codes}
use Rattle.clap.specs.Simple.{App, app_of, with_subcommand}
use Rattle.treasury_spelling.specs.Known.{file_shape, known}
use Rattle.treasury_spelling.proofs.KnownLemmas.{leaf_added, known_by}
use Rattle.treasury_spelling.proofs.known.known_words.Goals as goal

pub returns : goal.returns
returns c =
    let alone : app_of c.subcommand_required.result ≡ record { top = record known.top { is_leaf = true }; subs = [] } =
    search rules in
    known_by c.year.result.now c.in_ok-command.command c.in_ok-with_requests.field-0 c.in_ok-subcommand.field-0
    c.in_ok-serve.field-0 c.in_ok-run.field-0 c.subcommand-3.result c.year.ensures
    (leaf_added (file_shape (codes "init") []) c.subcommand_required.result c.in_ok-file_word.field-0
    c.in_ok-command.command c.in_ok-file_word.ensures c.in_ok-command.ensures
    ∙ ap (λ (a : App). with_subcommand a (file_shape (codes "init") [])) alone)
    c.in_ok-with_requests.ensures c.in_ok-serve.ensures c.in_ok-subcommand.ensures c.in_ok-run.ensures
    c.subcommand-3.ensures
