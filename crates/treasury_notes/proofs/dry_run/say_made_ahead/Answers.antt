use Rattle.std.proofs.Common.{◌≡◌, ◌++◌, ◌∙◌, ap, sym, subst, rules, List, Option}
use Rattle.std.specs.List.{flat_map}
use Rattle.std.specs.Prelude.{OnOk}
use Rattle.money_core.specs.declared.style.Style.{Style}
use Rattle.treasury_messages.specs.Said.{Said}
use Rattle.treasury_state.specs.Federation.{Branch, entries}
use Rattle.import_notes.specs.OtherBranch.{AreAllPrintable}
use Rattle.treasury_reasons.specs.Held.{account_asked}
use Rattle.treasury_notes.specs.DryRun.{records_added, made_said, like_transfer_said, made_ahead}
use Rattle.treasury_notes.proofs.DryRunLemmas.{said_twice, same_made}
use Rattle.treasury_notes.proofs.dry_run.say_made_ahead.Goals as goal

pub returns : goal.returns
returns g c = λ printable.
    let f = c.args.state.now in
    let request = c.args.request.now in
    let added = c.args.additions.now in
    let old = c.args.out.now.items in
    let styles = c.styles-styles.ensures in
    subst (λ (b : Option Branch). OnOk c.say_likes.result
    (c.say_likes.new.out.items ≡ old ++ made_ahead f request added b)) c.in-Some.ensures.value
    (said_twice c.say_likes.result old c.say_made.new.out.items c.say_likes.new.out.items
    (flat_map (made_said f.styles (entries c.in-Some.branch.now.records) (account_asked request)) (records_added added))
    (flat_map (like_transfer_said f.transfers) added)
    (c.in_ok-say_made.ensures
    (subst (λ (s : List Style). AreAllPrintable s c.args.new.now) (sym styles) printable)
    ∙ ap (λ (xs : List Said). old ++ xs)
    (same_made _ _ _ _ _ _ _ _ styles c.in-Some.ensures.kept c.account_of-account.ensures c.requires))
    (search rules))
