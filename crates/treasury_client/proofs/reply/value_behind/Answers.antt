use Rattle.std.proofs.Common.{◌∙◌, ◌++◌, ℕ, List, ap, sym, subst}
use Rattle.treasury_client.specs.Reply.{IsOnLine}
use Rattle.treasury_client.specs.Parts.{EndsLine}
use Rattle.treasury_client.proofs.ReplyLemmas.{cut_at}
use Rattle.treasury_client.proofs.reply.value_behind.Goals as goal

pub returns-clause-found : goal.returns-clause-found
returns-clause-found c =
    let cut = cut_at c.in-Some.rest.now c.first_place.result c.first_place.ensures.place in (
      c.in-Some.ensures ∙ ap (λ (t : List ℕ). c.args.name.now ++ t) c.split_at.ensures.by_index.0,
      subst IsOnLine (sym c.split_at.ensures.front) cut.0,
      subst EndsLine (sym c.split_at.ensures.back) cut.1,
    )
