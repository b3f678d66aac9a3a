use Rattle.std.proofs.Common.{◌≡◌, ◌<◌, ◌&&◌, ◌∙◌, ap, subst, length, get_or, ℕ, List, None}
use Rattle.std.specs.Prelude.{is_some, not}
use Rattle.std.specs.HashMap.{get_by_text}
use Rattle.std.specs.Str.{bytes_eq}
use Rattle.std.proofs.lemmas.Map.Text.{hash_map_updates_text}
use Rattle.book_core.specs.declared.leg.Leg.{Leg}
use Rattle.import_notes.proofs.AccountLemmas.{none_next, is_taken}
use Rattle.import_notes.proofs.accounts.take_posted.Goals as goal

pub loop-leg-preserved : goal.loop-leg-preserved
loop-leg-preserved c = λ other.
    let old = c.loop-leg.accounts in
    let key = c.as_str.result.now in
    let now : is_some (get_by_text c.remove.new.self other)
    ≡ (is_some (get_by_text old other) && not (bytes_eq c.leg-item.result.account other)) =
    ap is_some (hash_map_updates_text key old c.remove.new.self None c.remove.ensures.updates other)
    ∙ is_taken (get_by_text old other) (bytes_eq key other)
    ∙ ap (λ (k : List ℕ). is_some (get_by_text old other) && not (bytes_eq k other)) c.as_str.ensures in
    let legs = c.args.row.now.entry.legs in
    let i = c.loop-leg.leg-index in
    let x = c.leg-item.result in
    none_next (λ (y : Leg). bytes_eq y.account other) legs i x _ _ _
    (subst (λ (ys : List Leg). i < length ys) c.items-leg-items.ensures c.loop-leg-test.true)
    (subst (λ (ys : List Leg). x ≡ get_or ys i x) c.items-leg-items.ensures c.leg-item.is)
    (c.loop-leg.invariant other) now
