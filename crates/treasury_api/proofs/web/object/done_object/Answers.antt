use Rattle.std.proofs.Common.{◌∙◌, ◌++◌, List, ℕ, [], ap, arith, inr, length, refl}
use Rattle.std.proofs.lemmas.Str.{IsUtf8-nil, is_utf8-from_IsUtf8}
use Rattle.treasury_api.specs.JsonReply.{done_json}
use Rattle.treasury_api.proofs.ObjectLemmas.{done_short, not_both, noted_in}
use Rattle.treasury_api.proofs.web.object.done_object.Goals as goal

pub returns-in-Ok-clause-noted : goal.returns-in-Ok-clause-noted
returns-in-Ok-clause-noted c =
    noted_in c.args.line.now c.args.noted.now c.utf8_of.result.now c.args.entries c.args.room.items
    c.push_done.new.out.items c.requires.empty c.utf8_of.ensures.same c.in-Ok.ensures.ok

-- where nothing is noted
pub returns-in-Ok-push_done-clause-noted : goal.returns-in-Ok-push_done-clause-noted
returns-in-Ok-push_done-clause-noted c =
    noted_in c.args.line.now c.args.noted.now [] c.args.entries c.push_done.new.out.items
    c.push_done-in-Err.new.out.items (c.in-Err.ensures.err ∙ c.requires.empty) (inr refl) c.in-Ok-push_done.ensures.ok

pub returns-in-Ok-push_done-clause-done : goal.returns-in-Ok-push_done-clause-done
returns-in-Ok-push_done-clause-done c = (
  [],
  is_utf8-from_IsUtf8 [] IsUtf8-nil,
  c.in-Ok-push_done.ensures.ok ∙ ap (λ (t : List ℕ). t ++ done_json c.args.line.now [] c.args.entries)
      (c.in-Err.ensures.err ∙ c.requires.empty),
)

-- there is room for it
pub unreachable-requires : goal.unreachable-requires
unreachable-requires c =
    let s = done_short c.args.line.now c.args.entries c.requires.line c.push_done.ensures.digits in
    let e = ap (λ (t : List ℕ). length t) (c.in-Err.ensures.err ∙ c.requires.empty) in
    not_both c.push_done-in-Err.result c.in-Err-push_done.field-0 c.in-Err-push_done.is
    (c.push_done-in-Err.ensures.room (omega (arith, s, e, c.requires.room, c.push_done.ensures.capacity)))
