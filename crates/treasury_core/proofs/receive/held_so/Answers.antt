use Rattle.std.proofs.Common.{◌≡◌, ◌∙◌, ap, sym, Bool, List, ℕ, Some, None, Option}
use Rattle.std.specs.Prelude.{find}
use Rattle.std.specs.Option.{option_map}
use Rattle.treasury_state.specs.declared.transfer.Part.{Part}
use Rattle.treasury_core.specs.Step.{has_key, is_received_so}
use Rattle.treasury_core.proofs.TransferReplyLemmas.{so_part}
use Rattle.treasury_core.proofs.receive.held_so.Goals as goal

pub returns-in-None : goal.returns-in-None
returns-in-None c =
    let t = c.args.transfer.now in
    let r = c.args.receive.now in
    let a = c.in-Some.asked in
    let none : find (has_key a.key) t.parts ≡ None =
    ap (λ (k : List ℕ). find (has_key k) t.parts) (sym c.as_str.ensures) ∙
    (ap (find (has_key c.as_str.result.now)) (sym c.items.ensures) ∙ sym c.in-None.ensures) in
    sym (so_part t r a c.in-Some.is c.requires.key ∙ ap (option_map (is_received_so t r)) none)

pub returns-in-Some-find_part : goal.returns-in-Some-find_part
returns-in-Some-find_part c =
    let t = c.args.transfer.now in
    let r = c.args.receive.now in
    let a = c.in-Some.asked in
    let p = c.in-Some-find_part.part.now in
    let some : find (has_key a.key) t.parts ≡ Some p =
    ap (λ (k : List ℕ). find (has_key k) t.parts) (sym c.as_str.ensures) ∙
    (ap (find (has_key c.as_str.result.now)) (sym c.items.ensures) ∙ sym c.in-Some-find_part.ensures) in
    ap (λ (b : Bool). let o : Option Bool = Some b in o) c.is_part_so.ensures ∙ sym
    (so_part t r a c.in-Some.is c.requires.key ∙ ap (option_map (is_received_so t r)) some)
