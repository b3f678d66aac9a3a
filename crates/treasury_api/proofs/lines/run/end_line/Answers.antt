use Rattle.std.proofs.Common.{◌≡◌, ◌≢◌, ◌++◌, ◌∷◌, List, ℕ, Option, refl, sym, subst, append_assoc}
use Rattle.std.proofs.lemmas.List.Elements.{All-append}
use Rattle.treasury_api.specs.RunEnd.{HasNoLineFeed, AnswersWhole}
use Rattle.treasury_api.proofs.RunLemmas.{Stepping, whole_none, whole_line_served, gave_up_here, stops_at_line}
use Rattle.treasury_api.proofs.lines.run.end_line.Goals as goal

-- the line that is begun, once it is longer
begun : {S : Type 0} (Step : Stepping S) (w : Option (List ℕ)) (s : S) (line bytes longer : List ℕ) → HasNoLineFeed line
    → HasNoLineFeed bytes → longer ≡ line ++ bytes
    → AnswersWhole Step w w s (line ++ bytes) longer s
begun Step w s line bytes longer part more same =
    let P : List ℕ → Type 0 = λ x. HasNoLineFeed x in
    whole_none Step w s (line ++ bytes) longer (sym same)
    (subst P (sym same) (All-append (λ x. x ≢ 10) line bytes part more))

pub returns-in-Err : goal.returns-in-Err
returns-in-Err g c = λ rest.
    gave_up_here g.M.Machine.step _ _ _ _ c.args.line.now.items c.args.line.now.items (c.args.bytes.now ++ 10 ∷ rest) _
    (whole_none g.M.Machine.step (g.W.Write.contents c.args.writer.now) c.args.machine.now c.args.line.now.items
    c.args.line.now.items refl c.requires.begun)
    (append_assoc c.args.line.now.items c.args.bytes.now (10 ∷ rest))

pub returns-in-Ok-serve_line : goal.returns-in-Ok-serve_line
returns-in-Ok-serve_line g c =
    whole_line_served g.M.Machine.step _ _ _ _ _ _ _ _ _ _ _
    (begun g.M.Machine.step (g.W.Write.contents c.args.writer.now) c.args.machine.now c.args.line.now.items
    c.args.bytes.now c.extend_from_slice.new.self.items c.requires.begun c.requires.more c.in-Ok.ensures.items)
    (rw (c.without_carriage_return.ensures, c.as_slice.ensures.value) at c.in-Ok-serve_line.ensures) refl refl
    c.clear.ensures.items

pub returns-in-Err-serve_line : goal.returns-in-Err-serve_line
returns-in-Err-serve_line g c = λ rest.
    stops_at_line c.in-Err-serve_line.cause g.M.Machine.step ⊥ _ _ _ _ _ _ _ _ _ _ _
    (begun g.M.Machine.step (g.W.Write.contents c.args.writer.now) c.args.machine.now c.args.line.now.items
    c.args.bytes.now c.extend_from_slice.new.self.items c.requires.begun c.requires.more c.in-Ok.ensures.items)
    (rw (c.without_carriage_return.ensures, c.as_slice.ensures.value) at c.in-Err-serve_line.ensures) refl refl
