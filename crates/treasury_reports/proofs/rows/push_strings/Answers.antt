use Rattle.std.proofs.Common.{◌≡◌, ◌++◌, ◌∙◌, List, ℕ, OnOk, append_assoc, ap, drop, map, subst}
use Rattle.std.specs.Prelude.{codes}
use Rattle.json_text.specs.JsonText.{quoted, strings_text}
use Rattle.treasury_reports.specs.Rows.{Cell, strings_of}
use Rattle.treasury_reports.specs.Written.{shown}
use Rattle.treasury_reports.proofs.ListLemmas.{flat_map-map}
use Rattle.treasury_reports.proofs.rows.push_strings.Goals as goal

pub returns : goal.returns
returns c =
    let old = c.args.out.now.items in
    let row = map shown c.args.cells.now in
    let strings = c.deref.ensures.value ∙ c.in_ok-strings.ensures
    ∙ flat_map-map shown (λ (cell : Cell). codes "," ++ quoted cell.1) c.args.cells.now
    ∙ flat_map-map (λ (cell : Cell). cell.1) (λ (text : List ℕ). codes "," ++ quoted text) row in
    let array = ap (λ (l : List ℕ). c.push.new.self.items ++ (codes "[" ++ drop 1 l ++ codes "]")) strings
    ∙ ap (λ (l : List ℕ). l ++ strings_text (strings_of row)) c.in_ok-push.ensures.items
    ∙ append_assoc old (codes ",") (strings_text (strings_of row)) in
    subst (λ (t : List ℕ). OnOk c.push_array.result (c.push_array.new.out.items ≡ t)) array c.push_array.ensures.ok
