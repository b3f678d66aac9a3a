use Rattle.std.proofs.Common.{◌≡◌, ℕ, List, Bor, take}
use Rattle.std.specs.Prelude.{Ok}
use Rattle.json_text.specs.JsonText.{quoted, with_commas}
use Rattle.json_text.specs.Growing.{AppendsText}
use Rattle.json_text.proofs.CommaLemmas.{is_empty}
use Rattle.json_text.proofs.array.grow_texts.Given as goal

abbrev pub invariant-texts : goal.invariant-texts
invariant-texts l = record {
  first : l.first ≡ is_empty (take l.text-index l.texts);
  grown : AppendsText (with_commas (λ (text : Bor (List ℕ)). quoted text.now) (take l.text-index l.texts)) l.fn.out
      l.out (Ok tt);
}
