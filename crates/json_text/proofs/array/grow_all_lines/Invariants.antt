use Rattle.std.proofs.Common.{◌≡◌, ◌++◌, ℕ, List, length}
use Rattle.std.specs.Prelude.{Ok}
use Rattle.json_text.specs.JsonText.{quoted, with_commas, lines_of}
use Rattle.json_text.specs.Growing.{AppendsText}
use Rattle.json_text.proofs.CommaLemmas.{is_empty}
use Rattle.json_text.proofs.array.grow_all_lines.Given as goal

-- the lines so far are appended, and with those of what is left they are all
abbrev pub invariant-lines : goal.invariant-lines
invariant-lines l = record {
  done : List (List ℕ);
  all : lines_of l.text ≡ done ++ lines_of l.rest;
  first : l.first ≡ is_empty done;
  grown : AppendsText (with_commas quoted done) l.fn.out l.out (Ok tt);
}

abbrev pub decreases-lines : goal.decreases-lines
decreases-lines l = length l.rest
