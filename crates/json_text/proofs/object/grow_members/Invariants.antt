use Rattle.std.proofs.Common.{◌≡◌, take}
use Rattle.std.specs.Prelude.{Ok}
use Rattle.json_text.specs.JsonText.{member_text, with_commas}
use Rattle.json_text.specs.Members.{member_of}
use Rattle.json_text.specs.Growing.{AppendsText}
use Rattle.json_text.proofs.CommaLemmas.{is_empty}
use Rattle.json_text.proofs.object.grow_members.Given as goal

abbrev pub invariant-members : goal.invariant-members
invariant-members l = record {
  first : l.first ≡ is_empty (take l.member-index l.members);
  grown : AppendsText (with_commas (λ m. member_text (member_of m)) (take l.member-index l.members)) l.fn.out l.out
      (Ok tt);
}
