use Rattle.std.specs.Prelude.{codes}
use Rattle.json_text.specs.JsonText.{member_text, with_commas}
use Rattle.json_text.specs.Members.{member_of, members_of}
use Rattle.json_text.proofs.CommaLemmas.{with_commas-map}
use Rattle.json_text.proofs.GrowLemmas.{grows_as, grows_thrice, grows_stop_then}
use Rattle.json_text.proofs.object.grow_object.Goals as goal

pub returns-in-Ok-grow_members : goal.returns-in-Ok-grow_members
returns-in-Ok-grow_members c =
    let members = with_commas member_text (members_of c.args.members.now) in
    grows_thrice (codes "{") members (codes "}") c.args.out.now c.grow_bytes.new.out c.grow_members.new.out
    c.grow_bytes-in-Ok-grow_members.new.out c.grow_bytes-in-Ok-grow_members.result c.in-Ok.ensures
    (grows_as _ members _ _ _ (with_commas-map member_text member_of c.args.members.now) c.in-Ok-grow_members.ensures)
    c.grow_bytes-in-Ok-grow_members.ensures

pub returns-in-Err-grow_members : goal.returns-in-Err-grow_members
returns-in-Err-grow_members c =
    let members = with_commas member_text (members_of c.args.members.now) in
    grows_stop_then (codes "{") members (codes "}") c.args.out.now c.grow_bytes.new.out c.grow_members.new.out
    c.in-Err-grow_members.error c.in-Ok.ensures
    (grows_as _ members _ _ _ (with_commas-map member_text member_of c.args.members.now) c.in-Err-grow_members.ensures)
