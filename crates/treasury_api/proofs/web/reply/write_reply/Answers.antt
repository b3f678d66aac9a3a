use Rattle.std.proofs.Common.{◌≡◌, ◌++◌, ◌∙◌, ℕ, List, length, ap, refl}
use Rattle.std.specs.Cow.{cow_slice_items}
use Rattle.treasury_api.specs.WebReply.{reply_head}
use Rattle.treasury_api.specs.WebServing.{code_of}
use Rattle.treasury_api.proofs.WebReplyLemmas.{head_torn, body_torn, both_written}
use Rattle.treasury_api.proofs.web.reply.write_reply.Goals as goal

pub returns-in-Err-write_whole-clause-err : goal.returns-in-Err-write_whole-clause-err
returns-in-Err-write_whole-clause-err g c =
    let form = c.args.reply.now.form in
    let code = code_of c.args.reply.now.status in
    let body = cow_slice_items c.args.reply.now.body in
    let is : c.as_slice.result.now ≡ reply_head form code (length body) =
    c.as_slice.ensures.value ∙ (c.in-Ok.ensures.ok ∙
    (ap (λ (t : List ℕ). t ++ reply_head form code c.len.result) c.requires.empty ∙ ap (reply_head form code)
    c.len.ensures)) in (
      refl,
      head_torn form code body (g.W.Write.contents c.args.writer.now) (g.W.Write.contents c.write_whole.new.writer)
          c.in-Err-write_whole.ensures.err.0 c.as_slice.result.now is c.in-Err-write_whole.ensures.err.1
          c.in-Err-write_whole.ensures.err.2,
    )

pub returns-in-Ok-write_whole-2-clause-ok : goal.returns-in-Ok-write_whole-2-clause-ok
returns-in-Ok-write_whole-2-clause-ok g c =
    let form = c.args.reply.now.form in
    let code = code_of c.args.reply.now.status in
    let body = cow_slice_items c.args.reply.now.body in
    let is : c.as_slice.result.now ≡ reply_head form code (length body) =
    c.as_slice.ensures.value ∙ (c.in-Ok.ensures.ok ∙
    (ap (λ (t : List ℕ). t ++ reply_head form code c.len.result) c.requires.empty ∙ ap (reply_head form code)
    c.len.ensures)) in
    both_written form code body (g.W.Write.contents c.args.writer.now) (g.W.Write.contents c.write_whole.new.writer)
    (g.W.Write.contents c.write_whole-2.new.writer) c.as_slice.result.now c.as_slice-2.result.now is
    c.as_slice-2.ensures.value
    c.in-Ok-write_whole.ensures.ok c.in-Ok-write_whole-2.ensures.ok

pub returns-clause-err : goal.returns-clause-err
returns-clause-err g c =
    let form = c.args.reply.now.form in
    let code = code_of c.args.reply.now.status in
    let body = cow_slice_items c.args.reply.now.body in
    let is : c.as_slice.result.now ≡ reply_head form code (length body) =
    c.as_slice.ensures.value ∙ (c.in-Ok.ensures.ok ∙
    (ap (λ (t : List ℕ). t ++ reply_head form code c.len.result) c.requires.empty ∙ ap (reply_head form code)
    c.len.ensures)) in (
      refl,
      body_torn form code body (g.W.Write.contents c.args.writer.now) (g.W.Write.contents c.write_whole.new.writer)
          (g.W.Write.contents c.write_whole-2.new.writer) c.in-Err-write_whole-2.ensures.err.0 c.as_slice.result.now
          c.as_slice-2.result.now is c.as_slice-2.ensures.value
          c.in-Ok-write_whole.ensures.ok c.in-Err-write_whole-2.ensures.err.1 c.in-Err-write_whole-2.ensures.err.2,
    )
