use Rattle.std.proofs.Common.{◌++◌, ◌∙◌, ℕ, List, length, decimal, codes}
use Rattle.treasury_client.specs.Sending.{accept, call_with}
use Rattle.treasury_client.proofs.ReplyLemmas.{pushed_behind_front, three_alike}
use Rattle.treasury_client.proofs.call.call_of.Goals as goal

pub returns : goal.returns
returns c =
    let port = c.format-port.result.now in
    let header = c.header-accept.result.now in
    let size = c.format-length.result.now in
    let body = c.args.body.now in
    let two = pushed_behind_front _ _ port _ c.in_ok-push_str.ensures.bytes c.in_ok-call.ensures.ok in
    let three = pushed_behind_front _ _ (codes "\r\n") _ c.in_ok-push_str-2.ensures.bytes two in
    let four = pushed_behind_front _ _ header _ c.in_ok-push_str-3.ensures.bytes three in
    let five = pushed_behind_front _ _ (codes "Content-Length: ") _ c.in_ok-push_str-4.ensures.bytes four in
    let six = pushed_behind_front _ _ size _ c.in_ok-push_str-5.ensures.bytes five in
    let seven = pushed_behind_front _ _ (codes "\r\n\r\n") _ c.in_ok-push_str-6.ensures.bytes six in
    pushed_behind_front _ _ body _ c.in_ok-push_str-7.ensures.bytes seven
    ∙ three_alike (λ (a b d : List ℕ). call_with a b d body) port header size (decimal c.args.port)
    (accept c.args.form) (decimal (length body)) c.format-port.ensures.text c.header-accept.ensures
    c.format-length.ensures.text
