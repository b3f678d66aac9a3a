use Rattle.std.proofs.Common.{◌≡◌, ◌≤◌, List, ℕ, length, ap, sym, ◌∙◌, subst}
use Rattle.http.specs.StatusCode.{code_digits}
use Rattle.treasury_api.specs.WebReply.{reason_of, type_of}
use Rattle.treasury_api.specs.WebServing.{code_of}
use Rattle.treasury_api.proofs.WebReplyLemmas.{head_appended, head_fits, reason_short, type_short}
use Rattle.treasury_api.proofs.web.reply.push_head.Goals as goal

pub returns-clause-ok : goal.returns-clause-ok
returns-clause-ok c =
    let d : c.as_bytes-digits.result.now ≡ code_digits (code_of c.args.status) =
    c.as_bytes-digits.ensures.value ∙ (c.as_str.ensures ∙ ap code_digits c.code-code.ensures) in
    let r : c.as_bytes-reason.result.now ≡ reason_of (code_of c.args.status) =
    c.as_bytes-reason.ensures.value ∙ c.reason.ensures in
    let k : c.as_bytes-kind.result.now ≡ type_of c.args.form = c.as_bytes-kind.ensures.value ∙ c.type_of.ensures in
    head_appended c.push_pieces.result c.args.head.now.items c.push_pieces.new.line.items c.as_bytes-digits.result.now
    c.as_bytes-reason.result.now c.as_bytes-kind.result.now c.as_bytes-bytes.result.now c.args.form
    (code_of c.args.status) c.args.size d r k
    (c.as_bytes-bytes.ensures.value ∙ c.format.ensures.text) c.push_pieces.ensures.ok

pub returns-clause-room : goal.returns-clause-room
returns-clause-room c h =
    let d : c.as_bytes-digits.result.now ≡ code_digits (code_of c.args.status) =
    c.as_bytes-digits.ensures.value ∙ (c.as_str.ensures ∙ ap code_digits c.code-code.ensures) in
    let r : c.as_bytes-reason.result.now ≡ reason_of (code_of c.args.status) =
    c.as_bytes-reason.ensures.value ∙ c.reason.ensures in
    let k : c.as_bytes-kind.result.now ≡ type_of c.args.form = c.as_bytes-kind.ensures.value ∙ c.type_of.ensures in
    c.push_pieces.ensures.room (head_fits (length c.args.head.now.items) _ c.as_bytes-digits.result.now
    c.as_bytes-reason.result.now c.as_bytes-kind.result.now c.as_bytes-bytes.result.now
    (ap length d) (subst (λ (t : List ℕ). length t ≤ 21) (sym r) (reason_short c.args.status))
    (subst (λ (t : List ℕ). length t ≤ 25) (sym k) (type_short c.args.form))
    (subst (λ (t : List ℕ). length t ≤ 40) (sym c.as_bytes-bytes.ensures.value) c.format.ensures.short) h)
