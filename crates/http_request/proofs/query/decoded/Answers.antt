use Rattle.std.proofs.Common.{◌≡◌, ◌∙◌, ◌++◌, List, ℕ, ap, Some, sym}
use Rattle.percent_encoding.specs.Iter.{decoded_bytes}
use Rattle.percent_encoding.specs.Percent.{percent_decode}
use Rattle.http_request.specs.Query.{is_escaped}
use Rattle.http_request.proofs.QueryLemmas.{decoded_some, no_text}
use Rattle.http_request.proofs.query.decoded.Goals as goal

pub returns-in-Ok-from_utf8-clause-value : goal.returns-in-Ok-from_utf8-clause-value
returns-in-Ok-from_utf8-clause-value c =
    let same : c.deref.result.now ≡ percent_decode c.args.written.now =
    c.deref.ensures.value ∙ (c.in-Ok.ensures.ok
    ∙ (ap (λ (t : List ℕ). t ++ decoded_bytes c.percent_decode_str.result) c.new-bytes.ensures.items
    ∙ c.percent_decode_str.ensures.bytes)) in
    ap Some (c.in_ok-text-in-Ok-from_utf8.ensures.equal ∙ c.in-Ok-from_utf8.ensures.cases.0)
    ∙ decoded_some c.args.written.now c.deref.result.now
    (ap is_escaped (sym c.as_bytes.ensures.value) ∙ (sym c.is_escaped.ensures ∙ c.if-not-is_escaped.false)) same
    c.in-Ok-from_utf8.ensures.cases.1

pub returns-clause-value : goal.returns-clause-value
returns-clause-value c =
    let same : c.deref.result.now ≡ percent_decode c.args.written.now =
    c.deref.ensures.value ∙ (c.in-Ok.ensures.ok
    ∙ (ap (λ (t : List ℕ). t ++ decoded_bytes c.percent_decode_str.result) c.new-bytes.ensures.items
    ∙ c.percent_decode_str.ensures.bytes)) in
    no_text c.args.written.now c.deref.result.now same c.in-Err-from_utf8.ensures.cases.0
