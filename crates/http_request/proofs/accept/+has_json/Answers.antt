use Rattle.std.proofs.Common.{◌≡◌, ◌∙◌, ◌||◌, ◌∷◌, [], List, Bool, length, map, codes, ap, sym, refl, arith}
use Rattle.httparse.specs.Spans.{header_bytes}
use Rattle.httparse.specs.declared.spans.HeaderSpan.{HeaderSpan}
use Rattle.http_request.specs.Fields.{values_of}
use Rattle.http_request.specs.Accept.{has_json}
use Rattle.http_request.proofs.AcceptLemmas.{has_json-none, has_json-field}
use Rattle.http_request.proofs.accept.+has_json.Goals as goal

no_items : (hs : List HeaderSpan) → length hs ≡ 0 → hs ≡ []
no_items [] none = refl
no_items (h ∷ hs) none = absurd (omega (arith, none))

pub returns-in-None : goal.returns-in-None
returns-in-None t c =
    sym (ap (λ (hs : List HeaderSpan). has_json (values_of (codes "accept") (map (header_bytes c.args.buf.now) hs)))
    (no_items c.args.headers.now c.in-None.ensures.cases) ∙ has_json-none)

pub returns-then-is_json_header : goal.returns-then-is_json_header
returns-then-is_json_header t c =
    sym (ap (λ (hs : List HeaderSpan). has_json (values_of (codes "accept") (map (header_bytes c.args.buf.now) hs)))
    c.in-Some.ensures.cases.0
    ∙ (has_json-field (codes "accept") (header_bytes c.args.buf.now c.in-Some.first.now)
    (map (header_bytes c.args.buf.now) c.in-Some.rest.now)
    ∙ ap (λ (b : Bool). b || has_json
    (values_of (codes "accept") (map (header_bytes c.args.buf.now) c.in-Some.rest.now)))
    (sym c.is_json_header.ensures ∙ c.if-is_json_header.true)))

pub returns-else-is_json_header : goal.returns-else-is_json_header
returns-else-is_json_header t c =
    c.has_json.ensures
    ∙ sym (ap (λ (hs : List HeaderSpan). has_json (values_of (codes "accept") (map (header_bytes c.args.buf.now) hs)))
    c.in-Some.ensures.cases.0
    ∙ (has_json-field (codes "accept") (header_bytes c.args.buf.now c.in-Some.first.now)
    (map (header_bytes c.args.buf.now) c.in-Some.rest.now)
    ∙ ap (λ (b : Bool). b || has_json
    (values_of (codes "accept") (map (header_bytes c.args.buf.now) c.in-Some.rest.now)))
    (sym c.is_json_header.ensures ∙ c.if-is_json_header.false)))
