use Rattle.std.proofs.Common.{◌≡◌, ◌∙◌, ℕ, List, Err, ap, sym, map, take, drop, false}
use Rattle.money_core.specs.declared.cause.Cause.{Cause}
use Rattle.money_core.specs.declared.cause.Cause.TheVariants.{ReadFault}
use Rattle.httparse.specs.Spans.{span_bytes, header_bytes}
use Rattle.journal_lines.proofs.LineSteps.{whole_rest}
use Rattle.http_request.specs.Length.{body_length}
use Rattle.http_request.specs.Foreign.{is_foreign}
use Rattle.http_request.specs.Accept.{form_of}
use Rattle.http_request.specs.Query.{query_of, with_query}
use Rattle.http_request.specs.Calling.{report_by}
use Rattle.http_request.proofs.ReadLemmas.{leads_told, nowhere_calls, report_calls, command_told, stop_told}
use Rattle.http_request.proofs.reading.read_call.Goals as goal

pub returns-in-Ok-None-route_to-clause-ok : goal.returns-in-Ok-None-route_to-clause-ok
returns-in-Ok-None-route_to-clause-ok g c =
    let h = rw c.in-Ok-Some.field-0-is at c.in-Ok-Some.ensures.found in
    let text = c.read_head.new.text.items in
    let m : c.of-method.result.now ≡ span_bytes text c.in-Ok-Some.spans.method =
    c.of-method.ensures ∙ ap (λ (t : List ℕ). span_bytes t c.in-Ok-Some.spans.method) c.deref-3.ensures.value in
    let p : c.of-target.result.now ≡ span_bytes text c.in-Ok-Some.spans.path =
    c.of-target.ensures ∙ ap (λ (t : List ℕ). span_bytes t c.in-Ok-Some.spans.path) c.deref-4.ensures.value in
    let own : is_foreign (map (header_bytes text) (take c.in-Ok-Some.spans.headers c.read_head.new.headers)) ≡ false =
    ap (λ (t : List ℕ). is_foreign (map (header_bytes t)
    (take c.in-Ok-Some.spans.headers c.read_head.new.headers))) (sym c.deref-2.ensures.value)
    ∙ sym c.is_foreign_head.ensures ∙ c.if-is_foreign_head.false in
    let asked : c.form_of_head-form.result
    ≡ form_of (map (header_bytes text) (take c.in-Ok-Some.spans.headers c.read_head.new.headers)) =
    c.form_of_head-form.ensures ∙ ap (λ (t : List ℕ). form_of (map (header_bytes t)
    (take c.in-Ok-Some.spans.headers c.read_head.new.headers))) c.deref.ensures.value in
    let leads =
    leads_told c.of-method.result.now _ c.of-target.result.now _ _ m p
    (rw c.in-Ok-None-route_to.field-0-is at c.in-Ok-None-route_to.ensures.value) in
    nowhere_calls _ _ text c.read_head.new.headers c.in-Ok-Some.spans h _ asked own leads

pub returns-in-Ok-clause-ok : goal.returns-in-Ok-clause-ok
returns-in-Ok-clause-ok g c =
    let h = rw c.in-Ok-Some.field-0-is at c.in-Ok-Some.ensures.found in
    let text = c.read_head.new.text.items in
    let m : c.of-method.result.now ≡ span_bytes text c.in-Ok-Some.spans.method =
    c.of-method.ensures ∙ ap (λ (t : List ℕ). span_bytes t c.in-Ok-Some.spans.method) c.deref-3.ensures.value in
    let p : c.of-target.result.now ≡ span_bytes text c.in-Ok-Some.spans.path =
    c.of-target.ensures ∙ ap (λ (t : List ℕ). span_bytes t c.in-Ok-Some.spans.path) c.deref-4.ensures.value in
    let own : is_foreign (map (header_bytes text) (take c.in-Ok-Some.spans.headers c.read_head.new.headers)) ≡ false =
    ap (λ (t : List ℕ). is_foreign (map (header_bytes t)
    (take c.in-Ok-Some.spans.headers c.read_head.new.headers))) (sym c.deref-2.ensures.value)
    ∙ sym c.is_foreign_head.ensures ∙ c.if-is_foreign_head.false in
    let asked : c.form_of_head-form.result
    ≡ form_of (map (header_bytes text) (take c.in-Ok-Some.spans.headers c.read_head.new.headers)) =
    c.form_of_head-form.ensures ∙ ap (λ (t : List ℕ). form_of (map (header_bytes t)
    (take c.in-Ok-Some.spans.headers c.read_head.new.headers))) c.deref.ensures.value in
    let leads =
    leads_told c.of-method.result.now _ c.of-target.result.now _ _ m p
    (rw c.in-Ok-Some-Report.field-0-0-is at
    (rw c.in-Ok-Some-Report.field-0-is at c.in-Ok-Some-Report.ensures.value)) in
    report_calls _ _ text c.read_head.new.headers c.in-Ok-Some.spans h _ asked own c.in-Ok-Some-Report.word
    c.in-Ok-Some-Report.given leads c.in-Ok.report
    (c.in-Ok.ensures.value ∙ ap (λ (t : List ℕ). report_by c.in-Ok-Some-Report.word
    (with_query c.in-Ok-Some-Report.word c.in-Ok-Some-Report.given (query_of t))) p)

pub returns-in-Ok-read_command-clause-ok : goal.returns-in-Ok-read_command-clause-ok
returns-in-Ok-read_command-clause-ok g c =
    let h = rw c.in-Ok-Some.field-0-is at c.in-Ok-Some.ensures.found in
    let text = c.read_head.new.text.items in
    let m : c.of-method.result.now ≡ span_bytes text c.in-Ok-Some.spans.method =
    c.of-method.ensures ∙ ap (λ (t : List ℕ). span_bytes t c.in-Ok-Some.spans.method) c.deref-3.ensures.value in
    let p : c.of-target.result.now ≡ span_bytes text c.in-Ok-Some.spans.path =
    c.of-target.ensures ∙ ap (λ (t : List ℕ). span_bytes t c.in-Ok-Some.spans.path) c.deref-4.ensures.value in
    let own : is_foreign (map (header_bytes text) (take c.in-Ok-Some.spans.headers c.read_head.new.headers)) ≡ false =
    ap (λ (t : List ℕ). is_foreign (map (header_bytes t)
    (take c.in-Ok-Some.spans.headers c.read_head.new.headers))) (sym c.deref-2.ensures.value)
    ∙ sym c.is_foreign_head.ensures ∙ c.if-is_foreign_head.false in
    let asked : c.form_of_head-form.result
    ≡ form_of (map (header_bytes text) (take c.in-Ok-Some.spans.headers c.read_head.new.headers)) =
    c.form_of_head-form.ensures ∙ ap (λ (t : List ℕ). form_of (map (header_bytes t)
    (take c.in-Ok-Some.spans.headers c.read_head.new.headers))) c.deref.ensures.value in
    let leads =
    leads_told c.of-method.result.now _ c.of-target.result.now _ _ m p
    (rw c.in-Ok-Some-Commands.field-0-0-is at
    (rw c.in-Ok-Some-Commands.field-0-is at c.in-Ok-Some-Commands.ensures.value)) in
    command_told _ _ text c.read_head.new.headers c.in-Ok-Some.spans h _ asked _ _ own leads
    c.in-Ok-read_command.call _ _
    (c.body_length-size.ensures ∙ ap
    (λ (t : List ℕ). body_length (map (header_bytes t) (take c.in-Ok-Some.spans.headers c.read_head.new.headers)))
    c.deref-in-Ok-Some-Commands.ensures.value)
    (whole_rest c.in-Ok-Some.spans.len c.deref-in-Ok-Some-Commands-2.result.now ∙ ap (drop c.in-Ok-Some.spans.len)
    c.deref-in-Ok-Some-Commands-2.ensures.value) c.in-Ok-read_command.ensures.calls

pub returns-in-Ok-Some-Commands-clause-early : goal.returns-in-Ok-Some-Commands-clause-early
returns-in-Ok-Some-Commands-clause-early g c e =
    let h = rw c.in-Ok-Some.field-0-is at c.in-Ok-Some.ensures.found in
    let text = c.read_head.new.text.items in
    let m : c.of-method.result.now ≡ span_bytes text c.in-Ok-Some.spans.method =
    c.of-method.ensures ∙ ap (λ (t : List ℕ). span_bytes t c.in-Ok-Some.spans.method) c.deref-3.ensures.value in
    let p : c.of-target.result.now ≡ span_bytes text c.in-Ok-Some.spans.path =
    c.of-target.ensures ∙ ap (λ (t : List ℕ). span_bytes t c.in-Ok-Some.spans.path) c.deref-4.ensures.value in
    let own : is_foreign (map (header_bytes text) (take c.in-Ok-Some.spans.headers c.read_head.new.headers)) ≡ false =
    ap (λ (t : List ℕ). is_foreign (map (header_bytes t)
    (take c.in-Ok-Some.spans.headers c.read_head.new.headers))) (sym c.deref-2.ensures.value)
    ∙ sym c.is_foreign_head.ensures ∙ c.if-is_foreign_head.false in
    let asked : c.form_of_head-form.result
    ≡ form_of (map (header_bytes text) (take c.in-Ok-Some.spans.headers c.read_head.new.headers)) =
    c.form_of_head-form.ensures ∙ ap (λ (t : List ℕ). form_of (map (header_bytes t)
    (take c.in-Ok-Some.spans.headers c.read_head.new.headers))) c.deref.ensures.value in
    let leads =
    leads_told c.of-method.result.now _ c.of-target.result.now _ _ m p
    (rw c.in-Ok-Some-Commands.field-0-0-is at
    (rw c.in-Ok-Some-Commands.field-0-is at c.in-Ok-Some-Commands.ensures.value)) in
    stop_told _ _ text c.read_head.new.headers c.in-Ok-Some.spans h _ asked _ _ own leads _ _
    (c.body_length-size.ensures ∙ ap
    (λ (t : List ℕ). body_length (map (header_bytes t) (take c.in-Ok-Some.spans.headers c.read_head.new.headers)))
    c.deref-in-Ok-Some-Commands.ensures.value)
    (whole_rest c.in-Ok-Some.spans.len c.deref-in-Ok-Some-Commands-2.result.now ∙ ap (drop c.in-Ok-Some.spans.len)
    c.deref-in-Ok-Some-Commands-2.ensures.value) (c.read_command.ensures.early
    (let k : c.in-Err-read_command.cause ≡ ReadFault = cc in
    c.in-Err-read_command.is ∙ ap (λ (x : Cause). Err x) k))
