use Rattle.std.proofs.Common.{◌≡◌, ◌∙◌, sym, ap, subst, true, Some}
use Rattle.std.specs.Result.{IfOk}
use Rattle.std.specs.Prelude.{is_some, codes, find}
use Rattle.serde_json.specs.Find.{get, as_object}
use Rattle.serde_json.specs.View.{view}
use Rattle.treasury_requests.specs.RequestFault.{value_fault, do_fault, word_fault}
use Rattle.treasury_requests.specs.Words.{is_word_named, all_words}
use Rattle.treasury_requests.proofs.FaultLemmas.{value_fault-object, do_fault-text}
use Rattle.treasury_requests.proofs.fault.value_fault.Goals as goal

pub returns-in-Some-as_str-clause-value : goal.returns-in-Some-as_str-clause-value
returns-in-Some-as_str-clause-value c =
    let d = view c.args.value.now in
    let said = view c.in-Some.said.now in
    let text = c.in-Some-as_str.text.now in
    let is_object : is_some (as_object d) ≡ true =
    (let r = c.is_object.ensures in let f = c.if-not-is_object.false in cc) in
    let found : get (codes "do") d ≡ Some said = sym (c.in-Some.ensures ∙ ap (λ k. get k d) c.name.ensures) in
    let same : value_fault d ≡ word_fault d text (find (is_word_named text) all_words) =
    value_fault-object d is_object ∙ ap (do_fault d) found ∙ do_fault-text d said text (sym c.in-Some-as_str.ensures) in
    subst (λ v. IfOk c.word_fault.result (λ fault. fault ≡ v)) (sym same) c.word_fault.ensures.value
