-- What bytes say that come from a service: as one reply, or nothing.
use Rattle.std.proofs.Common.{◌≡◌, ◌⊎◌, ◌++◌, ℕ, Bool, true, false, not, List, Option, None, Some, codes}
use Rattle.std.proofs.Common.{sym, ap, ◌∙◌, inl, inr, Result, Ok, Err, IfOk}
use Rattle.std.specs.Str.{bytes_eq}
use Rattle.money_core.specs.declared.cause.Cause.{Cause}
use Rattle.treasury_client.specs.declared.heard.Heard.{Heard}
use Rattle.treasury_client.specs.Heard.{SaysText}
use Rattle.treasury_client.specs.Reply.{IsReply, IsRefusalLine, SaysToCommand, SaysToReport}
use Rattle.treasury_client.specs.Reply.{status_of_done, text_type, json_type, answer_in}
use Rattle.treasury_client.proofs.ReplyLemmas.{one_reply}

true_is_false : true ≡ false → ⊥
true_is_false e = absurd cc

none_is_found : (line : List ℕ) → None ≡ Some line → ⊥
none_is_found line e = absurd cc

-- bytes that are no reply say nothing
pub none_to_command : (came : List ℕ) → ((status kind body : List ℕ) → IsReply came status kind body → ⊥)
    → (said : List ℕ) (refused : Bool) → SaysToCommand came said refused → ⊥
none_to_command came none said refused (status, kind, body, is, of, says, by) = none status kind body is

pub none_to_report : (came : List ℕ) → ((status kind body : List ℕ) → IsReply came status kind body → ⊥)
    → (said : List ℕ) (refused : Bool) → SaysToReport came said refused → ⊥
none_to_report came none said refused (status, kind, body, is, of, says, by, line) = none status kind body is

-- nor does a reply to a command that is no JSON, or has no answer line
pub strange_to_command : (came status kind body : List ℕ) → IsReply came status kind body
    → (bytes_eq kind json_type ≡ false) ⊎ (answer_in body ≡ None) → (said : List ℕ) (refused : Bool)
    → SaysToCommand came said refused → ⊥
strange_to_command came status kind body is (inl other) said refused (status2, kind2, body2, is2, of, says, by) =
    let same = one_reply came status kind body status2 kind2 body2 is is2 in
    true_is_false (sym of ∙ (ap (λ (k : List ℕ). bytes_eq k json_type) (sym same.1) ∙ other))
strange_to_command came status kind body is (inr none) said refused (status2, kind2, body2, is2, of, says, by) =
    let same = one_reply came status kind body status2 kind2 body2 is is2 in
    none_is_found said (sym none ∙ (ap answer_in same.2 ∙ says))

-- nor one to a report that is no text
pub other_to_report : (came status kind body : List ℕ) → IsReply came status kind body
    → bytes_eq kind text_type ≡ false → (said : List ℕ) (refused : Bool) → SaysToReport came said refused → ⊥
other_to_report came status kind body is other said refused (status2, kind2, body2, is2, of, says, by, line) =
    let same = one_reply came status kind body status2 kind2 body2 is is2 in
    true_is_false (sym of ∙ (ap (λ (k : List ℕ). bytes_eq k text_type) (sym same.1) ∙ other))

-- nor one that is no report and no refusal
pub strange_to_report : (came status kind body : List ℕ) → IsReply came status kind body
    → bytes_eq status status_of_done ≡ false → ((rest : List ℕ) → body ≡ codes "refused " ++ rest → ⊥)
    → (said : List ℕ) (refused : Bool) → SaysToReport came said refused → ⊥
strange_to_report came status kind body is failed other said refused (status2, kind2, body2, is2, of, says, by, line) =
    let same = one_reply came status kind body status2 kind2 body2 is is2 in
    let begins = line (by ∙ ap not (ap (λ (s : List ℕ). bytes_eq s status_of_done) (sym same.0) ∙ failed)) in
    other begins.0 (same.2 ∙ begins.1)

-- ---- what is told of a text

pub told_done : (r : Result Heard Cause) (status body : List ℕ) → bytes_eq status status_of_done ≡ true
    → IfOk r (λ heard. (heard.answer.items ≡ body) × (heard.is_refused ≡ false)) → IfOk r (SaysText status body)
told_done (Ok heard) status body is told =
    (told.0, told.1 ∙ sym (ap not is), λ yes. absurd (true_is_false (sym yes ∙ told.1)))
told_done (Err cause) status body is told = tt

pub told_refused : (r : Result Heard Cause) (status body : List ℕ) → bytes_eq status status_of_done ≡ false
    → IsRefusalLine body → IfOk r (λ heard. (heard.answer.items ≡ body) × (heard.is_refused ≡ true))
    → IfOk r (SaysText status body)
told_refused (Ok heard) status body is line told = (told.0, told.1 ∙ sym (ap not is), λ _. line)
told_refused (Err cause) status body is line told = tt

-- a test that failed did not pass
pub not_true_and_false : (b : Bool) → b ≡ false → b ≡ true → ⊥
not_true_and_false b fails passes = true_is_false (sym passes ∙ fails)
