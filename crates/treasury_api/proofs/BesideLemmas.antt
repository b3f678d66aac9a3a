-- What is said in JSON beside an answer.
use Rattle.std.proofs.Common.{◌≡◌, ◌-◌, ℕ, List, Option, Some, None, length, take, ap, sym, subst}
use Rattle.std.specs.Prelude.{MatchOption, option_map}
use Rattle.book_core.specs.declared.refusal.Refusal.{Refusal}
use Rattle.treasury_state.specs.Federation.{Federation}
use Rattle.treasury_requests.specs.declared.request.Spelled.{Spelled}
use Rattle.treasury_notes.specs.declared.notes.HeldBefore.{HeldBefore}
use Rattle.treasury_api.specs.declared.telling.Grounds.{Grounds}
use Rattle.treasury_api.specs.Beside.{IsSaidBeside, IsJsonNoted}
use Rattle.treasury_api.specs.WebServing.{IsJsonDone}

-- the state that memory holds, as it is lent
state_lent : {X : Type 0} (now : X → Federation) (o : Option X) (held : Option Federation)
    → MatchOption o (held ≡ None) (λ x. held ≡ Some (now x)) → option_map now o ≡ held
state_lent now None held is = sym is
state_lent now (Some s) held is = sym is

-- what of it was held before
pub held_lent : {X : Type 0} (now : X → Federation) (o : Option X) (held : Option Federation)
    (before : Federation → HeldBefore) → MatchOption o (held ≡ None) (λ x. held ≡ Some (now x))
    → option_map (λ x. before (now x)) o ≡ option_map before held
held_lent now None held before is = ap (option_map before) (sym is)
held_lent now (Some s) held before is = ap (option_map before) (sym is)

-- what is said of it
pub said_there : {X : Type 0} (now : X → Federation) (o : Option X) (held : Option Federation) (request : Spelled)
    (source : List ℕ) (grounds : Grounds) (refusal : Option Refusal) (said : List ℕ)
    → MatchOption o (held ≡ None) (λ x. held ≡ Some (now x))
    → IsSaidBeside (option_map now o) request source grounds refusal said
    → IsSaidBeside held request source grounds refusal said
said_there now o held request source grounds refusal said is told =
    subst (λ (h : Option Federation). IsSaidBeside h request source grounds refusal said) (state_lent now o held is)
    told

-- what is noted in an object, by equal values
pub noted_as : (text lent said shown : List ℕ) (entries told : Option ℕ) (body : List ℕ) → lent ≡ text → shown ≡ said
    → entries ≡ told → IsJsonNoted (take (length lent - 1) lent) shown entries body
    → IsJsonNoted (take (length text - 1) text) said told body
noted_as text lent said shown entries told body same_text same_said same_entries is =
    subst (λ (t : List ℕ). IsJsonNoted (take (length t - 1) t) said told body) same_text
    (subst (λ (t : List ℕ). IsJsonNoted (take (length lent - 1) lent) t told body) same_said
    (subst (λ (e : Option ℕ). IsJsonNoted (take (length lent - 1) lent) shown e body) same_entries is))

-- the object of an answer, by equal values
pub done_as : (text lent : List ℕ) (entries told : Option ℕ) (body : List ℕ) → lent ≡ text → entries ≡ told
    → IsJsonDone (take (length lent - 1) lent) entries body → IsJsonDone (take (length text - 1) text) told body
done_as text lent entries told body same_text same_entries is =
    subst (λ (t : List ℕ). IsJsonDone (take (length t - 1) t) told body) same_text
    (subst (λ (e : Option ℕ). IsJsonDone (take (length lent - 1) lent) e body) same_entries is)
