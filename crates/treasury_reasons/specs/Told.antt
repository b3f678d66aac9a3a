-- What is told of a refusal, beside the answer (own rule; docs/RULES.md, "Explanations").
use Rattle.std.specs.Prelude.{◌≡◌, ◌⊎◌, ℕ, Bool, true, false, List, ◌∷◌, [], ◌++◌}
use Rattle.money_core.specs.declared.cause.Cause.{Cause}
use Rattle.money_core.specs.declared.cause.Cause.TheVariants.{CostNotExact, Unbalanced}
use Rattle.money_core.specs.declared.cause.Fault.{Fault}
use Rattle.book_core.specs.declared.refusal.Failure.{Failure}
use Rattle.book_core.specs.declared.refusal.Refusal.{Refusal}
use Rattle.book_core.specs.declared.refusal.Refusal.TheVariants.{Plain, Text, ClaimFailed}
use Rattle.journal_format.specs.declared.txn.Located.{Located}
use Rattle.journal_format.specs.Pieces.{Reads}
use Rattle.treasury_state.specs.Federation.{Federation, has_branch}
use Rattle.treasury_requests.specs.declared.request.Request.{Request}
use Rattle.treasury_requests.specs.declared.request.Request.TheVariants as req
use Rattle.treasury_messages.specs.Said.{Said}
use Rattle.treasury_messages.specs.Sentence.{sentence_said, sentence_said_at}
use Rattle.journal_hints.specs.ExactProduct.{inexact_said}
use Rattle.journal_hints.specs.LeftOver.{left_over_said}
use Rattle.treasury_reasons.specs.Closing.{closing_said}
use Rattle.treasury_reasons.specs.Failure.{judged_branch, text_asked, told_failure}
use Rattle.treasury_reasons.specs.Held.{held_said}
use Rattle.treasury_reasons.specs.Refused.{cause_in, is_of_transaction, IsRefused, TellsRefused}
use Rattle.treasury_reasons.specs.Uneven.{IsReadImport, uneven_said}

-- the first message is the sentence of a cause, with or without a place
abbrev pub BeginsWithSentence : Cause → List Said → Type 0
BeginsWithSentence cause [] = ⊥
BeginsWithSentence cause (m ∷ ms) =
    (m ≡ sentence_said cause) ⊎ ((source : List ℕ) × (line : ℕ) × (m ≡ sentence_said_at source line cause))

-- by a cause alone
abbrev pub may_name_transaction : Request → Cause → Bool
may_name_transaction (req.Import branch journal) cause = is_of_transaction cause
may_name_transaction _ cause = false

pub record TellsCause (f : Federation) (request : Request) (source : List ℕ) (cause : Cause) (said : List Said)
    : Type 0 where
  -- of an import that is refused by one of its transactions, it is the one at the place where the decision stops of
  -- which all is said
  pub refused : (name journal : List ℕ) (list : List Located) → IsRefused f request name journal list cause
      → TellsRefused f request name source journal list cause said
  -- of any other, what is held against the request, and against a closing
  pub plain : may_name_transaction request cause ≡ false
      → said ≡ sentence_said cause ∷ (held_said f request cause ++ closing_said f request cause)

-- by a fault of the journal
pub record TellsTextFault (f : Federation) (request : Request) (source : List ℕ) (fault : Fault) (said : List Said)
    : Type 0 where
  -- where a cost is not exact, it is the exact product of the first such cost of the transaction on that line
  pub inexact : (name journal : List ℕ) (list : List Located) → fault.cause ≡ CostNotExact
      → IsReadImport f.styles request name journal list
      → said ≡ uneven_said source journal list fault (inexact_said f.styles)
  -- where the values of a transaction do not sum to zero, it is what that one leaves over
  pub left : (name journal : List ℕ) (list : List Located) → fault.cause ≡ Unbalanced
      → IsReadImport f.styles request name journal list
      → said ≡ uneven_said source journal list fault (left_over_said f.styles)

-- by an assertion that fails: the held entry or the new transaction that it names, what is asserted and found, and
-- which new ones touch the account; a request without a text has an empty one
abbrev pub TellsFailure : Federation → Request → List ℕ → Failure → List Said → Type 0
TellsFailure f request source failure said =
    (list : List Located) → has_branch f (judged_branch request) ≡ true → Reads f.styles (text_asked request) list
    → said ≡ told_failure f request source list failure

abbrev pub TellsWhy : Federation → Request → List ℕ → Refusal → List Said → Type 0
TellsWhy f request source (Plain cause) said = TellsCause f request source cause said
TellsWhy f request source (Text fault) said = TellsTextFault f request source fault said
TellsWhy f request source (ClaimFailed failure) said = TellsFailure f request source failure said

-- what is told of a request that is refused so: the sentence of the refusal first, and why; `source` names its journal
pub record ExplainsRefusal (f : Federation) (request : Request) (source : List ℕ) (refusal : Refusal) (said : List Said)
    : Type 0 where
  pub sentence : BeginsWithSentence (cause_in refusal) said
  pub why : TellsWhy f request source refusal said
