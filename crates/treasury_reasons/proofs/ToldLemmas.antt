-- what is told of a refusal begins with its sentence
use Rattle.std.proofs.Common.{◌≡◌, ◌∙◌, ℕ, List, ◌∷◌, ◌++◌, true, false, refl, sym, subst, inl}
use Rattle.money_core.specs.declared.cause.Cause.{Cause}
use Rattle.book_core.specs.declared.refusal.Refusal.TheVariants.{Plain}
use Rattle.treasury_state.specs.Federation.{Federation, records_of, lock_of}
use Rattle.treasury_core.specs.Step.{records_in_file}
use Rattle.treasury_requests.specs.declared.request.Request.{Request}
use Rattle.treasury_messages.specs.Said.{Said}
use Rattle.treasury_messages.specs.Sentence.{sentence_said}
use Rattle.treasury_reasons.specs.Closing.{closing_said}
use Rattle.treasury_reasons.specs.Held.{held_said}
use Rattle.treasury_reasons.specs.Refused.{is_of_transaction}
use Rattle.treasury_reasons.specs.Told.{BeginsWithSentence, ExplainsRefusal}
use Rattle.treasury_reasons.proofs.RefusedLemmas.{refused_of_one}

-- the sentence, and then more
plain_begins : (cause : Cause) (said rest : List Said) → said ≡ sentence_said cause ∷ rest
    → BeginsWithSentence cause said
plain_begins cause said rest e = subst (BeginsWithSentence cause) (sym e) (inl refl)

-- ---- a refusal by a cause alone
abbrev plain_said : Federation → Request → Cause → List Said
plain_said f request cause = sentence_said cause ∷ (held_said f request cause ++ closing_said f request cause)

-- of an import, by a cause of no transaction
pub told_of_none : (f : Federation) (request : Request) (source : List ℕ) (cause : Cause) (said : List Said)
    → is_of_transaction cause ≡ false → said ≡ plain_said f request cause
    → ExplainsRefusal f request source (Plain cause) said
told_of_none f request source cause said none is = record {
  sentence = plain_begins cause said _ is;
  why = record {
    refused = λ name journal list refused.
        let one = refused_of_one f.styles (lock_of f name) (records_of f name) (records_in_file f.styles list) cause
        refused.refused in
        absurd (let wrong : true ≡ false = sym one ∙ none in cc);
    plain = λ e. is;
  };
}
