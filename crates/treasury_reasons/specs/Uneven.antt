-- What is said of an import by the transaction on the line of its fault, where that says more than the line (own rule;
-- docs/RULES.md, "Explanations").
use Rattle.std.specs.Prelude.{◌≡◌, ℕ, List, ◌∷◌, ◌++◌}
use Rattle.money_core.specs.declared.cause.Fault.{Fault}
use Rattle.money_core.specs.declared.style.Style.{Style}
use Rattle.journal_format.specs.declared.posting.Posting.{Posting}
use Rattle.journal_format.specs.declared.txn.Located.{Located}
use Rattle.journal_format.specs.Pieces.{Reads}
use Rattle.treasury_requests.specs.declared.request.Request.{Request}
use Rattle.treasury_requests.specs.declared.request.Request.TheVariants as req
use Rattle.treasury_messages.specs.Said.{Said}
use Rattle.treasury_messages.specs.Sentence.{sentence_said_at}
use Rattle.journal_hints.specs.SourceLine.{source_said}
use Rattle.journal_hints.specs.LeftOver.{transaction_on, said_of_postings}

-- the request is an import of a journal into a branch, and that reads as these transactions
abbrev pub IsReadImport : List Style → Request → List ℕ → List ℕ → List Located → Type 0
IsReadImport styles request name journal list = (request ≡ req.Import name journal) × Reads styles journal list

-- the sentence with the line of the fault, that line, and what is said of the postings of the transaction whose header
-- stands there
abbrev pub uneven_said : List ℕ → List ℕ → List Located → Fault → (List Posting → List Said) → List Said
uneven_said source journal list fault said =
    sentence_said_at source fault.line fault.cause
    ∷ (source_said journal fault.line ++ said_of_postings said (transaction_on fault.line list))
