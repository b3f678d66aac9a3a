-- What is said of the transaction of a text that is refused by 24 to 27 (own rule; docs/RULES.md, "Explanations").
use Rattle.std.specs.Prelude.{ℕ, nat_eq, ◌≡◌, ◌+◌, if◌then◌else◌, Bool, true, false, List, [], ◌∷◌, ◌++◌, codes}
use Rattle.std.specs.Prelude.{decimal, Option, Some, None, slice_get, find}
use Rattle.std.specs.List.{starts_with}
use Rattle.money_core.specs.declared.cause.Cause.{Cause}
use Rattle.money_core.specs.declared.cause.Cause.TheVariants.{MarkClash, ReservedMark, ReservedAccount, Locked}
use Rattle.money_core.specs.declared.cause.Cause.TheVariants.{ClaimFailed as FailedClaim}
use Rattle.book_core.specs.declared.leg.Leg.{Leg}
use Rattle.book_core.specs.declared.refusal.Refusal.{Refusal}
use Rattle.book_core.specs.declared.refusal.Refusal.TheVariants.{Plain, Text, ClaimFailed}
use Rattle.journal_format.specs.declared.txn.Located.{Located}
use Rattle.journal_format.specs.Pieces.{Reads}
use Rattle.treasury_state.specs.declared.record.Record.{Record}
use Rattle.treasury_state.specs.Federation.{Federation, has_branch, records_of, lock_of}
use Rattle.treasury_state.specs.Index.{mark_place}
use Rattle.treasury_state.specs.Transfer.{is_transit}
use Rattle.treasury_core.specs.Step.{records_in_file, refused_in, StopsAt}
use Rattle.treasury_requests.specs.declared.request.Request.{Request}
use Rattle.treasury_requests.specs.declared.request.Request.TheVariants as req
use Rattle.treasury_messages.specs.declared.kind.MessageKind.TheVariants as is
use Rattle.treasury_messages.specs.Said.{Said, says}
use Rattle.treasury_messages.specs.Pieces.{header_values}
use Rattle.treasury_messages.specs.Sentence.{sentence_said, sentence_said_at}
use Rattle.journal_hints.specs.SourceLine.{source_said}
use Rattle.treasury_reasons.specs.Lock.{lock_said}

-- the cause of a refusal
abbrev pub cause_in : Refusal → Cause
cause_in (Plain cause) = cause
cause_in (Text fault) = fault.cause
cause_in (ClaimFailed failure) = FailedClaim

-- an import can be refused so by one of its transactions
abbrev pub is_of_transaction : Cause → Bool
is_of_transaction MarkClash = true
is_of_transaction ReservedMark = true
is_of_transaction ReservedAccount = true
is_of_transaction Locked = true
is_of_transaction other = false

-- what holds a mark: the record at a place of the branch, or else the transaction at a place of the text
abbrev pub record_said : ℕ → Option Record → List Said
record_said i None = []
record_said i (Some r) = says is.HeldEntry (header_values r.txn ++ decimal (i + 1) ∷ []) ∷ []

abbrev pub earlier_said : Option Located → List Said
earlier_said None = []
earlier_said (Some x) = says is.HeldOnLine (header_values x.txn ++ decimal x.line ∷ []) ∷ []

abbrev pub holder_said : List Record → List Located → Option ℕ → Option ℕ → List Said
holder_said records file (Some i) earlier = record_said i (slice_get records i)
holder_said records file None (Some i) = earlier_said (slice_get file i)
holder_said records file None None = []

-- which command makes entries with a mark of the treasury's own
abbrev pub maker_of : List ℕ → List ℕ
maker_of mark =
    if starts_with nat_eq mark (codes "out:") then codes "treasury dispatch"
    else if starts_with nat_eq mark (codes "in:") then codes "treasury receive"
    else codes "treasury close"

-- the account of a leg on which only transfers post
abbrev pub transit_said : Option Leg → List Said
transit_said None = []
transit_said (Some x) = says is.Account (x.account ∷ []) ∷ says is.TransfersOnly [] ∷ []

-- for what a transaction is refused, whose record that is; these are the transactions of the text and their records
abbrev pub cause_said : Federation → Request → List Record → List Located → List Record → Cause → Record → List Said
cause_said f request records file rows MarkClash r =
    says is.Mark (r.mark ∷ []) ∷ holder_said records file (mark_place records r.mark) (mark_place rows r.mark)
cause_said f request records file rows ReservedMark r =
    says is.Mark (r.mark ∷ []) ∷ says is.Maker (maker_of r.mark ∷ []) ∷ []
cause_said f request records file rows ReservedAccount r = transit_said (find is_transit r.entry.legs)
cause_said f request records file rows other r = lock_said f request

-- of a transaction and its record: the sentence with its line, that line, and for what it is refused
abbrev pub transaction_said : Federation → Request → List ℕ → List ℕ → List Record → List Located → List Record → Cause
    → Option Located → Option Record → List Said
transaction_said f request source text records file rows cause (Some x) (Some r) =
    sentence_said_at source x.line cause ∷ (source_said text x.line ++ cause_said f request records file rows cause r)
transaction_said f request source text records file rows cause x r = sentence_said cause ∷ []

-- of those at a place
abbrev pub stopped_said : Federation → Request → List ℕ → List ℕ → List Record → List Located → List Record → Cause → ℕ
    → List Said
stopped_said f request source text records file rows cause place =
    transaction_said f request source text records file rows cause (slice_get file place) (slice_get rows place)

-- the request is an import whose text has these transactions, and the branch, as it takes them in turn, refuses one
-- with that cause
pub record IsRefused (f : Federation) (request : Request) (name journal : List ℕ) (list : List Located)
    (cause : Cause) : Type 0 where
  pub is : request ≡ req.Import name journal
  pub there : has_branch f name ≡ true
  pub reads : Reads f.styles journal list
  pub refused : refused_in f.styles (lock_of f name) (records_of f name) (records_in_file f.styles list)
      ≡ Some (Plain cause)

-- what is said tells of the one at which the branch stops
pub record TellsRefused (f : Federation) (request : Request) (name source journal : List ℕ) (list : List Located)
    (cause : Cause) (said : List Said) : Type 0 where
  pub place : ℕ
  pub stops : StopsAt f.styles (lock_of f name) (records_of f name) (records_in_file f.styles list) place (Plain cause)
  pub all : said
      ≡ stopped_said f request source journal (records_of f name) list (records_in_file f.styles list) cause place
