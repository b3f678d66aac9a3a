-- What is said of a refusal by a cause alone: what is held against the request, and what its texts have to be (own
-- rule; docs/RULES.md, "Explanations").
use Rattle.std.specs.Prelude.{ℕ, List, [], ◌∷◌, length, decimal, Option, Some, None}
use Rattle.money_core.specs.declared.style.Style.{Style}
use Rattle.money_core.specs.declared.unit.Unit.{Unit as Commodity}
use Rattle.money_core.specs.declared.cause.Cause.{Cause}
use Rattle.money_core.specs.declared.cause.Cause.TheVariants as cause
use Rattle.money_core.specs.Style.{unit_of}
use Rattle.money_core.specs.Sampling.{style_of}
use Rattle.book_core.specs.GoodBook.{most_entries}
use Rattle.treasury_state.specs.Federation.{Branch, Federation, branch_at, names_of}
use Rattle.treasury_requests.specs.declared.request.Request.{Request}
use Rattle.treasury_requests.specs.declared.request.Request.TheVariants as req
use Rattle.treasury_requests.specs.declared.request.WrittenPart.{WrittenPart}
use Rattle.treasury_requests.specs.Request.{branch_asked}
use Rattle.treasury_messages.specs.declared.kind.MessageKind.{MessageKind}
use Rattle.treasury_messages.specs.declared.kind.MessageKind.TheVariants as is
use Rattle.treasury_messages.specs.Said.{Said, says}
use Rattle.journal_hints.specs.Samples.{written_sample, samples_said, is_bare_number, amount_form_said}
use Rattle.treasury_reasons.specs.HeldTransfer.{id_said, held_transfer}
use Rattle.treasury_reasons.specs.Lock.{lock_said}

-- the names of all branches; a hint where there are none
abbrev pub branches_said : List (List ℕ) → List Said
branches_said [] = says is.Hint [] ∷ []
branches_said (name ∷ names) = says is.Branches (name ∷ names) ∷ []

-- the account of a request
abbrev pub account_asked : Request → Option (List ℕ)
account_asked (req.Dispatch id from to day amount account) = Some account
account_asked (req.Receive id branch day account part) = Some account
account_asked _ = None

-- that account, and what is said of it
abbrev pub account_said : MessageKind → Option (List ℕ) → List Said
account_said of_it None = []
account_said of_it (Some account) = says is.Account (account ∷ []) ∷ says of_it [] ∷ []

-- a branch that has as many entries as it may have: how many that are, its name, and how many it has
abbrev pub entries_said : Option Branch → List Said
entries_said None = []
entries_said (Some b) =
    says is.CountOfEntries (decimal most_entries ∷ b.name ∷ decimal (length b.records) ∷ []) ∷ []

abbrev pub count_reached : Federation → Option (List ℕ) → List Said
count_reached f None = []
count_reached f (Some name) = entries_said (branch_at f.branches name)

-- which count has reached its limit
abbrev pub count_said : Federation → Request → List Said
count_said f (req.Branch name) = says is.Hint [] ∷ []
count_said f (req.Commodity sample) = says is.Hint [] ∷ []
count_said f request = count_reached f (branch_asked request)

-- how the commodity of a sample is written already
abbrev pub written_said : List Style → Option Commodity → List Said
written_said styles None = []
written_said styles (Some unit) = says is.HeldStyle (written_sample styles unit ∷ []) ∷ []

abbrev pub symbol_said : List Style → Option Style → List Said
symbol_said styles None = []
symbol_said styles (Some style) = written_said styles (unit_of styles style.symbol)

abbrev pub style_said : List Style → Request → List Said
style_said styles (req.Commodity sample) = symbol_said styles (style_of sample)
style_said styles _ = []

-- how amounts are written, for a part whose text is not an amount
abbrev pub part_form_said : List Style → Option WrittenPart → List Said
part_form_said styles None = []
part_form_said styles (Some part) = amount_form_said styles (is_bare_number part.amount)

-- how samples or amounts are written, for a request whose own text is not one
abbrev pub form_said : List Style → Request → List Said
form_said styles (req.Commodity sample) = says is.Hint [] ∷ []
form_said styles (req.Dispatch id from to day amount account) = amount_form_said styles (is_bare_number amount)
form_said styles (req.Receive id branch day account part) = part_form_said styles part
form_said styles _ = []

-- what is said after the sentence, by why the request is refused
abbrev pub held_said : Federation → Request → Cause → List Said
held_said f request cause.UnknownBranch = branches_said (names_of f.branches)
held_said f request cause.BranchName = says is.Hint [] ∷ []
held_said f request cause.BadId = id_said request
held_said f request cause.BadAccount = account_said is.Hint (account_asked request)
held_said f request cause.ReservedAccount = account_said is.TransfersOnly (account_asked request)
held_said f request cause.Amount = form_said f.styles request
held_said f request cause.UnknownCommodity = samples_said is.Declared f.styles
held_said f request cause.Decimals = samples_said is.Declared f.styles
held_said f request cause.CommodityExists = style_said f.styles request
held_said f request cause.UnknownTransfer = says is.Hint [] ∷ []
held_said f request cause.Full = count_said f request
held_said f request cause.Locked = lock_said f request
held_said f request cause.LockBack = lock_said f request
held_said f request cause.MarkClash = held_transfer f request cause.MarkClash
held_said f request cause.WrongBranch = held_transfer f request cause.WrongBranch
held_said f request cause.AlreadyReceived = held_transfer f request cause.AlreadyReceived
held_said f request cause.TooEarly = held_transfer f request cause.TooEarly
held_said f request cause.TooMuch = held_transfer f request cause.TooMuch
held_said f request _ = []
