-- What is said of the transfer that a request is on (own rule; docs/RULES.md, "Explanations").
use Rattle.std.specs.Prelude.{ℕ, Bool, if◌then◌else◌, List, [], ◌∷◌, ◌++◌, ℤ, find, Option, Some, None, Result, Ok, Err}
use Rattle.money_core.specs.declared.style.Style.{Style}
use Rattle.money_core.specs.declared.unit.Unit.{Unit as Commodity}
use Rattle.money_core.specs.declared.cause.Cause.{Cause}
use Rattle.money_core.specs.declared.cause.Cause.TheVariants as cause
use Rattle.money_core.specs.Reading.{amount}
use Rattle.treasury_state.specs.declared.transfer.Part.{Part}
use Rattle.treasury_state.specs.declared.transfer.Receipt.{Receipt}
use Rattle.treasury_state.specs.declared.transfer.Transfer.{Transfer}
use Rattle.treasury_state.specs.Federation.{Federation}
use Rattle.treasury_state.specs.Transfer.{transfer_at, left_of, is_id}
use Rattle.treasury_core.specs.Step.{has_key}
use Rattle.treasury_requests.specs.declared.request.Request.{Request}
use Rattle.treasury_requests.specs.declared.request.Request.TheVariants as req
use Rattle.treasury_requests.specs.declared.request.WrittenPart.{WrittenPart}
use Rattle.treasury_messages.specs.declared.kind.MessageKind.TheVariants as is
use Rattle.treasury_messages.specs.Said.{Said, says}
use Rattle.treasury_messages.specs.Pieces.{shown_amount, shown_day}

-- the ID and the part of a request
abbrev pub id_asked : Request → Option (List ℕ)
id_asked (req.Dispatch id from to day amount account) = Some id
id_asked (req.Receive id branch day account part) = Some id
id_asked _ = None

abbrev pub part_asked : Request → Option WrittenPart
part_asked (req.Receive id branch day account part) = part
part_asked _ = None

-- the transfer of an ID
abbrev pub transfer_in : Federation → Option (List ℕ) → Option Transfer
transfer_in f None = None
transfer_in f (Some id) = transfer_at f id

-- when what the parts left was received, and into which account
abbrev pub receipt_values : Option Receipt → List (List ℕ)
receipt_values None = []
receipt_values (Some r) = shown_day r.day ∷ r.payee ∷ []

-- a transfer: its ID, its amount, both branches, when and from which account it was sent, and its receipt
abbrev pub transfer_said : List Style → Transfer → Said
transfer_said styles t =
    says is.HeldTransfer (t.id ∷ shown_amount styles t.unit t.qty ∷ t.source ∷ t.target ∷ shown_day t.day ∷ t.payer
    ∷ receipt_values t.receipt)

-- what is left of it
abbrev pub transfer_left_said : List Style → Transfer → List Said
transfer_left_said styles t = says is.Left (shown_amount styles t.unit (left_of t) ∷ []) ∷ []

-- what is left of it, unless that was received
abbrev pub rest_said : List Style → Transfer → Option Receipt → List Said
rest_said styles t None = transfer_left_said styles t
rest_said styles t (Some r) = []

-- a part of it: its key, its amount, and when and into which account it was received
abbrev pub part_said : List Style → Commodity → Part → Said
part_said styles unit p = says is.HeldPart (p.key ∷ shown_amount styles unit p.qty ∷ shown_day p.day ∷ p.payee ∷ [])

abbrev pub part_if : List Style → Commodity → Option Part → List Said
part_if styles unit None = []
part_if styles unit (Some p) = part_said styles unit p ∷ []

-- what is held under the key that is asked for; without a part, what is left
abbrev pub key_said : List Style → Transfer → Option WrittenPart → List Said
key_said styles t None = rest_said styles t t.receipt
key_said styles t (Some asked) = part_if styles t.unit (find (has_key asked.key) t.parts)

-- what the amount of a part was read as
abbrev pub read_said : List Style → Result (Commodity × ℤ) Cause → List Said
read_said styles (Ok read) = says is.Asked (shown_amount styles read.0 read.1 ∷ []) ∷ []
read_said styles (Err e) = []

abbrev pub asked_said : List Style → Option WrittenPart → List Said
asked_said styles None = []
asked_said styles (Some asked) = read_said styles (amount styles asked.amount)

-- what is said after the transfer, by why the request is refused
abbrev pub behind_transfer : List Style → Transfer → Option WrittenPart → Cause → List Said
behind_transfer styles t part cause.AlreadyReceived = key_said styles t part
behind_transfer styles t part cause.TooMuch = asked_said styles part ++ transfer_left_said styles t
behind_transfer styles t part _ = []

-- what is said of the transfer that a request is on, if there is one
abbrev pub transfer_if : List Style → Option WrittenPart → Cause → Option Transfer → List Said
transfer_if styles part why None = []
transfer_if styles part why (Some t) = transfer_said styles t ∷ behind_transfer styles t part why

unfoldable pub held_transfer : Federation → Request → Cause → List Said
held_transfer f request why = transfer_if f.styles (part_asked request) why (transfer_in f (id_asked request))

-- the key of a part, where the ID is well formed, and a form
abbrev pub key_of_part : Bool → Option WrittenPart → List Said
key_of_part is_well_formed None = says is.Hint [] ∷ []
key_of_part is_well_formed (Some part) =
    if is_well_formed then says is.Part (part.key ∷ []) ∷ says is.Hint [] ∷ [] else says is.Hint [] ∷ []

abbrev pub id_said : Request → List Said
id_said (req.Receive id branch day account part) = key_of_part (is_id id) part
id_said _ = says is.Hint [] ∷ []
