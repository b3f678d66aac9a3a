-- What is said of an assertion that fails (own rule; docs/RULES.md, "Explanations").
use Rattle.std.specs.Prelude.{ℕ, ℤ, ◌+◌, ◌-◌, ◌-ℤ◌, nat_lt, nat_eq, Bool, not, ◌&&◌, if◌then◌else◌}
use Rattle.std.specs.Prelude.{List, [], ◌∷◌, ◌++◌, length, map, take, find, decimal, Option, Some, None, slice_get}
use Rattle.std.specs.List.{list_any, position_from}
use Rattle.std.specs.Option.{option_map}
use Rattle.std.specs.Cmp.Lexicographic.{pointwise}
use Rattle.std.specs.Ordering.{int_eq}
use Rattle.std.specs.Str.{bytes_eq}
use Rattle.money_core.specs.declared.cause.Cause.TheVariants.{ClaimFailed}
use Rattle.money_core.specs.declared.style.Style.{Style}
use Rattle.money_core.specs.declared.unit.Unit.{Unit as Commodity}
use Rattle.book_core.specs.declared.account.Reach.{Reach}
use Rattle.book_core.specs.declared.account.Reach.TheVariants.{Own}
use Rattle.book_core.specs.declared.claim.Placed.{Placed}
use Rattle.book_core.specs.declared.entry.Entry.{Entry}
use Rattle.book_core.specs.declared.leg.Leg.{Leg}
use Rattle.book_core.specs.declared.place.Place.{Place}
use Rattle.book_core.specs.declared.refusal.Failure.{Failure}
use Rattle.book_core.specs.Account.{reaches}
use Rattle.book_core.specs.Book.{Posted, posted_legs}
use Rattle.book_core.specs.Claim.{reach_of}
use Rattle.book_core.specs.Place.{place_le}
use Rattle.journal_lines.specs.HeaderForm.{status_text}
use Rattle.journal_format.specs.declared.txn.Txn.{Txn}
use Rattle.journal_format.specs.declared.txn.Located.{Located}
use Rattle.treasury_state.specs.declared.record.Record.{Record}
use Rattle.treasury_state.specs.Federation.{Federation, records_of}
use Rattle.treasury_core.specs.Step.{records_in_file, new_in}
use Rattle.treasury_requests.specs.declared.request.Request.{Request}
use Rattle.treasury_requests.specs.declared.request.Request.TheVariants as req
use Rattle.treasury_requests.specs.Request.{branch_asked}
use Rattle.treasury_messages.specs.declared.kind.MessageKind.TheVariants as is
use Rattle.treasury_messages.specs.Said.{Said, says}
use Rattle.treasury_messages.specs.Pieces.{shown_amount, header_values}
use Rattle.treasury_messages.specs.Sentence.{sentence_said, sentence_said_at}
use Rattle.journal_hints.specs.Numbered.{item_of_number}
use Rattle.journal_hints.specs.SourceLine.{source_said}
use Rattle.treasury_reasons.specs.declared.touching.Watched.{Watched}
use Rattle.treasury_reasons.specs.Reading.{line_of}

-- ---- the entry, and what is asserted and found

-- the account of a leg
abbrev pub leg_account_said : Option Leg → List Said
leg_account_said None = []
leg_account_said (Some x) = says is.Account (x.account ∷ []) ∷ []

-- the sentence, and where an assertion stands that a branch holds, or that a text would bring: its account, and the
-- number and the header of its entry
abbrev pub held_claim_said : Place → Record → List Said
held_claim_said place r =
    sentence_said ClaimFailed ∷ (leg_account_said (item_of_number r.entry.legs place.leg)
    ++ says is.Entry (decimal place.entry ∷ header_values r.txn) ∷ [])

abbrev pub new_claim_said : List ℕ → List ℕ → ℕ → Place → Record → List Said
new_claim_said source text line place r =
    sentence_said_at source line ClaimFailed ∷ (source_said text line
    ++ (leg_account_said (item_of_number r.entry.legs place.leg)
    ++ says is.NewEntryOf (decimal place.entry ∷ header_values r.txn) ∷ []))

-- in a branch that holds so many entries; a text has the transaction of a new one on its line
abbrev pub claim_said : List ℕ → List ℕ → (Record → ℕ) → ℕ → Place → Option Record → List Said
claim_said source text line count place None = sentence_said ClaimFailed ∷ []
claim_said source text line count place (Some r) =
    if nat_lt count place.entry then new_claim_said source text (line r) place r else held_claim_said place r

-- what is asserted, what is found, and the difference
abbrev pub amounts_said : List Style → Commodity → ℤ → ℤ → List Said
amounts_said styles unit asserted found =
    says is.Asserted (shown_amount styles unit asserted ∷ [])
    ∷ says is.Found (shown_amount styles unit found ∷ [])
    ∷ says is.Difference (shown_amount styles unit (found -ℤ asserted) ∷ []) ∷ []

-- ---- the new transactions that may be why

-- which accounts the assertion on a leg looks at
abbrev pub reach_in : Option Placed → Reach
reach_in None = Own
reach_in (Some x) = reach_of x.claim.kind

unfoldable pub reach_on : List Placed → ℕ → Reach
reach_on claims k = reach_in (find (λ (x : Placed). nat_eq x.leg k) claims)

-- the account of the leg of a number, and which accounts its assertion looks at
abbrev pub watched_of : Entry → ℕ → Option Watched
watched_of e k =
    option_map (λ (x : Leg). record { account = x.account; reach = reach_on e.claims k }) (item_of_number e.legs k)

abbrev pub watched_in : Option Record → ℕ → Option Watched
watched_in None k = None
watched_in (Some r) k = watched_of r.entry k

-- the leg is on an account that is looked at, before a place
abbrev pub is_seen : Watched → Place → Posted → Bool
is_seen w end x = reaches w.reach w.account x.leg.account && not (place_le end x.place)

-- entry n has such a leg
unfoldable pub touches_watched : Watched → Place → ℕ → Entry → Bool
touches_watched w end n e = list_any (is_seen w end) (posted_legs e.day n 1 e.legs)

-- those of new records, numbered from n, whose entries have
abbrev pub touching : Watched → Place → ℕ → List Record → List Record
touching w end n [] = []
touching w end n (r ∷ rest) =
    (if touches_watched w end n r.entry then r ∷ [] else []) ++ touching w end (n + 1) rest

-- ---- the held one that a new transaction may be, edited

abbrev pub same_leg : Leg → Leg → Bool
same_leg x y = bytes_eq x.account y.account && (nat_eq x.unit.0 y.unit.0 && int_eq x.qty y.qty)

abbrev pub same_legs : List Leg → List Leg → Bool
same_legs = pointwise same_leg

-- the record has the day and the legs of an entry
abbrev pub has_legs_of : Entry → Record → Bool
has_legs_of e r = int_eq r.entry.day.0 e.day.0 && same_legs r.entry.legs e.legs

-- two transactions have the same status, code and description; an empty code counts as no code
abbrev pub text_in : Option (List ℕ) → List ℕ
text_in None = []
text_in (Some text) = text

abbrev pub same_header : Txn → Txn → Bool
same_header t u =
    bytes_eq (status_text t.status) (status_text u.status)
    && (bytes_eq (text_in t.code) (text_in u.code) && bytes_eq t.description u.description)

-- the record has the day and the header of a transaction
abbrev pub has_header_of : Txn → Record → Bool
has_header_of t r = int_eq r.txn.day.0 t.day.0 && same_header r.txn t

-- the number and the header of the record at a place
abbrev pub entry_values : ℕ → Option Record → List (List ℕ)
entry_values i None = []
entry_values i (Some r) = decimal (i + 1) ∷ header_values r.txn

-- a new transaction, and the held one that it may be: the record at a place that has its legs, or else its header
abbrev pub like_said : List (List ℕ) → List Record → Option ℕ → Option ℕ → Said
like_said new records (Some i) header = says is.TouchingLikeLegs (new ++ entry_values i (slice_get records i))
like_said new records None (Some i) = says is.TouchingLikeHeader (new ++ entry_values i (slice_get records i))
like_said new records None None = says is.Touching new

-- the same of the first record with its day and legs, and the first with its day and header; before them its line
unfoldable pub touching_said : List Record → List ℕ → (Record → ℕ) → Record → Said
touching_said records source line r =
    like_said (source ∷ decimal (line r) ∷ header_values r.txn) records
    (position_from (has_legs_of r.entry) 0 records) (position_from (has_header_of r.txn) 0 records)

-- ---- all of it

-- so many are listed at most, and then how many more there are
abbrev pub most_listed : ℕ
most_listed = 5

abbrev pub more_touching_said : ℕ → List Said
more_touching_said n = if nat_lt most_listed n then says is.MoreTouching (decimal (n - most_listed) ∷ []) ∷ [] else []

abbrev pub touching_list : List Record → List ℕ → (Record → ℕ) → List Record → List Said
touching_list records source line new =
    map (touching_said records source line) (take most_listed new) ++ more_touching_said (length new)

-- the new ones, numbered from n, that touch what the assertion of a leg looks at, before its place
abbrev pub touching_leg : ℕ → List Record → Option Watched → Place → List Record
touching_leg n new None end = []
touching_leg n new (Some w) end = touching w end n new

-- what is said of a failure in a branch that has these records, to which a text would bring the new ones after them
abbrev pub failure_of : List Style → List Record → List ℕ → List ℕ → (Record → ℕ) → List Record → Failure
    → Option Record → List Said
failure_of styles records source text line new f one =
    claim_said source text line (length records) f.place one
    ++ (amounts_said styles f.unit f.asserted f.found
    ++ touching_list records source line
    (touching_leg (length records + 1) new (watched_in one f.place.leg) f.place))

unfoldable pub failure_said : List Style → List Record → List ℕ → List ℕ → (Record → ℕ) → List Record → Failure
    → List Said
failure_said styles records source text line new f =
    failure_of styles records source text line new f (item_of_number (records ++ new) f.place.entry)

-- the branch whose assertions a request may break
abbrev pub judged_branch : Request → List ℕ
judged_branch request = text_in (branch_asked request)

-- the text of a request, if it has one
abbrev pub journal_asked : Request → Option (List ℕ)
journal_asked (req.Import branch journal) = Some journal
journal_asked _ = None

abbrev pub text_asked : Request → List ℕ
text_asked request = text_in (journal_asked request)

-- what is said of a failure by which a request is refused, whose text has these transactions
abbrev pub told_failure : Federation → Request → List ℕ → List Located → Failure → List Said
told_failure f request source list failure =
    let held = records_of f (judged_branch request) in
    let rows = records_in_file f.styles list in
    failure_said f.styles held source (text_asked request) (line_of list rows) (new_in held rows) failure
