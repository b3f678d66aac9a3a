-- Transfers: the records that they ask for, and what is open between two branches (own rules; docs/RULES.md,
-- "Transfers").
use Rattle.std.specs.Prelude.{ℕ, nat_eq, nat_lt, nat_le, ◌==◌, Bool, true, false, ◌&&◌, ◌||◌, not, if◌then◌else◌, List}
use Rattle.std.specs.Prelude.{[], ◌∷◌, ◌++◌, codes, length, map, ℤ, pos, ◌+ℤ◌, ◌-ℤ◌, int_le, Option, Some, None, find}
use Rattle.std.specs.Prelude.{◌≡◌}
use Rattle.std.specs.Char.{is_ascii_digit, is_ascii_alphabetic}
use Rattle.std.specs.List.{list_all}
use Rattle.std.specs.Str.{bytes_eq, is_utf8}
use Rattle.money_core.specs.declared.unit.Unit.{Unit as Commodity}
use Rattle.money_core.specs.declared.day.Day.{Day}
use Rattle.book_core.specs.declared.leg.Leg.{Leg}
use Rattle.book_core.specs.Account.{is_inside, colon}
use Rattle.journal_lines.specs.AccountName.{is_account, transit}
use Rattle.journal_format.specs.declared.posting.Posting.{Posting}
use Rattle.journal_balance.specs.Legs.{leg}
use Rattle.book_core.specs.declared.account.Reach.TheVariants.{Own}
use Rattle.book_core.specs.declared.place.Until.TheVariants.{Through}
use Rattle.book_core.specs.Balance.{balance}
use Rattle.treasury_state.specs.declared.record.Record.{Record}
use Rattle.treasury_state.specs.declared.transfer.Part.{Part}
use Rattle.treasury_state.specs.declared.transfer.Receipt.{Receipt}
use Rattle.treasury_state.specs.declared.transfer.Transfer.{Transfer}
use Rattle.treasury_state.specs.Federation.{Federation, book_of}

-- a byte of an ID: an ASCII letter, a digit, `-`, `.` or `_`
abbrev pub is_id_byte : ℕ → Bool
is_id_byte b = is_ascii_alphabetic b || is_ascii_digit b || (b == 45) || (b == 46) || (b == 95)

-- the greatest number of bytes of an ID
abbrev pub most_id_bytes : ℕ
most_id_bytes = 64

-- an ID: 1 to 64 such bytes
abbrev pub is_id : List ℕ → Bool
is_id id = nat_lt 0 (length id) && nat_le (length id) most_id_bytes && list_all is_id_byte id

-- a well-formed account, which is text
abbrev pub is_account_text : List ℕ → Bool
is_account_text account = is_account account && is_utf8 account

-- the account is `assets:transit` or below it
abbrev pub is_reserved : List ℕ → Bool
is_reserved account = is_inside transit account

-- a leg on such an account
abbrev pub is_transit : Leg → Bool
is_transit x = is_reserved x.account

-- the account of what is on its way from one branch to another: `assets:transit:FROM:TO`
abbrev pub transit_account : List ℕ → List ℕ → List ℕ
transit_account from to = codes "assets:transit:" ++ (from ++ (colon ∷ to))

-- a posting with its amount alone
abbrev pub posting : Leg → Posting
posting x = record {
  status = None;
  account = x.account;
  amount = Some (x.unit, x.qty);
  price = None;
  claim = None;
  comments = [];
}

-- the record of a transaction that the treasury makes itself: no status, code or comments
abbrev pub product_record : List ℕ → Day → List ℕ → Leg → Leg → Record
product_record mark day description x y = record {
  mark = mark;
  txn = record {
    day = day;
    status = None;
    code = None;
    description = description;
    comments = [];
    mark = Some mark;
    postings = posting x ∷ posting y ∷ [];
  };
  entry = record { day = day; legs = x ∷ y ∷ []; claims = [] };
}

-- ---- receipts

-- the greatest number of bytes of a key
abbrev pub most_key_bytes : ℕ
most_key_bytes = 32

-- the key of the receipt of all that the others left
abbrev pub all_key : List ℕ
all_key = codes "all"

-- the key is `all`
abbrev pub is_all : List ℕ → Bool
is_all key = bytes_eq key all_key

-- the key of a part: 1 to 32 bytes of an ID, and not `all`
abbrev pub is_key : List ℕ → Bool
is_key key = nat_lt 0 (length key) && nat_le (length key) most_key_bytes && list_all is_id_byte key && not (is_all key)

-- what receipts are together
abbrev pub sum_of_parts : List Part → ℤ
sum_of_parts [] = pos 0
sum_of_parts (p ∷ ps) = p.qty +ℤ sum_of_parts ps

-- the receipt under the key `all` is of the amount less all others
abbrev pub rest_part : Transfer → Receipt → Part
rest_part t r = record { key = all_key; qty = t.qty -ℤ sum_of_parts t.parts; day = r.day; payee = r.payee }

-- the receipt of the rest, if there is one
abbrev pub of_rest : Transfer → Option Receipt → List Part
of_rest t None = []
of_rest t (Some r) = rest_part t r ∷ []

-- the receipts of a transfer, each with its key
abbrev pub receipts_of : Transfer → List Part
receipts_of t = t.parts ++ of_rest t t.receipt

-- what is left: the amount less all receipts, of any day
abbrev pub left_of : Transfer → ℤ
left_of t = t.qty -ℤ sum_of_parts (receipts_of t)

-- ---- the records that a transfer asks for

-- the mark of a dispatch: `out:ID`
abbrev pub out_mark : Transfer → List ℕ
out_mark t = codes "out:" ++ t.id

-- what stands after the ID in the mark of a receipt: nothing for the key `all`, else a colon and the key
abbrev pub mark_tail : Bool → List ℕ → List ℕ
mark_tail true key = []
mark_tail false key = colon ∷ key

-- the mark of a receipt: `in:ID`, of a part `in:ID:KEY`
abbrev pub in_mark : List ℕ → List ℕ → List ℕ
in_mark id key = codes "in:" ++ (id ++ mark_tail (is_all key) key)

-- what stands after the source in the description of a receipt
abbrev pub text_tail : Bool → List ℕ → List ℕ
text_tail true key = []
text_tail false key = codes " part " ++ key

-- the description of a receipt: `transfer ID from SOURCE`, of a part with ` part KEY` after it
abbrev pub in_text : Transfer → List ℕ → List ℕ
in_text t key = codes "transfer " ++ (t.id ++ (codes " from " ++ (t.source ++ text_tail (is_all key) key)))

-- a dispatch: the amount goes on its way, and the payer pays it
abbrev pub dispatch_record : Transfer → Record
dispatch_record t =
    product_record (out_mark t) t.day (codes "transfer " ++ (t.id ++ (codes " to " ++ t.target)))
    (leg (transit_account t.source t.target) t.unit t.qty) (leg t.payer t.unit (pos 0 -ℤ t.qty))

-- a receipt: the payee gets what was received, and it is on its way no more
abbrev pub receipt_record : Transfer → Part → Record
receipt_record t p =
    product_record (in_mark t.id p.key) p.day (in_text t p.key) (leg p.payee t.unit p.qty)
    (leg (transit_account t.source t.target) t.unit (pos 0 -ℤ p.qty))

-- the transfer has that ID
abbrev pub has_id : List ℕ → Transfer → Bool
has_id id t = bytes_eq t.id id

-- the transfer of that ID, if there is one
abbrev pub transfer_at : Federation → List ℕ → Option Transfer
transfer_at f id = find (has_id id) f.transfers

-- the record of a dispatch, where the branch is the source
abbrev pub out_records : Transfer → Bool → List Record
out_records t true = dispatch_record t ∷ []
out_records t false = []

-- the records of receipts, where the branch is the target
abbrev pub in_records : Transfer → Bool → List Part → List Record
in_records t true ps = map (receipt_record t) ps
in_records t false ps = []

-- the records that transfers ask for in the branch of that name
abbrev pub asked : List Transfer → List ℕ → List Record
asked [] name = []
asked (t ∷ ts) name =
    out_records t (bytes_eq t.source name) ++ (in_records t (bytes_eq t.target name) (receipts_of t) ++ asked ts name)

-- ---- what is open

-- what was received through a day
abbrev pub received_by : List Part → Day → ℤ
received_by [] day = pos 0
received_by (p ∷ ps) day = (if int_le p.day.0 day.0 then p.qty else pos 0) +ℤ received_by ps day

-- what was dispatched and not received through a day
abbrev pub open_of : Transfer → Day → ℤ
open_of t day = (if int_le t.day.0 day.0 then t.qty else pos 0) -ℤ received_by (receipts_of t) day

-- the transfer goes from one branch to the other, in the commodity
abbrev pub is_between : List ℕ → List ℕ → Commodity → Transfer → Bool
is_between from to unit t = (bytes_eq t.source from && bytes_eq t.target to) && nat_eq t.unit.0 unit.0

-- the open amount between two branches in a commodity through a day: what was dispatched, less what was received
abbrev pub open_amount : List Transfer → List ℕ → List ℕ → Commodity → Day → ℤ
open_amount [] from to unit day = pos 0
open_amount (t ∷ ts) from to unit day =
    (if is_between from to unit t then open_of t day else pos 0) +ℤ open_amount ts from to unit day

-- the balances of the transit account of one branch and another, in the books of both, add up to the open amount, on
-- every day
abbrev pub AddsUp : Federation → List ℕ → List ℕ → Type 0
AddsUp f from to = (unit : Commodity) (day : Day) →
    balance Own (book_of f from) (transit_account from to) unit (Through day)
    +ℤ balance Own (book_of f to) (transit_account from to) unit (Through day)
    ≡ open_amount f.transfers from to unit day
