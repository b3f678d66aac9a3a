-- A transfer of 50.00 EUR from north to south on 2024-03-01 that is received in parts (days since 1970-01-01).
use Rattle.std.proofs.Common.{◌≡◌, ℕ, List, [], ◌∷◌, codes, pos, refl, Some, None, Ok, Err}
use Rattle.std.specs.Str.{is_utf8, chars}
use lib.Utf8.{encode}
use Rattle.journal_lines.specs.AccountName.{is_account}
use Rattle.money_core.specs.declared.unit.Unit.{Unit as Commodity}
use Rattle.money_core.specs.declared.day.Day.{Day}
use Rattle.money_core.specs.declared.cause.Cause.TheVariants.{AlreadyReceived, TooMuch, BadId, BadAmount, TooEarly}
use Rattle.book_core.specs.declared.refusal.Refusal.TheVariants.{Plain}
use Rattle.book_core.specs.Balance.{balance}
use Rattle.book_core.specs.Claim.{failure, fault, stray}
use Rattle.book_core.specs.GoodBook.{verdict}
use Rattle.treasury_state.specs.declared.transfer.Transfer.{Transfer}
use Rattle.treasury_state.specs.Federation.{Federation}
use Rattle.treasury_state.specs.Transfer.{in_mark, in_text, left_of, open_of}
use Rattle.treasury_state.specs.Joined.{with_receipt}
use Rattle.treasury_core.specs.declared.command.Answer.TheVariants.{Done, Repeated}
use Rattle.treasury_core.specs.declared.command.Command.TheVariants.{Receive}
use Rattle.treasury_core.specs.declared.command.Receive.{Receive as Received}
use Rattle.treasury_core.specs.Step.{receipt_of, reply}

abbrev day : ℕ → Day
day n = record { 0 = pos n }

abbrev eur : Commodity
eur = record { 0 = 0 }

abbrev usd : Commodity
usd = record { 0 = 1 }

abbrev t9 : Transfer
t9 = record {
  id = codes "t9";
  source = codes "north";
  target = codes "south";
  unit = eur;
  qty = pos 5000;
  day = day 19783;
  payer = codes "assets:bank";
  parts = [];
  receipt = None;
}

abbrev asks : List ℕ → Commodity → ℕ → ℕ → Received
asks key unit qty on = record {
  id = codes "t9";
  branch = codes "south";
  day = day on;
  account = codes "assets:bank";
  part = Some (record { key = key; unit = unit; qty = pos qty });
}

abbrev rest : ℕ → Received
rest on = record { id = codes "t9"; branch = codes "south"; day = day on; account = codes "assets:bank"; part = None }

-- 20.00 EUR under `a` on 3 March, then the rest on 5 March
abbrev a20 : Received
a20 = asks (codes "a") eur 2000 19785

abbrev one : Transfer
one = with_receipt (receipt_of t9 a20) t9

abbrev two : Transfer
two = with_receipt (receipt_of one (rest 19787)) one

-- with this transfer, and no records in either branch
abbrev sent : Transfer → Federation
sent t = record {
  styles = [];
  branches = record { name = codes "north"; locked = None; records = [] }
      ∷ record { name = codes "south"; locked = None; records = [] } ∷ [];
  transfers = t ∷ [];
}

pub done : (reply (sent t9) (Receive a20) ≡ Ok Done) × (reply (sent one) (Receive (rest 19787)) ≡ Ok Done)
unfolding reply verdict failure fault stray balance is_account is_utf8 chars encode
done = (refl, refl)

pub repeated : (reply (sent one) (Receive a20) ≡ Ok Repeated) × (reply (sent two) (Receive (rest 19787)) ≡ Ok Repeated)
unfolding reply
repeated = (refl, refl)

-- the key is held with another amount, and the rest with another day; a part is too much, or in another commodity; a
-- key `all`; a part of nothing; a part before the dispatch; and once all is received, a further part is too much
pub refused : (reply (sent one) (Receive (asks (codes "a") eur 2100 19785)) ≡ Err (Plain AlreadyReceived))
    × (reply (sent two) (Receive (rest 19788)) ≡ Err (Plain AlreadyReceived))
    × (reply (sent one) (Receive (asks (codes "b") eur 3100 19786)) ≡ Err (Plain TooMuch))
    × (reply (sent one) (Receive (asks (codes "b") usd 100 19786)) ≡ Err (Plain TooMuch))
    × (reply (sent one) (Receive (asks (codes "all") eur 100 19786)) ≡ Err (Plain BadId))
    × (reply (sent one) (Receive (asks (codes "b") eur 0 19786)) ≡ Err (Plain BadAmount))
    × (reply (sent one) (Receive (asks (codes "b") eur 100 19782)) ≡ Err (Plain TooEarly))
    × (reply (sent two) (Receive (asks (codes "b") eur 100 19788)) ≡ Err (Plain TooMuch))
unfolding reply is_account is_utf8 chars encode
refused = (refl, refl, refl, refl, refl, refl, refl, refl)

-- what is open on 2, 4 and 5 March, and what is left
pub open_then : (open_of two (day 19784) ≡ pos 5000) × (open_of two (day 19786) ≡ pos 3000)
    × (open_of two (day 19787) ≡ pos 0)
open_then = (refl, refl, refl)

pub left : (left_of t9 ≡ pos 5000) × (left_of one ≡ pos 3000) × (left_of two ≡ pos 0)
left = (refl, refl, refl)

pub marks : (in_mark (codes "t9") (codes "a") ≡ codes "in:t9:a") × (in_mark (codes "t9") (codes "all") ≡ codes "in:t9")
    × (in_text t9 (codes "a") ≡ codes "transfer t9 from north part a")
    × (in_text t9 (codes "all") ≡ codes "transfer t9 from north")
marks = (refl, refl, refl, refl)
