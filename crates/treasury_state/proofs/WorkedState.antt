-- States worked out by hand: for each part of a good state one that has it and one that breaks it, and the rows of a
-- state with a row of each kind.
use Rattle.std.proofs.Common.{◌≡◌, ◌≤◌, ◌+◌, refl, ap, subst, ℕ, zero, suc, Bool, List, [], ◌∷◌, length, length-append}
use Rattle.std.proofs.Common.{ℤ, pos, neg_ℤ, ◌+ℤ◌, Option, Some, None, Result, Ok, Err, true, false, true≢false, nat_eq}
use Rattle.std.proofs.Common.{arith}
use Rattle.std.specs.Prelude.{codes, slice_get, if◌then◌else◌}
use Rattle.money_core.specs.declared.cause.Cause.{Cause}
use Rattle.std.specs.Str.{is_utf8, chars, bytes_eq}
use lib.Utf8.{encode}
use Rattle.std.proofs.lemmas.Int.{ints}
use Rattle.std.proofs.lemmas.Bool.Decides.{nat_tests}
use Rattle.money_core.specs.declared.style.Style.{Style}
use Rattle.money_core.specs.declared.mark.Mark.TheVariants.{Point}
use Rattle.money_core.specs.declared.unit.Unit.{Unit as Commodity}
use Rattle.money_core.specs.declared.day.Day.{Day}
use Rattle.money_core.specs.declared.claim.Claim.{Claim}
use Rattle.money_core.specs.declared.claim.ClaimKind.TheVariants.{SoleIn}
use Rattle.money_core.specs.Style.{is_style, AreStyles}
use Rattle.money_core.specs.Amount.{place_of}
use Rattle.book_core.specs.declared.account.Reach.TheVariants.{Inside}
use Rattle.book_core.specs.declared.place.Until.TheVariants.{At}
use Rattle.book_core.specs.declared.entry.Entry.{Entry}
use Rattle.book_core.specs.Balance.{balance}
use Rattle.book_core.specs.GoodBook.{most_turnover}
use Rattle.journal_lines.specs.AccountName.{is_account}
use Rattle.journal_lines.specs.Date.{printed_date}
use Rattle.journal_lines.proofs.DateLemmas.{day_number_from, dates_print}
use Rattle.journal_format.specs.declared.posting.Posting.{Posting}
use Rattle.journal_format.specs.declared.txn.Txn.{Txn}
use Rattle.journal_format.specs.CanonicalText.{body_text}
use Rattle.journal_format.specs.Printable.{is_posting}
use Rattle.journal_balance.specs.Legs.{leg}
use Rattle.treasury_state.specs.declared.record.Record.{Record}
use Rattle.treasury_state.specs.declared.transfer.Part.{Part}
use Rattle.treasury_state.specs.declared.transfer.Receipt.{Receipt}
use Rattle.treasury_state.specs.declared.transfer.Transfer.{Transfer}
use Rattle.treasury_state.specs.declared.rows.Parts.{Parts}
use Rattle.treasury_state.specs.Federation.{Branch, Federation}
use Rattle.treasury_state.specs.Mark.{HaveOwnMarks, close_mark}
use Rattle.treasury_state.specs.Transfer.{rest_part, dispatch_record, receipt_record}
use Rattle.treasury_state.specs.Good.{IsOffTransit, IsWithinLock, HaveOwnNames, AreAscending, HasGoodParts, IsGoodRest}
use Rattle.treasury_state.specs.Good.{IsGoodTransfer, IsCarried}
use Rattle.treasury_state.specs.Rows.{part_rows, rows}

abbrev pub day : ℤ → Day
day n = record { 0 = n }

abbrev euro : Style
euro = record { symbol = codes "EUR"; left = false; spaced = true; mark = Point; decimals = 2; grouped = true }

abbrev pub styles : List Style
styles = euro ∷ []

abbrev pub euros : Commodity
euros = record { 0 = 0 }

-- ten euros on their way from north to south, dispatched on the 20th
abbrev transfer : Option Receipt → Transfer
transfer receipt = record {
  id = codes "T-1";
  source = codes "north";
  target = codes "south";
  unit = euros;
  qty = pos 1000;
  day = day (pos 20);
  payer = codes "assets:bank";
  parts = [];
  receipt = receipt;
}

-- and received on the 22nd
abbrev pub receipt : Receipt
receipt = record { day = day (pos 22); payee = codes "assets:cash" }

abbrev pub received : Transfer
received = transfer (Some receipt)

abbrev pub sent : Record
sent = dispatch_record received

abbrev pub got : Record
got = receipt_record received (rest_part received receipt)

abbrev pub branch : List ℕ → Option Day → List Record → Branch
branch name lock rs = record { name = name; locked = lock; records = rs }

abbrev pub state : List Branch → List Transfer → Federation
state branches transfers = record { styles = styles; branches = branches; transfers = transfers }

-- ---- the styles: one is good; of two with one symbol the second is not found by it

abbrev is_style_of : Option Style → Bool
is_style_of None = false
is_style_of (Some s) = is_style s

abbrev place_in : Option Style → Option ℕ
place_in None = None
place_in (Some s) = place_of styles s.symbol

abbrev is_first : Option ℕ → Bool
is_first None = false
is_first (Some zero) = true
is_first (Some (suc n)) = false

one_style : is_style euro ≡ true
unfolding is_utf8 chars encode
one_style = refl

each_style : (i : ℕ) (style : Style) → slice_get styles i ≡ Some style → is_style style ≡ true
each_style zero style e = subst (λ (o : Option Style). is_style_of o ≡ true) e one_style
each_style (suc i) style e = absurd cc

each_found : (i : ℕ) (style : Style) → slice_get styles i ≡ Some style → place_of styles style.symbol ≡ Some i
each_found zero style e = subst (λ (o : Option Style). place_in o ≡ Some zero) e refl
each_found (suc i) style e = absurd cc

pub good_styles : AreStyles styles
good_styles = record { each = each_style; found = each_found; few = omega arith }

pub twice_declared : AreStyles (euro ∷ euro ∷ []) → ⊥
twice_declared are = true≢false (ap is_first (are.found 1 euro refl))

-- ---- records

-- an amount, with an assertion or none
abbrev plain : List ℕ → ℤ → Option Claim → Posting
plain account q claim =
    record { status = None; account = account; amount = Some (euros, q); price = None; claim = claim; comments = [] }

-- `==* ` so many euros
abbrev pub alone : ℤ → Claim
alone asserted = record { kind = SoleIn; unit = euros; qty = asserted }

abbrev pub into_cash : ℤ → Posting
into_cash asserted = plain (codes "assets:cash") (pos 500) (Some (alone asserted))

abbrev pub of_income : Posting
of_income = plain (codes "income") (neg_ℤ (pos 500)) None

-- on the 31st five euros into cash, with the assertion of what it then has
abbrev pub income : ℤ → Txn
income asserted = record {
  day = day (pos 31);
  status = None;
  code = None;
  description = codes "hall";
  comments = [];
  mark = Some (codes "s");
  postings = into_cash asserted ∷ of_income ∷ [];
}

abbrev pub stated : ℤ → Record
stated asserted = record {
  mark = codes "s";
  txn = income asserted;
  entry = record {
    day = day (pos 31);
    legs = leg (codes "assets:cash") euros (pos 500) ∷ leg (codes "income") euros (neg_ℤ (pos 500)) ∷ [];
    claims = record { leg = 1; claim = alone asserted } ∷ [];
  };
}

pub is_into_cash : is_posting styles (into_cash (pos 1500)) ≡ true
unfolding is_account is_utf8 chars encode
is_into_cash = refl

pub is_of_income : is_posting styles of_income ≡ true
unfolding is_account is_utf8 chars encode
is_of_income = refl

-- the mark of its transaction is another one
abbrev pub is_mark_of : List ℕ → Option (List ℕ) → Bool
is_mark_of mark None = false
is_mark_of mark (Some given) = bytes_eq given mark

-- an assertion in a commodity that is not declared
abbrev pub undeclared : Txn
undeclared = record (income (pos 0)) {
  postings = plain (codes "income") (pos 0) (Some (record { kind = SoleIn; unit = record { 0 = 1 }; qty = pos 0 }))
      ∷ [];
}

-- an entry with one leg fewer than its transaction
abbrev pub legs_in : Result Entry Cause → ℕ
legs_in (Ok e) = length e.legs
legs_in (Err cause) = 0

-- ---- books

-- with what was received cash has fifteen euros, and nothing else
abbrev pub book : ℤ → List Entry
book asserted = got.entry ∷ (stated asserted).entry ∷ []

pub balances_at : (t : Bool) → ((if t then pos 500 else pos 0) +ℤ ((if t then neg_ℤ (pos 500) else pos 0) +ℤ pos 0))
    ≡ pos 0
balances_at true = refl
balances_at false = refl

pub moves_at : (t : Bool) → ((if t then 1000 else 0)
    + ((if t then 1000 else 0) + ((if t then 500 else 0) + ((if t then 500 else 0) + 0)))) ≤ most_turnover
moves_at true = omega arith
moves_at false = omega arith

turned : (n m : ℕ) → nat_eq n m ≡ false → nat_eq m n ≡ false
turned n m other = grind (arith, nat_tests)

pub others : (n : ℕ) → nat_eq n 0 ≡ false
    → balance Inside (book (pos 1500)) (codes "assets:cash") (record { 0 = n })
    (At (record { day = day (pos 31); entry = 2; leg = 1 })) ≡ pos 0
unfolding balance
others n e = rw (turned n 0 e)

-- ---- branches

pub sent_at : (t : Bool) → ((if t then 1000 else 0) + ((if t then 1000 else 0) + 0)) ≤ most_turnover
sent_at true = omega arith
sent_at false = omega arith

-- a mark that stands twice
pub twice_marked : HaveOwnMarks (sent ∷ sent ∷ []) → ⊥
twice_marked own = let no : Some sent ≡ None = own.0 in absurd cc

-- money on its way that no transfer has sent
abbrev stray : Record
stray = record (stated (pos 0))
    { entry = record { day = day (pos 31); legs = leg (codes "assets:transit:x") euros (pos 0) ∷ []; claims = [] } }

pub on_transit : IsOffTransit stray → ⊥
on_transit off = let no : true ≡ false = off refl in absurd cc

-- a closing of the 31st, in a branch that is locked through that day, and in one that is not
abbrev closed : List ℕ → Record
closed mark = record {
  mark = mark;
  txn = record (income (pos 0)) { mark = Some mark };
  entry = record { day = day (pos 31); legs = []; claims = [] };
}

pub within_lock : IsWithinLock (Some (day (pos 31))) (closed (close_mark (day (pos 31))))
within_lock is = record { own_day = refl; locked = refl }

pub without_lock : IsWithinLock None (closed (close_mark (day (pos 31)))) → ⊥
without_lock within = let no : false ≡ true = (within refl).locked in absurd cc

pub before_lock : IsWithinLock (Some (day (pos 30))) (closed (close_mark (day (pos 31)))) → ⊥
before_lock within = let no : false ≡ true = (within refl).locked in absurd cc

-- its mark has no day
pub without_day : IsWithinLock (Some (day (pos 31))) (closed (codes "close:")) → ⊥
without_day within =
    let same : length (codes "close:") ≡ length (close_mark (day (pos 31))) = ap length (within refl).own_day in
    absurd (omega (
      arith,
      same,
      length-append (codes "close:") (printed_date (day (pos 31))),
      (dates_print (day (pos 31)) (day_number_from (day (pos 31)) (omega (arith, ints)) (omega (arith, ints)))).ten,
    ))

-- ---- states

-- north has dispatched what south has received
abbrev pub both : Federation
both = state (branch (codes "north") (Some (day (pos 20))) (sent ∷ [])
    ∷ branch (codes "south") None (got ∷ stated (pos 1500) ∷ []) ∷ []) (received ∷ [])

pub good_transfer : IsGoodTransfer both.branches received
good_transfer = record {
  id = refl;
  source = refl;
  target = refl;
  apart = refl;
  positive = refl;
  payer = refl;
  parts = record { keys = tt; keyed = tt; each = tt; within = refl };
  rest = record { positive = refl; later = refl; payee = refl };
}

-- two branches with one name
pub twice_named : HaveOwnNames (branch (codes "north") None [] ∷ branch (codes "north") (Some (day (pos 1))) [] ∷ [])
    → ⊥
twice_named own = let no : true ≡ false = own.0 in absurd cc

-- IDs in byte order, the other way round, and twice
abbrev pub named : List ℕ → Transfer
named id = record received { id = id }

pub ascending : AreAscending (named (codes "T-1") ∷ named (codes "T-10") ∷ named (codes "T-2") ∷ [])
ascending = ((refl, (refl, tt)), ((refl, tt), (tt, tt)))

pub descending : AreAscending (named (codes "T-2") ∷ named (codes "T-10") ∷ []) → ⊥
descending are = absurd (let no = are.0.0 in cc)

pub twice_sent : AreAscending (received ∷ received ∷ []) → ⊥
twice_sent are = absurd (let no = are.0.0 in cc)

-- the rest received on the day of its dispatch, on the day before, into what is on its way, where the parts leave
-- nothing, and not at all
pub same_day : IsGoodRest received (Some (record receipt { day = day (pos 20) }))
same_day = record { positive = refl; later = refl; payee = refl }

pub not_yet : IsGoodRest received None
not_yet = tt

-- parts of the transfer
abbrev pub part : List ℕ → ℤ → ℤ → Part
part key qty on = record { key = key; qty = qty; day = day on; payee = codes "assets:cash" }

abbrev pub parted : List Part → Transfer
parted ps = record (transfer None) { parts = ps }

-- two that make up the amount; under the key `all`, one key twice, in another order, of more than the amount, of
-- nothing, before the dispatch
pub good_parts : HasGoodParts (parted
    (part (codes "a") (pos 400) (pos 21) ∷ part (codes "a.1") (pos 600) (pos 20) ∷ []))
good_parts = record {
  keys = (refl, (refl, tt));
  keyed = ((refl, tt), (tt, tt));
  each = (
    record { positive = refl; later = refl; payee = refl },
    (record { positive = refl; later = refl; payee = refl }, tt),
  );
  within = refl;
}

-- a dispatch that its source's book lacks, a receipt that no transfer has, and one of an open transfer
pub not_dispatched : IsCarried (received ∷ []) (branch (codes "north") None []) → ⊥
not_dispatched carried = let no : None ≡ Some sent = carried.there.0 in absurd cc

pub of_no_transfer : IsCarried [] (branch (codes "south") None (got ∷ [])) → ⊥
of_no_transfer carried = let no : false ≡ true = carried.asked_for.0 refl in absurd cc

pub not_received : IsCarried (transfer None ∷ []) (branch (codes "south") None (got ∷ [])) → ⊥
not_received carried = let no : false ≡ true = carried.asked_for.0 refl in absurd cc

-- ---- rows

abbrev worked_rows : Parts
worked_rows = record {
  units = record {
    nr = pos 0;
    symbol = codes "EUR";
    decimals = pos 2;
    mark = codes ".";
    grouped = pos 1;
    leftside = pos 0;
    spaced = pos 1;
  } ∷ [];
  branches = record { nr = pos 0; name = codes "north"; locked = Some (pos 20) }
      ∷ record { nr = pos 1; name = codes "south"; locked = None } ∷ [];
  entries =
      record { branch = pos 0; nr = pos 1; day = pos 20; mark = codes "out:T-1"; body = body_text styles sent.txn }
      ∷ record { branch = pos 1; nr = pos 1; day = pos 22; mark = codes "in:T-1"; body = body_text styles got.txn }
      ∷ record {
        branch = pos 1;
        nr = pos 2;
        day = pos 31;
        mark = codes "s";
        body = body_text styles (income (pos 1500));
      } ∷ [];
  legs =
      record {
        branch = pos 0;
        entry = pos 1;
        nr = pos 1;
        account = codes "assets:transit:north:south";
        unit = pos 0;
        qty = pos 1000;
      }
      ∷ record {
        branch = pos 0;
        entry = pos 1;
        nr = pos 2;
        account = codes "assets:bank";
        unit = pos 0;
        qty = neg_ℤ (pos 1000);
      }
      ∷ record {
        branch = pos 1;
        entry = pos 1;
        nr = pos 1;
        account = codes "assets:cash";
        unit = pos 0;
        qty = pos 1000;
      }
      ∷ record {
        branch = pos 1;
        entry = pos 1;
        nr = pos 2;
        account = codes "assets:transit:north:south";
        unit = pos 0;
        qty = neg_ℤ (pos 1000);
      }
      ∷ record { branch = pos 1; entry = pos 2; nr = pos 1; account = codes "assets:cash"; unit = pos 0; qty = pos 500 }
      ∷ record {
        branch = pos 1;
        entry = pos 2;
        nr = pos 2;
        account = codes "income";
        unit = pos 0;
        qty = neg_ℤ (pos 500);
      } ∷ [];
  claims = record { branch = pos 1; entry = pos 2; leg = pos 1; kind = pos 4; unit = pos 0; qty = pos 1500 } ∷ [];
  transfers = record {
    id = codes "T-1";
    source = pos 0;
    target = pos 1;
    unit = pos 0;
    qty = pos 1000;
    dispatched = pos 20;
    payer = codes "assets:bank";
    received = Some (pos 22);
    payee = Some (codes "assets:cash");
  } ∷ [];
  receipts = [];
}

pub rows_of_both : rows both ≡ worked_rows
rows_of_both = refl

-- a row for each receipt of a part
pub rows_of_parts : part_rows (parted (part (codes "a") (pos 400) (pos 21) ∷ part (codes "b") (pos 600) (pos 22) ∷ [])
    ∷ received ∷ [])
    ≡ record { transfer = codes "T-1"; part = codes "a"; qty = pos 400; received = pos 21; payee = codes "assets:cash" }
    ∷ record { transfer = codes "T-1"; part = codes "b"; qty = pos 600; received = pos 22; payee = codes "assets:cash" }
    ∷ []
rows_of_parts = refl
