-- States worked out by hand: for each part of a good state one that has it and one that breaks it, and the rows of a
-- state with a row of each kind.
use Rattle.std.proofs.Common.{◌≡◌, ◌≤◌, refl, ap, List, [], ◌∷◌, length, pos, neg_ℤ, Some, None, true, false}
use Rattle.std.proofs.Common.{true≢false, nat_eq, arith}
use Rattle.std.specs.Prelude.{codes, unsigned_abs}
use Rattle.std.specs.Str.{is_utf8, chars}
use lib.Utf8.{encode}
use Rattle.std.proofs.lemmas.Int.{ints}
use Rattle.std.proofs.lemmas.Bool.{and_from}
use Rattle.money_core.proofs.Utf8Lemmas.{utf8_low}
use Rattle.book_core.specs.Balance.{balance}
use Rattle.book_core.specs.GoodBook.{IsGoodBook}
use Rattle.journal_lines.specs.AccountName.{is_account}
use Rattle.journal_lines.proofs.DateLemmas.{day_number_from}
use Rattle.journal_format.specs.CanonicalText.{body_text}
use Rattle.journal_format.specs.Printable.{IsPrintable}
use Rattle.journal_format.proofs.SizeLemmas.{body_size, head_is, header_small, postings-append, no_remarks}
use Rattle.journal_balance.specs.Legs.{leg, balanced_entry, balancing_fault}
use Rattle.treasury_state.specs.Federation.{Branch}
use Rattle.treasury_state.specs.Transfer.{rest_part}
use Rattle.treasury_state.specs.Good.{IsGoodRecord, IsGoodBranch, HasGoodParts, IsGoodRest, IsGoodTransfer, IsGoodState}
use Rattle.treasury_state.proofs.WorkedState.{day, styles, euros, receipt, received, sent, got, branch, state}
use Rattle.treasury_state.proofs.WorkedState.{good_styles, alone, into_cash, of_income, income, stated, is_into_cash}
use Rattle.treasury_state.proofs.WorkedState.{is_of_income, is_mark_of, undeclared, legs_in, book, balances_at}
use Rattle.treasury_state.proofs.WorkedState.{moves_at, others, sent_at, both, good_transfer, named, part, parted}
use Rattle.treasury_core.proofs.ProductLemmas.{dispatch_good, receipt_good, pair_fit, line_small}

-- ---- records

good_sent : IsGoodRecord styles sent
unfolding is_account
good_sent = dispatch_good styles received good_styles (record {
  id = refl;
  source = refl;
  target = refl;
  day = day_number_from (day (pos 20)) (omega (arith, ints)) (omega (arith, ints));
  amount = refl;
  payer = refl;
  utf8 = utf8_low (codes "assets:bank") refl;
})

good_got : IsGoodRecord styles got
unfolding is_account
good_got =
    receipt_good styles received (rest_part received receipt) good_styles refl refl refl good_sent
    (λ other. let no : true ≡ false = other in absurd cc) (omega arith)
    (day_number_from (day (pos 22)) (omega (arith, ints)) (omega (arith, ints))) refl
    (utf8_low (codes "assets:cash") refl)

small_income : length (body_text styles (income (pos 1500))) ≤ 1000000
small_income =
    let t = income (pos 1500) in
    omega (
      arith,
      body_size styles t,
      head_is t,
      header_small (day (pos 31)) None None (codes "hall"),
      no_remarks,
      postings-append styles (into_cash (pos 1500) ∷ []) (of_income ∷ []),
      line_small styles good_styles (into_cash (pos 1500)) is_into_cash refl,
      line_small styles good_styles of_income is_of_income refl,
    )

good_stated : IsGoodRecord styles (stated (pos 1500))
unfolding balanced_entry balancing_fault
good_stated = record {
  marked = refl;
  printable = record {
    header = record {
      number = day_number_from (day (pos 31)) (omega (arith, ints)) (omega (arith, ints));
      code_ok = refl;
      description_ok = refl;
    };
    code = refl;
    description = utf8_low (codes "hall") refl;
    mark = refl;
    comments = refl;
    postings = and_from _ _ is_into_cash (and_from _ _ is_of_income refl);
    few = omega arith;
    small = small_income;
  };
  legs = refl;
}

pub marked_otherwise : IsGoodRecord styles (record (stated (pos 1500)) { mark = codes "x" }) → ⊥
marked_otherwise good = true≢false (ap (is_mark_of (codes "s")) good.marked)

pub unprintable : IsPrintable styles undeclared → ⊥
unfolding is_account is_utf8 chars encode
unprintable good = let no : false ≡ true = good.postings in absurd cc

pub other_legs : IsGoodRecord styles
    (record (stated (pos 1500))
    { entry = record { day = day (pos 31); legs = leg (codes "income") euros (neg_ℤ (pos 500)) ∷ []; claims = [] } })
    → ⊥
unfolding balanced_entry balancing_fault
other_legs good = let no : 2 ≡ 1 = ap legs_in good.legs in absurd (omega (arith, no))

-- ---- books

good_book : IsGoodBook (book (pos 1500))
unfolding balance
good_book = record {
  fit = (
    pair_fit (day (pos 22)) (codes "assets:cash") (codes "assets:transit:north:south") euros (pos 1000),
    (
      record {
        balanced = λ unit. balances_at (nat_eq 0 unit.0);
        on_legs = ((omega arith, omega arith), tt);
        apart = (tt, tt);
      },
      tt,
    ),
  );
  hold = (record { same = refl; alone = λ is v. others v.0 }, tt);
  within = record { few = omega arith; small = λ unit. moves_at (nat_eq 0 unit.0) };
}

-- sixteen are too many
pub broken_assertion : IsGoodBook (book (pos 1600)) → ⊥
unfolding balance
broken_assertion good = absurd (omega (arith, ap unsigned_abs good.hold.0.same))

-- an entry that does not sum to zero
pub unbalanced : IsGoodBook (record { day = day (pos 1); legs = leg (codes "income") euros (pos 1) ∷ []; claims = [] }
    ∷ []) → ⊥
unbalanced good = absurd (omega (arith, ap unsigned_abs (good.fit.0.balanced euros)))

-- ---- branches

north : IsGoodBranch styles (branch (codes "north") (Some (day (pos 20))) (sent ∷ []))
north = record {
  named = refl;
  short = omega (arith, ints);
  marks = (refl, tt);
  records = (good_sent, tt);
  off_transit = (λ no. absurd cc, tt);
  closings = (λ no. absurd cc, tt);
  book = record {
    fit = (pair_fit (day (pos 20)) (codes "assets:transit:north:south") (codes "assets:bank") euros (pos 1000), tt);
    hold = tt;
    within = record { few = omega arith; small = λ unit. sent_at (nat_eq 0 unit.0) };
  };
}

south : IsGoodBranch styles (branch (codes "south") None (got ∷ stated (pos 1500) ∷ []))
south = record {
  named = refl;
  short = tt;
  marks = (refl, (refl, tt));
  records = (good_got, (good_stated, tt));
  off_transit = (λ no. absurd cc, (λ no. refl, tt));
  closings = (λ no. absurd cc, (λ no. absurd cc, tt));
  book = good_book;
}

-- a name with a capital letter
pub capital : IsGoodBranch styles (branch (codes "North") None []) → ⊥
capital good = let no : false ≡ true = good.named in absurd cc

-- a lock day beyond 32 bits
pub long_lock : IsGoodBranch styles (branch (codes "north") (Some (day (pos 2_147_483_648))) []) → ⊥
long_lock good = absurd (omega (arith, ints, good.short))

-- ---- states

pub good : IsGoodState both
good = record {
  styles = good_styles;
  few = omega arith;
  names = (refl, (refl, tt));
  branches = (north, (south, tt));
  ids = (tt, tt);
  transfers = (good_transfer, tt);
  carried = (
    record { there = (refl, tt); asked_for = (λ of. refl, tt) },
    (record { there = (refl, tt); asked_for = (λ of. refl, (λ no. absurd cc, tt)) }, tt),
  );
}

-- 33 branches
pub too_many : (branches : List Branch) → length branches ≡ 33 → IsGoodState (state branches []) → ⊥
too_many branches count good = absurd (omega (arith, count, good.few))

-- transfers with an ID of two words, from and to a branch that is not there, to their own source, of nothing, from what
-- is on its way
pub no_id : IsGoodTransfer both.branches (record received { id = codes "T 1" }) → ⊥
no_id good = let no : false ≡ true = good.id in absurd cc

pub no_source : IsGoodTransfer both.branches (record received { source = codes "west" }) → ⊥
no_source good = let no : false ≡ true = good.source in absurd cc

pub no_target : IsGoodTransfer both.branches (record received { target = codes "west" }) → ⊥
no_target good = let no : false ≡ true = good.target in absurd cc

pub to_itself : IsGoodTransfer both.branches (record received { target = codes "north" }) → ⊥
to_itself good = let no : true ≡ false = good.apart in absurd cc

pub of_nothing : IsGoodTransfer both.branches (record received { qty = pos 0 }) → ⊥
of_nothing good = let no : false ≡ true = good.positive in absurd cc

pub from_transit : IsGoodTransfer both.branches (record received { payer = codes "assets:transit" }) → ⊥
from_transit good = let no : true ≡ false = good.payer in absurd cc

pub too_early : IsGoodRest received (Some (record receipt { day = day (pos 19) })) → ⊥
too_early good = let no : false ≡ true = good.later in absurd cc

pub into_transit : IsGoodRest received (Some (record receipt { payee = codes "assets:transit:x" })) → ⊥
into_transit good = let no : true ≡ false = good.payee in absurd cc

pub of_no_rest : IsGoodRest (parted (part (codes "a") (pos 1000) (pos 21) ∷ [])) (Some receipt) → ⊥
of_no_rest good = let no : false ≡ true = good.positive in absurd cc

pub under_all : HasGoodParts (parted (part (codes "all") (pos 400) (pos 21) ∷ [])) → ⊥
under_all good = let no : false ≡ true = good.keys.0 in absurd cc

pub key_twice : HasGoodParts (parted (part (codes "a") (pos 400) (pos 21) ∷ part (codes "a") (pos 600) (pos 21) ∷ []))
    → ⊥
key_twice good = absurd (let no = good.keyed.0.0 in cc)

pub keys_descend : HasGoodParts
    (parted (part (codes "b") (pos 400) (pos 21) ∷ part (codes "a") (pos 600) (pos 21) ∷ [])) → ⊥
keys_descend good = absurd (let no = good.keyed.0.0 in cc)

pub over_the_amount : HasGoodParts
    (parted (part (codes "a") (pos 400) (pos 21) ∷ part (codes "b") (pos 601) (pos 21) ∷ [])) → ⊥
over_the_amount good = let no : false ≡ true = good.within in absurd cc

pub part_of_nothing : HasGoodParts (parted (part (codes "a") (pos 0) (pos 21) ∷ [])) → ⊥
part_of_nothing good = let no : false ≡ true = good.each.0.positive in absurd cc

pub part_too_early : HasGoodParts (parted (part (codes "a") (pos 400) (pos 19) ∷ [])) → ⊥
part_too_early good = let no : false ≡ true = good.each.0.later in absurd cc
