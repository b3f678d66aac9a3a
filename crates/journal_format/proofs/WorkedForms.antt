-- Lines and pieces worked out by hand, so that a wrong definition of what they are does not check.
use Rattle.std.proofs.Common.{◌≡◌, refl, List, [], ◌∷◌, Some, None, codes, pos, Ok, Err, ℕ, inl, inr, ◌∙◌, sym, true}
use Rattle.std.proofs.Common.{false, arith}
use Rattle.std.specs.Str.{is_utf8, chars}
use lib.Utf8.{encode}
use Rattle.money_core.specs.declared.mark.Mark.TheVariants.{Point}
use Rattle.money_core.specs.declared.style.Style.{Style}
use Rattle.money_core.specs.declared.cause.Cause.{Cause}
use Rattle.money_core.specs.declared.cause.Cause.TheVariants as cause
use Rattle.money_core.specs.declared.price.Price.{Price}
use Rattle.money_core.specs.declared.price.Price.TheVariants.{Each, Total}
use Rattle.money_core.specs.declared.claim.ClaimKind.TheVariants.{Exact, SoleIn}
use Rattle.money_core.specs.Price.{WritesPrice}
use Rattle.money_core.specs.Cutting.{cut_symbol, left_parts, right_symbol, amount_parts}
use Rattle.money_core.specs.Reading.{quantity_in, amount_of_parts}
use Rattle.money_core.specs.PriceReading.{unit_cost, total_cost, price_of_parts, price}
use Rattle.money_core.specs.Sampling.{shown_mark, style_of_parts}
use Rattle.money_core.proofs.WorkedValues.{styles, euro}
use Rattle.money_core.proofs.ReadingLemmas.{writes_if}
use Rattle.money_core.proofs.PriceGrammar.{price_reads_iff}
use Rattle.money_core.proofs.SampleLemmas.{style_spelled}
use Rattle.journal_lines.specs.declared.header.Status.TheVariants.{Cleared, Pending}
use Rattle.journal_lines.specs.Blank.{first_word, trim_start, trim_end}
use Rattle.journal_lines.specs.Comment.{front_of, comment_of}
use Rattle.journal_lines.specs.Header.{status_at, behind_status}
use Rattle.journal_lines.specs.LineKind.{is_block_start, is_block_end, is_commodity_word, is_skipped_word, is_remark}
use Rattle.journal_lines.specs.AccountName.{is_account, name_end}
use Rattle.journal_format.specs.declared.posting.Posting.{Posting}
use Rattle.journal_format.specs.PostingParts.{outside, kind_at}
use Rattle.journal_format.specs.Posting.{cut_posting, value_of_cut, judged_posting, posting_of}
use Rattle.journal_format.specs.PostingForm.{IsPostingText}
use Rattle.journal_format.specs.DirectiveForm.{NamesCommodity, IsBelow}
use Rattle.journal_format.specs.Directive.{is_format, format_fault}
use Rattle.journal_format.specs.Machine.{line_step, journal_of}
use Rattle.journal_format.specs.Pieces.{HaveList}
use Rattle.journal_format.specs.Pieces.ArePieces.{nothing, led, alone, remark}
use Rattle.journal_format.specs.Pieces.IsLed.{skipped}
use Rattle.journal_format.specs.Pieces.IsAlone.{blank, comment}
use Rattle.journal_format.specs.Pieces.MakeUpList.{whole}
use Rattle.journal_format.specs.Fault.{IsFirstFault}
use Rattle.journal_format.proofs.PostingFormLemmas.{form_reads}
use Rattle.journal_format.proofs.DirectiveFormLemmas.{below_iff}
use Rattle.journal_format.proofs.FaultLemmas.{faults_exactly}

-- a posting of an account alone
abbrev posting : List ℕ → Posting
posting account = record { status = None; account = account; amount = None; price = None; claim = None; comments = [] }

-- all parts of a posting line: a status, an account with a space, an amount, a unit cost, an assertion, and a comment
pub whole_line : IsPostingText styles (codes "  * assets:my bank  3.00 EUR @ $1.350 ==* 10.00 EUR ; x ") (record {
  status = Some Cleared;
  account = codes "assets:my bank";
  amount = Some (record { 0 = 0 }, pos 300);
  price = Some (Each (record { 0 = 1 }) 135 2);
  claim = Some (record { kind = SoleIn; unit = record { 0 = 0 }; qty = pos 1000 });
  comments = codes "x" ∷ [];
})
unfolding is_account cut_symbol left_parts right_symbol amount_parts quantity_in amount_of_parts unit_cost total_cost
    price_of_parts price is_utf8 chars encode
whole_line = record {
  indent = codes "  ";
  status_gap = codes " ";
  gap = codes "  ";
  part = codes "3.00 EUR @ $1.350 ==* 10.00 EUR";
  end_gap = codes " ";
  remark = codes "; x ";
  written = refl;
  blanks = refl;
  account = refl;
  apart = inr refl;
  value = record {
    amount_part = codes "3.00 EUR";
    price_part = codes " @ $1.350";
    claim_part = codes " ==* 10.00 EUR";
    written = refl;
    amount = writes_if styles (codes "3.00 EUR") 0 (pos 300) refl;
    priced = record {
      gap = codes " ";
      rest = codes "@ $1.350";
      written = refl;
      blanks = refl;
      holds = (price_reads_iff styles (codes "@ $1.350") (price styles (codes "@ $1.350")) refl
          (Each (record { 0 = 1 }) 135 2)).0 refl;
    };
    claimed = record {
      gap = codes " ";
      rest = codes "==* 10.00 EUR";
      written = refl;
      blanks = refl;
      holds = record {
        asserted = codes " 10.00 EUR";
        written = refl;
        amount = record {
          gap = codes " ";
          rest = codes "10.00 EUR";
          written = refl;
          blanks = refl;
          holds = writes_if styles (codes "10.00 EUR") 0 (pos 1000) refl;
        };
      };
    };
  };
  comment = Some (codes "x");
  commented = record { before = codes " "; after = codes " "; written = refl; blanks = refl; trimmed = refl };
  comments = refl;
  short = omega arith;
}

-- the price of a text, once it was worked out
abbrev priced_if : (styles : List Style) (text : List ℕ) (p : Price) → price styles text ≡ Ok p
    → WritesPrice styles text p
priced_if styles text p e = (price_reads_iff styles text (price styles text) refl p).0 e

-- the least line: a status directly before the account, and an empty comment directly after it
pub bare_line : IsPostingText styles (codes " !a;")
    (record {
      status = Some Pending;
      account = codes "a";
      amount = None;
      price = None;
      claim = None;
      comments = [] ∷ [];
    })
unfolding is_account
bare_line = record {
  indent = codes " ";
  status_gap = [];
  gap = [];
  part = [];
  end_gap = [];
  remark = codes ";";
  written = refl;
  blanks = refl;
  account = refl;
  apart = inl refl;
  value = (refl, refl, refl);
  comment = Some [];
  commented = record { before = []; after = []; written = refl; blanks = refl; trimmed = refl };
  comments = refl;
  short = omega arith;
}

-- a single space ends no name
pub long_name : IsPostingText styles (codes " a:x = 5 EUR") (posting (codes "a:x = 5 EUR"))
unfolding is_account
long_name = record {
  indent = codes " ";
  status_gap = [];
  gap = [];
  part = [];
  end_gap = [];
  remark = [];
  written = refl;
  blanks = refl;
  account = refl;
  apart = inl refl;
  value = (refl, refl, refl);
  comment = None;
  commented = refl;
  comments = refl;
  short = omega arith;
}

-- a tab ends a name, and needs no second blank; the cost of the whole amount, and no blanks where none are needed
pub tab_line : IsPostingText styles (codes "\ta\t5 EUR@@$1= 2 EUR") (record {
  status = None;
  account = codes "a";
  amount = Some (record { 0 = 0 }, pos 500);
  price = Some (Total (record { 0 = 1 }) 100);
  claim = Some (record { kind = Exact; unit = record { 0 = 0 }; qty = pos 200 });
  comments = [];
})
unfolding is_account cut_symbol left_parts right_symbol amount_parts quantity_in amount_of_parts unit_cost total_cost
    price_of_parts price is_utf8 chars encode
tab_line = record {
  indent = codes "\t";
  status_gap = [];
  gap = codes "\t";
  part = codes "5 EUR@@$1= 2 EUR";
  end_gap = [];
  remark = [];
  written = refl;
  blanks = refl;
  account = refl;
  apart = inr refl;
  value = record {
    amount_part = codes "5 EUR";
    price_part = codes "@@$1";
    claim_part = codes "= 2 EUR";
    written = refl;
    amount = writes_if styles (codes "5 EUR") 0 (pos 500) refl;
    priced = record {
      gap = [];
      rest = codes "@@$1";
      written = refl;
      blanks = refl;
      holds = priced_if styles (codes "@@$1") (Total (record { 0 = 1 }) 100) refl;
    };
    claimed = record {
      gap = [];
      rest = codes "= 2 EUR";
      written = refl;
      blanks = refl;
      holds = record {
        asserted = codes " 2 EUR";
        written = refl;
        amount = record {
          gap = codes " ";
          rest = codes "2 EUR";
          written = refl;
          blanks = refl;
          holds = writes_if styles (codes "2 EUR") 0 (pos 200) refl;
        };
      };
    };
  };
  comment = None;
  commented = refl;
  comments = refl;
  short = omega arith;
}

-- a commodity whose symbol is `a=b`, which stands in quotes
abbrev quoted : List Style
quoted = record { symbol = codes "a=b"; left = false; spaced = true; mark = Point; decimals = 0; grouped = false } ∷ []

-- a `=` inside quotes begins no assertion
pub quoted_line : IsPostingText quoted (codes " a  5 \"a=b\"=\"a=b\" 7") (record {
  status = None;
  account = codes "a";
  amount = Some (record { 0 = 0 }, pos 5);
  price = None;
  claim = Some (record { kind = Exact; unit = record { 0 = 0 }; qty = pos 7 });
  comments = [];
})
unfolding is_account cut_symbol left_parts right_symbol amount_parts quantity_in amount_of_parts is_utf8 chars encode
quoted_line = record {
  indent = codes " ";
  status_gap = [];
  gap = codes "  ";
  part = codes "5 \"a=b\"=\"a=b\" 7";
  end_gap = [];
  remark = [];
  written = refl;
  blanks = refl;
  account = refl;
  apart = inr refl;
  value = record {
    amount_part = codes "5 \"a=b\"";
    price_part = [];
    claim_part = codes "=\"a=b\" 7";
    written = refl;
    amount = writes_if quoted (codes "5 \"a=b\"") 0 (pos 5) refl;
    priced = refl;
    claimed = record {
      gap = [];
      rest = codes "=\"a=b\" 7";
      written = refl;
      blanks = refl;
      holds = record {
        asserted = codes "\"a=b\" 7";
        written = refl;
        amount = record {
          gap = [];
          rest = codes "\"a=b\" 7";
          written = refl;
          blanks = refl;
          holds = writes_if quoted (codes "\"a=b\" 7") 0 (pos 7) refl;
        };
      };
    };
  };
  comment = None;
  commented = refl;
  comments = refl;
  short = omega arith;
}

-- a line that is read as a fault has no posting
lacks : (line : List ℕ) (c : Cause) → posting_of styles line ≡ Err c → (p : Posting) → IsPostingText styles line p → ⊥
lacks line c e p w = let both = form_reads styles line p w in absurd (let clash = sym e ∙ both in cc)

-- an assertion needs an amount, and so does a cost; parentheses and brackets mark virtual postings; a claim needs its
-- amount
pub no_postings : ((p : Posting) → IsPostingText styles (codes " assets:x  = 5.00 EUR") p → ⊥)
    × ((p : Posting) → IsPostingText styles (codes " a:x  @ 5 EUR") p → ⊥)
    × ((p : Posting) → IsPostingText styles (codes " (a)  5 EUR") p → ⊥)
    × ((p : Posting) → IsPostingText styles (codes " [a]  5 EUR") p → ⊥)
    × ((p : Posting) → IsPostingText styles (codes " a  5 EUR =") p → ⊥)
    × ((p : Posting) → IsPostingText styles (codes " a  5 EUR x") p → ⊥)
    × ((p : Posting) → IsPostingText styles (codes " * * a") p → ⊥)
unfolding trim_start trim_end front_of comment_of status_at behind_status is_account name_end outside cut_posting
    kind_at value_of_cut judged_posting cut_symbol left_parts right_symbol amount_parts quantity_in amount_of_parts
    unit_cost total_cost price_of_parts price is_utf8 chars encode
no_postings = (
  lacks (codes " assets:x  = 5.00 EUR") cause.Assignment refl,
  lacks (codes " a:x  @ 5 EUR") cause.Amount refl,
  lacks (codes " (a)  5 EUR") cause.Virtual refl,
  lacks (codes " [a]  5 EUR") cause.Virtual refl,
  lacks (codes " a  5 EUR =") cause.Amount refl,
  lacks (codes " a  5 EUR x") cause.Amount refl,
  lacks (codes " * * a") cause.Account refl,
)

-- a directive names its commodity by a sample, whose groups and side are free, or by its symbol
pub by_sample : NamesCommodity styles (record { 0 = 0 }) (codes "commodity EUR1000.00 ; x")
unfolding cut_symbol left_parts right_symbol amount_parts shown_mark style_of_parts is_utf8 chars encode
by_sample = record {
  gap = codes " ";
  text = codes "EUR1000.00";
  end_gap = codes " ";
  remark = codes "; x";
  written = refl;
  blanks = refl;
  apart = λ e. absurd cc;
  holds = inl (record {
    sample = record { symbol = codes "EUR"; left = true; spaced = false; mark = Point; decimals = 2; grouped = false };
    style = euro;
    spelled = style_spelled (codes "EUR1000.00")
        (record { symbol = codes "EUR"; left = true; spaced = false; mark = Point; decimals = 2; grouped = false })
        refl;
    declared = refl;
    its_style = refl;
    mark = refl;
    decimals = refl;
  });
  comment = Some (codes "x");
  commented = record { before = codes " "; after = []; written = refl; blanks = refl; trimmed = refl };
}

pub by_symbol : NamesCommodity styles (record { 0 = 1 }) (codes "commodity\t\"$\"")
unfolding is_utf8 chars encode
by_symbol = record {
  gap = codes "\t";
  text = codes "\"$\"";
  end_gap = [];
  remark = [];
  written = refl;
  blanks = refl;
  apart = λ e. absurd cc;
  holds = inr (record { symbol = codes "$"; written = inr (refl, refl); declared = refl });
  comment = None;
  commented = refl;
}

-- a line below whose first word is not `format` is skipped
pub skipped_below : IsBelow styles (record { 0 = 0 }) (codes "  formats x")
unfolding first_word trim_start
skipped_below = inl (λ e. absurd cc)

-- a `format` line has a sample of the directive's commodity, with its decimals
faulty_below : (line : List ℕ) (c : Cause) → format_fault styles (record { 0 = 0 }) line ≡ Some c
    → IsBelow styles (record { 0 = 0 }) line → ⊥
faulty_below line c e w =
    let none = (below_iff styles line (record { 0 = 0 })).0 w in absurd (let clash = sym e ∙ none in cc)

pub wrong_formats : (IsBelow styles (record { 0 = 0 }) (codes "  format $1.00") → ⊥)
    × (IsBelow styles (record { 0 = 0 }) (codes "  format 1.0 EUR") → ⊥)
    × (IsBelow styles (record { 0 = 0 }) (codes "  format EUR") → ⊥)
unfolding format_fault is_format first_word trim_start trim_end front_of shown_mark style_of_parts cut_symbol left_parts
    right_symbol amount_parts is_utf8 chars encode
wrong_formats = (
  faulty_below (codes "  format $1.00") cause.CommodityStyle refl,
  faulty_below (codes "  format 1.0 EUR") cause.CommodityStyle refl,
  faulty_below (codes "  format EUR") cause.Amount refl,
)

-- lines that are kept nowhere: a comment, a blank line, a comment after blanks, and a skipped directive with a line
-- below it
pub nothing_kept : HaveList styles (codes "# c" ∷ [] ∷ codes "  ; stray" ∷ codes "account a" ∷ codes "  x" ∷ []) []
unfolding is_remark trim_start is_utf8 chars encode is_block_start is_commodity_word is_skipped_word first_word trim_end
nothing_kept = record {
  lines = refl;
  few = omega arith;
  pieces = whole (led (remark (codes "  ; stray") (alone (alone nothing (comment refl)) (blank refl)) refl refl)
      (skipped (record {
        line = codes "account a";
        below = codes "  x" ∷ [];
        whole = refl;
        skipped = refl;
        indented = (refl, tt);
      })));
}

-- the first fault of a text: an indented line after a blank line belongs to nothing
pub stray_line : IsFirstFault styles (codes "payee x\n  y\n\n  z\n2024-02-30 x")
    (record { line = 4; cause = cause.StrayLine })
unfolding journal_of line_step is_remark first_word trim_start trim_end is_utf8 chars encode is_block_start is_block_end
    is_commodity_word is_skipped_word
stray_line = (faults_exactly styles (codes "payee x\n  y\n\n  z\n2024-02-30 x")
    (record { line = 4; cause = cause.StrayLine })).0 refl
