-- The form of a posting line: what stands in it from left to right (hledger manual, "Postings", "Status", "Account
-- names", "Costs", "Balance assertions", "Comments"). What an account, an amount and a cost are, and the limits, are
-- own rules.
use Rattle.std.specs.Prelude.{◌≡◌, ◌≤◌, ℕ, ℤ, ◌==◌, nat_le, List, [], ◌∷◌, ◌++◌, length, slice_index, Bool, true, ◌||◌}
use Rattle.std.specs.Prelude.{◌⊎◌, Option, Some, None, option_to_list}
use Rattle.std.specs.List.{list_all}
use Rattle.money_core.specs.declared.style.Style.{Style}
use Rattle.money_core.specs.declared.unit.Unit.{Unit as Commodity}
use Rattle.money_core.specs.declared.price.Price.{Price}
use Rattle.money_core.specs.declared.claim.Claim.{Claim}
use Rattle.money_core.specs.declared.claim.ClaimKind.{ClaimKind}
use Rattle.money_core.specs.declared.claim.ClaimKind.TheVariants.{Exact, Sole, ExactIn, SoleIn}
use Rattle.money_core.specs.Amount.{WritesAmount}
use Rattle.money_core.specs.Price.{WritesPrice}
use Rattle.journal_lines.specs.Blank.{is_blank}
use Rattle.journal_lines.specs.AccountName.{is_account}
use Rattle.journal_lines.specs.Header.{length_of, comment_limit}
use Rattle.journal_lines.specs.HeaderForm.{status_text, IsRemark}
use Rattle.journal_format.specs.declared.posting.Posting.{Posting}

-- the sign of a balance assertion
abbrev pub claim_sign : ClaimKind → List ℕ
claim_sign Exact = 61 ∷ []
claim_sign Sole = 61 ∷ 61 ∷ []
claim_sign ExactIn = 61 ∷ 42 ∷ []
claim_sign SoleIn = 61 ∷ 61 ∷ 42 ∷ []

-- the text is blanks, and then such a text
pub record IsBehindBlanks (is : List ℕ → Type 0) (text : List ℕ) : Type 0 where
  pub gap : List ℕ
  pub rest : List ℕ
  pub written : text ≡ gap ++ rest
  pub blanks : list_all is_blank gap ≡ true
  pub holds : is rest

-- the text is a balance assertion: its sign, blanks, and an amount
pub record WritesClaim (styles : List Style) (text : List ℕ) (k : Claim) : Type 0 where
  pub asserted : List ℕ
  pub written : text ≡ claim_sign k.kind ++ asserted
  pub amount : IsBehindBlanks (λ xs. WritesAmount styles xs k.unit.0 k.qty) asserted

-- nothing, or blanks and a cost
abbrev pub IsPricePart : List Style → List ℕ → Option Price → Type 0
IsPricePart styles text None = text ≡ []
IsPricePart styles text (Some price) = IsBehindBlanks (λ xs. WritesPrice styles xs price) text

-- nothing, or blanks and a balance assertion
abbrev pub IsClaimPart : List Style → List ℕ → Option Claim → Type 0
IsClaimPart styles text None = text ≡ []
IsClaimPart styles text (Some k) = IsBehindBlanks (λ xs. WritesClaim styles xs k) text

-- the text is an amount, then its cost, then a balance assertion, these two optional
pub record WritesValue (styles : List Style) (text : List ℕ) (a : Commodity × ℤ) (price : Option Price)
    (claim : Option Claim) : Type 0 where
  pub amount_part : List ℕ
  pub price_part : List ℕ
  pub claim_part : List ℕ
  pub written : text ≡ amount_part ++ (price_part ++ claim_part)
  pub amount : WritesAmount styles amount_part a.0.0 a.1
  pub priced : IsPricePart styles price_part price
  pub claimed : IsClaimPart styles claim_part claim

-- the text is the amount part of a posting; where there is none, there is no cost and no assertion
abbrev pub IsAmountPart : List Style → List ℕ → Option (Commodity × ℤ) → Option Price → Option Claim → Type 0
IsAmountPart styles text None price claim = (text ≡ []) × (price ≡ None) × (claim ≡ None)
IsAmountPart styles text (Some a) price claim = WritesValue styles text a price claim

-- blanks that set an account name apart, in which single spaces may stand: a tab first, or two at least
abbrev pub is_wide : List ℕ → Bool
is_wide gap = (slice_index gap 0 == 9) || nat_le 2 (length gap)

-- The line is that posting with the comment of its own line: blanks, a status, an account, an amount part, a comment.
pub record IsPostingText (styles : List Style) (line : List ℕ) (p : Posting) : Type 0 where
  pub indent : List ℕ
  pub status_gap : List ℕ
  pub gap : List ℕ
  pub part : List ℕ
  pub end_gap : List ℕ
  pub remark : List ℕ
  pub written : line ≡ indent ++ (status_text p.status
      ++ (status_gap ++ (p.account ++ (gap ++ (part ++ (end_gap ++ remark))))))
  pub blanks : list_all is_blank (indent ++ (status_gap ++ (gap ++ end_gap))) ≡ true
  pub account : is_account p.account ≡ true
  -- an amount part stands apart from the name
  pub apart : (part ≡ []) ⊎ (is_wide gap ≡ true)
  pub value : IsAmountPart styles part p.amount p.price p.claim
  pub comment : Option (List ℕ)
  pub commented : IsRemark comment remark
  pub comments : p.comments ≡ option_to_list comment
  pub short : length_of comment ≤ comment_limit
