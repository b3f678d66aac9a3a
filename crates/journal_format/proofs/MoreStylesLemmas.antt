-- What is printable under some styles is printable under them and more, with the same texts.
use Rattle.std.proofs.Common.{◌≡◌, ◌++◌, ◌≤◌, ℕ, ℤ, List, [], ◌∷◌, true, ◌&&◌, length, map, refl, ap, ◌∙◌, subst, sym}
use Rattle.std.proofs.Common.{Option, Some, None, nat_lt, nat_le}
use Rattle.std.specs.Prelude.{unsigned_abs}
use Rattle.std.specs.List.{list_all, flat_map}
use Rattle.std.specs.Str.{is_utf8}
use Rattle.std.proofs.lemmas.Bool.{and_parts, and_from, ltb-true, lt-ltb, leb-true, le-leb}
use Rattle.money_core.specs.declared.style.Style.{Style}
use Rattle.money_core.specs.declared.unit.Unit.{Unit as Commodity}
use Rattle.money_core.specs.declared.price.Price.{Price}
use Rattle.money_core.specs.declared.claim.Claim.{Claim}
use Rattle.money_core.specs.Amount.{limit}
use Rattle.money_core.specs.AmountText.{IsDeclared, printed_in}
use Rattle.money_core.specs.Growth.{StaysUnderMore}
use Rattle.money_core.proofs.GrowthLemmas.{styles_grow}
use Rattle.journal_lines.specs.AccountName.{is_account}
use Rattle.journal_lines.specs.Printed.{ended, indent, comment_line, header_line}
use Rattle.journal_format.specs.declared.posting.Posting.{Posting}
use Rattle.journal_format.specs.declared.txn.Txn.{Txn}
use Rattle.journal_format.specs.PostingForm.{claim_sign}
use Rattle.journal_format.specs.CanonicalText.{posting_status, price_text, claim_text, amount_text, posting_line}
use Rattle.journal_format.specs.CanonicalText.{posting_lines, mark_lines, txn_lines, txn_text, marked}
use Rattle.journal_format.specs.Printable.{is_remark_text, is_amount, is_price_or_none, is_claim_or_none, is_value}
use Rattle.journal_format.specs.Printable.{is_posting, IsPrintable}
use Rattle.journal_format.specs.Growth.{StaysPrintable}

stays_under_more : (styles more : List Style) → StaysUnderMore styles more
stays_under_more styles more = styles_grow.stays styles more

pub declared_amount : (styles : List Style) (unit : Commodity) (q : ℤ) → is_amount styles unit q ≡ true
    → IsDeclared styles unit q
declared_amount styles unit q h =
    let parts = and_parts (nat_lt unit.0 (length styles)) (nat_le (unsigned_abs q) limit) h in
    record { known = ltb-true unit.0 (length styles) parts.0; size = leb-true (unsigned_abs q) limit parts.1 }

amount_stays : (styles more : List Style) (unit : Commodity) (q : ℤ) → is_amount styles unit q ≡ true
    → is_amount (styles ++ more) unit q ≡ true
amount_stays styles more unit q h =
    let d = (stays_under_more styles more).declared unit q (declared_amount styles unit q h) in
    and_from (nat_lt unit.0 (length (styles ++ more))) (nat_le (unsigned_abs q) limit)
    (lt-ltb unit.0 (length (styles ++ more)) d.known) (le-leb (unsigned_abs q) limit d.size)

amount_same : (styles more : List Style) (unit : Commodity) (q : ℤ) → is_amount styles unit q ≡ true
    → printed_in (styles ++ more) unit q ≡ printed_in styles unit q
amount_same styles more unit q h = (stays_under_more styles more).printed unit q (declared_amount styles unit q h)

price_stays : (styles more : List Style) (o : Option Price) → is_price_or_none styles o ≡ true
    → is_price_or_none (styles ++ more) o ≡ true
price_stays styles more None h = refl
price_stays styles more (Some p) h = (stays_under_more styles more).prices p h

price_same : (styles more : List Style) (o : Option Price) → is_price_or_none styles o ≡ true
    → price_text (styles ++ more) o ≡ price_text styles o
price_same styles more None h = refl
price_same styles more (Some p) h = ap (λ (xs : List ℕ). 32 ∷ xs) ((stays_under_more styles more).printed_prices p h)

claim_stays : (styles more : List Style) (o : Option Claim) → is_claim_or_none styles o ≡ true
    → is_claim_or_none (styles ++ more) o ≡ true
claim_stays styles more None h = refl
claim_stays styles more (Some k) h = amount_stays styles more k.unit k.qty h

claim_same : (styles more : List Style) (o : Option Claim) → is_claim_or_none styles o ≡ true
    → claim_text (styles ++ more) o ≡ claim_text styles o
claim_same styles more None h = refl
claim_same styles more (Some k) h =
    ap (λ (xs : List ℕ). 32 ∷ (claim_sign k.kind ++ (32 ∷ xs))) (amount_same styles more k.unit k.qty h)

-- the value of a posting
value_stays : (styles more : List Style) (a : Option (Commodity × ℤ)) (q : Option Price) (k : Option Claim)
    → is_value styles a q k ≡ true → is_value (styles ++ more) a q k ≡ true
value_stays styles more None q k h = h
value_stays styles more (Some a) q k h =
    let x = and_parts (is_amount styles a.0 a.1 && is_price_or_none styles q) (is_claim_or_none styles k) h in
    let y = and_parts (is_amount styles a.0 a.1) (is_price_or_none styles q) x.0 in
    and_from (is_amount (styles ++ more) a.0 a.1 && is_price_or_none (styles ++ more) q)
    (is_claim_or_none (styles ++ more) k)
    (and_from (is_amount (styles ++ more) a.0 a.1) (is_price_or_none (styles ++ more) q)
    (amount_stays styles more a.0 a.1 y.0) (price_stays styles more q y.1)) (claim_stays styles more k x.1)

value_same : (styles more : List Style) (a : Option (Commodity × ℤ)) (q : Option Price) (k : Option Claim)
    → is_value styles a q k ≡ true → amount_text (styles ++ more) a q k ≡ amount_text styles a q k
value_same styles more None q k h = refl
value_same styles more (Some a) q k h =
    let x = and_parts (is_amount styles a.0 a.1 && is_price_or_none styles q) (is_claim_or_none styles k) h in
    let y = and_parts (is_amount styles a.0 a.1) (is_price_or_none styles q) x.0 in
    ap (λ (xs : List ℕ). 32 ∷ 32 ∷ (xs ++ (price_text (styles ++ more) q ++ claim_text (styles ++ more) k)))
    (amount_same styles more a.0 a.1 y.0)
    ∙ (ap (λ (xs : List ℕ). 32 ∷ 32 ∷ (printed_in styles a.0 a.1 ++ (xs ++ claim_text (styles ++ more) k)))
    (price_same styles more q y.1)
    ∙ ap (λ (xs : List ℕ). 32 ∷ 32 ∷ (printed_in styles a.0 a.1 ++ (price_text styles q ++ xs)))
    (claim_same styles more k x.1))

-- a posting
record Parts (styles : List Style) (p : Posting) : Type 0 where
  name : (is_account p.account && is_utf8 p.account) ≡ true
  value : is_value styles p.amount p.price p.claim ≡ true
  comments : list_all is_remark_text p.comments ≡ true

parts_of : (styles : List Style) (p : Posting) → is_posting styles p ≡ true → Parts styles p
parts_of styles p h =
    let a = and_parts (is_account p.account && is_utf8 p.account && is_value styles p.amount p.price p.claim)
    (list_all is_remark_text p.comments) h in
    let b = and_parts (is_account p.account && is_utf8 p.account) (is_value styles p.amount p.price p.claim) a.0 in
    record { name = b.0; value = b.1; comments = a.1 }

posting_stays : (styles more : List Style) (p : Posting) → is_posting styles p ≡ true
    → is_posting (styles ++ more) p ≡ true
posting_stays styles more p h =
    let x = parts_of styles p h in
    and_from (is_account p.account && is_utf8 p.account && is_value (styles ++ more) p.amount p.price p.claim)
    (list_all is_remark_text p.comments)
    (and_from (is_account p.account && is_utf8 p.account) (is_value (styles ++ more) p.amount p.price p.claim) x.name
    (value_stays styles more p.amount p.price p.claim x.value)) x.comments

posting_same : (styles more : List Style) (p : Posting) → is_posting styles p ≡ true
    → posting_line (styles ++ more) p ≡ posting_line styles p
unfolding posting_line
posting_same styles more p h = ap (λ (xs : List ℕ). indent ++ (posting_status p.status ++ (p.account ++ xs)))
    (value_same styles more p.amount p.price p.claim (parts_of styles p h).value)

postings_stay : (styles more : List Style) (ps : List Posting) → list_all (is_posting styles) ps ≡ true
    → list_all (is_posting (styles ++ more)) ps ≡ true
postings_stay styles more [] h = refl
postings_stay styles more (p ∷ ps) h =
    let x = and_parts (is_posting styles p) (list_all (is_posting styles) ps) h in
    and_from (is_posting (styles ++ more) p) (list_all (is_posting (styles ++ more)) ps)
    (posting_stays styles more p x.0) (postings_stay styles more ps x.1)

postings_same : (styles more : List Style) (ps : List Posting) → list_all (is_posting styles) ps ≡ true
    → flat_map (posting_lines (styles ++ more)) ps ≡ flat_map (posting_lines styles) ps
postings_same styles more [] h = refl
postings_same styles more (p ∷ ps) h =
    let x = and_parts (is_posting styles p) (list_all (is_posting styles) ps) h in
    ap (λ (l : List ℕ). (l ∷ map comment_line p.comments) ++ flat_map (posting_lines (styles ++ more)) ps)
    (posting_same styles more p x.0)
    ∙ ap (λ (ls : List (List ℕ)). posting_lines styles p ++ ls) (postings_same styles more ps x.1)

-- a transaction
text_same : (styles more : List Style) (t : Txn) → list_all (is_posting styles) t.postings ≡ true
    → txn_text (styles ++ more) t ≡ txn_text styles t
unfolding txn_lines
text_same styles more t h =
    ap (λ (ls : List (List ℕ)). ended
    (header_line t.day t.status t.code t.description ∷ (mark_lines t.mark ++ (map comment_line t.comments ++ ls))))
    (postings_same styles more t.postings h)

pub printable_stays : (styles more : List Style) (t : Txn) → IsPrintable styles t → StaysPrintable styles more t
printable_stays styles more t h =
    let body = text_same styles more (marked t None) h.postings in
    record {
      printable = record {
        header = h.header;
        code = h.code;
        description = h.description;
        mark = h.mark;
        comments = h.comments;
        postings = postings_stay styles more t.postings h.postings;
        few = h.few;
        small = subst (λ (text : List ℕ). length text ≤ 1_000_000) (sym body) h.small;
      };
      text = text_same styles more t h.postings;
      body = body;
    }
