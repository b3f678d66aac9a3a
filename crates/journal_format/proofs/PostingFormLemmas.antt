-- A posting line is read exactly where it has its form.
use Rattle.std.proofs.Common.{◌≡◌, ◌≤◌, ◌<◌, ◌+◌, ◌++◌, ◌==◌, ℕ, ℤ, suc, List, [], ◌∷◌, Bool, true, false, cond, not}
use Rattle.std.proofs.Common.{◌&&◌, ◌||◌, length, take, drop, slice_index, arith, refl, ap, ◌∙◌, append-nil}
use Rattle.std.proofs.Common.{append_assoc, take-append-drop, sym, subst, Option, Some, None, Result, Ok, Err, inl, inr}
use Rattle.std.proofs.Common.{◌⊎◌, nat_lt, nat_le}
use Rattle.std.specs.Prelude.{option_to_list, ◌↔◌}
use Rattle.std.proofs.lemmas.Grind.{common_steps}
use Rattle.std.proofs.lemmas.Bool.{cases_Bool, and_parts, and_from, not-true, le-ltb, le-leb, ltb-false, eqb-true}
use Rattle.std.proofs.lemmas.Bool.{ne_eqb}
use Rattle.std.specs.List.{list_all}
use Rattle.std.proofs.lemmas.List.{drop_at, get_or_append_left}
use Rattle.std.proofs.Math.Seq.{take-append_seam}
use Rattle.money_core.specs.declared.style.Style.{Style}
use Rattle.money_core.specs.declared.unit.Unit.{Unit as Commodity}
use Rattle.money_core.specs.declared.price.Price.{Price}
use Rattle.money_core.specs.declared.cause.Cause.{Cause}
use Rattle.money_core.specs.declared.class.Class.TheVariants.{Blank, Symbol, Number}
use Rattle.money_core.specs.declared.claim.Claim.{Claim}
use Rattle.money_core.specs.declared.claim.ClaimKind.{ClaimKind}
use Rattle.money_core.specs.declared.claim.ClaimKind.TheVariants.{Exact, Sole, ExactIn, SoleIn}
use Rattle.money_core.specs.Class.{is_of_class}
use Rattle.money_core.specs.Symbol.{is_quoted_byte}
use Rattle.money_core.specs.Amount.{WritesAmount}
use Rattle.money_core.specs.Price.{price_mark, is_total, WritesPrice}
use Rattle.money_core.specs.Reading.{amount}
use Rattle.money_core.specs.PriceReading.{price}
use Rattle.money_core.proofs.ClassLemmas.{symbol_no_blank, number_no_blank}
use Rattle.money_core.proofs.ReadingLemmas.{reads_iff}
use Rattle.money_core.proofs.PriceGrammar.{price_reads_iff, number_no_at}
use Rattle.money_core.proofs.ListLemmas.{nil_from_empty}
use Rattle.journal_lines.specs.declared.header.Status.{Status}
use Rattle.journal_lines.specs.Blank.{is_blank, first_solid, trim_start, trim_end, trim, is_trimmed}
use Rattle.journal_lines.specs.Comment.{front_of, comment_of}
use Rattle.journal_lines.specs.Header.{status_at, behind_status, length_of}
use Rattle.journal_lines.specs.HeaderForm.{status_text}
use Rattle.journal_lines.specs.AccountName.{is_account, is_account_name_byte, ends_name, name_end}
use Rattle.journal_lines.proofs.AccountLemmas.{EndsName, name_whole, account_unbroken}
use Rattle.journal_lines.proofs.CutLemmas.{trim_start_behind, trim_start_same, trim_start_blanks, trim_end_same}
use Rattle.journal_lines.proofs.CutLemmas.{trim_inside, all_joined, all_weaker, first_kept, trim_end_trimmed}
use Rattle.journal_lines.proofs.CutLemmas.{trim_trimmed, trim_same}
use Rattle.journal_lines.proofs.HeaderLemmas.{past, cond_cases}
use Rattle.journal_lines.proofs.HeaderFormLemmas.{status_reads, remark_reads, in_row, split_start, blanks_front}
use Rattle.journal_lines.proofs.HeaderFormLemmas.{end_blanks, split_end, blanks_end, status_form, remark_form}
use Rattle.journal_lines.proofs.HeaderFormLemmas.{status_no_semicolon, blank_no_semicolon}
use Rattle.journal_format.specs.declared.posting.Posting.{Posting}
use Rattle.journal_format.specs.PostingParts.{outside, before_mark, from_mark, kind_at, is_virtual}
use Rattle.journal_format.specs.Posting.{Value, PostingCut, cut_part, cut_posting, claim_sign, claimed}
use Rattle.journal_format.specs.Posting.{value_with_claim}
use Rattle.journal_format.specs.Posting.{with_price, with_amount, value_of_cut, posting_with_value, judged_posting}
use Rattle.journal_format.specs.Posting.{posting_of}
use Rattle.journal_format.specs.PostingForm.{WritesClaim, IsPricePart, IsClaimPart, IsAmountPart, is_wide}
use Rattle.journal_format.specs.PostingForm.{IsPostingText}
use Rattle.journal_format.proofs.CutUtf8Lemmas.{outside_mark}
use Rattle.journal_format.proofs.OutsideLemmas.{IsPassed, IsFree, passed_bytes, passed_joined, passed_blanks}
use Rattle.journal_format.proofs.OutsideLemmas.{passed_amount, IsSolid, solid_behind, solid_amount, BarsAmount}
use Rattle.journal_format.proofs.OutsideLemmas.{first_amount, AllowsAmount, bytes_amount}
use Rattle.journal_format.proofs.ValueLemmas.{split_mark}
use Rattle.journal_format.proofs.PostingLemmas.{AccountOk, account_parts, name_no_semicolon, front_solid, no_star}
use Rattle.journal_format.proofs.PostingLemmas.{no_shout, no_bracket}

-- ---- the marks of a cost and of an assertion

equals_free : IsFree (λ b. b == 61)
equals_free = record { quote = refl; signs = (refl, refl); blank = blank_is; symbol = symbol_is }
  where
    blank_is : (b : ℕ) → is_of_class Blank b ≡ true → (b == 61) ≡ false
    blank_is b h = grind (arith, common_steps)

    symbol_is : (b : ℕ) → is_of_class Symbol b ≡ true → (b == 61) ≡ false
    symbol_is b h = grind (arith, common_steps)

at_free : IsFree (λ b. b == 64)
at_free = record { quote = refl; signs = (refl, refl); blank = blank_is; symbol = symbol_is }
  where
    blank_is : (b : ℕ) → is_of_class Blank b ≡ true → (b == 64) ≡ false
    blank_is b h = grind (arith, common_steps)

    symbol_is : (b : ℕ) → is_of_class Symbol b ≡ true → (b == 64) ≡ false
    symbol_is b h = grind (arith, common_steps)

number_no_equals : (b : ℕ) → is_of_class Number b ≡ true → (b == 61) ≡ false
number_no_equals b h = grind (arith, common_steps)

number_no_star : (b : ℕ) → is_of_class Number b ≡ true → (b == 42) ≡ false
number_no_star b h = grind (arith, common_steps)

symbol_no_equals : (b : ℕ) → is_of_class Symbol b ≡ true → (b == 61) ≡ false
symbol_no_equals b h = grind (arith, common_steps)

symbol_no_star : (b : ℕ) → is_of_class Symbol b ≡ true → (b == 42) ≡ false
symbol_no_star b h = grind (arith, common_steps)

pub bars_blank : BarsAmount is_blank
bars_blank = record { quote = refl; signs = (refl, refl); symbol = symbol_no_blank; number = number_no_blank }

bars_equals : BarsAmount (λ b. b == 61)
bars_equals = record { quote = refl; signs = (refl, refl); symbol = symbol_no_equals; number = number_no_equals }

bars_star : BarsAmount (λ b. b == 42)
bars_star = record { quote = refl; signs = (refl, refl); symbol = symbol_no_star; number = number_no_star }

pub allows_no_comment : AllowsAmount (λ b. not (b == 59))
allows_no_comment = record {
  quoted = quoted_is;
  quote = refl;
  signs = (refl, refl);
  blank = blank_no_semicolon;
  symbol = symbol_is;
  number = number_is;
}
  where
    quoted_is : (b : ℕ) → is_quoted_byte b ≡ true → not (b == 59) ≡ true
    quoted_is b h = grind (arith, common_steps)

    symbol_is : (b : ℕ) → is_of_class Symbol b ≡ true → not (b == 59) ≡ true
    symbol_is b h = grind (arith, common_steps)

    number_is : (b : ℕ) → is_of_class Number b ≡ true → not (b == 59) ≡ true
    number_is b h = grind (arith, common_steps)

-- ---- a line in the form of a posting reads as it

-- the parts of a value: where it begins and ends, what is passed over in it, and that no `;` stands in it
price_passed : (styles : List Style) (text : List ℕ) (p : Price) → WritesPrice styles text p
    → IsPassed (λ b. b == 61) text
price_passed styles text p w = subst (IsPassed (λ b. b == 61)) (sym w.marked.whole)
    (passed_joined (λ b. b == 61) (price_mark (is_total p)) (w.marked.blanks ++ w.amount) (sign (is_total p))
    (passed_joined (λ b. b == 61) w.marked.blanks w.amount
    (passed_blanks (λ b. b == 61) equals_free w.marked.blanks w.marked.between)
    (passed_amount (λ b. b == 61) equals_free number_no_equals w.style.mark w.amount w.parts w.form)))
  where
    sign : (total : Bool) → IsPassed (λ b. b == 61) (price_mark total)
    sign true = passed_bytes (λ b. b == 61) (64 ∷ 64 ∷ []) refl refl
    sign false = passed_bytes (λ b. b == 61) (64 ∷ []) refl refl

price_solid : (styles : List Style) (text : List ℕ) (p : Price) → WritesPrice styles text p → IsSolid text
price_solid styles text p w = subst IsSolid (sym w.marked.whole)
    (solid_behind (price_mark (is_total p)) _
    (solid_behind w.marked.blanks w.amount (solid_amount w.style.mark w.amount w.parts w.form)))

price_free : (styles : List Style) (text : List ℕ) (p : Price) → WritesPrice styles text p
    → list_all (λ b. not (b == 59)) text ≡ true
price_free styles text p w = subst (λ (xs : List ℕ). list_all (λ b. not (b == 59)) xs ≡ true) (sym w.marked.whole)
    (all_joined (λ b. not (b == 59)) (price_mark (is_total p)) _ (sign (is_total p))
    (all_joined (λ b. not (b == 59)) w.marked.blanks w.amount
    (all_weaker is_blank (λ b. not (b == 59)) w.marked.blanks blank_no_semicolon w.marked.between)
    (bytes_amount (λ b. not (b == 59)) allows_no_comment w.style.mark w.amount w.parts w.form)))
  where
    sign : (total : Bool) → list_all (λ b. not (b == 59)) (price_mark total) ≡ true
    sign true = refl
    sign false = refl

price_place : (styles : List Style) (text : List ℕ) (p : Price) → WritesPrice styles text p
    → outside (λ b. b == 64) false text ≡ 0
unfolding outside
price_place styles text p w = at (is_total p) (w.marked.blanks ++ w.amount) w.marked.whole
  where
    at : (total : Bool) (rest : List ℕ) → text ≡ price_mark total ++ rest → outside (λ b. b == 64) false text ≡ 0
    at true rest e = rw e refl
    at false rest e = rw e refl

claim_place : (styles : List Style) (text : List ℕ) (k : Claim) → WritesClaim styles text k
    → outside (λ b. b == 61) false text ≡ 0
unfolding outside
claim_place styles text k w = at k.kind w.asserted w.written
  where
    at : (kind : ClaimKind) (rest : List ℕ) → text ≡ claim_sign kind ++ rest → outside (λ b. b == 61) false text ≡ 0
    at Exact rest e = rw e refl
    at Sole rest e = rw e refl
    at ExactIn rest e = rw e refl
    at SoleIn rest e = rw e refl

claim_solid : (styles : List Style) (text : List ℕ) (k : Claim) → WritesClaim styles text k → IsSolid text
claim_solid styles text k w =
    let a = w.amount.holds in
    subst IsSolid (sym w.written) (solid_behind (claim_sign k.kind) w.asserted
    (subst IsSolid (sym w.amount.written)
    (solid_behind w.amount.gap w.amount.rest (solid_amount a.style.mark w.amount.rest a.parts a.amount))))

claim_free : (styles : List Style) (text : List ℕ) (k : Claim) → WritesClaim styles text k
    → list_all (λ b. not (b == 59)) text ≡ true
claim_free styles text k w =
    let a = w.amount.holds in
    subst (λ (xs : List ℕ). list_all (λ b. not (b == 59)) xs ≡ true) (sym w.written)
    (all_joined (λ b. not (b == 59)) (claim_sign k.kind) w.asserted (sign k.kind)
    (subst (λ (xs : List ℕ). list_all (λ b. not (b == 59)) xs ≡ true) (sym w.amount.written)
    (all_joined (λ b. not (b == 59)) w.amount.gap w.amount.rest
    (all_weaker is_blank (λ b. not (b == 59)) w.amount.gap blank_no_semicolon w.amount.blanks)
    (bytes_amount (λ b. not (b == 59)) allows_no_comment a.style.mark w.amount.rest a.parts a.amount))))
  where
    sign : (kind : ClaimKind) → list_all (λ b. not (b == 59)) (claim_sign kind) ≡ true
    sign Exact = refl
    sign Sole = refl
    sign ExactIn = refl
    sign SoleIn = refl

-- a text is cut where what is after it begins
cut_behind : (mark : ℕ) → IsFree (λ b. b == mark) → (front gap rest : List ℕ) → IsPassed (λ b. b == mark) front
    → IsSolid front → list_all is_blank gap ≡ true → outside (λ b. b == mark) false rest ≡ 0
    → (before_mark mark (front ++ (gap ++ rest)) ≡ front) × (from_mark mark (front ++ (gap ++ rest)) ≡ rest)
cut_behind mark free front gap rest passed solid blanks place =
    split_mark mark front gap rest (omega
    (arith, passed (gap ++ rest), passed_blanks (λ b. b == mark) free gap blanks rest, place)) blanks solid.last

nothing_outside : (p : ℕ → Bool) → outside p false [] ≡ 0
unfolding outside
nothing_outside p = refl

cut_nothing : (mark : ℕ) → IsFree (λ b. b == mark) → (front : List ℕ) → IsPassed (λ b. b == mark) front → IsSolid front
    → (before_mark mark front ≡ front) × (from_mark mark front ≡ [])
cut_nothing mark free front passed solid =
    let cut = cut_behind mark free front [] [] passed solid refl (nothing_outside (λ b. b == mark)) in
    (ap (before_mark mark) (sym (append-nil front)) ∙ cut.0, ap (from_mark mark) (sym (append-nil front)) ∙ cut.1)

-- the texts of a cost and of an assertion, from their marks on
abbrev price_rest : (styles : List Style) (text : List ℕ) (p : Option Price) → IsPricePart styles text p → List ℕ
price_rest styles text None w = []
price_rest styles text (Some p) w = w.rest

abbrev claim_rest : (styles : List Style) (text : List ℕ) (k : Option Claim) → IsClaimPart styles text k → List ℕ
claim_rest styles text None w = []
claim_rest styles text (Some k) w = w.rest

-- a cost after what is passed over
price_cut : (styles : List Style) (front text : List ℕ) (p : Option Price) → (w : IsPricePart styles text p)
    → IsPassed (λ b. b == 64) front → IsPassed (λ b. b == 61) front → IsSolid front
    → (before_mark 64 (front ++ text) ≡ front) × (from_mark 64 (front ++ text) ≡ price_rest styles text p w)
    × IsPassed (λ b. b == 61) (front ++ text) × IsSolid (front ++ text)
price_cut styles front text None w at equals solid =
    let same : front ++ text ≡ front = ap (λ (xs : List ℕ). front ++ xs) w ∙ append-nil front in
    let cut = cut_nothing 64 at_free front at solid in (
      ap (before_mark 64) same ∙ cut.0,
      ap (from_mark 64) same ∙ cut.1,
      subst (IsPassed (λ b. b == 61)) (sym same) equals,
      subst IsSolid (sym same) solid,
    )
price_cut styles front text (Some p) w at equals solid =
    let same : front ++ text ≡ front ++ (w.gap ++ w.rest) = ap (λ (xs : List ℕ). front ++ xs) w.written in
    let cut = cut_behind 64 at_free front w.gap w.rest at solid w.blanks (price_place styles w.rest p w.holds) in (
      ap (before_mark 64) same ∙ cut.0,
      ap (from_mark 64) same ∙ cut.1,
      subst (IsPassed (λ b. b == 61)) (sym same)
          (passed_joined (λ b. b == 61) front (w.gap ++ w.rest) equals
          (passed_joined (λ b. b == 61) w.gap w.rest (passed_blanks (λ b. b == 61) equals_free w.gap w.blanks)
          (price_passed styles w.rest p w.holds))),
      subst IsSolid (sym same) (solid_behind front (w.gap ++ w.rest)
          (solid_behind w.gap w.rest (price_solid styles w.rest p w.holds))),
    )

-- an assertion after what is passed over
claim_cut : (styles : List Style) (front text : List ℕ) (k : Option Claim) → (w : IsClaimPart styles text k)
    → IsPassed (λ b. b == 61) front → IsSolid front
    → (before_mark 61 (front ++ text) ≡ front) × (from_mark 61 (front ++ text) ≡ claim_rest styles text k w)
    × IsSolid (front ++ text)
claim_cut styles front text None w passed solid =
    let same : front ++ text ≡ front = ap (λ (xs : List ℕ). front ++ xs) w ∙ append-nil front in
    let cut = cut_nothing 61 equals_free front passed solid in
    (ap (before_mark 61) same ∙ cut.0, ap (from_mark 61) same ∙ cut.1, subst IsSolid (sym same) solid)
claim_cut styles front text (Some k) w passed solid =
    let same : front ++ text ≡ front ++ (w.gap ++ w.rest) = ap (λ (xs : List ℕ). front ++ xs) w.written in
    let cut =
    cut_behind 61 equals_free front w.gap w.rest passed solid w.blanks (claim_place styles w.rest k w.holds) in (
      ap (before_mark 61) same ∙ cut.0,
      ap (from_mark 61) same ∙ cut.1,
      subst IsSolid (sym same)
          (solid_behind front (w.gap ++ w.rest) (solid_behind w.gap w.rest (claim_solid styles w.rest k w.holds))),
    )

-- an assertion's sign is the longest
sign_back : (kind : ClaimKind) (rest : List ℕ) → (slice_index rest 0 == 61) ≡ false → (slice_index rest 0 == 42) ≡ false
    → kind_at (claim_sign kind ++ rest) ≡ kind
unfolding kind_at
sign_back Exact rest h k = rw (h, k) refl
sign_back Sole rest h k = rw k refl
sign_back ExactIn rest h k = refl
sign_back SoleIn rest h k = refl

-- blanks and an amount begin with neither
begins_free : (q : ℕ → Bool) → BarsAmount q → ((b : ℕ) → is_blank b ≡ true → q b ≡ false)
    → (styles : List Style) (gap rest : List ℕ) (place : ℕ) (units : ℤ) → list_all is_blank gap ≡ true
    → WritesAmount styles rest place units
    → q (slice_index (gap ++ rest) 0) ≡ false
begins_free q bars blank styles [] rest place units g w = first_amount q bars w.style.mark rest w.parts w.amount
begins_free q bars blank styles (b ∷ gap) rest place units g w = blank b (and_parts (is_blank b) _ g).0

blank_no_equals : (b : ℕ) → is_blank b ≡ true → (b == 61) ≡ false
blank_no_equals b h = grind (arith, common_steps)

blank_no_star : (b : ℕ) → is_blank b ≡ true → (b == 42) ≡ false
blank_no_star b h = grind (arith, common_steps)

sign_some : (kind : ClaimKind) (rest : List ℕ) → (length (claim_sign kind ++ rest) == 0) ≡ false
sign_some Exact rest = ne_eqb _ 0 (λ e. omega (arith, e))
sign_some Sole rest = ne_eqb _ 0 (λ e. omega (arith, e))
sign_some ExactIn rest = ne_eqb _ 0 (λ e. omega (arith, e))
sign_some SoleIn rest = ne_eqb _ 0 (λ e. omega (arith, e))

-- an assertion is read
claim_read : (styles : List Style) (text : List ℕ) (k : Option Claim) → (w : IsClaimPart styles text k)
    → (a : Commodity × ℤ) (p : Option Price)
    → claimed styles (claim_rest styles text k w) a p ≡ Ok (record { amount = Some a; price = p; claim = k })
claim_read styles text None w a p = refl
claim_read styles text (Some k) w a p =
    let c = w.holds in
    let asserted = c.amount in
    let n = asserted.holds in
    let behind = asserted.gap ++ asserted.rest in
    let whole : w.rest ≡ claim_sign k.kind ++ behind =
    c.written ∙ ap (λ (xs : List ℕ). claim_sign k.kind ++ xs) asserted.written in
    let kind_is : kind_at (claim_sign k.kind ++ behind) ≡ k.kind =
    sign_back k.kind behind (begins_free (λ b. b == 61) bars_equals blank_no_equals styles asserted.gap asserted.rest
    k.unit.0 k.qty asserted.blanks n)
    (begins_free (λ b. b == 42) bars_star blank_no_star styles asserted.gap asserted.rest k.unit.0 k.qty
    asserted.blanks n) in
    let rest_is : trim_start (drop (length (claim_sign k.kind)) (claim_sign k.kind ++ behind)) ≡ asserted.rest =
    ap trim_start (drop_at (claim_sign k.kind) behind (length (claim_sign k.kind)) refl)
    ∙ (trim_start_behind asserted.gap asserted.rest asserted.blanks ∙ trim_start_same asserted.rest
    (first_amount is_blank bars_blank n.style.mark asserted.rest n.parts n.amount)) in
    let reads = (reads_iff styles asserted.rest (amount styles asserted.rest) refl k.unit.0 k.qty).1 n in
    rw (whole, sign_some k.kind behind, kind_is, rest_is, reads) refl

-- a cost and an assertion are read
price_read : (styles : List Style) (text : List ℕ) (p : Option Price) → (w : IsPricePart styles text p)
    → (cut : PostingCut) → cut.price ≡ price_rest styles text p w → (a : Commodity × ℤ) (r : Result Value Cause)
    → claimed styles cut.claim a p ≡ r
    → cond (length cut.price == 0) (claimed styles cut.claim a None) (with_price styles cut a (price styles cut.price))
    ≡ r
price_read styles text None w cut e a r h = rw e h
price_read styles text (Some p) w cut e a r h =
    let solid = price_solid styles w.rest p w.holds in
    let reads = (price_reads_iff styles w.rest (price styles w.rest) refl p).1 w.holds in
    rw (e, ne_eqb (length w.rest) 0 (λ z. omega (arith, z, solid.some)), reads) h

pub value_read : (styles : List Style) (text : List ℕ) (a : Option (Commodity × ℤ)) (p : Option Price)
    (k : Option Claim) (status : Option Status) (name : List ℕ) (comment : Option (List ℕ))
    → IsAmountPart styles text a p k
    → value_of_cut styles (cut_part status name text comment) ≡ Ok (record { amount = a; price = p; claim = k })
unfolding value_of_cut outside trim_end
value_read styles text None p k status name comment w = rw (w.0, w.1, w.2) refl
value_read styles text (Some a) p k status name comment w =
    let x = w.amount in
    let at = passed_amount (λ b. b == 64) at_free number_no_at x.style.mark w.amount_part x.parts x.amount in
    let equals =
    passed_amount (λ b. b == 61) equals_free number_no_equals x.style.mark w.amount_part x.parts x.amount in
    let inner = price_cut styles w.amount_part w.price_part p w.priced at equals
    (solid_amount x.style.mark w.amount_part x.parts x.amount) in
    let outer = claim_cut styles (w.amount_part ++ w.price_part) w.claim_part k w.claimed inner.2 inner.3 in
    let whole : text ≡ (w.amount_part ++ w.price_part) ++ w.claim_part =
    w.written ∙ sym (append_assoc w.amount_part w.price_part w.claim_part) in
    let cut = cut_part status name text comment in
    let is_amount : cut.amount ≡ w.amount_part =
    ap (λ (xs : List ℕ). before_mark 64 (before_mark 61 xs)) whole ∙ (ap (before_mark 64) outer.0 ∙ inner.0) in
    let is_price : cut.price ≡ price_rest styles w.price_part p w.priced =
    ap (λ (xs : List ℕ). from_mark 64 (before_mark 61 xs)) whole ∙ (ap (from_mark 64) outer.0 ∙ inner.1) in
    let is_claim : cut.claim ≡ claim_rest styles w.claim_part k w.claimed = ap (from_mark 61) whole ∙ outer.1 in
    let some = (solid_amount x.style.mark w.amount_part x.parts x.amount).some in
    let reads = (reads_iff styles w.amount_part (amount styles w.amount_part) refl a.0.0 a.1).1 x in
    read cut w.amount_part is_amount some reads
    (price_read styles w.price_part p w.priced cut is_price a _
    (ap (λ (xs : List ℕ). claimed styles xs a p) is_claim ∙ claim_read styles w.claim_part k w.claimed a p))
  where
    read : (cut : PostingCut) (xs : List ℕ) → cut.amount ≡ xs → 0 < length xs → amount styles xs ≡ Ok a
        → cond (length cut.price == 0) (claimed styles cut.claim a None)
        (with_price styles cut a (price styles cut.price)) ≡ Ok (record { amount = Some a; price = p; claim = k })
        → value_of_cut styles cut ≡ Ok (record { amount = Some a; price = p; claim = k })
    read cut xs e some reads rest = rw (e, ne_eqb (length xs) 0 (λ z. omega (arith, z, some)), reads) rest

-- the bytes of an amount part
price_part_free : (styles : List Style) (text : List ℕ) (p : Option Price) → IsPricePart styles text p
    → list_all (λ b. not (b == 59)) text ≡ true
price_part_free styles text None w = rw w refl
price_part_free styles text (Some p) w =
    rw w.written (all_joined (λ b. not (b == 59)) w.gap w.rest
    (all_weaker is_blank (λ b. not (b == 59)) w.gap blank_no_semicolon w.blanks) (price_free styles w.rest p w.holds))

claim_part_free : (styles : List Style) (text : List ℕ) (k : Option Claim) → IsClaimPart styles text k
    → list_all (λ b. not (b == 59)) text ≡ true
claim_part_free styles text None w = rw w refl
claim_part_free styles text (Some k) w =
    rw w.written (all_joined (λ b. not (b == 59)) w.gap w.rest
    (all_weaker is_blank (λ b. not (b == 59)) w.gap blank_no_semicolon w.blanks) (claim_free styles w.rest k w.holds))

part_free : (styles : List Style) (text : List ℕ) (a : Option (Commodity × ℤ)) (p : Option Price) (k : Option Claim)
    → IsAmountPart styles text a p k → list_all (λ b. not (b == 59)) text ≡ true
part_free styles text None p k w = rw w.0 refl
part_free styles text (Some a) p k w =
    let x = w.amount in
    rw w.written (all_joined (λ b. not (b == 59)) w.amount_part _
    (bytes_amount (λ b. not (b == 59)) allows_no_comment x.style.mark w.amount_part x.parts x.amount)
    (all_joined (λ b. not (b == 59)) w.price_part w.claim_part (price_part_free styles w.price_part p w.priced)
    (claim_part_free styles w.claim_part k w.claimed)))

-- and its ends
price_part_solid : (styles : List Style) (front text : List ℕ) (p : Option Price) → IsPricePart styles text p
    → IsSolid front → IsSolid (front ++ text)
price_part_solid styles front text None w solid =
    subst IsSolid (sym (ap (λ (xs : List ℕ). front ++ xs) w ∙ append-nil front)) solid
price_part_solid styles front text (Some p) w solid =
    subst IsSolid (sym (ap (λ (xs : List ℕ). front ++ xs) w.written))
    (solid_behind front _ (solid_behind w.gap w.rest (price_solid styles w.rest p w.holds)))

claim_part_solid : (styles : List Style) (front text : List ℕ) (k : Option Claim) → IsClaimPart styles text k
    → IsSolid front → IsSolid (front ++ text)
claim_part_solid styles front text None w solid =
    subst IsSolid (sym (ap (λ (xs : List ℕ). front ++ xs) w ∙ append-nil front)) solid
claim_part_solid styles front text (Some k) w solid =
    subst IsSolid (sym (ap (λ (xs : List ℕ). front ++ xs) w.written))
    (solid_behind front _ (solid_behind w.gap w.rest (claim_solid styles w.rest k w.holds)))

part_trimmed : (styles : List Style) (text : List ℕ) (a : Option (Commodity × ℤ)) (p : Option Price) (k : Option Claim)
    → IsAmountPart styles text a p k → is_trimmed text ≡ true
part_trimmed styles text None p k w = rw w.0 refl
part_trimmed styles text (Some a) p k w =
    let x = w.amount in
    let solid = solid_amount x.style.mark w.amount_part x.parts x.amount in
    let whole : text ≡ (w.amount_part ++ w.price_part) ++ w.claim_part =
    w.written ∙ sym (append_assoc w.amount_part w.price_part w.claim_part) in
    let last : IsSolid text = subst IsSolid (sym whole)
    (claim_part_solid styles (w.amount_part ++ w.price_part) w.claim_part k w.claimed
    (price_part_solid styles w.amount_part w.price_part p w.priced solid)) in
    let first : is_blank (slice_index text 0) ≡ false =
    ap (λ (xs : List ℕ). is_blank (slice_index xs 0)) w.written ∙
    (ap is_blank (get_or_append_left w.amount_part (w.price_part ++ w.claim_part) 0 0 solid.some) ∙ first_amount
    is_blank bars_blank x.style.mark w.amount_part x.parts x.amount) in
    rw (first, last.last) refl

-- two blanks, or a tab and a blank
wide_first : (b c : ℕ) → is_blank b ≡ true → is_blank c ≡ true → ((b == 9) || ((b == 32) && is_blank c)) ≡ true
wide_first b c h k = rw k (at b h)
  where
    at : (b : ℕ) → is_blank b ≡ true → ((b == 9) || ((b == 32) && true)) ≡ true
    at b h = grind (arith, common_steps)

-- a name ends where blanks and an amount part follow that stands apart
blanks_end_name : (xs : List ℕ) → list_all is_blank xs ≡ true → EndsName xs
blanks_end_name [] h = tt
blanks_end_name (b ∷ []) h = last b (and_parts (is_blank b) _ h).0
  where
    last : (b : ℕ) → is_blank b ≡ true → ((b == 9) || (b == 32)) ≡ true
    last b k = grind (arith, common_steps)
blanks_end_name (b ∷ c ∷ xs) h =
    let one = and_parts (is_blank b) _ h in
    let two = and_parts (is_blank c) _ one.1 in
    wide_first b c one.0 two.0

gap_ends_name : (gap rest : List ℕ) → list_all is_blank gap ≡ true → is_wide gap ≡ true → EndsName (gap ++ rest)
gap_ends_name [] rest h w = absurd cc
gap_ends_name (b ∷ []) rest h w = at rest (one b w)
  where
    one : (b : ℕ) → ((b == 9) || false) ≡ true → (b == 9) ≡ true
    one b k = grind (arith, common_steps)

    at : (rest : List ℕ) → (b == 9) ≡ true → EndsName (b ∷ rest)
    at [] e = rw e refl
    at (c ∷ rest) e = rw e refl
gap_ends_name (b ∷ c ∷ gap) rest h w =
    let one = and_parts (is_blank b) _ h in
    let two = and_parts (is_blank c) _ one.1 in
    wide_first b c one.0 two.0

ends_account : (gap part end : List ℕ) → list_all is_blank gap ≡ true → list_all is_blank end ≡ true
    → (part ≡ []) ⊎ (is_wide gap ≡ true) → EndsName (gap ++ (part ++ end))
ends_account gap part end g e (inl none) = rw none (blanks_end_name (gap ++ end) (all_joined is_blank gap end g e))
ends_account gap part end g e (inr wide) = gap_ends_name gap (part ++ end) g wide

-- where an account stands in front
account_first : (name rest : List ℕ) → AccountOk name
    → (trim_start (name ++ rest) ≡ name ++ rest) × ((slice_index (name ++ rest) 0 == 42) ≡ false)
    × ((slice_index (name ++ rest) 0 == 33) ≡ false)
account_first name rest h =
    let first = get_or_append_left name rest 0 0 h.some in (
      front_solid name rest h,
      ap (λ (b : ℕ). b == 42) first ∙ no_star (slice_index name 0) h.begins,
      ap (λ (b : ℕ). b == 33) first ∙ no_shout (slice_index name 0) h.begins,
    )

-- how a line in the form of a posting is cut
cut_is : (styles : List Style) (line : List ℕ) (p : Posting) → (w : IsPostingText styles line p)
    → cut_posting line ≡ cut_part p.status p.account w.part w.comment
unfolding cut_posting
cut_is styles line p w =
    let gaps = in_row w.indent (w.status_gap ++ (w.gap ++ w.end_gap)) w.blanks in
    let later = in_row w.status_gap (w.gap ++ w.end_gap) gaps.1 in
    let last = in_row w.gap w.end_gap later.1 in
    let good = account_parts p.account w.account in
    let behind = w.gap ++ (w.part ++ w.end_gap) in
    let text = p.account ++ behind in
    let rest = status_text p.status ++ (w.status_gap ++ text) in
    let front = w.indent ++ rest in
    let free : (xs : List ℕ) → list_all is_blank xs ≡ true
    → list_all (λ b. not (b == 59)) xs ≡ true = λ xs h.
    all_weaker is_blank (λ b. not (b == 59)) xs blank_no_semicolon h in
    let no : list_all (λ b. not (b == 59)) front ≡ true =
    all_joined (λ b. not (b == 59)) w.indent rest (free w.indent gaps.0)
    (all_joined (λ b. not (b == 59)) (status_text p.status) (w.status_gap ++ text) (status_no_semicolon p.status)
    (all_joined (λ b. not (b == 59)) w.status_gap text (free w.status_gap later.0)
    (all_joined (λ b. not (b == 59)) p.account behind
    (all_weaker is_account_name_byte (λ b. not (b == 59)) p.account name_no_semicolon good.bytes)
    (all_joined (λ b. not (b == 59)) w.gap (w.part ++ w.end_gap) (free w.gap last.0)
    (all_joined (λ b. not (b == 59)) w.part w.end_gap (part_free styles w.part p.amount p.price p.claim w.value)
    (free w.end_gap last.1)))))) in
    let whole : line ≡ front ++ w.remark =
    w.written ∙ regroup w.indent (status_text p.status) w.status_gap p.account w.gap w.part w.end_gap w.remark in
    let remark = remark_reads front w.remark w.comment no w.commented in
    let front_is : front_of line ≡ front = ap front_of whole ∙ remark.0 in
    let comment_is : comment_of line ≡ w.comment = ap comment_of whole ∙ remark.1 in
    let start = account_first p.account behind good in
    let status = status_reads p.status w.status_gap text later.0
    (λ none. (
      ap (λ (xs : List ℕ). slice_index xs 0 == 42) start.0 ∙ start.1,
      ap (λ (xs : List ℕ). slice_index xs 0 == 33) start.0 ∙ start.2,
    )) in
    let ends = name_whole p.account behind (account_unbroken p.account w.account)
    (ends_account w.gap w.part w.end_gap last.0 last.1 w.apart) in
    let part : trim behind ≡ w.part =
    trim_inside w.gap w.part w.end_gap last.0 last.1 (part_trimmed styles w.part p.amount p.price p.claim w.value)
    in
    rw (
      front_is,
      comment_is,
      trim_start_behind w.indent rest gaps.0,
      status.0,
      status.1,
      start.0,
      ends,
      take-append_seam p.account behind,
      drop_at p.account behind (length p.account) refl,
      part,
    ) refl
  where
    regroup : (a b c d e f g h : List ℕ)
        → a ++ (b ++ (c ++ (d ++ (e ++ (f ++ (g ++ h)))))) ≡ (a ++ (b ++ (c ++ (d ++ (e ++ (f ++ g)))))) ++ h
    regroup a b c d e f g h = simp append_assoc

-- a line in the form of a posting reads as it
pub form_reads : (styles : List Style) (line : List ℕ) (p : Posting) → IsPostingText styles line p
    → posting_of styles line ≡ Ok p
unfolding judged_posting
form_reads styles line p w =
    let good = account_parts p.account w.account in
    let value = value_read styles w.part p.amount p.price p.claim p.status p.account w.comment w.value in
    rw (
      cut_is styles line p w,
      le-ltb 900 (length_of w.comment) w.short,
      no_bracket (slice_index p.account 0) good.begins,
      w.account,
      value,
    )
    (ap (λ (cs : List (List ℕ)). Ok (record p { comments = cs })) (sym w.comments))

-- ---- a line that reads as a posting has its form

-- what is cut at a mark, and what stands before it
mark_split : (mark : ℕ) (text : List ℕ)
    → text ≡ before_mark mark text
    ++ (end_blanks (take (outside (λ b. b == mark) false text) text) ++ from_mark mark text)
mark_split mark text =
    let n = outside (λ b. b == mark) false text in
    let front = take n text in
    sym (take-append-drop n text) ∙
    (ap (λ (xs : List ℕ). xs ++ drop n text) (split_end front) ∙ append_assoc (trim_end front) (end_blanks front)
    (drop n text))

mark_trimmed : (mark : ℕ) (text : List ℕ) → is_trimmed text ≡ true → is_trimmed (before_mark mark text) ≡ true
mark_trimmed mark text h =
    let first = and_parts (not (is_blank (slice_index text 0))) _ h in
    trim_end_trimmed (take (outside (λ b. b == mark) false text) text)
    (not-true _ (first_kept (λ b. not (is_blank b)) (outside (λ b. b == mark) false text) text first.0 refl))

mark_nothing : (mark : ℕ) (text : List ℕ) → is_trimmed text ≡ true → from_mark mark text ≡ []
    → text ≡ before_mark mark text
mark_nothing mark text h none =
    let n = outside (λ b. b == mark) false text in
    let last = and_parts (not (is_blank (slice_index text 0))) _ h in
    let whole : take n text ≡ text =
    sym (append-nil (take n text)) ∙ (ap (λ (xs : List ℕ). take n text ++ xs) (sym none) ∙ take-append-drop n text)
    in
    sym (ap trim_end whole ∙ trim_end_same text (not-true _ last.1))

length_above_zero : (xs : List ℕ) → (length xs == 0) ≡ false → 0 < length xs
length_above_zero [] h = absurd cc
length_above_zero (x ∷ xs) h = omega arith

-- blanks without blanks at their ends are nothing
blanks_trimmed : (xs : List ℕ) → list_all is_blank xs ≡ true → is_trimmed xs ≡ true → xs ≡ []
blanks_trimmed [] h k = refl
blanks_trimmed (x ∷ xs) h k =
    let one = and_parts (is_blank x) _ h in
    let two = and_parts (not (is_blank x)) _ k in
    let solid = not-true _ two.0 in
    absurd cc

-- an assertion that is read, after its blanks
sign_at : (text : List ℕ) → slice_index text 0 ≡ 61
    → text ≡ claim_sign (kind_at text) ++ drop (length (claim_sign (kind_at text))) text
unfolding kind_at
sign_at [] h = absurd cc
sign_at (a ∷ []) h = ap (λ (n : ℕ). n ∷ []) h
sign_at (a ∷ b ∷ text) h = elim (cases_Bool (b == 61)) [
  | inl equals ↦ third text equals
  | inr other ↦ elim (cases_Bool (b == 42)) [
    | inl star ↦ rw (other, star) (two a b 61 42 text h (eqb-true b 42 star))
    | inr neither ↦ rw (other, neither) (ap (λ (n : ℕ). n ∷ b ∷ text) h)
  ]
]
  where
    two : (a b x y : ℕ) (rest : List ℕ) → a ≡ x → b ≡ y → a ∷ b ∷ rest ≡ x ∷ y ∷ rest
    two a b x y rest e f = ap (λ (n : ℕ). n ∷ b ∷ rest) e ∙ ap (λ (n : ℕ). x ∷ n ∷ rest) f

    third : (rest : List ℕ) → (b == 61) ≡ true
        → a ∷ b ∷ rest ≡ claim_sign (cond (b == 61) (cond (slice_index rest 0 == 42) SoleIn Sole)
        (cond (b == 42) ExactIn Exact))
        ++ drop (length
        (claim_sign (cond (b == 61) (cond (slice_index rest 0 == 42) SoleIn Sole) (cond (b == 42) ExactIn Exact))))
        (a ∷ b ∷ rest)
    third [] equals = rw equals (two a b 61 61 [] h (eqb-true b 61 equals))
    third (c ∷ rest) equals = elim (cases_Bool (c == 42)) [
      | inl star ↦ rw (equals, star) (two a b 61 61 (c ∷ rest) h (eqb-true b 61 equals) ∙ ap
          (λ (n : ℕ). 61 ∷ 61 ∷ n ∷ rest) (eqb-true c 42 star))
      | inr other ↦ rw (equals, other) (two a b 61 61 (c ∷ rest) h (eqb-true b 61 equals))
    ]

-- what a value has from its assertion on
record ClaimForm (styles : List Style) (text : List ℕ) (a : Commodity × ℤ) (p : Option Price) (v : Value) : Type 0 where
  claim : Option Claim
  is : v ≡ record { amount = Some a; price = p; claim = claim }
  none : claim ≡ None → text ≡ []
  some : (k : Claim) → claim ≡ Some k → WritesClaim styles text k

claim_form : (styles : List Style) (text : List ℕ) (a : Commodity × ℤ) (p : Option Price) (v : Value)
    → (0 < length text → slice_index text 0 ≡ 61) → claimed styles text a p ≡ Ok v → ClaimForm styles text a p v
claim_form styles text a p v sign h = elim (cond_cases (length text == 0) _ _ _ h) [
  | inl nothing ↦ record {
    claim = None;
    is = sym (ok_is _ _ _ refl nothing.1);
    none = λ e. nil_from_empty text nothing.0;
    some = λ k e. absurd cc;
  }
  | inr something ↦ at (amount styles (trim_start behind)) refl something.1 (sign (length_above_zero text something.0))
]
  where
    ok_is : (r : Result Value Cause) (x y : Value) → r ≡ Ok x → r ≡ Ok y → x ≡ y
    ok_is r x y e g = cc

    behind : List ℕ
    behind = drop (length (claim_sign (kind_at text))) text

    at : (r : Result (Commodity × ℤ) Cause) → amount styles (trim_start behind) ≡ r
        → value_with_claim a p (kind_at text) r ≡ Ok v → slice_index text 0 ≡ 61 → ClaimForm styles text a p v
    at (Err c) e k first = absurd cc
    at (Ok b) e k first = record {
      claim = Some (record { kind = kind_at text; unit = b.0; qty = b.1 });
      is = sym (ok_is _ _ _ refl k);
      none = λ z. absurd cc;
      some = λ c z. subst (WritesClaim styles text) (some_is _ _ z) (record {
        asserted = behind;
        written = sign_at text first;
        amount = record {
          gap = take (first_solid behind) behind;
          rest = trim_start behind;
          written = split_start behind;
          blanks = blanks_front behind;
          holds = (reads_iff styles (trim_start behind) (amount styles (trim_start behind)) refl b.0.0 b.1).0 e;
        };
      });
    }
      where
        some_is : (x y : Claim) → Some x ≡ Some y → x ≡ y
        some_is x y z = cc

-- what stands after an amount
price_form : (styles : List Style) (text : List ℕ) (p : Option Price) → is_trimmed text ≡ true
    → (p ≡ None → from_mark 64 text ≡ []) → ((q : Price) → p ≡ Some q → WritesPrice styles (from_mark 64 text) q)
    → (part : List ℕ) × (text ≡ before_mark 64 text ++ part) × IsPricePart styles part p
price_form styles text None h none some =
    ([], mark_nothing 64 text h (none refl) ∙ sym (append-nil (before_mark 64 text)), refl)
price_form styles text (Some q) h none some =
    let front = take (outside (λ b. b == 64) false text) text in (
      end_blanks front ++ from_mark 64 text,
      mark_split 64 text,
      record {
        gap = end_blanks front;
        rest = from_mark 64 text;
        written = refl;
        blanks = blanks_end front;
        holds = some q refl;
      },
    )

claim_part : (styles : List Style) (text : List ℕ) (k : Option Claim) → is_trimmed text ≡ true
    → (k ≡ None → from_mark 61 text ≡ []) → ((c : Claim) → k ≡ Some c → WritesClaim styles (from_mark 61 text) c)
    → (part : List ℕ) × (text ≡ before_mark 61 text ++ part) × IsClaimPart styles part k
claim_part styles text None h none some =
    ([], mark_nothing 61 text h (none refl) ∙ sym (append-nil (before_mark 61 text)), refl)
claim_part styles text (Some c) h none some =
    let front = take (outside (λ b. b == 61) false text) text in (
      end_blanks front ++ from_mark 61 text,
      mark_split 61 text,
      record {
        gap = end_blanks front;
        rest = from_mark 61 text;
        written = refl;
        blanks = blanks_end front;
        holds = some c refl;
      },
    )

-- an amount with what follows it
amount_form : (styles : List Style) (text : List ℕ) (v : Value) (a : Commodity × ℤ) (p : Option Price)
    → is_trimmed text ≡ true → amount styles (before_mark 64 (before_mark 61 text)) ≡ Ok a
    → (p ≡ None → from_mark 64 (before_mark 61 text) ≡ [])
    → ((q : Price) → p ≡ Some q → WritesPrice styles (from_mark 64 (before_mark 61 text)) q)
    → ClaimForm styles (from_mark 61 text) a p v → IsAmountPart styles text v.amount v.price v.claim
amount_form styles text v a p h e none some f =
    let outer = before_mark 61 text in
    let inner = before_mark 64 outer in
    let claimed_part = claim_part styles text f.claim h f.none f.some in
    let priced_part = price_form styles outer p (mark_trimmed 61 text h) none some in
    subst (λ (u : Value). IsAmountPart styles text u.amount u.price u.claim) (sym f.is) (record {
      amount_part = inner;
      price_part = priced_part.0;
      claim_part = claimed_part.0;
      written = claimed_part.1 ∙ (ap (λ (xs : List ℕ). xs ++ claimed_part.0) priced_part.1 ∙ append_assoc inner
          priced_part.0 claimed_part.0);
      amount = (reads_iff styles inner (amount styles inner) refl a.0.0 a.1).0 e;
      priced = priced_part.2;
      claimed = claimed_part.2;
    })

-- the value of a text without blanks at its ends has the form of an amount part
pub value_form : (styles : List Style) (text : List ℕ) (v : Value) (status : Option Status) (name : List ℕ)
    (comment : Option (List ℕ)) → is_trimmed text ≡ true
    → value_of_cut styles (cut_part status name text comment) ≡ Ok v → IsAmountPart styles text v.amount v.price v.claim
unfolding value_of_cut
value_form styles text v status name comment h r = elim (cond_cases (length inner == 0) _ _ _ r) [
  | inl nothing ↦
      let one = past (nat_lt 0 (length price_text)) _ _ v nothing.1 in
      let two = past (nat_lt 0 (length claim_text)) _ _ v one.1 in
      let no_price : price_text ≡ [] = none price_text one.0 in
      let no_claim : claim_text ≡ [] = none claim_text two.0 in
      let same : record { amount = None; price = None; claim = None } ≡ v = ok_is _ _ _ refl two.1 in
      subst (λ (u : Value). IsAmountPart styles text u.amount u.price u.claim) same (
        mark_nothing 61 text h no_claim ∙
            (mark_nothing 64 outer (mark_trimmed 61 text h) no_price ∙ nil_from_empty inner nothing.0),
        refl,
        refl,
      )
  | inr something ↦ with_one (amount styles inner) refl something.1
]
  where
    outer : List ℕ
    outer = before_mark 61 text

    claim_text : List ℕ
    claim_text = from_mark 61 text

    inner : List ℕ
    inner = before_mark 64 outer

    price_text : List ℕ
    price_text = from_mark 64 outer

    ok_is : (r : Result Value Cause) (x y : Value) → r ≡ Ok x → r ≡ Ok y → x ≡ y
    ok_is r x y e g = cc

    none : (xs : List ℕ) → nat_lt 0 (length xs) ≡ false → xs ≡ []
    none [] k = refl
    none (x ∷ xs) k = absurd (omega (arith, ltb-false 0 (length (x ∷ xs)) k))

    with_cost : (a : Commodity × ℤ) → amount styles inner ≡ Ok a → (r : Result Price Cause)
        → price styles price_text ≡ r → with_price styles (cut_part status name text comment) a r ≡ Ok v
        → IsAmountPart styles text v.amount v.price v.claim
    with_cost a e (Err c) q k = absurd cc
    with_cost a e (Ok p) q k = amount_form styles text v a (Some p) h e (λ z. absurd cc)
        (λ x z. subst (WritesPrice styles price_text) (some_is p x z)
        ((price_reads_iff styles price_text (price styles price_text) refl p).0 q))
        (claim_form styles claim_text a (Some p) v (outside_mark 61 false text) k)
      where
        some_is : (x y : Price) → Some x ≡ Some y → x ≡ y
        some_is x y z = cc

    with_one : (r : Result (Commodity × ℤ) Cause) → amount styles inner ≡ r
        → with_amount styles (cut_part status name text comment) r ≡ Ok v
        → IsAmountPart styles text v.amount v.price v.claim
    with_one (Err c) e k = absurd cc
    with_one (Ok a) e k = elim (cond_cases (length price_text == 0) _ _ _ k) [
      | inl bare ↦ amount_form styles text v a None h e (λ z. nil_from_empty price_text bare.0) (λ q z. absurd cc)
          (claim_form styles claim_text a None v (outside_mark 61 false text) bare.1)
      | inr costs ↦ with_cost a e (price styles price_text) refl costs.1
    ]

-- ---- the name, and what follows it

-- what follows a name ends it
rest_ends : (text : List ℕ) → EndsName (drop (name_end text) text)
unfolding name_end
rest_ends [] = tt
rest_ends (b ∷ text) = elim (cases_Bool (ends_name b text)) [
  | inl ends ↦ rw ends ends
  | inr goes_on ↦ (let n : 1 + name_end text ≡ suc (name_end text) = omega arith in rw (goes_on, n) (rest_ends text))
]

-- it is blank, or its blanks stand apart from what follows
rest_apart : (rest : List ℕ) → EndsName rest → (trim rest ≡ []) ⊎ (is_wide (take (first_solid rest) rest) ≡ true)
rest_apart [] h = inl (trim_same [] refl)
rest_apart (b ∷ []) h =
    inl (ap trim_end (trim_start_blanks (b ∷ []) (and_from (is_blank b) _ (blank b h) refl)) ∙ trim_end_same [] refl)
  where
    blank : (b : ℕ) → ((b == 9) || (b == 32)) ≡ true → is_blank b ≡ true
    blank b k = grind (arith, common_steps)
rest_apart (b ∷ c ∷ rest) h = inr (elim (cases_Bool (b == 9)) [
  | inl tab ↦ (let n : 1 + first_solid (c ∷ rest) ≡ suc (first_solid (c ∷ rest)) =
      omega arith in rw (tab_blank b tab, n) (rw tab refl))
  | inr other ↦ both (rw other at h)
])
  where
    tab_blank : (b : ℕ) → (b == 9) ≡ true → is_blank b ≡ true
    tab_blank b k = grind (arith, common_steps)

    space_blank : (b : ℕ) → (b == 32) ≡ true → is_blank b ≡ true
    space_blank b k = grind (arith, common_steps)

    both : ((b == 32) && is_blank c) ≡ true → is_wide (take (first_solid (b ∷ c ∷ rest)) (b ∷ c ∷ rest)) ≡ true
    both k =
        let parts = and_parts (b == 32) _ k in
        let n : 1 + (1 + first_solid rest) ≡ suc (suc (first_solid rest)) = omega arith in
        rw (space_blank b parts.0, parts.1, n) (long (take (first_solid rest) rest))
      where
        long : (xs : List ℕ) → ((b == 9) || nat_le 2 (length (b ∷ c ∷ xs))) ≡ true
        long xs = rw (le-leb 2 (length (b ∷ c ∷ xs)) (omega arith)) (right (b == 9))
          where
            right : (x : Bool) → (x || true) ≡ true
            right true = refl
            right false = refl

-- a line that reads as a posting has its form
pub reads_form : (styles : List Style) (line : List ℕ) (p : Posting) → posting_of styles line ≡ Ok p
    → IsPostingText styles line p
unfolding judged_posting cut_posting
reads_form styles line p e =
    let one = past (nat_lt 900 (length_of comment)) _ _ p e in
    let two = past (is_virtual name) _ _ p one.1 in
    let three = past (not (is_account name)) _ _ p two.1 in
    valued (value_of_cut styles cut) refl (ltb-false 900 (length_of comment) one.0) (kept _ three.0) three.1
  where
    comment : Option (List ℕ)
    comment = comment_of line

    front : List ℕ
    front = front_of line

    text : List ℕ
    text = behind_status (trim_start front)

    name : List ℕ
    name = take (name_end text) text

    rest : List ℕ
    rest = drop (name_end text) text

    cut : PostingCut
    cut = cut_part (status_at (trim_start front)) name (trim rest) comment

    kept : (b : Bool) → not b ≡ false → b ≡ true
    kept true h = refl
    kept false h = absurd cc

    ok_is : (r : Result Posting Cause) (x y : Posting) → r ≡ Ok x → r ≡ Ok y → x ≡ y
    ok_is r x y e g = cc

    regroup : (a b c d f g h i : List ℕ)
        → (a ++ (b ++ (c ++ (d ++ (f ++ (g ++ h)))))) ++ i ≡ a ++ (b ++ (c ++ (d ++ (f ++ (g ++ (h ++ i))))))
    regroup a b c d f g h i = simp append_assoc

    valued : (r : Result Value Cause) → value_of_cut styles cut ≡ r → length_of comment ≤ 900 → is_account name ≡ true
        → posting_with_value cut r ≡ Ok p → IsPostingText styles line p
    valued (Err c) q short good k = absurd cc
    valued (Ok v) q short good k =
        let same : record {
          status = status_at (trim_start front);
          account = name;
          amount = v.amount;
          price = v.price;
          claim = v.claim;
          comments = option_to_list comment;
        } ≡ p = ok_is _ _ _ refl k in
        let status = status_form (trim_start front) in
        let remark = remark_form line in
        let indent = take (first_solid front) front in
        let gap = take (first_solid rest) rest in
        let part = trim rest in
        let end = end_blanks (trim_start rest) in
        let rest_is : rest ≡ gap ++ (part ++ end) =
        split_start rest ∙ ap (λ (xs : List ℕ). gap ++ xs) (split_end (trim_start rest)) in
        let text_is : text ≡ name ++ (gap ++ (part ++ end)) =
        sym (take-append-drop (name_end text) text) ∙ ap (λ (xs : List ℕ). name ++ xs) rest_is in
        let behind_is : trim_start front
        ≡ status_text (status_at (trim_start front)) ++ (status.gap ++ (name ++ (gap ++ (part ++ end)))) =
        status.written ∙ ap (λ (xs : List ℕ). status_text (status_at (trim_start front)) ++ (status.gap ++ xs)) text_is
        in
        let front_is : front ≡ indent ++ (status_text (status_at (trim_start front))
        ++ (status.gap ++ (name ++ (gap ++ (part ++ end))))) =
        split_start front ∙ ap (λ (xs : List ℕ). indent ++ xs) behind_is in
        subst (IsPostingText styles line) same (record {
          indent = indent;
          status_gap = status.gap;
          gap = gap;
          part = part;
          end_gap = end;
          remark = remark.remark;
          written = remark.written ∙ (ap (λ (xs : List ℕ). xs ++ remark.remark) front_is
              ∙ regroup indent (status_text (status_at (trim_start front))) status.gap name gap part end remark.remark);
          blanks = all_joined is_blank indent _ (blanks_front front)
              (all_joined is_blank status.gap _ status.blanks
              (all_joined is_blank gap end (blanks_front rest) (blanks_end (trim_start rest))));
          account = good;
          apart = rest_apart rest (rest_ends text);
          value = value_form styles part v (status_at (trim_start front)) name comment (trim_trimmed rest) q;
          comment = comment;
          commented = remark.is;
          comments = refl;
          short = short;
        })

-- both ways
pub posting_iff : (styles : List Style) (line : List ℕ) (p : Posting)
    → IsPostingText styles line p ↔ (posting_of styles line ≡ Ok p)
posting_iff styles line p = (form_reads styles line p, reads_form styles line p)

-- a line writes one posting at most
pub one_posting : (styles : List Style) (line : List ℕ) (p q : Posting) → IsPostingText styles line p
    → IsPostingText styles line q → p ≡ q
one_posting styles line p q h k =
    same (posting_of styles line) (form_reads styles line p h) (form_reads styles line q k)
  where
    same : (r : Result Posting Cause) → r ≡ Ok p → r ≡ Ok q → p ≡ q
    same r e f = cc
