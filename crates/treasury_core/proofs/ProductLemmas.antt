-- the transactions of transfers can be printed, and do what their two postings say
use Rattle.std.proofs.Common.{◌≡◌, ◌≤◌, ◌<◌, ◌+◌, ◌-◌, ◌&&◌, ◌||◌, ◌==◌, nat_eq, ℕ, zero, suc, Bool, true, false, List}
use Rattle.std.proofs.Common.{[], ◌∷◌, ◌++◌, length, ℤ, pos, ◌+ℤ◌, ◌-ℤ◌, refl, ap, ◌∙◌, sym, subst, arith, None}
use Rattle.std.proofs.Common.{length-append, append_assoc, append-nil}
use Rattle.std.specs.Prelude.{codes, not, nat_lt, nat_le, slice_index, unsigned_abs, if◌then◌else◌}
use Rattle.std.specs.List.{list_all, slice_split, All, AllByRecursion}
use Rattle.std.specs.Char.{is_ascii_lowercase}
use Rattle.std.specs.Str.{is_utf8}
use Rattle.std.proofs.lemmas.Bool.{and_from, and_parts, ltb-true, leb-true, or_left}
use Rattle.std.proofs.lemmas.Bool.Decides.{nat_tests}
use Rattle.std.proofs.lemmas.Grind.{common_steps}
use Rattle.std.proofs.lemmas.Int.{ints}
use Rattle.std.proofs.lemmas.List.{get_or-append-add}
use Rattle.std.proofs.lemmas.List.Folds.{list_all-append}
use Rattle.std.proofs.lemmas.List.Splits.{slice_split_at, slice_split_none}
use Rattle.money_core.specs.declared.style.Style.{Style}
use Rattle.money_core.specs.declared.day.Day.{Day}
use Rattle.money_core.specs.declared.unit.Unit.{Unit as Commodity}
use Rattle.money_core.specs.Style.{AreStyles}
use Rattle.money_core.specs.Amount.{limit}
use Rattle.money_core.proofs.Utf8Lemmas.{utf8_joined, utf8_low, is_low}
use Rattle.book_core.specs.GoodBook.{IsFit}
use Rattle.journal_lines.specs.Blank.{is_blank, is_trimmed}
use Rattle.journal_lines.specs.Date.{IsDayNumber}
use Rattle.journal_lines.specs.Comment.{has_no}
use Rattle.journal_lines.specs.Printed.{is_clean, is_description}
use Rattle.journal_lines.specs.AccountName.{is_account, is_part, has_gap, is_gap}
use Rattle.journal_lines.specs.AccountName.{is_account_name_byte as is_account_byte}
use Rattle.journal_format.specs.declared.posting.Posting.{Posting}
use Rattle.journal_format.specs.CanonicalText.{body_text}
use Rattle.journal_format.specs.Mark.{is_mark, is_mark_byte}
use Rattle.journal_format.specs.Printable.{is_amount, is_posting}
use Rattle.journal_format.proofs.PostingLemmas.{part_length}
use Rattle.journal_format.proofs.SizeLemmas.{body_size, head_is, header_small, postings-append, posting_size, line_is}
use Rattle.journal_format.proofs.SizeLemmas.{posting_small, no_remarks}
use Rattle.journal_format.specs.BodySize.{postings_size, remarks_size}
use Rattle.journal_balance.specs.Legs.{leg}
use Rattle.journal_balance.proofs.WrittenLemmas.{legs_of-written}
use Rattle.journal_balance.proofs.NameLemmas.{no_gap}
use Rattle.treasury_state.specs.declared.transfer.Part.{Part}
use Rattle.treasury_state.specs.declared.transfer.Transfer.{Transfer}
use Rattle.treasury_state.specs.Federation.{is_branch_name_byte, is_branch_name}
use Rattle.treasury_state.specs.Transfer.{is_id, is_id_byte, is_all, is_key, posting, product_record, transit_account}
use Rattle.treasury_state.specs.Transfer.{out_mark, mark_tail, in_mark, text_tail, in_text, dispatch_record}
use Rattle.treasury_state.specs.Transfer.{receipt_record}
use Rattle.treasury_state.specs.Good.{IsGoodRecord}
use Rattle.treasury_state.proofs.AmountLemmas.{amount_of}

-- ---- bytes

-- a byte that may stand in marks, descriptions and accounts, and is no colon
pub record IsPlain (b : ℕ) : Type 0 where
  pub mark : is_mark_byte b ≡ true
  pub clean : is_clean b ≡ true
  pub no_semicolon : not (b == 59) ≡ true
  pub low : is_low b ≡ true
  pub account : is_account_byte b ≡ true
  pub no_colon : (b == 58) ≡ false
  pub solid : is_blank b ≡ false
  pub no_space : (b == 32) ≡ false

record IsBetween (b : ℕ) : Type 0 where
  low : 45 ≤ b
  high : b ≤ 122
  no_colon : (b == 58) ≡ false
  no_semicolon : (b == 59) ≡ false

plain_from : (b : ℕ) → IsBetween b → is_mark_byte b ≡ true → IsPlain b
plain_from b h mark = record {
  mark = mark;
  clean = let l = h.low in let u = h.high in grind (arith, common_steps);
  no_semicolon = ap not h.no_semicolon;
  low = let u = h.high in grind (arith, common_steps);
  account = let l = h.low in let u = h.high in let s = h.no_semicolon in grind (arith, common_steps);
  no_colon = h.no_colon;
  solid = let l = h.low in grind (arith, common_steps);
  no_space = let l = h.low in grind (arith, common_steps);
}

id_between : (b : ℕ) → is_id_byte b ≡ true → IsBetween b
id_between b h = record {
  low = grind (arith, common_steps);
  high = grind (arith, common_steps);
  no_colon = grind (arith, common_steps);
  no_semicolon = grind (arith, common_steps);
}

name_between : (b : ℕ) → is_branch_name_byte b ≡ true → IsBetween b
name_between b h = record {
  low = grind (arith, common_steps);
  high = grind (arith, common_steps);
  no_colon = grind (arith, common_steps);
  no_semicolon = grind (arith, common_steps);
}

name_is_id : (b : ℕ) → is_branch_name_byte b ≡ true → is_id_byte b ≡ true
name_is_id b h = grind (arith, common_steps)

plain_id : (b : ℕ) → is_id_byte b ≡ true → IsPlain b
plain_id b h = plain_from b (id_between b h) (or_left (is_id_byte b) (b == 58) h)

plain_name : (b : ℕ) → is_branch_name_byte b ≡ true → IsPlain b
plain_name b h = plain_from b (name_between b h) (or_left (is_id_byte b) (b == 58) (name_is_id b h))

pub all_plain : (p : ℕ → Bool) → ((b : ℕ) → p b ≡ true → IsPlain b) → (xs : List ℕ) → list_all p xs ≡ true
    → AllByRecursion IsPlain xs
all_plain p f [] h = tt
all_plain p f (x ∷ xs) h = let both = and_parts (p x) (list_all p xs) h in (f x both.0, all_plain p f xs both.1)

-- a test that plain bytes pass
passes_all : (p : ℕ → Bool) → ((b : ℕ) → IsPlain b → p b ≡ true) → (xs : List ℕ) → AllByRecursion IsPlain xs
    → list_all p xs ≡ true
passes_all p f [] h = refl
passes_all p f (x ∷ xs) h = and_from (p x) (list_all p xs) (f x h.0) (passes_all p f xs h.1)

-- ---- names and IDs

-- an ID, or a name of a branch
pub record IsWord (xs : List ℕ) : Type 0 where
  pub plain : AllByRecursion IsPlain xs
  pub some : 0 < length xs
  pub few : length xs ≤ 64

pub id_word : (id : List ℕ) → is_id id ≡ true → IsWord id
id_word id h =
    let one = and_parts (nat_lt 0 (length id) && nat_le (length id) 64) (list_all is_id_byte id) h in
    let two = and_parts (nat_lt 0 (length id)) (nat_le (length id) 64) one.0 in
    record {
      plain = all_plain is_id_byte plain_id id one.1;
      some = ltb-true 0 (length id) two.0;
      few = leb-true (length id) 64 two.1;
    }

some_from : (name : List ℕ) → is_ascii_lowercase (slice_index name 0) ≡ true → 0 < length name
some_from [] h = absurd cc
some_from (x ∷ xs) h = omega arith

pub name_word : (name : List ℕ) → is_branch_name name ≡ true → (IsWord name) × (length name ≤ 32)
name_word name h =
    let one =
    and_parts (is_ascii_lowercase (slice_index name 0) && list_all is_branch_name_byte name) (nat_le (length name) 32)
    h in
    let two = and_parts (is_ascii_lowercase (slice_index name 0)) (list_all is_branch_name_byte name) one.0 in
    let few = leb-true (length name) 32 one.1 in (
      record {
        plain = all_plain is_branch_name_byte plain_name name two.1;
        some = some_from name two.0;
        few = omega (arith, few);
      },
      few,
    )

pub key_word : (key : List ℕ) → is_key key ≡ true → (IsWord key) × (length key ≤ 32)
key_word key h =
    let one =
    and_parts (nat_lt 0 (length key) && nat_le (length key) 32 && list_all is_id_byte key) (not (is_all key)) h in
    let two = and_parts (nat_lt 0 (length key) && nat_le (length key) 32) (list_all is_id_byte key) one.0 in
    let three = and_parts (nat_lt 0 (length key)) (nat_le (length key) 32) two.0 in
    let few = leb-true (length key) 32 three.1 in (
      record {
        plain = all_plain is_id_byte plain_id key two.1;
        some = ltb-true 0 (length key) three.0;
        few = omega (arith, few);
      },
      few,
    )

-- ---- marks

mark_of_id : (front id : List ℕ) → list_all is_mark_byte front ≡ true → length front ≤ 30 → IsWord id
    → is_mark (front ++ id) ≡ true
mark_of_id front id h l w =
    let size = length-append front id in
    let high : 0 < length (front ++ id) = omega (arith, size, w.some) in
    let some : nat_lt 0 (length (front ++ id)) ≡ true = grind (arith, nat_tests) in
    let low : length (front ++ id) < 101 = omega (arith, size, l, w.few) in
    let few : nat_lt (length (front ++ id)) 101 ≡ true = grind (arith, nat_tests) in
    and_from (nat_lt 0 (length (front ++ id)) && nat_lt (length (front ++ id)) 101)
    (list_all is_mark_byte (front ++ id)) (and_from _ _ some few)
    (list_all-append is_mark_byte front id ∙ and_from (list_all is_mark_byte front) (list_all is_mark_byte id) h
    (passes_all is_mark_byte (λ b p. p.mark) id w.plain))

-- `in:ID:KEY` has at most 100 bytes
mark_of_part : (id key : List ℕ) → IsWord id → IsWord key → length key ≤ 32
    → is_mark (codes "in:" ++ (id ++ (58 ∷ key))) ≡ true
mark_of_part id key v w few =
    let text = codes "in:" ++ (id ++ (58 ∷ key)) in
    let size = length-append id (58 ∷ key) in
    let high : 0 < length text = omega arith in
    let some : nat_lt 0 (length text) ≡ true = grind (arith, nat_tests) in
    let low : length text < 101 = omega (arith, size, v.few, few) in
    let short : nat_lt (length text) 101 ≡ true = grind (arith, nat_tests) in
    and_from (nat_lt 0 (length text) && nat_lt (length text) 101) (list_all is_mark_byte text) (and_from _ _ some short)
    (list_all-append is_mark_byte (codes "in:") (id ++ (58 ∷ key)) ∙ and_from _ _ refl
    (list_all-append is_mark_byte id (58 ∷ key) ∙ and_from _ _ (passes_all is_mark_byte (λ b p. p.mark) id v.plain)
    (and_from _ _ refl (passes_all is_mark_byte (λ b p. p.mark) key w.plain))))

in_mark_fits : (id key : List ℕ) (b : Bool) → is_all key ≡ b → (b ≡ false → is_key key ≡ true) → IsWord id
    → is_mark (codes "in:" ++ (id ++ mark_tail b key)) ≡ true
in_mark_fits id key true e h w =
    ap (λ (xs : List ℕ). is_mark (codes "in:" ++ xs)) (append-nil id) ∙ mark_of_id (codes "in:") id refl (omega arith) w
in_mark_fits id key false e h w = let k = key_word key (h refl) in mark_of_part id key w k.0 k.1

-- ---- descriptions

-- the last byte of a word
last_solid : (xs ys : List ℕ) → IsWord ys → is_blank (slice_index (xs ++ ys) (length (xs ++ ys) - 1)) ≡ false
last_solid xs ys w =
    let size = length-append xs ys in
    let at : length (xs ++ ys) - 1 ≡ length xs + (length ys - 1) = omega (arith, size, w.some) in
    ap (λ (n : ℕ). is_blank (slice_index (xs ++ ys) n)) at ∙
    (ap is_blank (get_or-append-add xs ys (length ys - 1) 0) ∙ solid_at ys (length ys - 1) w.plain
    (omega (arith, w.some)))
  where
    solid_at : (zs : List ℕ) (i : ℕ) → AllByRecursion IsPlain zs → i < length zs → is_blank (slice_index zs i) ≡ false
    solid_at [] i h l = absurd (omega (arith, l))
    solid_at (z ∷ zs) zero h l = h.0.solid
    solid_at (z ∷ zs) (suc i) h l = solid_at zs i h.1 (omega (arith, l))

all_both : (p : ℕ → Bool) → ((b : ℕ) → IsPlain b → p b ≡ true) → (first middle : List ℕ) (id name : List ℕ)
    → list_all p first ≡ true → list_all p middle ≡ true → IsWord id → IsWord name
    → list_all p (first ++ (id ++ (middle ++ name))) ≡ true
all_both p f first middle id name h k v w =
    list_all-append p first (id ++ (middle ++ name)) ∙ and_from _ _ h
    (list_all-append p id (middle ++ name) ∙ and_from _ _ (passes_all p f id v.plain)
    (list_all-append p middle name ∙ and_from _ _ k (passes_all p f name w.plain)))

-- what is asked of a description
pub record IsDescribed (text : List ℕ) : Type 0 where
  pub fits : is_description None None text ≡ true
  pub utf8 : is_utf8 text ≡ true
  pub few : length text ≤ 500

-- `transfer ID to NAME`, `transfer ID from NAME`
description_of_transfer : (middle id name : List ℕ) → list_all is_clean middle ≡ true → has_no 59 middle ≡ true
    → list_all is_low middle ≡ true → length middle ≤ 60 → IsWord id → IsWord name
    → IsDescribed (codes "transfer " ++ (id ++ (middle ++ name)))
description_of_transfer middle id name clean free low l v w =
    let first = codes "transfer " in
    let text = first ++ (id ++ (middle ++ name)) in
    let whole : text ≡ (first ++ (id ++ middle)) ++ name =
    sym (append_assoc first (id ++ middle) name ∙ ap (λ (xs : List ℕ). first ++ xs) (append_assoc id middle name))
    in
    let size : length text ≤ 200 = omega (
      arith,
      length-append first (id ++ (middle ++ name)),
      length-append id (middle ++ name),
      length-append middle name,
      l,
      v.few,
      w.few,
    ) in
    let last : is_blank (slice_index text (length text - 1)) ≡ false =
    ap (λ (xs : List ℕ). is_blank (slice_index xs (length xs - 1))) whole ∙ last_solid (first ++ (id ++ middle))
    name w in
    let trimmed : is_trimmed text ≡ true = ap not last in
    let few : nat_le (length text) 500 ≡ true = grind (arith, nat_tests) in
    record {
      fits = and_from _ _ (and_from _ _
          (and_from _ _
          (and_from _ _ trimmed
          (all_both (λ b. not (b == 59)) (λ b p. p.no_semicolon) first middle id name refl free v w))
          (all_both is_clean (λ b p. p.clean) first middle id name refl clean v w)) few) refl;
      utf8 = utf8_low text (all_both is_low (λ b p. p.low) first middle id name refl low v w);
      few = omega (arith, size);
    }

-- what stands between the ID and the key
middle_all : (p : ℕ → Bool) → ((b : ℕ) → IsPlain b → p b ≡ true) → (name : List ℕ) → list_all p (codes " from ") ≡ true
    → list_all p (codes " part ") ≡ true → IsWord name → list_all p (codes " from " ++ (name ++ codes " part ")) ≡ true
middle_all p f name h k w =
    list_all-append p (codes " from ") (name ++ codes " part ") ∙ and_from _ _ h
    (list_all-append p name (codes " part ") ∙ and_from _ _ (passes_all p f name w.plain) k)

-- `transfer ID from NAME part KEY`
part_described : (id name key : List ℕ) → IsWord id → IsWord name → length name ≤ 32 → IsWord key
    → IsDescribed (codes "transfer " ++ (id ++ (codes " from " ++ (name ++ (codes " part " ++ key)))))
part_described id name key v w few k =
    let middle = codes " from " ++ (name ++ codes " part ") in
    let size = length-append name (codes " part ") in
    let whole : middle ++ key ≡ codes " from " ++ (name ++ (codes " part " ++ key)) =
    ap (λ (xs : List ℕ). codes " from " ++ xs) (append_assoc name (codes " part ") key) in
    subst (λ (xs : List ℕ). IsDescribed (codes "transfer " ++ (id ++ xs))) whole
    (description_of_transfer middle id key (middle_all is_clean (λ b p. p.clean) name refl refl w)
    (middle_all (λ b. not (b == 59)) (λ b p. p.no_semicolon) name refl refl w)
    (middle_all is_low (λ b p. p.low) name refl refl w) (omega (arith, size, few)) v k)

in_described : (id name key : List ℕ) (b : Bool) → (b ≡ false → is_key key ≡ true) → IsWord id → IsWord name
    → length name ≤ 32 → IsDescribed (codes "transfer " ++ (id ++ (codes " from " ++ (name ++ text_tail b key))))
in_described id name key true h v w few =
    subst (λ (xs : List ℕ). IsDescribed (codes "transfer " ++ (id ++ (codes " from " ++ xs)))) (sym (append-nil name))
    (description_of_transfer (codes " from ") id name refl refl refl (omega arith) v w)
in_described id name key false h v w few = part_described id name key v w few (key_word key (h refl)).0

-- ---- the transit account

-- a word is one part
no_colons : (xs : List ℕ) → AllByRecursion IsPlain xs → All (λ (b : ℕ). (b == 58) ≡ false) xs
no_colons [] h i d l = absurd (omega (arith, l))
no_colons (x ∷ xs) h zero d l = h.0.no_colon
no_colons (x ∷ xs) h (suc i) d l = no_colons xs h.1 i d (omega (arith, l))

part_some : (xs : List ℕ) → 0 < length xs → is_part xs ≡ true
part_some xs h = grind (arith, nat_tests)

two_parts : (from to : List ℕ) → IsWord from → IsWord to
    → list_all is_part (slice_split (λ b. b == 58) (from ++ (58 ∷ to))) ≡ true
two_parts from to v w =
    ap (list_all is_part) (slice_split_at (λ b. b == 58) from 58 to (no_colons from v.plain) refl ∙ ap
    (λ (ps : List (List ℕ)). from ∷ ps) (slice_split_none (λ b. b == 58) to (no_colons to w.plain)))
    ∙ and_from _ _ (part_some from v.some) (and_from _ _ (part_some to w.some) refl)

no_gap_word : (xs ys : List ℕ) → AllByRecursion IsPlain xs → has_gap ys ≡ false → has_gap (xs ++ ys) ≡ false
no_gap_word [] ys h k = k
no_gap_word (x ∷ xs) ys h k = rw (no_gap x (xs ++ ys) h.0.no_space, no_gap_word xs ys h.1 k) refl

append_nil_gap : (xs : List ℕ) → AllByRecursion IsPlain xs → has_gap xs ≡ false
append_nil_gap [] h = refl
append_nil_gap (x ∷ xs) h = rw (no_gap x xs h.0.no_space, append_nil_gap xs h.1) refl

no_gap_pair : (from to : List ℕ) → IsWord from → IsWord to → has_gap (from ++ (58 ∷ to)) ≡ false
no_gap_pair from to v w = no_gap_word from (58 ∷ to) v.plain (rw (no_gap 58 to refl, append_nil_gap to w.plain) refl)

pub transit_is_account : (from to : List ℕ) → IsWord from → IsWord to → length from ≤ 32 → length to ≤ 32
    → is_account (transit_account from to) ≡ true
unfolding is_account
transit_is_account from to v w l m =
    let rest = from ++ (58 ∷ to) in
    let size : length (transit_account from to) ≤ 200 =
    omega (arith, length-append (codes "assets:transit:") rest, length-append from (58 ∷ to), l, m) in
    let short : nat_le (length (transit_account from to)) 200 ≡ true = grind (arith, nat_tests) in
    let bytes : list_all is_account_byte rest ≡ true =
    list_all-append is_account_byte from (58 ∷ to) ∙ and_from _ _
    (passes_all is_account_byte (λ b p. p.account) from v.plain)
    (and_from _ _ refl (passes_all is_account_byte (λ b p. p.account) to w.plain)) in
    let gaps : (is_gap 58 rest || has_gap rest) ≡ false = rw (no_gap 58 rest refl) (no_gap_pair from to v w) in
    and_from _ _ (and_from _ _ (and_from _ _ (and_from _ _ short (two_parts from to v w)) bytes) (ap not gaps)) refl

pub transit_is_utf8 : (from to : List ℕ) → IsWord from → IsWord to → is_utf8 (transit_account from to) ≡ true
transit_is_utf8 from to v w =
    utf8_joined (codes "assets:transit:") (from ++ (58 ∷ to)) (utf8_low (codes "assets:transit:") refl)
    (utf8_joined from (58 ∷ to) (utf8_low from (passes_all is_low (λ b p. p.low) from v.plain))
    (utf8_low (58 ∷ to) (and_from _ _ refl (passes_all is_low (λ b p. p.low) to w.plain))))

-- ---- a transaction of two postings

-- the amount of a posting of the product is written
is_posting_of : (styles : List Style) (account : List ℕ) (unit : Commodity) (q : ℤ) → is_account account ≡ true
    → is_utf8 account ≡ true → is_amount styles unit q ≡ true → is_posting styles (posting (leg account unit q)) ≡ true
is_posting_of styles account unit q h k a = rw (h, k, a) refl

pub same_size : (q : ℤ) → unsigned_abs (pos 0 -ℤ q) ≡ unsigned_abs q
same_size q = omega (arith, ints)

amount_back : (styles : List Style) (unit : Commodity) (q : ℤ) → is_amount styles unit q ≡ true
    → is_amount styles unit (pos 0 -ℤ q) ≡ true
amount_back styles unit q h = ap (λ (n : ℕ). nat_lt unit.0 (length styles) && nat_le n limit) (same_size q) ∙ h

balanced_at : (t : Bool) (q : ℤ) → ((if t then q else pos 0) +ℤ ((if t then pos 0 -ℤ q else pos 0) +ℤ pos 0)) ≡ pos 0
balanced_at true q = omega (arith, ints)
balanced_at false q = refl

pub line_small : (styles : List Style) → AreStyles styles → (p : Posting) → is_posting styles p ≡ true → p.comments ≡ []
    → postings_size styles (p ∷ []) ≤ 500
line_small styles are p h none =
    let small = posting_small styles p h in
    let amount = part_length styles are p.amount p.price p.claim small.2 in
    omega (arith, posting_size styles p, line_is styles p, ap remarks_size none, no_remarks, small.0, small.1, amount)

-- an entry of two such legs is fit
pub pair_fit : (day : Day) (a b : List ℕ) (unit : Commodity) (q : ℤ)
    → IsFit (record { day = day; legs = leg a unit q ∷ leg b unit (pos 0 -ℤ q) ∷ []; claims = [] })
pair_fit day a b unit q = record { balanced = λ u. balanced_at (nat_eq unit.0 u.0) q; on_legs = tt; apart = tt }

-- what such a transaction has to be
pub record IsPair (styles : List Style) (mark : List ℕ) (day : Day) (description : List ℕ) (a b : List ℕ)
    (unit : Commodity) (q : ℤ) : Type 0 where
  pub mark_fits : is_mark mark ≡ true
  pub day_fits : IsDayNumber day
  pub described : IsDescribed description
  pub first : is_account a ≡ true
  pub first_utf8 : is_utf8 a ≡ true
  pub second : is_account b ≡ true
  pub second_utf8 : is_utf8 b ≡ true
  pub amount : is_amount styles unit q ≡ true

pub pair_good : (styles : List Style) (mark : List ℕ) (day : Day) (description : List ℕ) (a b : List ℕ)
    (unit : Commodity) (q : ℤ) → AreStyles styles → IsPair styles mark day description a b unit q
    → IsGoodRecord styles (product_record mark day description (leg a unit q) (leg b unit (pos 0 -ℤ q)))
pair_good styles mark day description a b unit q are h =
    let x = leg a unit q in
    let y = leg b unit (pos 0 -ℤ q) in
    let r = product_record mark day description x y in
    let back = amount_back styles unit q h.amount in
    let p = is_posting_of styles a unit q h.first h.first_utf8 h.amount in
    let s = is_posting_of styles b unit (pos 0 -ℤ q) h.second h.second_utf8 back in
    let size : length (body_text styles r.txn) ≤ 1000000 = omega (
      arith,
      body_size styles r.txn,
      head_is r.txn,
      header_small day None None description,
      h.described.few,
      no_remarks,
      postings-append styles (posting x ∷ []) (posting y ∷ []),
      line_small styles are (posting x) p refl,
      line_small styles are (posting y) s refl,
    ) in
    let quantity = leb-true (unsigned_abs q) limit (and_parts (nat_lt unit.0 (length styles)) _ h.amount).1 in
    let quantity_back =
    leb-true (unsigned_abs (pos 0 -ℤ q)) limit (and_parts (nat_lt unit.0 (length styles)) _ back).1 in
    record {
      marked = refl;
      printable = record {
        header = record { number = h.day_fits; code_ok = refl; description_ok = h.described.fits };
        code = refl;
        description = h.described.utf8;
        mark = h.mark_fits;
        comments = refl;
        postings = and_from _ _ p (and_from _ _ s refl);
        few = omega arith;
        small = size;
      };
      legs = legs_of-written styles r.txn
          (record {
            written = refl;
            balanced = λ u. balanced_at (nat_eq unit.0 u.0) q;
            small = (quantity, (quantity_back, tt));
          });
    }

-- ---- transfers

-- a transfer whose dispatch can be written
pub record IsWritable (styles : List Style) (t : Transfer) : Type 0 where
  pub id : is_id t.id ≡ true
  pub source : is_branch_name t.source ≡ true
  pub target : is_branch_name t.target ≡ true
  pub day : IsDayNumber t.day
  pub amount : is_amount styles t.unit t.qty ≡ true
  pub payer : is_account t.payer ≡ true
  pub utf8 : is_utf8 t.payer ≡ true

pub dispatch_good : (styles : List Style) (t : Transfer) → AreStyles styles → IsWritable styles t
    → IsGoodRecord styles (dispatch_record t)
dispatch_good styles t are h =
    let id = id_word t.id h.id in
    let source = name_word t.source h.source in
    let target = name_word t.target h.target in
    pair_good styles (out_mark t) t.day (codes "transfer " ++ (t.id ++ (codes " to " ++ t.target)))
    (transit_account t.source t.target) t.payer t.unit t.qty are (record {
      mark_fits = mark_of_id (codes "out:") t.id refl (omega arith) id;
      day_fits = h.day;
      described = description_of_transfer (codes " to ") t.id t.target refl refl refl (omega arith) id target.0;
      first = transit_is_account t.source t.target source.0 target.0 source.1 target.1;
      first_utf8 = transit_is_utf8 t.source t.target source.0 target.0;
      second = h.payer;
      second_utf8 = h.utf8;
      amount = h.amount;
    })

-- the same amount, or less
amount_less : (styles : List Style) (unit : Commodity) (q z : ℤ) → is_amount styles unit z ≡ true
    → unsigned_abs q ≤ limit → is_amount styles unit q ≡ true
amount_less styles unit q z h small =
    and_from (nat_lt unit.0 (length styles)) (nat_le (unsigned_abs q) limit)
    (and_parts (nat_lt unit.0 (length styles)) _ h).0 (grind (arith, nat_tests))

pub receipt_good : (styles : List Style) (t : Transfer) (p : Part) → AreStyles styles → is_id t.id ≡ true
    → is_branch_name t.source ≡ true → is_branch_name t.target ≡ true → IsGoodRecord styles (dispatch_record t)
    → (is_all p.key ≡ false → is_key p.key ≡ true) → unsigned_abs p.qty ≤ limit → IsDayNumber p.day
    → is_account p.payee ≡ true → is_utf8 p.payee ≡ true → IsGoodRecord styles (receipt_record t p)
receipt_good styles t p are id_fits source_fits target_fits sent key small day payee utf8 =
    let id = id_word t.id id_fits in
    let source = name_word t.source source_fits in
    let target = name_word t.target target_fits in
    let dispatched = and_parts (is_posting styles (posting (leg (transit_account t.source t.target) t.unit t.qty))) _
    sent.printable.postings in
    pair_good styles (in_mark t.id p.key) p.day (in_text t p.key) p.payee (transit_account t.source t.target) t.unit
    p.qty are (record {
      mark_fits = in_mark_fits t.id p.key (is_all p.key) refl key id;
      day_fits = day;
      described = in_described t.id t.source p.key (is_all p.key) key id source.0 source.1;
      first = payee;
      first_utf8 = utf8;
      second = transit_is_account t.source t.target source.0 target.0 source.1 target.1;
      second_utf8 = transit_is_utf8 t.source t.target source.0 target.0;
      amount = amount_less styles t.unit p.qty t.qty
          (amount_of styles (transit_account t.source t.target) t.unit t.qty dispatched.0) small;
    })
