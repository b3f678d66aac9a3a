-- A byte that is looked for outside quotes is not found in an amount, nor in a cost: these are passed over whole.
use Rattle.std.proofs.Common.{◌≡◌, ◌<◌, ◌+◌, ◌-◌, ◌++◌, ◌==◌, ℕ, List, [], ◌∷◌, Bool, true, false, not, ◌&&◌, length}
use Rattle.std.proofs.Common.{slice_index, arith, refl, ap, ◌∙◌, append-nil, append_assoc, sym, subst, inl, inr, ◌⊎◌}
use Rattle.std.proofs.Common.{length-append}
use Rattle.std.proofs.lemmas.Grind.{common_steps}
use Rattle.std.proofs.lemmas.Bool.{and_parts, and_from, not-true, not_from_false}
use Rattle.std.proofs.lemmas.List.Sums.{AllPass-from_list_all}
use Rattle.std.specs.List.{list_all}
use Rattle.money_core.specs.declared.mark.Mark.{Mark}
use Rattle.money_core.specs.declared.class.Class.TheVariants.{Blank, Symbol, Number}
use Rattle.money_core.specs.declared.amount.Sign.{Sign}
use Rattle.money_core.specs.declared.amount.Sign.TheVariants.{Absent, Plus, Minus}
use Rattle.money_core.specs.Blank.{IsBlanks}
use Rattle.money_core.specs.Class.{is_of_class}
use Rattle.money_core.specs.Symbol.{is_quoted_byte, in_quotes, WritesSymbol}
use Rattle.money_core.specs.Amount.{Parts, WritesSign, IsAmount}
use Rattle.money_core.proofs.AmountPrint.{last_of}
use Rattle.money_core.proofs.ClassLemmas.{all_weaker, all_joined, first_passes, symbol_no_blank, symbol_no_quote}
use Rattle.money_core.proofs.ClassLemmas.{number_no_blank, number_no_quote}
use Rattle.money_core.proofs.GrammarLemmas.{number_text, first_number, NumberText}
use Rattle.money_core.proofs.SymbolText.{symbol_facts, bare_facts, short_some}
use Rattle.journal_lines.specs.Blank.{is_blank}
use Rattle.journal_format.specs.PostingParts.{outside}

-- the text is passed over whole
abbrev pub IsPassed : (ℕ → Bool) → List ℕ → Type 0
IsPassed p xs = (ys : List ℕ) → outside p false (xs ++ ys) ≡ length xs + outside p false ys

-- no byte of an amount but those of its number is looked for
pub record IsFree (p : ℕ → Bool) : Type 0 where
  pub quote : p 34 ≡ false
  pub signs : (p 43 ≡ false) × (p 45 ≡ false)
  pub blank : (b : ℕ) → is_of_class Blank b ≡ true → p b ≡ false
  pub symbol : (b : ℕ) → is_of_class Symbol b ≡ true → p b ≡ false

pub passed_bytes : (p : ℕ → Bool) (xs : List ℕ) → list_all (λ b. not (p b)) xs ≡ true
    → list_all (λ b. not (b == 34)) xs ≡ true → IsPassed p xs
unfolding outside
passed_bytes p [] h k = λ ys. omega arith
passed_bytes p (b ∷ xs) h k = λ ys.
    let x = and_parts (not (p b)) _ h in
    let y = and_parts (not (b == 34)) _ k in
    rw (not-true _ x.0, not-true _ y.0, passed_bytes p xs x.1 y.1 ys) (omega arith)

inside_quotes : (p : ℕ → Bool) (xs ys : List ℕ) → list_all (λ b. not (b == 34)) xs ≡ true
    → outside p true (xs ++ 34 ∷ ys) ≡ length xs + (1 + outside p false ys)
unfolding outside
inside_quotes p [] ys h = rw (neither (p 34)) (omega arith)
  where
    neither : (x : Bool) → (x && false) ≡ false
    neither true = refl
    neither false = refl
inside_quotes p (b ∷ xs) ys h =
    let x = and_parts (not (b == 34)) _ h in
    rw (neither (p b), not-true _ x.0, inside_quotes p xs ys x.1) (omega arith)
  where
    neither : (x : Bool) → (x && false) ≡ false
    neither true = refl
    neither false = refl

pub passed_joined : (p : ℕ → Bool) (xs ys : List ℕ) → IsPassed p xs → IsPassed p ys → IsPassed p (xs ++ ys)
passed_joined p xs ys h k = λ zs.
    let whole : outside p false ((xs ++ ys) ++ zs) ≡ outside p false (xs ++ (ys ++ zs)) =
    ap (outside p false) (append_assoc xs ys zs) in
    omega (arith, whole, h (ys ++ zs), k zs, length-append xs ys)

pub passed_blanks : (p : ℕ → Bool) → IsFree p → (xs : List ℕ) → IsBlanks xs → IsPassed p xs
passed_blanks p f xs h = passed_bytes p xs
    (all_weaker (is_of_class Blank) (λ b. not (p b)) xs (λ b k. not_from_false _ (f.blank b k)) h)
    (all_weaker (is_of_class Blank) (λ b. not (b == 34)) xs blank_no_quote h)
  where
    blank_no_quote : (b : ℕ) → is_of_class Blank b ≡ true → not (b == 34) ≡ true
    blank_no_quote b h = grind (arith, common_steps)

passed_sign : (p : ℕ → Bool) → IsFree p → (sign : Sign) (xs : List ℕ) → WritesSign sign xs → IsPassed p xs
passed_sign p f Absent xs h = subst (IsPassed p) (sym h) (passed_bytes p [] refl refl)
passed_sign p f Plus xs h = subst (IsPassed p) (sym h.1.1)
    (passed_joined p (43 ∷ []) h.0 (passed_bytes p (43 ∷ []) (rw f.signs.0 refl) refl) (passed_blanks p f h.0 h.1.0))
passed_sign p f Minus xs h = subst (IsPassed p) (sym h.1.1)
    (passed_joined p (45 ∷ []) h.0 (passed_bytes p (45 ∷ []) (rw f.signs.1 refl) refl) (passed_blanks p f h.0 h.1.0))

pub passed_symbol : (p : ℕ → Bool) → IsFree p → (symbol written : List ℕ) → WritesSymbol symbol written
    → IsPassed p written
unfolding outside
passed_symbol p f symbol written (inl h) =
    let bytes = (bare_facts symbol h.0).bytes in
    subst (IsPassed p) (sym h.1) (passed_bytes p symbol
    (all_weaker (is_of_class Symbol) (λ b. not (p b)) symbol (λ b k. not_from_false _ (f.symbol b k)) bytes)
    (all_weaker (is_of_class Symbol) (λ b. not (b == 34)) symbol (λ b k. not_from_false _ (symbol_no_quote b k)) bytes))
passed_symbol p f symbol written (inr h) =
    subst (IsPassed p) (sym h.1)
    (quoted symbol (all_weaker is_quoted_byte (λ b. not (b == 34)) symbol no_quote (symbol_facts symbol h.0).bytes))
  where
    no_quote : (b : ℕ) → is_quoted_byte b ≡ true → not (b == 34) ≡ true
    no_quote b h = grind (arith, common_steps)

    quoted : (xs : List ℕ) → list_all (λ b. not (b == 34)) xs ≡ true → IsPassed p (in_quotes xs)
    quoted xs k = λ ys.
        let seam : (xs ++ 34 ∷ []) ++ ys ≡ xs ++ 34 ∷ ys = append_assoc xs (34 ∷ []) ys in
        rw (f.quote, seam, inside_quotes p xs ys k, length-append xs (34 ∷ [])) (omega arith)

pub passed_number : (p : ℕ → Bool) (xs : List ℕ) → ((b : ℕ) → is_of_class Number b ≡ true → p b ≡ false)
    → list_all (is_of_class Number) xs ≡ true → IsPassed p xs
passed_number p xs f h =
    passed_bytes p xs (all_weaker (is_of_class Number) (λ b. not (p b)) xs (λ b k. not_from_false _ (f b k)) h)
    (all_weaker (is_of_class Number) (λ b. not (b == 34)) xs (λ b k. not_from_false _ (number_no_quote b k)) h)

-- what stands around the number of an amount
pub record NumberIn (p : ℕ → Bool) (text number : List ℕ) : Type 0 where
  pub before : List ℕ
  pub after : List ℕ
  pub whole : text ≡ before ++ (number ++ after)
  pub passed_before : IsPassed p before
  pub passed_after : IsPassed p after

pub number_in : (p : ℕ → Bool) → IsFree p → (mark : Mark) (text : List ℕ) (parts : Parts) → IsAmount mark text parts
    → NumberIn p text parts.number
number_in p f mark text parts a = elim a.form [
  | inl left ↦
      let symbol = passed_symbol p f parts.symbol left.symbol left.symbolic in
      let blanks = passed_blanks p f left.blanks left.between in
      let signs = (signed left.outer left.inner left.signed) in
      record {
        before = left.outer ++ (left.symbol ++ (left.blanks ++ left.inner));
        after = [];
        whole = left.whole ∙ regroup left.outer left.symbol left.blanks left.inner parts.number;
        passed_before = passed_joined p left.outer _ signs.0
            (passed_joined p left.symbol _ symbol (passed_joined p left.blanks left.inner blanks signs.1));
        passed_after = passed_bytes p [] refl refl;
      }
  | inr right ↦ record {
    before = right.outer;
    after = right.blanks ++ right.symbol;
    whole = right.whole;
    passed_before = passed_sign p f parts.sign right.outer right.signed;
    passed_after = passed_joined p right.blanks right.symbol (passed_blanks p f right.blanks right.between)
        (passed_symbol p f parts.symbol right.symbol right.symbolic);
  }
]
  where
    none : (xs : List ℕ) → xs ≡ [] → IsPassed p xs
    none xs e = subst (IsPassed p) (sym e) (passed_bytes p [] refl refl)

    signed : (outer inner : List ℕ)
        → (WritesSign parts.sign outer × (inner ≡ [])) ⊎ ((outer ≡ []) × WritesSign parts.sign inner)
        → IsPassed p outer × IsPassed p inner
    signed outer inner (inl h) = (passed_sign p f parts.sign outer h.0, none inner h.1)
    signed outer inner (inr h) = (none outer h.0, passed_sign p f parts.sign inner h.1)

    regroup : (a b c d e : List ℕ) → a ++ (b ++ (c ++ (d ++ e))) ≡ (a ++ (b ++ (c ++ d))) ++ (e ++ [])
    regroup a b c d e = simp (append_assoc, append-nil)

-- an amount is passed over whole where no byte of numbers is looked for
pub passed_amount : (p : ℕ → Bool) → IsFree p → ((b : ℕ) → is_of_class Number b ≡ true → p b ≡ false)
    → (mark : Mark) (text : List ℕ) (parts : Parts) → IsAmount mark text parts → IsPassed p text
passed_amount p f n mark text parts a =
    let at = number_in p f mark text parts a in
    subst (IsPassed p) (sym at.whole)
    (passed_joined p at.before _ at.passed_before
    (passed_joined p parts.number at.after
    (passed_number p parts.number n (number_text mark parts.number a.number).bytes) at.passed_after))

-- an amount is something, and ends with no blank
pub record IsSolid (text : List ℕ) : Type 0 where
  pub some : 0 < length text
  pub last : is_blank (slice_index text (length text - 1)) ≡ false

pub solid_behind : (xs ys : List ℕ) → IsSolid ys → IsSolid (xs ++ ys)
solid_behind xs ys h =
    record { some = omega (arith, h.some, length-append xs ys); last = ap is_blank (last_of xs ys h.some) ∙ h.last }

solid_number : (number : List ℕ) → NumberText number → IsSolid number
solid_number number h = record {
  some = h.some;
  last = number_no_blank (slice_index number (length number - 1))
      (AllPass-from_list_all (is_of_class Number) number h.bytes (length number - 1) 0 (omega (arith, h.some)));
}

pub solid_symbol : (symbol written : List ℕ) → WritesSymbol symbol written → IsSolid written
solid_symbol symbol written (inl h) =
    let some = short_some symbol (bare_facts symbol h.0).short in
    subst IsSolid (sym h.1) (record {
      some = some;
      last = symbol_no_blank (slice_index symbol (length symbol - 1))
          (AllPass-from_list_all (is_of_class Symbol) symbol (bare_facts symbol h.0).bytes (length symbol - 1) 0
          (omega (arith, some)));
    })
solid_symbol symbol written (inr h) =
    subst IsSolid (sym h.1) (solid_behind (34 ∷ symbol) (34 ∷ []) (record { some = omega arith; last = refl }))

pub solid_amount : (mark : Mark) (text : List ℕ) (parts : Parts) → IsAmount mark text parts → IsSolid text
solid_amount mark text parts a = elim a.form [
  | inl left ↦ subst IsSolid (sym left.whole)
      (solid_behind left.outer _
      (solid_behind left.symbol _
      (solid_behind left.blanks _
      (solid_behind left.inner parts.number (solid_number parts.number (number_text mark parts.number a.number))))))
  | inr right ↦ subst IsSolid (sym right.whole)
      (solid_behind right.outer _
      (solid_behind parts.number _
      (solid_behind right.blanks right.symbol (solid_symbol parts.symbol right.symbol right.symbolic))))
]

-- no amount begins so
pub record BarsAmount (q : ℕ → Bool) : Type 0 where
  pub quote : q 34 ≡ false
  pub signs : (q 43 ≡ false) × (q 45 ≡ false)
  pub symbol : (b : ℕ) → is_of_class Symbol b ≡ true → q b ≡ false
  pub number : (b : ℕ) → is_of_class Number b ≡ true → q b ≡ false

pub first_amount : (q : ℕ → Bool) → BarsAmount q → (mark : Mark) (text : List ℕ) (parts : Parts)
    → IsAmount mark text parts → q (slice_index text 0) ≡ false
first_amount q f mark text parts a = elim a.form [
  | inl left ↦ subst (λ (xs : List ℕ). q (slice_index xs 0) ≡ false) (sym left.whole)
      (behind_left left.outer left.symbol left.inner (left.blanks ++ (left.inner ++ parts.number)) left.signed
      left.symbolic)
  | inr right ↦ subst (λ (xs : List ℕ). q (slice_index xs 0) ≡ false) (sym right.whole)
      (behind_sign parts.sign right.outer (parts.number ++ (right.blanks ++ right.symbol)) right.signed
      (at_number (right.blanks ++ right.symbol)))
]
  where
    behind_sign : (sign : Sign) (outer rest : List ℕ) → WritesSign sign outer → q (slice_index rest 0) ≡ false
        → q (slice_index (outer ++ rest) 0) ≡ false
    behind_sign Absent outer rest h k = rw h k
    behind_sign Plus outer rest h k = rw h.1.1 f.signs.0
    behind_sign Minus outer rest h k = rw h.1.1 f.signs.1

    at_symbol : (symbol rest : List ℕ) → WritesSymbol parts.symbol symbol → q (slice_index (symbol ++ rest) 0) ≡ false
    at_symbol symbol rest (inl h) =
        rw h.1 (f.symbol (slice_index (parts.symbol ++ rest) 0)
        (first_passes (is_of_class Symbol) parts.symbol rest (bare_facts parts.symbol h.0).bytes
        (short_some parts.symbol (bare_facts parts.symbol h.0).short)))
    at_symbol symbol rest (inr h) = rw h.1 f.quote

    at_number : (rest : List ℕ) → q (slice_index (parts.number ++ rest) 0) ≡ false
    at_number rest = f.number (slice_index (parts.number ++ rest) 0)
        (first_number parts.number rest (number_text mark parts.number a.number))

    behind_left : (outer symbol inner rest : List ℕ)
        → (WritesSign parts.sign outer × (inner ≡ [])) ⊎ ((outer ≡ []) × WritesSign parts.sign inner)
        → WritesSymbol parts.symbol symbol
        → q (slice_index (outer ++ (symbol ++ rest)) 0) ≡ false
    behind_left outer symbol inner rest (inl h) w =
        behind_sign parts.sign outer (symbol ++ rest) h.0 (at_symbol symbol rest w)
    behind_left outer symbol inner rest (inr h) w = rw h.0 (at_symbol symbol rest w)

-- a test that all bytes of amounts pass
pub record AllowsAmount (q : ℕ → Bool) : Type 0 where
  pub quoted : (b : ℕ) → is_quoted_byte b ≡ true → q b ≡ true
  pub quote : q 34 ≡ true
  pub signs : (q 43 ≡ true) × (q 45 ≡ true)
  pub blank : (b : ℕ) → is_of_class Blank b ≡ true → q b ≡ true
  pub symbol : (b : ℕ) → is_of_class Symbol b ≡ true → q b ≡ true
  pub number : (b : ℕ) → is_of_class Number b ≡ true → q b ≡ true

pub bytes_symbol : (q : ℕ → Bool) → AllowsAmount q → (symbol written : List ℕ) → WritesSymbol symbol written
    → list_all q written ≡ true
bytes_symbol q f symbol written (inl h) =
    rw h.1 (all_weaker (is_of_class Symbol) q symbol f.symbol (bare_facts symbol h.0).bytes)
bytes_symbol q f symbol written (inr h) =
    rw h.1 (and_from (q 34) _ f.quote
    (all_joined q symbol (34 ∷ []) (all_weaker is_quoted_byte q symbol f.quoted (symbol_facts symbol h.0).bytes)
    (and_from (q 34) _ f.quote refl)))

pub bytes_amount : (q : ℕ → Bool) → AllowsAmount q → (mark : Mark) (text : List ℕ) (parts : Parts)
    → IsAmount mark text parts → list_all q text ≡ true
bytes_amount q f mark text parts a = elim a.form [
  | inl left ↦
      let signs = signed left.outer left.inner left.signed in
      subst (λ (xs : List ℕ). list_all q xs ≡ true) (sym left.whole)
      (all_joined q left.outer _ signs.0 (all_joined q left.symbol _ (symbol left.symbol left.symbolic)
      (all_joined q left.blanks _ (all_weaker (is_of_class Blank) q left.blanks f.blank left.between)
      (all_joined q left.inner parts.number signs.1 digits))))
  | inr right ↦ subst (λ (xs : List ℕ). list_all q xs ≡ true) (sym right.whole)
      (all_joined q right.outer _ (sign parts.sign right.outer right.signed) (all_joined q parts.number _ digits
      (all_joined q right.blanks right.symbol (all_weaker (is_of_class Blank) q right.blanks f.blank right.between)
      (symbol right.symbol right.symbolic))))
]
  where
    digits : list_all q parts.number ≡ true
    digits = all_weaker (is_of_class Number) q parts.number f.number (number_text mark parts.number a.number).bytes

    sign : (s : Sign) (xs : List ℕ) → WritesSign s xs → list_all q xs ≡ true
    sign Absent xs h = rw h refl
    sign Plus xs h = rw h.1.1 (and_from (q 43) _ f.signs.0 (all_weaker (is_of_class Blank) q h.0 f.blank h.1.0))
    sign Minus xs h = rw h.1.1 (and_from (q 45) _ f.signs.1 (all_weaker (is_of_class Blank) q h.0 f.blank h.1.0))

    signed : (outer inner : List ℕ)
        → (WritesSign parts.sign outer × (inner ≡ [])) ⊎ ((outer ≡ []) × WritesSign parts.sign inner)
        → (list_all q outer ≡ true) × (list_all q inner ≡ true)
    signed outer inner (inl h) = (sign parts.sign outer h.0, rw h.1 refl)
    signed outer inner (inr h) = (rw h.0 refl, sign parts.sign inner h.1)

    symbol : (written : List ℕ) → WritesSymbol parts.symbol written → list_all q written ≡ true
    symbol written h = bytes_symbol q f parts.symbol written h
