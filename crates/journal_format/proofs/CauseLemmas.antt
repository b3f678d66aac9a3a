-- A line that is refused has the first of its faults in its place.
use Rattle.std.proofs.Common.{◌≡◌, ◌≤◌, ◌==◌, ℕ, List, [], ◌∷◌, Bool, true, false, not, ◌&&◌, ◌||◌, length, codes, refl}
use Rattle.std.proofs.Common.{ap, ◌∙◌, sym, subst, Option, Some, None, Result, Ok, Err, inl, inr, ◌⊎◌, nat_lt}
use Rattle.std.specs.Prelude.{slice_get, cond}
use Rattle.std.proofs.lemmas.Bool.{cases_Bool, lt-ltb, ltb-true, ltb-false, or_parts}
use Rattle.money_core.specs.declared.style.Style.{Style}
use Rattle.money_core.specs.declared.unit.Unit.{Unit as Commodity}
use Rattle.money_core.specs.declared.cause.Cause.{Cause}
use Rattle.money_core.specs.declared.cause.Cause.TheVariants as cause
use Rattle.money_core.specs.Amount.{place_of}
use Rattle.money_core.specs.Sampling.{style_of}
use Rattle.money_core.specs.Cutting.{symbol_in_text}
use Rattle.money_core.proofs.GrammarLemmas.{whole_symbol}
use Rattle.money_core.proofs.SampleLemmas.{style_spelled, spelled_style}
use Rattle.money_core.proofs.ListLemmas.{nil_from_empty}
use Rattle.journal_lines.specs.Comment.{front_of}
use Rattle.journal_lines.specs.Blank.{trim_start, first_word}
use Rattle.journal_lines.specs.HeaderReading.{header_of}
use Rattle.journal_lines.specs.HeaderFaults.{HasLongPart, HasNoDate, HasOpenCode}
use Rattle.journal_lines.proofs.HeaderFaultLemmas.{fault_of, date_fault}
use Rattle.journal_lines.proofs.HeaderLemmas.{cond_cases}
use Rattle.journal_format.specs.Line.{is_text}
use Rattle.journal_format.specs.Machine.{State, within}
use Rattle.journal_format.specs.Directive.{shows_digit, agrees, sampled, sampled_at, symbol_at, commodity_by_symbol}
use Rattle.journal_format.specs.Directive.{commodity_named}
use Rattle.journal_format.specs.Directive.{format_at, sample_fault, is_format, format_fault}
use Rattle.journal_format.specs.DirectiveForm.{IsSampleOf, IsSymbolOf, behind_word}
use Rattle.journal_format.specs.LineFaults.{LineFault, IsFirst, NamesUnit, line_faults, directive_faults, format_faults}
use Rattle.journal_format.proofs.FirstLemmas.{AreNone, first_behind_none, first_in_front, refused, one_err, not_both}
use Rattle.journal_format.proofs.DirectiveFormLemmas.{named_iff, sample_digit, symbol_digit, sample_none, is_format_iff}

pub or_cases : (a b : Bool) → (a || b) ≡ true → (a ≡ true) ⊎ ((a ≡ false) × (b ≡ true))
or_cases true b h = inl refl
or_cases false b h = inr (refl, h)

-- the frame of all lines: the limit of a line, the limits of its kind, its bytes, its parts
pub frame_first_fault : (styles : List Style) (line : List ℕ) (limits parts : List LineFault) (over : Bool)
    (r : Result State Cause) (c : Cause)
    → (over ≡ true → IsFirst limits cause.TooLong) → (over ≡ false → AreNone limits)
    → (over ≡ false → length line ≤ 1000 → is_text line ≡ true → within styles r ≡ Err c → IsFirst parts c)
    → cond (nat_lt 1000 (length line) || over) (Err cause.TooLong)
    (cond (not (is_text line)) (Err cause.Utf8) (within styles r)) ≡ Err c → IsFirst (line_faults line limits parts) c
frame_first_fault styles line limits parts over r c passed none more e =
    elim (cond_cases (nat_lt 1000 (length line) || over) (refused {A = State} cause.TooLong) _ (Err c) e) [
      | inl long ↦ elim (or_cases (nat_lt 1000 (length line)) over long.0) [
        | inl k ↦ inl (
          ltb-true 1000 (length line) k,
          sym (one_err (refused {A = State} cause.TooLong) cause.TooLong c refl long.1),
        )
        | inr k ↦ inr (
          λ l. (let two = sym k.0 ∙ lt-ltb 1000 (length line) l in absurd cc),
          first_in_front limits ((cause.Utf8, is_text line ≡ false) ∷ parts) c
              (subst (IsFirst limits) (one_err (refused {A = State} cause.TooLong) cause.TooLong c refl long.1)
              (passed k.1)),
        )
      ]
      | inr fits ↦
          (let sides = or_parts (nat_lt 1000 (length line)) over fits.0 in
          inr (
            λ l. (let two = sym sides.0 ∙ lt-ltb 1000 (length line) l in absurd cc),
            first_behind_none limits ((cause.Utf8, is_text line ≡ false) ∷ parts) c (none sides.1)
                (elim (cond_cases (not (is_text line)) (refused {A = State} cause.Utf8) _ (Err c) fits.1) [
                  | inl bad ↦ inl (
                    lacks (is_text line) bad.0,
                    sym (one_err (refused {A = State} cause.Utf8) cause.Utf8 c refl bad.1),
                  )
                  | inr good ↦ inr (
                    λ k. (let two = sym good.0 ∙ ap not k in absurd cc),
                    more sides.1 (ltb-false 1000 (length line) sides.0) (has (is_text line) good.0) good.1,
                  )
                ]),
          ))
    ]
  where
    lacks : (b : Bool) → not b ≡ true → b ≡ false
    lacks true h = absurd cc
    lacks false h = refl

    has : (b : Bool) → not b ≡ false → b ≡ true
    has true h = refl
    has false h = absurd cc

-- the date and the code of a header, of which no part is too long
pub header_told : (line : List ℕ) (c : Cause) → ¬ (HasLongPart line) → header_of line ≡ Err c
    → IsFirst ((cause.Date, HasNoDate line) ∷ (cause.Header, HasOpenCode line) ∷ []) c
header_told line c short e = elim (fault_of line c e) [
  | inl long ↦ absurd (short long.1)
  | inr (inl undated) ↦ inl (undated.1, undated.0)
  | inr (inr opened) ↦ inr (
    λ k. (let two = one_err (header_of line) c cause.Date e (date_fault line k) in let both =
        sym two ∙ opened.0 in absurd cc),
    inl (opened.1, opened.0),
  )
]

-- the commodity of a directive
pub directive_told : (styles : List Style) (text : List ℕ) (c : Cause) → commodity_named styles text ≡ Err c
    → IsFirst (directive_faults styles text) c
unfolding commodity_named
directive_told styles text c e =
    elim (cond_cases (length text == 0) (refused {A = Commodity} cause.Directive) _ (Err c) e) [
      | inl bare ↦ inl (
        nil_from_empty text bare.0,
        sym (one_err (refused {A = Commodity} cause.Directive) cause.Directive c refl bare.1),
      )
      | inr some ↦ inr (
        λ k. (let two = sym some.0 ∙ ap (λ (xs : List ℕ). length xs == 0) k in absurd cc),
        elim (cond_cases (shows_digit text) (sampled styles (style_of text)) _ (Err c) some.1) [
          | inl digit ↦ by_sample digit.0 (style_of text) refl digit.1
          | inr plain ↦ by_symbol plain.0 (symbol_in_text text) refl plain.1
        ],
      )
    ]
  where
    rest : List LineFault
    rest = (cause.UnknownCommodity, (symbol : List ℕ) × (NamesUnit symbol text × (place_of styles symbol ≡ None)))
        ∷ (cause.CommodityStyle, (unit : Commodity) → ¬ (IsSampleOf styles unit text ⊎ IsSymbolOf styles unit text))
        ∷ []

    no_commodity : (unit : Commodity) → ¬ (IsSampleOf styles unit text ⊎ IsSymbolOf styles unit text)
    no_commodity unit w = not_both (commodity_named styles text) unit c ((named_iff styles unit text).0 w) e

    by_sample : shows_digit text ≡ true → (o : Option Style) → style_of text ≡ o → sampled styles o ≡ Err c
        → IsFirst ((cause.Amount, (symbol : List ℕ) → ¬ (NamesUnit symbol text))
        ∷ (cause.UnknownCommodity, (symbol : List ℕ) × (NamesUnit symbol text × (place_of styles symbol ≡ None)))
        ∷ (cause.CommodityStyle, (unit : Commodity) → ¬ (IsSampleOf styles unit text ⊎ IsSymbolOf styles unit text))
        ∷ []) c
    by_sample digit None q f = inl (nothing, sym (one_err (refused {A = Commodity} cause.Amount) cause.Amount c refl f))
      where
        nothing : (symbol : List ℕ) → ¬ (NamesUnit symbol text)
        nothing symbol (inl s) = (let two = sym q ∙ spelled_style text s.0 s.1.0 in cc)
        nothing symbol (inr w) = (let two = sym digit ∙ symbol_digit symbol text w in cc)
    by_sample digit (Some s) q f =
        inr (λ k. k s.symbol (inl (s, (style_spelled text s q, refl))), placed (place_of styles s.symbol) refl f)
      where
        placed : (o : Option ℕ) → place_of styles s.symbol ≡ o → sampled_at styles s o ≡ Err c
            → IsFirst ((
              cause.UnknownCommodity,
              (symbol : List ℕ) × (NamesUnit symbol text × (place_of styles symbol ≡ None)),
            )
            ∷ (cause.CommodityStyle, (unit : Commodity) → ¬ (IsSampleOf styles unit text ⊎ IsSymbolOf styles unit text))
            ∷ []) c
        placed None p g = inl (
          (s.symbol, (inl (s, (style_spelled text s q, refl)), p)),
          sym (one_err (refused {A = Commodity} cause.UnknownCommodity) cause.UnknownCommodity c refl g),
        )
        placed (Some place) p g = inr (
          λ k. unplaced k.0 k.1.0 k.1.1,
          elim (cond_cases (agrees (slice_get styles place) s) (Ok (record { 0 = place }))
              (refused {A = Commodity} cause.CommodityStyle) (Err c) g) [
                | inl good ↦ absurd (not_both _ (record { 0 = place }) c refl good.1)
                | inr bad ↦ inl (
                  no_commodity,
                  sym
                      (one_err (refused {A = Commodity} cause.CommodityStyle) cause.CommodityStyle c refl bad.1),
                )
              ],
        )
          where
            unplaced : (symbol : List ℕ) → NamesUnit symbol text → place_of styles symbol ≡ None → ⊥
            unplaced symbol (inl t) none =
                let same : Some s ≡ Some t.0 = sym q ∙ spelled_style text t.0 t.1.0 in
                let symbols : s.symbol ≡ t.0.symbol =
                (let styles_same : s ≡ t.0 = cc in ap (λ (x : Style). x.symbol) styles_same) in
                let two = sym p ∙ (ap (place_of styles) (symbols ∙ t.1.1) ∙ none) in cc
            unplaced symbol (inr w) none = (let two = sym digit ∙ symbol_digit symbol text w in cc)

    by_symbol : shows_digit text ≡ false → (o : Option (List ℕ)) → symbol_in_text text ≡ o
        → commodity_by_symbol styles o ≡ Err c → IsFirst ((cause.Amount, (symbol : List ℕ) → ¬ (NamesUnit symbol text))
        ∷ (cause.UnknownCommodity, (symbol : List ℕ) × (NamesUnit symbol text × (place_of styles symbol ≡ None)))
        ∷ (cause.CommodityStyle, (unit : Commodity) → ¬ (IsSampleOf styles unit text ⊎ IsSymbolOf styles unit text))
        ∷ []) c
    by_symbol digit None q f = inl (nothing, sym (one_err (refused {A = Commodity} cause.Amount) cause.Amount c refl f))
      where
        nothing : (symbol : List ℕ) → ¬ (NamesUnit symbol text)
        nothing symbol (inl s) = (let two = sym digit ∙ sample_digit text s.0 s.1.0 in cc)
        nothing symbol (inr w) = (let two = sym q ∙ (whole_symbol symbol text).1 w in cc)
    by_symbol digit (Some symbol) q f =
        inr (λ k. k symbol (inr ((whole_symbol symbol text).0 q)), placed (place_of styles symbol) refl f)
      where
        placed : (o : Option ℕ) → place_of styles symbol ≡ o → symbol_at o ≡ Err c
            → IsFirst ((
              cause.UnknownCommodity,
              (symbol : List ℕ) × (NamesUnit symbol text × (place_of styles symbol ≡ None)),
            )
            ∷ (cause.CommodityStyle, (unit : Commodity) → ¬ (IsSampleOf styles unit text ⊎ IsSymbolOf styles unit text))
            ∷ []) c
        placed None p g = inl (
          (symbol, (inr ((whole_symbol symbol text).0 q), p)),
          sym (one_err (refused {A = Commodity} cause.UnknownCommodity) cause.UnknownCommodity c refl g),
        )
        placed (Some place) p g = absurd (not_both _ (record { 0 = place }) c refl g)

-- a line below a directive
pub format_told : (styles : List Style) (unit : Commodity) (line : List ℕ) (c : Cause)
    → format_fault styles unit line ≡ Some c → IsFirst (format_faults styles unit line) c
unfolding format_fault
format_told styles unit line c e = elim (cases_Bool (is_format line)) [
  | inr other ↦ absurd (let none : None ≡ Some c = rw other at e in cc)
  | inl format ↦ (let found : sample_fault styles unit (style_of text) ≡ Some c =
      rw format at e in by_sample ((is_format_iff line).0 format) (style_of text) refl found)
]
  where
    text : List ℕ
    text = behind_word (trim_start (front_of line))

    no_sample : sample_fault styles unit (style_of text) ≡ Some c → ¬ (IsSampleOf styles unit text)
    no_sample f w = (let none = (sample_none styles unit text).0 w in cc)

    by_sample : first_word (trim_start line) ≡ codes "format" → (o : Option Style) → style_of text ≡ o
        → sample_fault styles unit (style_of text) ≡ Some c → IsFirst (format_faults styles unit line) c
    by_sample word None q f = inl (
      (word, λ s w. (let two = sym q ∙ spelled_style text s w in cc)),
      (let two : Some cause.Amount ≡ Some c = ap (sample_fault styles unit) (sym q) ∙ f in cc),
    )
    by_sample word (Some s) q f = inr (
      λ k. k.1 s (style_spelled text s q),
      inl ((word, no_sample f), at (place_of styles s.symbol) (ap (sample_fault styles unit) (sym q) ∙ f)),
    )
      where
        at : (o : Option ℕ) → format_at styles unit s o ≡ Some c → c ≡ cause.CommodityStyle
        at None g = cc
        at (Some place) g = elim (cond_cases ((place == unit.0) && agrees (slice_get styles place) s) None
            (Some cause.CommodityStyle) (Some c) g) [
              | inl good ↦ absurd (let two = good.1 in cc)
              | inr bad ↦ (let two = bad.1 in cc)
            ]
