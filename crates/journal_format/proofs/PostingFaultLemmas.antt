-- A posting line that is refused has the first of its faults.
use Rattle.std.proofs.Common.{◌≡◌, ◌++◌, ◌==◌, ℕ, ℤ, List, [], ◌∷◌, Bool, true, false, not, length, map, arith, refl}
use Rattle.std.proofs.Common.{ap, ◌∙◌, sym, Option, Some, None, Result, Ok, Err, inl, inr, ◌⊎◌, nat_lt}
use Rattle.std.specs.Prelude.{◌≢◌}
use Rattle.std.proofs.lemmas.Bool.{lt-ltb}
use Rattle.money_core.specs.declared.style.Style.{Style}
use Rattle.money_core.specs.declared.unit.Unit.{Unit as Commodity}
use Rattle.money_core.specs.declared.price.Price.{Price}
use Rattle.money_core.specs.declared.cause.Cause.{Cause}
use Rattle.money_core.specs.declared.cause.Cause.TheVariants as cause
use Rattle.money_core.specs.declared.claim.ClaimKind.{ClaimKind}
use Rattle.money_core.specs.Amount.{HasNoForm, IsOverLimit}
use Rattle.money_core.specs.Reading.{amount}
use Rattle.money_core.specs.PriceReading.{price}
use Rattle.money_core.proofs.ReadingLemmas.{declared_form, malformed_iff, unknown_iff, decimals_iff, one_of_causes}
use Rattle.money_core.proofs.PriceGrammar.{price_form_iff, price_unknown_iff, price_cost_iff, one_price_cause}
use Rattle.money_core.proofs.ListLemmas.{nil_from_empty}
use Rattle.journal_lines.specs.declared.header.Status.{Status}
use Rattle.journal_lines.specs.Comment.{front_of, comment_of}
use Rattle.journal_lines.specs.Header.{status_at, length_of}
use Rattle.journal_lines.specs.Blank.{trim_start}
use Rattle.journal_lines.specs.AccountName.{is_account}
use Rattle.journal_lines.proofs.HeaderLemmas.{cond_cases, past}
use Rattle.journal_format.specs.declared.posting.Posting.{Posting}
use Rattle.journal_format.specs.PostingParts.{kind_at, is_virtual, account_name_of, amount_part_of, claim_in}
use Rattle.journal_format.specs.PostingParts.{price_text_in, amount_text_in}
use Rattle.journal_format.specs.PostingParts.{asserted_in}
use Rattle.journal_format.specs.Posting.{Value, PostingCut, cut_part, cut_posting, value_with_claim, claimed}
use Rattle.journal_format.specs.Posting.{with_price}
use Rattle.journal_format.specs.Posting.{with_amount, without_amount, value_of_cut, posting_with_value, judged_posting}
use Rattle.journal_format.specs.Posting.{posting_of}
use Rattle.journal_format.specs.LineFaults.{LineFault, IsFirst, amount_faults, price_faults, where_there, value_faults}
use Rattle.journal_format.specs.LineFaults.{posting_part_faults}
use Rattle.journal_format.proofs.FirstLemmas.{AreNone, refused, one_err, not_both}

there_first : (text : List ℕ) (fs rest : List LineFault) (c : Cause) → text ≢ [] → IsFirst fs c
    → IsFirst (map (where_there text) fs ++ rest) c
there_first text [] rest c some h = absurd h
there_first text (f ∷ fs) rest c some (inl h) = inl ((some, h.0), h.1)
there_first text (f ∷ fs) rest c some (inr h) = inr (λ k. h.0 k.1, there_first text fs rest c some h.1)

there_last : (text : List ℕ) (fs : List LineFault) (c : Cause) → text ≢ [] → IsFirst fs c
    → IsFirst (map (where_there text) fs) c
there_last text [] c some h = absurd h
there_last text (f ∷ fs) c some (inl h) = inl ((some, h.0), h.1)
there_last text (f ∷ fs) c some (inr h) = inr (λ k. h.0 k.1, there_last text fs c some h.1)

not_there : (text : List ℕ) (fs rest : List LineFault) (c : Cause) → text ≡ [] → IsFirst rest c
    → IsFirst (map (where_there text) fs ++ rest) c
not_there text [] rest c none h = h
not_there text (f ∷ fs) rest c none h = inr (λ k. k.0 none, not_there text fs rest c none h)

first_behind_none_there : (text : List ℕ) (fs rest : List LineFault) (c : Cause) → AreNone fs → IsFirst rest c
    → IsFirst (map (where_there text) fs ++ rest) c
first_behind_none_there text [] rest c none h = h
first_behind_none_there text (f ∷ fs) rest c none h =
    inr (λ k. none.0 k.1, first_behind_none_there text fs rest c none.1 h)

-- the faults of an amount
amount_none : (styles : List Style) (text : List ℕ) (a : Commodity × ℤ) → amount styles text ≡ Ok a
    → AreNone (amount_faults styles text)
amount_none styles text a e = (
  λ h. not_both r a cause.Amount e ((malformed_iff styles text r refl).1 (inl h)),
  (
    λ h. not_both r a cause.UnknownCommodity e ((unknown_iff styles text r refl).1 h),
    (
      λ h. not_both r a cause.Decimals e ((decimals_iff styles text r refl).1 h),
      (
        λ h. not_both r a cause.Amount e ((malformed_iff styles text r refl).1 (inr h)),
        tt,
      ),
    ),
  ),
)
  where
    r : Result (Commodity × ℤ) Cause
    r = amount styles text

amount_told : (styles : List Style) (text : List ℕ) (c : Cause) → amount styles text ≡ Err c
    → IsFirst (amount_faults styles text) c
amount_told styles text c e = at c e (subst_causes (amount styles text) refl)
  where
    subst_causes : (r : Result (Commodity × ℤ) Cause) → r ≡ amount styles text
        → (c ≡ cause.Amount) ⊎ ((c ≡ cause.UnknownCommodity) ⊎ (c ≡ cause.Decimals))
    subst_causes (Ok a) q = absurd (not_both (amount styles text) a c (sym q) e)
    subst_causes (Err d) q =
        let same : d ≡ c = one_err (amount styles text) d c (sym q) e in
        elim (one_of_causes styles text (Err d) q) [
          | inl h ↦ inl (sym same ∙ h)
          | inr (inl h) ↦ inr (inl (sym same ∙ h))
          | inr (inr h) ↦ inr (inr (sym same ∙ h))
        ]

    unformed : IsOverLimit styles text → HasNoForm styles text → ⊥
    unformed h k = k h.parts (declared_form styles text h.parts h.place h.style h.declared h.its_style h.amount)

    at : (d : Cause) → amount styles text ≡ Err d
        → (d ≡ cause.Amount) ⊎ ((d ≡ cause.UnknownCommodity) ⊎ (d ≡ cause.Decimals))
        → IsFirst (amount_faults styles text) d
    at d f (inr (inl is)) = inr (
      λ k. (let two = one_err (amount styles text) d cause.Amount f ((malformed_iff styles text _ refl).1 (inl k)) in
          absurd cc),
      inl ((unknown_iff styles text _ refl).0 (f ∙ ap (λ (x : Cause). Err x) is), is),
    )
    at d f (inr (inr is)) = inr (
      λ k. (let two = one_err (amount styles text) d cause.Amount f ((malformed_iff styles text _ refl).1 (inl k)) in
          absurd cc),
      inr (
        λ k. (let two = one_err (amount styles text) d cause.UnknownCommodity f ((unknown_iff styles text _ refl).1 k)
            in absurd cc),
        inl ((decimals_iff styles text _ refl).0 (f ∙ ap (λ (x : Cause). Err x) is), is),
      ),
    )
    at d f (inl is) = elim ((malformed_iff styles text _ refl).0 (f ∙ ap (λ (x : Cause). Err x) is)) [
      | inl h ↦ inl (h, is)
      | inr h ↦ inr (
        unformed h,
        inr (
          λ k. (let two = one_err (amount styles text) d cause.UnknownCommodity f ((unknown_iff styles text _ refl).1 k)
              in absurd cc),
          inr (
            λ k. (let two = one_err (amount styles text) d cause.Decimals f ((decimals_iff styles text _ refl).1 k) in
                absurd cc),
            inl (h, is),
          ),
        ),
      )
    ]

-- the faults of a price
price_none : (styles : List Style) (text : List ℕ) (p : Price) → price styles text ≡ Ok p
    → AreNone (price_faults styles text)
price_none styles text p e = (
  λ h. not_both (price styles text) p cause.Amount e ((price_form_iff styles text _ refl).1 h),
  (
    λ h. not_both (price styles text) p cause.UnknownCommodity e ((price_unknown_iff styles text _ refl).1 h),
    (
      λ h. not_both (price styles text) p cause.Cost e ((price_cost_iff styles text _ refl).1 h),
      tt,
    ),
  ),
)

price_told : (styles : List Style) (text : List ℕ) (c : Cause) → price styles text ≡ Err c
    → IsFirst (price_faults styles text) c
price_told styles text c e = at (causes (price styles text) refl)
  where
    causes : (r : Result Price Cause) → r ≡ price styles text
        → (c ≡ cause.Amount) ⊎ ((c ≡ cause.UnknownCommodity) ⊎ (c ≡ cause.Cost))
    causes (Ok a) q = absurd (not_both (price styles text) a c (sym q) e)
    causes (Err d) q =
        let same : d ≡ c = one_err (price styles text) d c (sym q) e in
        elim (one_price_cause styles text (Err d) q) [
          | inl h ↦ inl (sym same ∙ h)
          | inr (inl h) ↦ inr (inl (sym same ∙ h))
          | inr (inr h) ↦ inr (inr (sym same ∙ h))
        ]

    at : (c ≡ cause.Amount) ⊎ ((c ≡ cause.UnknownCommodity) ⊎ (c ≡ cause.Cost)) → IsFirst (price_faults styles text) c
    at (inl is) = inl ((price_form_iff styles text _ refl).0 (e ∙ ap (λ (x : Cause). Err x) is), is)
    at (inr (inl is)) = inr (
      λ k. (let two = one_err (price styles text) c cause.Amount e ((price_form_iff styles text _ refl).1 k) in absurd
          cc),
      inl ((price_unknown_iff styles text _ refl).0 (e ∙ ap (λ (x : Cause). Err x) is), is),
    )
    at (inr (inr is)) = inr (
      λ k. (let two = one_err (price styles text) c cause.Amount e ((price_form_iff styles text _ refl).1 k) in absurd
          cc),
      inr (
        λ k. (let two = one_err (price styles text) c cause.UnknownCommodity e
            ((price_unknown_iff styles text _ refl).1 k) in absurd cc),
        inl ((price_cost_iff styles text _ refl).0 (e ∙ ap (λ (x : Cause). Err x) is), is),
      ),
    )

-- texts that are there, and texts that are not
some_of : (xs : List ℕ) → (length xs == 0) ≡ false → xs ≢ []
some_of xs h = λ e. (let two = sym h ∙ ap (λ (ys : List ℕ). length ys == 0) e in absurd cc)

some_by : (xs : List ℕ) → nat_lt 0 (length xs) ≡ true → xs ≢ []
some_by xs h = λ e. (let two = sym h ∙ ap (λ (ys : List ℕ). nat_lt 0 (length ys)) e in absurd cc)

none_by : (xs : List ℕ) → nat_lt 0 (length xs) ≡ false → xs ≡ []
none_by [] h = refl
none_by (x ∷ xs) h = absurd (let two = sym h ∙ lt-ltb 0 (length (x ∷ xs)) (omega arith) in cc)

-- the faults of an amount part
value_told : (styles : List Style) (status : Option Status) (name part : List ℕ) (comment : Option (List ℕ)) (c : Cause)
    → value_of_cut styles (cut_part status name part comment) ≡ Err c → IsFirst (value_faults styles part) c
unfolding value_of_cut
value_told styles status name part comment c e =
    elim (cond_cases (length (amount_text_in part) == 0) (without_amount (cut_part status name part comment)) _ (Err c)
    e) [
      | inl bare ↦ without (nil_from_empty (amount_text_in part) bare.0) bare.1
      | inr some ↦ inr (
        λ k. some_of (amount_text_in part) some.0 k.0,
        inr (
          λ k. some_of (amount_text_in part) some.0 k.0,
          amounted (some_of (amount_text_in part) some.0) (amount styles (amount_text_in part)) refl some.1,
        ),
      )
    ]
  where
    cut : PostingCut
    cut = cut_part status name part comment

    without : amount_text_in part ≡ [] → without_amount cut ≡ Err c → IsFirst (value_faults styles part) c
    without none f =
        elim (cond_cases (nat_lt 0 (length (price_text_in part))) (refused {A = Value} cause.Amount) _ (Err c) f) [
          | inl priced ↦ inl (
            (none, some_by (price_text_in part) priced.0),
            sym (one_err (refused {A = Value} cause.Amount) cause.Amount c refl priced.1),
          )
          | inr plain ↦ inr (
            λ k. k.1 (none_by (price_text_in part) plain.0),
            elim (cond_cases (nat_lt 0 (length (claim_in part))) (refused {A = Value} cause.Assignment) _ (Err c)
                plain.1) [
                  | inl asserted ↦ inl (
                    (none, some_by (claim_in part) asserted.0),
                    sym (one_err (refused {A = Value} cause.Assignment) cause.Assignment c refl asserted.1),
                  )
                  | inr nothing ↦ absurd (not_both _ _ c refl nothing.1)
                ],
          )
        ]

    asserted : (a : Commodity × ℤ) (p : Option Price) (kind : ClaimKind) (r : Result (Commodity × ℤ) Cause)
        → value_with_claim a p kind r ≡ Err c → r ≡ Err c
    asserted a p kind (Ok k) f = absurd (not_both _ _ c refl f)
    asserted a p kind (Err d) f = ap (λ (x : Cause). Err x) (one_err (refused {A = Value} d) d c refl f)

    claims : (a : Commodity × ℤ) (p : Option Price) → claimed styles (claim_in part) a p ≡ Err c
        → IsFirst (map (where_there (claim_in part)) (amount_faults styles (asserted_in (claim_in part)))) c
    claims a p f =
        elim (cond_cases (length (claim_in part) == 0) (Ok (record { amount = Some a; price = p; claim = None }))
        _ (Err c) f) [
          | inl bare ↦ absurd (not_both _ _ c refl bare.1)
          | inr some ↦ there_last (claim_in part) (amount_faults styles (asserted_in (claim_in part))) c
              (some_of (claim_in part) some.0)
              (amount_told styles (asserted_in (claim_in part)) c
              (asserted a p (kind_at (claim_in part)) (amount styles (asserted_in (claim_in part))) some.1))
        ]

    priced : price_text_in part ≢ [] → (a : Commodity × ℤ) (r : Result Price Cause)
        → price styles (price_text_in part) ≡ r → with_price styles cut a r ≡ Err c
        → IsFirst (map (where_there (price_text_in part)) (price_faults styles (price_text_in part))
        ++ map (where_there (claim_in part)) (amount_faults styles (asserted_in (claim_in part)))) c
    priced some a (Ok p) q f = first_behind_none_there (price_text_in part) (price_faults styles (price_text_in part))
        (map (where_there (claim_in part)) (amount_faults styles (asserted_in (claim_in part)))) c
        (price_none styles (price_text_in part) p q) (claims a (Some p) f)
    priced some a (Err d) q f =
        there_first (price_text_in part) (price_faults styles (price_text_in part))
        (map (where_there (claim_in part)) (amount_faults styles (asserted_in (claim_in part)))) c some
        (price_told styles (price_text_in part) c
        (q ∙ ap (λ (x : Cause). Err x) (one_err (refused {A = Value} d) d c refl f)))

    amounted : amount_text_in part ≢ [] → (r : Result (Commodity × ℤ) Cause) → amount styles (amount_text_in part) ≡ r
        → with_amount styles cut r ≡ Err c
        → IsFirst (map (where_there (amount_text_in part)) (amount_faults styles (amount_text_in part))
        ++ (map (where_there (price_text_in part)) (price_faults styles (price_text_in part))
        ++ map (where_there (claim_in part)) (amount_faults styles (asserted_in (claim_in part))))) c
    amounted some (Err d) q f =
        there_first (amount_text_in part) (amount_faults styles (amount_text_in part))
        (map (where_there (price_text_in part)) (price_faults styles (price_text_in part))
        ++ map (where_there (claim_in part)) (amount_faults styles (asserted_in (claim_in part)))) c some
        (amount_told styles (amount_text_in part) c
        (q ∙ ap (λ (x : Cause). Err x) (one_err (refused {A = Value} d) d c refl f)))
    amounted some (Ok a) q f =
        first_behind_none_there (amount_text_in part) (amount_faults styles (amount_text_in part))
        (map (where_there (price_text_in part)) (price_faults styles (price_text_in part))
        ++ map (where_there (claim_in part)) (amount_faults styles (asserted_in (claim_in part)))) c
        (amount_none styles (amount_text_in part) a q)
        (elim (cond_cases (length (price_text_in part) == 0) (claimed styles (claim_in part) a None) _ (Err c) f) [
          | inl bare ↦ not_there (price_text_in part) (price_faults styles (price_text_in part))
              (map (where_there (claim_in part)) (amount_faults styles (asserted_in (claim_in part)))) c
              (nil_from_empty (price_text_in part) bare.0) (claims a None bare.1)
          | inr more ↦ priced (some_of (price_text_in part) more.0) a (price styles (price_text_in part)) refl more.1
        ])

-- the faults of a posting line's parts
pub posting_told : (styles : List Style) (line : List ℕ) (c : Cause) → nat_lt 900 (length_of (comment_of line)) ≡ false
    → posting_of styles line ≡ Err c → IsFirst (posting_part_faults styles line) c
unfolding judged_posting cut_posting
posting_told styles line c short e =
    elim (cond_cases (nat_lt 900 (length_of (comment_of line))) (refused {A = Posting} cause.TooLong) _ (Err c) e) [
      | inl long ↦ absurd (let two = sym short ∙ long.0 in cc)
      | inr fits ↦
          elim (cond_cases (is_virtual (account_name_of line)) (refused {A = Posting} cause.Virtual) _ (Err c) fits.1) [
            | inl virtual ↦ inl (
              virtual.0,
              sym (one_err (refused {A = Posting} cause.Virtual) cause.Virtual c refl virtual.1),
            )
            | inr real ↦ inr (
              λ k. (let two = sym real.0 ∙ k in absurd cc),
              elim (cond_cases (not (is_account (account_name_of line))) (refused {A = Posting} cause.Account) _ (Err c)
                  real.1) [
                    | inl ill ↦ inl (
                      λ k. (let two = sym ill.0 ∙ ap not k in absurd cc),
                      sym (one_err (refused {A = Posting} cause.Account) cause.Account c refl ill.1),
                    )
                    | inr good ↦ inr (
                      λ k. k (kept (is_account (account_name_of line)) good.0),
                      valued (value_of_cut styles cut) refl good.1,
                    )
                  ],
            )
          ]
    ]
  where
    cut : PostingCut
    cut =
        cut_part (status_at (trim_start (front_of line))) (account_name_of line) (amount_part_of line) (comment_of line)

    kept : (b : Bool) → not b ≡ false → b ≡ true
    kept true h = refl
    kept false h = absurd cc

    valued : (r : Result Value Cause) → value_of_cut styles cut ≡ r → posting_with_value cut r ≡ Err c
        → IsFirst (value_faults styles (amount_part_of line)) c
    valued (Ok v) q f = absurd (not_both _ _ c refl f)
    valued (Err d) q f =
        value_told styles (status_at (trim_start (front_of line))) (account_name_of line) (amount_part_of line)
        (comment_of line) c (q ∙ ap (λ (x : Cause). Err x) (one_err (refused {A = Posting} d) d c refl f))

-- ---- a line that is read has none of the faults

both_none : (fs rest : List LineFault) → AreNone fs → AreNone rest → AreNone (fs ++ rest)
both_none [] rest h k = k
both_none (f ∷ fs) rest h k = (h.0, both_none fs rest h.1 k)

none_there : (text : List ℕ) (fs : List LineFault) → AreNone fs → AreNone (map (where_there text) fs)
none_there text [] h = tt
none_there text (f ∷ fs) h = (λ k. h.0 k.1, none_there text fs h.1)

none_absent : (text : List ℕ) (fs : List LineFault) → text ≡ [] → AreNone (map (where_there text) fs)
none_absent text [] h = tt
none_absent text (f ∷ fs) h = (λ k. k.0 h, none_absent text fs h)

value_none : (styles : List Style) (status : Option Status) (name part : List ℕ) (comment : Option (List ℕ)) (v : Value)
    → value_of_cut styles (cut_part status name part comment) ≡ Ok v → AreNone (value_faults styles part)
unfolding value_of_cut
value_none styles status name part comment v e =
    elim (cond_cases (length (amount_text_in part) == 0) (without_amount (cut_part status name part comment)) _ (Ok v)
    e) [
      | inl bare ↦ without (nil_from_empty (amount_text_in part) bare.0) bare.1
      | inr some ↦ (
        λ k. some_of (amount_text_in part) some.0 k.0,
        (λ k. some_of (amount_text_in part) some.0 k.0, amounted (amount styles (amount_text_in part)) refl some.1),
      )
    ]
  where
    cut : PostingCut
    cut = cut_part status name part comment

    prices : List LineFault
    prices = map (where_there (price_text_in part)) (price_faults styles (price_text_in part))

    without : amount_text_in part ≡ [] → without_amount cut ≡ Ok v → AreNone (value_faults styles part)
    without none f =
        elim (cond_cases (nat_lt 0 (length (price_text_in part))) (refused {A = Value} cause.Amount) _ (Ok v) f) [
          | inl priced ↦ absurd (not_both _ v cause.Amount priced.1 refl)
          | inr plain ↦
              elim (cond_cases (nat_lt 0 (length (claim_in part))) (refused {A = Value} cause.Assignment) _ (Ok v)
              plain.1) [
                | inl asserted ↦ absurd (not_both _ v cause.Assignment asserted.1 refl)
                | inr nothing ↦ (
                  λ k. k.1 (none_by (price_text_in part) plain.0),
                  (
                    λ k. k.1 (none_by (claim_in part) nothing.0),
                    both_none (map (where_there (amount_text_in part)) (amount_faults styles (amount_text_in part)))
                        (map (where_there (price_text_in part)) (price_faults styles (price_text_in part))
                        ++ map (where_there (claim_in part)) (amount_faults styles (asserted_in (claim_in part))))
                        (none_absent (amount_text_in part) (amount_faults styles (amount_text_in part)) none)
                        (both_none (map (where_there (price_text_in part)) (price_faults styles (price_text_in part)))
                        (map (where_there (claim_in part)) (amount_faults styles (asserted_in (claim_in part))))
                        (none_absent (price_text_in part) (price_faults styles (price_text_in part))
                        (none_by (price_text_in part) plain.0))
                        (none_absent (claim_in part) (amount_faults styles (asserted_in (claim_in part)))
                        (none_by (claim_in part) nothing.0))),
                  ),
                )
              ]
        ]

    claims : (a : Commodity × ℤ) (p : Option Price) → claimed styles (claim_in part) a p ≡ Ok v
        → AreNone (map (where_there (claim_in part)) (amount_faults styles (asserted_in (claim_in part))))
    claims a p f =
        elim (cond_cases (length (claim_in part) == 0) (Ok (record { amount = Some a; price = p; claim = None }))
        _ (Ok v) f) [
          | inl bare ↦ none_absent (claim_in part) (amount_faults styles (asserted_in (claim_in part)))
              (nil_from_empty (claim_in part) bare.0)
          | inr some ↦ none_there (claim_in part) (amount_faults styles (asserted_in (claim_in part)))
              (asserted (kind_at (claim_in part)) (amount styles (asserted_in (claim_in part))) refl some.1)
        ]
      where
        asserted : (kind : ClaimKind) (r : Result (Commodity × ℤ) Cause)
            → amount styles (asserted_in (claim_in part)) ≡ r → value_with_claim a p kind r ≡ Ok v
            → AreNone (amount_faults styles (asserted_in (claim_in part)))
        asserted kind (Ok k) q g = amount_none styles (asserted_in (claim_in part)) k q
        asserted kind (Err d) q g = absurd (not_both (refused {A = Value} d) v d g refl)

    priced : (a : Commodity × ℤ) (r : Result Price Cause) → price styles (price_text_in part) ≡ r
        → with_price styles cut a r ≡ Ok v
        → AreNone (map (where_there (price_text_in part)) (price_faults styles (price_text_in part))
        ++ map (where_there (claim_in part)) (amount_faults styles (asserted_in (claim_in part))))
    priced a (Ok p) q f = both_none (map (where_there (price_text_in part)) (price_faults styles (price_text_in part)))
        (map (where_there (claim_in part)) (amount_faults styles (asserted_in (claim_in part))))
        (none_there (price_text_in part) (price_faults styles (price_text_in part))
        (price_none styles (price_text_in part) p q)) (claims a (Some p) f)
    priced a (Err d) q f = absurd (not_both (refused {A = Value} d) v d f refl)

    amounted : (r : Result (Commodity × ℤ) Cause) → amount styles (amount_text_in part) ≡ r
        → with_amount styles cut r ≡ Ok v
        → AreNone (map (where_there (amount_text_in part)) (amount_faults styles (amount_text_in part))
        ++ (map (where_there (price_text_in part)) (price_faults styles (price_text_in part))
        ++ map (where_there (claim_in part)) (amount_faults styles (asserted_in (claim_in part)))))
    amounted (Err d) q f = absurd (not_both (refused {A = Value} d) v d f refl)
    amounted (Ok a) q f =
        both_none (map (where_there (amount_text_in part)) (amount_faults styles (amount_text_in part)))
        (map (where_there (price_text_in part)) (price_faults styles (price_text_in part))
        ++ map (where_there (claim_in part)) (amount_faults styles (asserted_in (claim_in part))))
        (none_there (amount_text_in part) (amount_faults styles (amount_text_in part))
        (amount_none styles (amount_text_in part) a q))
        (elim (cond_cases (length (price_text_in part) == 0) (claimed styles (claim_in part) a None) _ (Ok v) f) [
          | inl bare ↦ both_none (map (where_there (price_text_in part)) (price_faults styles (price_text_in part)))
              (map (where_there (claim_in part)) (amount_faults styles (asserted_in (claim_in part))))
              (none_absent (price_text_in part) (price_faults styles (price_text_in part))
              (nil_from_empty (price_text_in part) bare.0))
              (claims a None bare.1)
          | inr more ↦ priced a (price styles (price_text_in part)) refl more.1
        ])

pub posting_none : (styles : List Style) (line : List ℕ) (p : Posting) → posting_of styles line ≡ Ok p
    → AreNone (posting_part_faults styles line)
unfolding judged_posting cut_posting
posting_none styles line p e =
    let one = past (nat_lt 900 (length_of (comment_of line))) _ _ p e in
    let two = past (is_virtual (account_name_of line)) _ _ p one.1 in
    let three = past (not (is_account (account_name_of line))) _ _ p two.1 in (
      λ k. (let both = sym two.0 ∙ k in absurd cc),
      (λ k. k (kept (is_account (account_name_of line)) three.0), valued (value_of_cut styles cut) refl three.1),
    )
  where
    cut : PostingCut
    cut =
        cut_part (status_at (trim_start (front_of line))) (account_name_of line) (amount_part_of line) (comment_of line)

    kept : (b : Bool) → not b ≡ false → b ≡ true
    kept true h = refl
    kept false h = absurd cc

    valued : (r : Result Value Cause) → value_of_cut styles cut ≡ r → posting_with_value cut r ≡ Ok p
        → AreNone (value_faults styles (amount_part_of line))
    valued (Ok v) q f =
        value_none styles (status_at (trim_start (front_of line))) (account_name_of line) (amount_part_of line)
        (comment_of line) v q
    valued (Err d) q f = absurd (not_both (refused {A = Posting} d) p d f refl)
