-- styles, read from the rows of commodities
use Rattle.std.proofs.Common.{◌≡◌, ◌<◌, ◌^◌, ◌⊎◌, ℕ, ℤ, pos, Bool, true, false, List, [], ◌∷◌, ◌++◌, length, get_or}
use Rattle.std.proofs.Common.{refl, ap, ◌∙◌, sym, subst, arith, append_assoc, append-nil, inl, inr, Ok, Err, FitsSigned}
use Rattle.std.proofs.Common.{w64, to_z, of_z}
use Rattle.std.specs.Prelude.{Result}
use Rattle.std.proofs.lemmas.Bool.{and_parts, leb-true}
use Rattle.std.proofs.lemmas.Int.{to_z-of_z}
use Rattle.money_core.specs.declared.cause.Cause.{Cause}
use Rattle.money_core.specs.declared.cause.Cause.TheVariants.{OutOfMemory, Damaged}
use Rattle.money_core.specs.declared.mark.Mark.{Mark}
use Rattle.money_core.specs.declared.style.Style.{Style}
use Rattle.money_core.specs.declared.unit.Declared.{Declared}
use Rattle.money_core.specs.declared.unit.Declared.TheVariants.{Same}
use Rattle.money_core.specs.declared.unit.Unit.{Unit as Commodity}
use Rattle.money_core.specs.Mark.{decimal_byte}
use Rattle.money_core.specs.Symbol.{is_symbol}
use Rattle.money_core.specs.Style.{is_style, declared, AreStyles}
use Rattle.treasury_state.specs.declared.rows.UnitRow.{UnitRow}
use Rattle.treasury_state.specs.Rows.{truth, unit_row}
use Rattle.treasury_state.proofs.BackLemmas.{styles_back, last_is, last_new}
use Rattle.treasury_state.proofs.RestLemmas.{numbered}
use Rattle.treasury_state.proofs.UnitRowLemmas.{same_style}
use Rattle.treasury_rows.specs.Drafted.{IsFault}
use Rattle.treasury_rows.proofs.DraftLemmas.{fault_of, IsFront, front_item}

-- the front of styles
pub styles_front : (xs ys : List Style) → AreStyles (xs ++ ys) → AreStyles xs
styles_front xs [] are = subst AreStyles (append-nil xs) are
styles_front xs (y ∷ ys) are =
    styles_back xs y (styles_front (xs ++ y ∷ []) ys (subst AreStyles (sym (append_assoc xs (y ∷ []) ys)) are))

pub styles_more : (done xs rest : List Style) (y : Style) → AreStyles xs → xs ≡ done ++ y ∷ rest
    → AreStyles (done ++ y ∷ [])
styles_more done xs rest y are e =
    styles_front (done ++ y ∷ []) rest (subst AreStyles (e ∙ sym (append_assoc done (y ∷ []) rest)) are)

pub style_middle : (done xs rest : List Style) (y : Style) → AreStyles xs → xs ≡ done ++ y ∷ rest → is_style y ≡ true
style_middle done xs rest y are e = last_is done y (styles_more done xs rest y are e)

-- what a row of a commodity says of its style
abbrev pub IsUnitRow : ℕ → UnitRow → Style → Type 0
IsUnitRow nr row s = (is_style s ≡ true) × (unit_row nr s ≡ row)

pub small_decimals : (s : Style) → is_style s ≡ true → s.decimals < 2 ^ 8
small_decimals s h = let few = leb-true s.decimals 6 (and_parts (is_symbol s.symbol) _ h).1 in omega (arith, few)

-- a number of a row, as it is passed on
abbrev pub passed : ℤ → ℤ
passed z = to_z w64 (of_z w64 z)

pub decimals_fault : (nr : ℕ) (row : UnitRow) (e : Cause) → FitsSigned w64 row.decimals
    → IsFault (λ (n : ℕ). (n < 2 ^ 8) × (pos n ≡ passed row.decimals)) e → IsFault (IsUnitRow nr row) e
decimals_fault nr row e fits h =
    fault_of (IsUnitRow nr row) (λ (n : ℕ). (n < 2 ^ 8) × (pos n ≡ passed row.decimals)) e
    (λ s p. (
      s.decimals,
      (
        small_decimals s p.0,
        ap (λ (r : UnitRow). r.decimals) p.1 ∙ sym (to_z-of_z w64 row.decimals fits),
      ),
    )) h

-- the parts of a style, each the only one with its column
pub record ReadsStyle (row : UnitRow) (t : Style) : Type 0 where
  pub fit_decimals : FitsSigned w64 row.decimals
  pub fit_grouped : FitsSigned w64 row.grouped
  pub fit_leftside : FitsSigned w64 row.leftside
  pub fit_spaced : FitsSigned w64 row.spaced
  pub symbol : t.symbol ≡ row.symbol
  pub decimals : (n : ℕ) → (n < 2 ^ 8) × (pos n ≡ passed row.decimals) → n ≡ t.decimals
  pub mark : (m : Mark) → decimal_byte m ∷ [] ≡ row.mark → m ≡ t.mark
  pub grouped : (b : Bool) → truth b ≡ passed row.grouped → b ≡ t.grouped
  pub left : (b : Bool) → truth b ≡ passed row.leftside → b ≡ t.left
  pub spaced : (b : Bool) → truth b ≡ passed row.spaced → b ≡ t.spaced

pub style_only : (nr : ℕ) (row : UnitRow) (t : Style) → ReadsStyle row t → (s : Style) → IsUnitRow nr row s → s ≡ t
style_only nr row t h s p =
    let e = p.1 in
    same_style s t (ap (λ (r : UnitRow). r.symbol) e ∙ sym h.symbol)
    (h.left s.left (ap (λ (r : UnitRow). r.leftside) e ∙ sym (to_z-of_z w64 row.leftside h.fit_leftside)))
    (h.spaced s.spaced (ap (λ (r : UnitRow). r.spaced) e ∙ sym (to_z-of_z w64 row.spaced h.fit_spaced)))
    (h.mark s.mark (ap (λ (r : UnitRow). r.mark) e))
    (h.decimals s.decimals (
      small_decimals s p.0,
      ap (λ (r : UnitRow). r.decimals) e ∙ sym (to_z-of_z w64 row.decimals h.fit_decimals),
    ))
    (h.grouped s.grouped (ap (λ (r : UnitRow). r.grouped) e ∙ sym (to_z-of_z w64 row.grouped h.fit_grouped)))

pub style_damaged : (nr : ℕ) (row : UnitRow) (t : Style) → ReadsStyle row t → is_style t ≡ false
    → IsFault (IsUnitRow nr row) Damaged
style_damaged nr row t h bad =
    inr (refl, λ s p. let e : true ≡ false = sym p.0 ∙ (ap is_style (style_only nr row t h s p) ∙ bad) in cc)

-- a style that is not declared as a new one cannot come next
pub same_not_new : (styles : List Style) (style : Style) (d : Declared) (unit : Commodity) → d ≡ Same unit
    → ◌≡◌ {A = Result Declared Cause} (Ok d) (declared styles style)
    ⊎ ◌≡◌ {A = Result Declared Cause} (Ok d) (Err OutOfMemory)
    → AreStyles (styles ++ style ∷ []) → ⊥
same_not_new styles style d unit e (inl h) are = let m = h ∙ last_new styles style are in cc
same_not_new styles style d unit e (inr h) are = cc

pub err_not_new : (styles : List Style) (style : Style) (x r : Cause)
    → ((x ≡ OutOfMemory) × (r ≡ OutOfMemory)) ⊎ ((x ≡ OutOfMemory → ⊥) × (r ≡ Damaged))
    → ◌≡◌ {A = Result Declared Cause} (Err x) (declared styles style)
    ⊎ ◌≡◌ {A = Result Declared Cause} (Err x) (Err OutOfMemory)
    → (r ≡ OutOfMemory) ⊎ ((r ≡ Damaged) × (AreStyles (styles ++ style ∷ []) → ⊥))
err_not_new styles style x r (inl d) h = inl d.1
err_not_new styles style x r (inr d) (inl h) = inr (d.1, λ are. let m = h ∙ last_new styles style are in cc)
err_not_new styles style x r (inr d) (inr h) = absurd (d.0 (let k : x ≡ OutOfMemory = cc in k))

pub new_fault : (rows : List UnitRow) (n i nr : ℕ) (done : List Style) (row : UnitRow) (x : Style) (e : Cause)
    → i < length rows → row ≡ get_or rows i row → nr ≡ n
    → ((y : Style) → IsUnitRow nr row y → y ≡ x) → IsFront unit_row AreStyles 0 rows n i done
    → (e ≡ OutOfMemory) ⊎ ((e ≡ Damaged) × (AreStyles (done ++ x ∷ []) → ⊥))
    → IsFault (λ ss. AreStyles ss × (numbered unit_row 0 ss ≡ rows)) e
new_fault rows n i nr done row x e h is at only front (inl m) = inl m
new_fault rows n i nr done row x e h is at only front (inr d) = inr (
  d.0,
  λ ss p.
      let nx = front_item unit_row AreStyles 0 rows n i done row h is front ss p.0 p.1 in
      let same : nx.item ≡ x = only nx.item
      (style_middle done ss nx.rest nx.item p.0 nx.split, ap (λ (k : ℕ). unit_row k nx.item) at ∙ nx.here) in
      d.1 (subst (λ (y : Style). AreStyles (done ++ y ∷ [])) same (styles_more done ss nx.rest nx.item p.0 nx.split)),
)
