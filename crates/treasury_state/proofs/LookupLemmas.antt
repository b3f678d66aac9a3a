-- lists of records with the same look-ups have the same sums
use Rattle.std.proofs.Common.{◌≡◌, ℕ, Bool, true, false, cond, List, [], ◌∷◌, ◌++◌, ℤ, pos, ◌+ℤ◌, refl, ap, ◌∙◌, sym}
use Rattle.std.proofs.Common.{subst, arith, Option, Some, None}
use Rattle.std.specs.Prelude.{if◌then◌else◌, filter}
use Rattle.std.specs.Option.{unwrap_or}
use Rattle.std.specs.List.{AllByRecursion}
use Rattle.std.specs.Str.{bytes_eq}
use Rattle.std.proofs.lemmas.Int.{ints}
use Rattle.money_core.proofs.BytesLemmas.{bytes_eq-refl, same_bytes}
use Rattle.treasury_state.specs.declared.record.Record.{Record}
use Rattle.treasury_state.specs.Mark.{held, HaveOwnMarks}
use Rattle.treasury_state.proofs.HeldLemmas.{none_tail}

-- a number of each record, summed
abbrev pub total_of : (Record → ℤ) → List Record → ℤ
total_of f [] = pos 0
total_of f (r ∷ rs) = f r +ℤ total_of f rs

pub same_some : (x y : Record) → ◌≡◌ {A = Option Record} (Some x) (Some y) → x ≡ y
same_some x y e = ap (λ (o : Option Record). unwrap_or o x) e

-- without the records of a mark
abbrev pub others : List ℕ → List Record → List Record
others k [] = []
others k (r ∷ rs) = if bytes_eq r.mark k then others k rs else r ∷ others k rs

kept_at : (k m : List ℕ) (r : Record) (rs : List Record) (t : Bool) → bytes_eq r.mark k ≡ t → bytes_eq k m ≡ false
    → held (others k rs) m ≡ held rs m → held (if t then others k rs else r ∷ others k rs) m ≡ held (r ∷ rs) m
kept_at k m r rs true e f h = h ∙ sym
    (ap (λ (b : Bool). cond b (Some r) (held rs m)) (ap (λ (x : List ℕ). bytes_eq x m) (same_bytes r.mark k e) ∙ f))
kept_at k m r rs false e f h = ap (λ (o : Option Record). cond (bytes_eq r.mark m) (Some r) o) h

-- other marks stay
pub held-others : (k m : List ℕ) (rs : List Record) → bytes_eq k m ≡ false → held (others k rs) m ≡ held rs m
held-others k m [] f = refl
held-others k m (r ∷ rs) f = kept_at k m r rs (bytes_eq r.mark k) refl f (held-others k m rs f)

gone_at : (k : List ℕ) (r : Record) (rs : List Record) (t : Bool) → bytes_eq r.mark k ≡ t → held (others k rs) k ≡ None
    → held (if t then others k rs else r ∷ others k rs) k ≡ None
gone_at k r rs true e h = h
gone_at k r rs false e h = ap (λ (b : Bool). cond b (Some r) (held (others k rs) k)) e ∙ h

pub held_others : (k : List ℕ) (rs : List Record) → held (others k rs) k ≡ None
held_others k [] = refl
held_others k (r ∷ rs) = gone_at k r rs (bytes_eq r.mark k) refl (held_others k rs)

none_at : (k m : List ℕ) (r : Record) (rs : List Record) (t : Bool) → bytes_eq r.mark m ≡ false
    → held (others k rs) m ≡ None → held (if t then others k rs else r ∷ others k rs) m ≡ None
none_at k m r rs true f h = h
none_at k m r rs false f h = ap (λ (b : Bool). cond b (Some r) (held (others k rs) m)) f ∙ h

none-others : (k m : List ℕ) (rs : List Record) → held rs m ≡ None → held (others k rs) m ≡ None
none-others k m [] e = refl
none-others k m (r ∷ rs) e = let n =
    none_tail r (held rs m) (bytes_eq r.mark m) e in none_at k m r rs (bytes_eq r.mark k) n.0 (none-others k m rs n.1)

own_at : (k : List ℕ) (r : Record) (rs : List Record) (t : Bool) → held (others k rs) r.mark ≡ None
    → HaveOwnMarks (others k rs) → HaveOwnMarks (if t then others k rs else r ∷ others k rs)
own_at k r rs true n h = h
own_at k r rs false n h = (n, h)

own-others : (k : List ℕ) (rs : List Record) → HaveOwnMarks rs → HaveOwnMarks (others k rs)
own-others k [] h = tt
own-others k (r ∷ rs) h = own_at k r rs (bytes_eq r.mark k) (none-others k r.mark rs h.0) (own-others k rs h.1)

others_at : (k : List ℕ) (r : Record) (rs : List Record) (t : Bool) → t ≡ false → others k rs ≡ rs
    → (if t then others k rs else r ∷ others k rs) ≡ r ∷ rs
others_at k r rs true e h = absurd cc
others_at k r rs false e h = ap (λ (xs : List Record). r ∷ xs) h

others-none : (k : List ℕ) (rs : List Record) → held rs k ≡ None → others k rs ≡ rs
others-none k [] e = refl
others-none k (r ∷ rs) e = let n =
    none_tail r (held rs k) (bytes_eq r.mark k) e in others_at k r rs (bytes_eq r.mark k) n.0 (others-none k rs n.1)

taken_at : (f : Record → ℤ) (k : List ℕ) (r : Record) (rs : List Record) (y : Record) (t : Bool) → bytes_eq r.mark k ≡ t
    → HaveOwnMarks (r ∷ rs) → cond t (Some r) (held rs k) ≡ Some y
    → (held rs k ≡ Some y → total_of f rs ≡ f y +ℤ total_of f (others k rs))
    → f r +ℤ total_of f rs ≡ f y +ℤ total_of f (if t then others k rs else r ∷ others k rs)
taken_at f k r rs y true e h s i =
    ap (λ (x : Record). f x +ℤ total_of f rs) (same_some r y s) ∙ ap (λ (xs : List Record). f y +ℤ total_of f xs)
    (sym (others-none k rs (ap (held rs) (sym (same_bytes r.mark k e)) ∙ h.0)))
taken_at f k r rs y false e h s i = let j = i s in omega (arith, ints)

total-others : (f : Record → ℤ) (k : List ℕ) (rs : List Record) (y : Record) → HaveOwnMarks rs → held rs k ≡ Some y
    → total_of f rs ≡ f y +ℤ total_of f (others k rs)
total-others f k [] y h s = absurd cc
total-others f k (r ∷ rs) y h s = taken_at f k r rs y (bytes_eq r.mark k) refl h s (total-others f k rs y h.1)

pub first_held : (x : Record) (xs : List Record) → held (x ∷ xs) x.mark ≡ Some x
first_held x xs = ap (λ (b : Bool). cond b (Some x) (held xs x.mark)) (bytes_eq-refl x.mark)

none_held : (ys : List Record) → ((m : List ℕ) → None ≡ held ys m) → ys ≡ []
none_held [] h = refl
none_held (y ∷ ys) h = let e = h y.mark ∙ first_held y ys in absurd cc

rest_same : (x : Record) (xs ys : List Record) (m : List ℕ) (t : Bool) → bytes_eq x.mark m ≡ t → held xs x.mark ≡ None
    → held (x ∷ xs) m ≡ held ys m → held xs m ≡ held (others x.mark ys) m
rest_same x xs ys m true e n h =
    let P : List ℕ → Type 0 = λ k. held xs k ≡ held (others x.mark ys) k in
    subst P (same_bytes x.mark m e) (n ∙ sym (held_others x.mark ys))
rest_same x xs ys m false e n h =
    sym (ap (λ (b : Bool). cond b (Some x) (held xs m)) e) ∙ h ∙ sym (held-others x.mark m ys e)

pub same_total : (f : Record → ℤ) (xs ys : List Record) → HaveOwnMarks xs → HaveOwnMarks ys
    → ((m : List ℕ) → held xs m ≡ held ys m) → total_of f xs ≡ total_of f ys
same_total f [] ys hx hy h = ap (total_of f) (sym (none_held ys h))
same_total f (x ∷ xs) ys hx hy h =
    ap (λ (z : ℤ). f x +ℤ z) (same_total f xs (others x.mark ys) hx.1 (own-others x.mark ys hy)
    (λ m. rest_same x xs ys m (bytes_eq x.mark m) refl hx.0 (h m)))
    ∙ sym (total-others f x.mark ys x hy (sym (h x.mark) ∙ first_held x xs))

-- of some records only
filter_none_at : (p : Record → Bool) (r : Record) (rs : List Record) (m : List ℕ) (t : Bool) → bytes_eq r.mark m ≡ false
    → held (filter p rs) m ≡ None → held (cond t (r ∷ filter p rs) (filter p rs)) m ≡ None
filter_none_at p r rs m true f h = ap (λ (b : Bool). cond b (Some r) (held (filter p rs) m)) f ∙ h
filter_none_at p r rs m false f h = h

filter_none : (p : Record → Bool) (rs : List Record) (m : List ℕ) → held rs m ≡ None → held (filter p rs) m ≡ None
filter_none p [] m e = refl
filter_none p (r ∷ rs) m e =
    let n = none_tail r (held rs m) (bytes_eq r.mark m) e in filter_none_at p r rs m (p r) n.0 (filter_none p rs m n.1)

filter_own_at : (p : Record → Bool) (r : Record) (rs : List Record) (t : Bool) → held (filter p rs) r.mark ≡ None
    → HaveOwnMarks (filter p rs) → HaveOwnMarks (cond t (r ∷ filter p rs) (filter p rs))
filter_own_at p r rs true n h = (n, h)
filter_own_at p r rs false n h = h

pub filter_own : (p : Record → Bool) (rs : List Record) → HaveOwnMarks rs → HaveOwnMarks (filter p rs)
filter_own p [] h = tt
filter_own p (r ∷ rs) h = filter_own_at p r rs (p r) (filter_none p rs r.mark h.0) (filter_own p rs h.1)

filter_total_at : (f : Record → ℤ) (p : Record → Bool) (r : Record) (rs : List Record) (t : Bool)
    → (t ≡ false → f r ≡ pos 0) → total_of f (filter p rs) ≡ total_of f rs
    → total_of f (cond t (r ∷ filter p rs) (filter p rs)) ≡ f r +ℤ total_of f rs
filter_total_at f p r rs true z h = ap (λ (x : ℤ). f r +ℤ x) h
filter_total_at f p r rs false z h = let e = z refl in omega (arith, ints)

pub filter_total : (f : Record → ℤ) (p : Record → Bool) (rs : List Record)
    → AllByRecursion (λ (r : Record). p r ≡ false → f r ≡ pos 0) rs → total_of f (filter p rs) ≡ total_of f rs
filter_total f p [] h = refl
filter_total f p (r ∷ rs) h = filter_total_at f p r rs (p r) h.0 (filter_total f p rs h.1)

pub total_of-append : (f : Record → ℤ) (xs ys : List Record) → total_of f (xs ++ ys) ≡ total_of f xs +ℤ total_of f ys
total_of-append f [] ys = omega (arith, ints)
total_of-append f (x ∷ xs) ys = let h = total_of-append f xs ys in omega (arith, ints)
