-- a state has room where what it grows into has
use Rattle.std.proofs.Common.{◌≡◌, ℕ, zero, suc, Bool, true, false, List, [], ◌∷◌, ◌++◌, length, refl, ap, ◌∙◌, sym}
use Rattle.std.proofs.Common.{subst, arith, length-append, inl, inr, Option, Some, None}
use Rattle.std.specs.Prelude.{if◌then◌else◌, not, get_or, ◌⊎◌, Result, Ok, Err}
use Rattle.money_core.specs.declared.unit.Declared.{Declared}
use Rattle.money_core.specs.declared.unit.Declared.TheVariants.{New}
use Rattle.money_core.specs.declared.cause.Cause.{Cause}
use Rattle.money_core.specs.declared.cause.Cause.TheVariants.{OutOfMemory}
use Rattle.money_core.specs.Style.{declared, styles_after, is_style, AreStyles}
use Rattle.std.specs.List.{slice_get, AllByRecursion}
use Rattle.std.specs.Option.{unwrap_or}
use Rattle.std.specs.Str.{bytes_eq}
use Rattle.money_core.specs.declared.style.Style.{Style}
use Rattle.money_core.specs.Amount.{place_of}
use Rattle.book_core.specs.GoodBook.{IsFit, IsWithin}
use Rattle.money_core.proofs.PositionLemmas.{position-none, position-append_found}
use Rattle.money_core.proofs.StyleLemmas.{place_of-bound, declared-new}
use Rattle.money_core.proofs.ListLemmas.{all_front, all_last, all_weaker}
use Rattle.money_core.proofs.BytesLemmas.{bytes_eq-refl}
use Rattle.std.proofs.lemmas.List.Sums.{prefix_len_passes}
use Rattle.std.proofs.lemmas.Option.{get_or_from_slice_get, slice_get_within}
use Rattle.book_core.proofs.BookLemmas.{within_left}
use Rattle.treasury_state.specs.declared.record.Record.{Record}
use Rattle.treasury_state.specs.declared.delta.Addition.{Addition}
use Rattle.treasury_state.specs.declared.delta.Addition.TheVariants as add
use Rattle.treasury_state.specs.Federation.{Branch, Federation, entries}
use Rattle.treasury_state.specs.Joined.{new_branch, with_records, with_lock, changed, joined_one, joined}
use Rattle.treasury_state.specs.Good.{IsGoodBranch, IsGoodState}
use Rattle.treasury_state.specs.Room.{FitsLedger, IsRoomy}
use Rattle.treasury_state.proofs.OrderLemmas.{ascending_before_insert, ascending_before_receipt}
use Rattle.treasury_state.proofs.EntriesLemmas.{entries-append}

-- the front of styles
slice_front : (xs ys : List Style) (i : ℕ) (x : Style) → slice_get xs i ≡ Some x → slice_get (xs ++ ys) i ≡ Some x
slice_front [] ys i x h = absurd cc
slice_front (y ∷ xs) ys zero x h = h
slice_front (y ∷ xs) ys (suc i) x h = slice_front xs ys i x h

slice_last : (xs : List Style) (x : Style) → slice_get (xs ++ x ∷ []) (length xs) ≡ Some x
slice_last [] x = refl
slice_last (y ∷ xs) x = slice_last xs x

not_true : (t : Bool) → t ≡ true → not t ≡ true → ⊥
not_true true e h = let k : false ≡ true = h in cc
not_true false e h = cc

some_same : (i j : ℕ) → ◌≡◌ {A = Option ℕ} (Some i) (Some j) → i ≡ j
some_same i j e = ap (λ (o : Option ℕ). unwrap_or o 0) e

found_back : (styles : List Style) (style s : Style) (i : ℕ) (o : Option ℕ) → AreStyles (styles ++ style ∷ [])
    → slice_get styles i ≡ Some s → place_of styles s.symbol ≡ o → o ≡ Some i
found_back styles style s i (Some j) are h e =
    sym (position-append_found (λ (x : Style). bytes_eq x.symbol s.symbol) styles (style ∷ []) j e) ∙ are.found i s
    (slice_front styles (style ∷ []) i s h)
found_back styles style s i None are h e =
    let p = λ (x : Style). bytes_eq x.symbol s.symbol in
    let all = position-none p styles e in
    let here =
    prefix_len_passes (λ (x : Style). not (p x)) styles i s (omega (arith, all, slice_get_within styles i s h)) in
    absurd
    (not_true (p (get_or styles i s)) (ap p (get_or_from_slice_get styles i s s h) ∙ bytes_eq-refl s.symbol) here)

pub styles_back : (styles : List Style) (style : Style) → AreStyles (styles ++ style ∷ []) → AreStyles styles
styles_back styles style are = record {
  each = λ i s h. are.each i s (slice_front styles (style ∷ []) i s h);
  found = λ i s h. found_back styles style s i (place_of styles s.symbol) are h refl;
  few = omega (arith, are.few, length-append styles (style ∷ []));
}

-- the last style is new to those before it
pub last_is : (styles : List Style) (style : Style) → AreStyles (styles ++ style ∷ []) → is_style style ≡ true
last_is styles style are = are.each (length styles) style (slice_last styles style)

free_at : (styles : List Style) (style : Style) (o : Option ℕ) → AreStyles (styles ++ style ∷ [])
    → place_of styles style.symbol ≡ o → o ≡ None
free_at styles style None are e = refl
free_at styles style (Some j) are e =
    let same = some_same j (length styles)
    (sym (position-append_found (λ (x : Style). bytes_eq x.symbol style.symbol) styles (style ∷ []) j e) ∙ are.found
    (length styles) style (slice_last styles style)) in
    absurd (let low = place_of-bound styles style.symbol j e in omega (arith, low, same))

pub last_new : (styles : List Style) (style : Style) → AreStyles (styles ++ style ∷ [])
    → declared styles style ≡ Ok (New (record { 0 = length styles }))
last_new styles style are =
    declared-new styles style (free_at styles style (place_of styles style.symbol) are refl)
    (omega (arith, are.few, length-append styles (style ∷ [])))

-- a branch with one record less
pub room_before : (b : Branch) (r : Record) → FitsLedger (with_records (r ∷ []) b) → FitsLedger b
room_before b r h = record {
  fit = all_front IsFit (entries b.records) (r.entry ∷ [])
      (subst (AllByRecursion IsFit) (entries-append b.records (r ∷ [])) h.fit);
  within =
      within_left (entries b.records) (r.entry ∷ []) (subst IsWithin (entries-append b.records (r ∷ [])) h.within);
}

pub room_fit : (b : Branch) (r : Record) → FitsLedger (with_records (r ∷ []) b) → IsFit r.entry
room_fit b r h =
    all_last IsFit (entries b.records) r.entry (subst (AllByRecursion IsFit) (entries-append b.records (r ∷ [])) h.fit)

pub room_within : (b : Branch) (r : Record) → FitsLedger (with_records (r ∷ []) b)
    → IsWithin (entries b.records ++ r.entry ∷ [])
room_within b r h = subst IsWithin (entries-append b.records (r ∷ [])) h.within

back_at : (g : Branch → Branch) (b : Branch) (bs xs : List Branch) (t : Bool)
    → ((x : Branch) → FitsLedger (g x) → FitsLedger x) → (AllByRecursion FitsLedger xs → AllByRecursion FitsLedger bs)
    → AllByRecursion FitsLedger (if t then g b ∷ bs else b ∷ xs) → AllByRecursion FitsLedger (b ∷ bs)
back_at g b bs xs true p k h = (p b h.0, h.1)
back_at g b bs xs false p k h = (h.0, k h.1)

back_changed : (g : Branch → Branch) (name : List ℕ) (bs : List Branch)
    → ((x : Branch) → FitsLedger (g x) → FitsLedger x)
    → AllByRecursion FitsLedger (changed g name bs) → AllByRecursion FitsLedger bs
back_changed g name [] p h = tt
back_changed g name (b ∷ bs) p h =
    back_at g b bs (changed g name bs) (bytes_eq b.name name) p (back_changed g name bs p) h

room_one : (f : Federation) (x : Addition) → IsRoomy (joined_one f x) → IsRoomy f
room_one f (add.Commodity style) h =
    record { styles = styles_back f.styles style h.styles; branches = h.branches; ids = h.ids }
room_one f (add.Branch name) h =
    record {
      styles = h.styles;
      branches = all_front FitsLedger f.branches (new_branch name ∷ []) h.branches;
      ids = h.ids;
    }
room_one f (add.Record name r) h =
    record {
      styles = h.styles;
      branches = back_changed (with_records (r ∷ [])) name f.branches (λ b k. room_before b r k) h.branches;
      ids = h.ids;
    }
room_one f (add.Dispatched t) h =
    record { styles = h.styles; branches = h.branches; ids = ascending_before_insert t f.transfers h.ids }
room_one f (add.Received id p) h =
    record { styles = h.styles; branches = h.branches; ids = ascending_before_receipt id p f.transfers h.ids }
room_one f (add.Locked name day) h =
    record {
      styles = h.styles;
      branches = back_changed (with_lock day) name f.branches (λ b k. record { fit = k.fit; within = k.within })
          h.branches;
      ids = h.ids;
    }

pub room_back : (xs : List Addition) (f : Federation) → IsRoomy (joined f xs) → IsRoomy f
room_back [] f h = h
room_back (x ∷ xs) f h = room_one f x (room_back xs (joined_one f x) h)

pub good_room : (f : Federation) → IsGoodState f → IsRoomy f
good_room f good = record {
  styles = good.styles;
  branches = all_weaker (IsGoodBranch f.styles) FitsLedger f.branches
      (λ b h. record { fit = h.book.fit; within = h.book.within }) good.branches;
  ids = good.ids;
}

abbrev no_memory : Result Declared Cause
no_memory = Err OutOfMemory

abbrev refused : Cause → Result Declared Cause
refused cause = Err cause

abbrev new_style : List Style → Result Declared Cause
new_style styles = Ok (New (record { 0 = length styles }))

-- what declaring such a style answers
pub declare_appends : (styles new : List Style) (style : Style) (r : Result Declared Cause) (x : Declared)
    → AreStyles (styles ++ style ∷ []) → (r ≡ declared styles style) ⊎ (r ≡ Err OutOfMemory) → r ≡ Ok x
    → new ≡ styles_after styles style r
    → new ≡ styles ++ style ∷ []
declare_appends styles new style r x are (inl e) k h =
    h ∙ ap (styles_after styles style) (e ∙ last_new styles style are)
declare_appends styles new style r x are (inr e) k h = absurd (let m : Ok x ≡ no_memory = sym k ∙ e in cc)

abbrev cause_in : Cause → Result Declared Cause → Cause
cause_in d (Ok x) = d
cause_in d (Err cause) = cause

pub declare_fails : (styles : List Style) (style : Style) (r : Result Declared Cause) (cause : Cause)
    → AreStyles (styles ++ style ∷ []) → (r ≡ declared styles style) ⊎ (r ≡ Err OutOfMemory) → r ≡ Err cause
    → cause ≡ OutOfMemory
declare_fails styles style r cause are (inl e) k =
    absurd (let m : refused cause ≡ new_style styles = sym k ∙ (e ∙ last_new styles style are) in cc)
declare_fails styles style r cause are (inr e) k = ap (cause_in cause) (sym k ∙ e)

-- a list without length
pub no_more : (xs : List Addition) → length xs ≡ 0 → xs ≡ []
no_more [] h = refl
no_more (x ∷ xs) h = absurd (omega (arith, h))
