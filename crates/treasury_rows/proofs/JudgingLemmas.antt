-- what a draft is judged by
use Rattle.std.proofs.Common.{◌≡◌, ◌≤◌, ◌<◌, ◌+◌, ◌-◌, ℕ, suc, Bool, true, false, cond, List, [], ◌∷◌, ◌++◌, length}
use Rattle.std.proofs.Common.{take, drop, get_or, refl, ap, ◌∙◌, sym, subst, arith, drop-cons, Option, Some, None}
use Rattle.std.specs.Prelude.{◌↔◌, find, is_some, unsigned_abs}
use Rattle.std.specs.List.{AllByRecursion, position_from}
use Rattle.std.specs.Str.{bytes_eq}
use Rattle.std.proofs.lemmas.List.{take-append-drop, take_more}
use Rattle.money_core.specs.Amount.{limit}
use Rattle.money_core.specs.declared.style.Style.{Style}
use Rattle.money_core.specs.Style.{AreStyles}
use Rattle.money_core.proofs.ListLemmas.{all_weaker}
use Rattle.money_core.proofs.BytesLemmas.{other_bytes}
use Rattle.book_core.specs.declared.entry.Entry.{Entry}
use Rattle.book_core.specs.declared.refusal.Refusal.{Refusal}
use Rattle.book_core.specs.Account.{name_cmp}
use Rattle.book_core.specs.GoodBook.{IsGoodBook, verdict}
use Rattle.book_core.proofs.AccountListLemmas.{is_less}
use Rattle.book_core.proofs.GoodBookLemmas.{verdict_good}
use Rattle.treasury_state.specs.declared.record.Record.{Record}
use Rattle.treasury_state.specs.declared.transfer.Part.{Part}
use Rattle.treasury_state.specs.declared.transfer.Transfer.{Transfer}
use Rattle.treasury_state.specs.Federation.{Branch, Federation, most_branches}
use Rattle.treasury_state.specs.Mark.{has_mark, held, HaveOwnMarks}
use Rattle.treasury_state.specs.Transfer.{has_id}
use Rattle.treasury_state.specs.Good.{IsGoodBranch, IsGoodTransfer, IsCarried, HaveOwnNames, AreAscending, AreKeyed}
use Rattle.treasury_state.specs.Good.{IsGoodState}
use Rattle.treasury_state.specs.Room.{is_before, is_key_before}
use Rattle.treasury_state.proofs.HeldLemmas.{none_tail, own_push}
use Rattle.treasury_state.proofs.PartLemmas.{keys_after}
use Rattle.treasury_state.proofs.OrderLemmas.{all_after}
use Rattle.treasury_state.proofs.NotLemmas.{transfer_small}
use Rattle.treasury_state.proofs.EachFoundLemmas.{all_found}

-- ---- transfers in order, two by two
pub AreAscending-cons : (a b : Transfer) (ts : List Transfer) → is_before b.id a ≡ true → AreAscending (b ∷ ts)
    → AreAscending (a ∷ b ∷ ts)
AreAscending-cons a b ts e h = let less = is_less (name_cmp a.id b.id) e in ((less, all_after a.id b.id ts less h.0), h)

-- from one place on, and from the next
pub ascends_next : (ts : List Transfer) (i : ℕ) (a b : Transfer) → 1 ≤ i → i < length ts → a ≡ get_or ts (i - 1) a
    → b ≡ get_or ts i b → is_before b.id a ≡ true
    → (AreAscending (drop (i - 1) ts) ↔ AreAscending ts) → AreAscending (drop (i + 1 - 1) ts) ↔ AreAscending ts
ascends_next ts i a b low high ea eb e h =
    let rest = drop (suc i) ts in
    let next : i + 1 - 1 ≡ i = omega arith in
    let back : suc (i - 1) ≡ i = omega arith in
    let before : i - 1 < length ts = omega arith in
    let one : drop (i + 1 - 1) ts ≡ b ∷ rest =
    ap (λ (n : ℕ). drop n ts) next ∙ (drop-cons ts i b high ∙ ap (λ (x : Transfer). x ∷ rest) (sym eb)) in
    let two : drop (i - 1) ts ≡ a ∷ b ∷ rest =
    drop-cons ts (i - 1) a before ∙ (ap (λ (x : Transfer). x ∷ drop (suc (i - 1)) ts) (sym ea)
    ∙ (ap (λ (n : ℕ). a ∷ drop n ts) (back ∙ sym next) ∙ ap (λ (xs : List Transfer). a ∷ xs) one)) in (
      λ k. h.0 (subst AreAscending (sym two) (AreAscending-cons a b rest e (subst AreAscending one k))),
      λ k.
          subst AreAscending (sym one) (subst AreAscending two (h.1 k)).1,
    )

pub one_ascends : (ts : List Transfer) → length ts ≤ 1 → AreAscending ts
one_ascends [] h = tt
one_ascends (t ∷ []) h = (tt, tt)
one_ascends (t ∷ u ∷ ts) h = absurd (omega (arith, h))

-- and parts
pub keys_ascend : (a b : Part) (ps : List Part) → is_key_before b.key a ≡ true → AreKeyed (b ∷ ps)
    → AreKeyed (a ∷ b ∷ ps)
keys_ascend a b ps e h =
    let first = is_less (name_cmp a.key b.key) e in ((first, keys_after a.key b.key ps first h.0), h)

pub keys_ascend_next : (ps : List Part) (i : ℕ) (a b : Part) → 1 ≤ i → i < length ps → a ≡ get_or ps (i - 1) a
    → b ≡ get_or ps i b → is_key_before b.key a ≡ true
    → (AreKeyed (drop (i - 1) ps) ↔ AreKeyed ps) → AreKeyed (drop (i + 1 - 1) ps) ↔ AreKeyed ps
keys_ascend_next ps i a b low high ea eb e h =
    let rest = drop (suc i) ps in
    let next : i + 1 - 1 ≡ i = omega arith in
    let back : suc (i - 1) ≡ i = omega arith in
    let before : i - 1 < length ps = omega arith in
    let one : drop (i + 1 - 1) ps ≡ b ∷ rest =
    ap (λ (n : ℕ). drop n ps) next ∙ (drop-cons ps i b high ∙ ap (λ (x : Part). x ∷ rest) (sym eb)) in
    let two : drop (i - 1) ps ≡ a ∷ b ∷ rest =
    drop-cons ps (i - 1) a before ∙ (ap (λ (x : Part). x ∷ drop (suc (i - 1)) ps) (sym ea)
    ∙ (ap (λ (n : ℕ). a ∷ drop n ps) (back ∙ sym next) ∙ ap (λ (xs : List Part). a ∷ xs) one)) in (
      λ k. h.0 (subst AreKeyed (sym two) (keys_ascend a b rest e (subst AreKeyed one k))),
      λ k.
          subst AreKeyed (sym one) (subst AreKeyed two (h.1 k)).1,
    )

pub one_key_ascends : (ps : List Part) → length ps ≤ 1 → AreKeyed ps
one_key_ascends [] h = tt
one_key_ascends (p ∷ []) h = (tt, tt)
one_key_ascends (p ∷ q ∷ ps) h = absurd (omega (arith, h))

-- each quantity of a good state is within the limit
pub all_small : (f : Federation) → IsGoodState f
    → AllByRecursion (λ (t : Transfer). unsigned_abs t.qty ≤ limit) f.transfers
all_small f good =
    all_weaker (λ (t : Transfer). find (has_id t.id) f.transfers ≡ Some t)
    (λ (t : Transfer). unsigned_abs t.qty ≤ limit) f.transfers (λ t here. transfer_small f t.id t good here)
    (all_found f.transfers good.ids)

-- ---- marks that stand once
none_among : (xs ys : List Record) (r : Record) (m : List ℕ) → held (xs ++ r ∷ ys) m ≡ None → bytes_eq r.mark m ≡ false
none_among [] ys r m e = (none_tail r (held ys m) (bytes_eq r.mark m) e).0
none_among (x ∷ xs) ys r m e = none_among xs ys r m (none_tail x (held (xs ++ r ∷ ys) m) (bytes_eq x.mark m) e).1

own_front : (xs ys : List Record) (r : Record) → HaveOwnMarks (xs ++ r ∷ ys) → held xs r.mark ≡ None
own_front [] ys r h = refl
own_front (x ∷ xs) ys r h =
    ap (λ (b : Bool). cond b (Some x) (held xs r.mark)) (other_bytes r.mark x.mark (none_among xs ys r x.mark h.0)) ∙
    own_front xs ys r h.1

position_of_unheld : (rs : List Record) (m : List ℕ) (k : ℕ) → held rs m ≡ None → position_from (has_mark m) k rs ≡ None
position_of_unheld [] m k e = refl
position_of_unheld (r ∷ rs) m k e =
    let n = none_tail r (held rs m) (bytes_eq r.mark m) e in
    ap (λ (b : Bool). cond b (Some k) (position_from (has_mark m) (k + 1) rs)) n.0 ∙ position_of_unheld rs m (k + 1) n.1

rest_is : (rs : List Record) (i : ℕ) (r : Record) → i < length rs → r ≡ get_or rs i r
    → rs ≡ take i rs ++ r ∷ drop (suc i) rs
rest_is rs i r h e = sym (take-append-drop i rs) ∙ ap (λ (xs : List Record). take i rs ++ xs)
    (drop-cons rs i r h ∙ ap (λ (x : Record). x ∷ drop (suc i) rs) (sym e))

pub front_is : (rs : List Record) (i : ℕ) (r : Record) → i < length rs → r ≡ get_or rs i r
    → take (i + 1) rs ≡ take i rs ++ r ∷ []
front_is rs i r h e = take_more rs i r h ∙ ap (λ (x : Record). take i rs ++ x ∷ []) (sym e)

-- the mark of a record that stands after others is not theirs
pub own_place : (rs : List Record) (i : ℕ) (r : Record) → i < length rs → r ≡ get_or rs i r → HaveOwnMarks rs
    → position_from (has_mark r.mark) 0 (take i rs) ≡ None
own_place rs i r h e own = position_of_unheld (take i rs) r.mark 0
    (own_front (take i rs) (drop (suc i) rs) r (subst HaveOwnMarks (rest_is rs i r h e) own))

pub own_more : (rs : List Record) (i : ℕ) (r : Record) → i < length rs → r ≡ get_or rs i r → HaveOwnMarks (take i rs)
    → held (take i rs) r.mark ≡ None → HaveOwnMarks (take (i + 1) rs)
own_more rs i r h e own none = subst HaveOwnMarks (sym (front_is rs i r h e)) (own_push (take i rs) r own none)

pub is_none : (o : Option ℕ) → is_some o ≡ false → o ≡ None
is_none None e = refl
is_none (Some i) e = absurd cc

-- ---- books
pub not_good : (b : List Entry) (e : Refusal) → verdict b ≡ Some e → IsGoodBook b → ⊥
not_good b e h good = let k : None ≡ Some e = sym (verdict_good b good) ∙ h in cc

-- ---- a state from its parts, and back
abbrev pub AreWholeIn : List Style → List Transfer → List Branch → Type 0
AreWholeIn styles ts bs = AllByRecursion (λ (b : Branch). IsGoodBranch styles b × IsCarried ts b) bs

abbrev pub AreWhole : Federation → Type 0
AreWhole f = AreWholeIn f.styles f.transfers f.branches

pub whole_same : (styles styles' : List Style) (ts ts' : List Transfer) (bs bs' : List Branch) → styles ≡ styles'
    → ts ≡ ts' → bs ≡ bs' → AreWholeIn styles' ts' bs' → AreWholeIn styles ts bs
whole_same styles styles' ts ts' bs bs' e g k h =
    subst (λ (ss : List Style). AreWholeIn ss ts bs) (sym e)
    (subst (λ (us : List Transfer). AreWholeIn styles' us bs) (sym g) (subst (AreWholeIn styles' ts') (sym k) h))

pub good_of : (f : Federation) → AreStyles f.styles → length f.branches ≤ most_branches → HaveOwnNames f.branches
    → AreAscending f.transfers → AllByRecursion (IsGoodTransfer f.branches) f.transfers → AreWhole f → IsGoodState f
good_of f styles few names ids transfers whole = record {
  styles = styles;
  few = few;
  names = names;
  branches = all_weaker (λ (b : Branch). IsGoodBranch f.styles b × IsCarried f.transfers b) (IsGoodBranch f.styles)
      f.branches (λ b h. h.0) whole;
  ids = ids;
  transfers = transfers;
  carried = all_weaker (λ (b : Branch). IsGoodBranch f.styles b × IsCarried f.transfers b) (IsCarried f.transfers)
      f.branches (λ b h. h.1) whole;
}

all_of_both : (P Q : Branch → Type 0) (bs : List Branch) → AllByRecursion P bs → AllByRecursion Q bs
    → AllByRecursion (λ (b : Branch). P b × Q b) bs
all_of_both P Q [] h k = tt
all_of_both P Q (b ∷ bs) h k = ((h.0, k.0), all_of_both P Q bs h.1 k.1)

pub whole_of : (f : Federation) → IsGoodState f → AreWhole f
whole_of f good = all_of_both (IsGoodBranch f.styles) (IsCarried f.transfers) f.branches good.branches good.carried
