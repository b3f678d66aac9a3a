-- lists that are read row by row: what is read so far is the front of any list with these rows
use Rattle.std.proofs.Common.{◌≡◌, ◌<◌, ◌≤◌, ◌+◌, ℕ, List, [], ◌∷◌, ◌++◌, length, take, drop, get_or, refl, ap, ◌∙◌}
use Rattle.std.proofs.Common.{sym, subst, suc, arith, append_assoc, append-nil, inl, inr}
use Rattle.std.specs.Prelude.{Result, MatchResult, IsErrAnd}
use Rattle.std.proofs.lemmas.Result.{err_from_is_err_and}
use Rattle.std.specs.List.{AllByRecursion}
use Rattle.std.proofs.lemmas.List.{drop_all, length_push, take_more}
use Rattle.money_core.specs.declared.cause.Cause.{Cause}
use Rattle.money_core.proofs.ListLemmas.{drop_at}
use Rattle.treasury_state.proofs.RestLemmas.{numbered, same_heads, same_tails}
use Rattle.treasury_rows.specs.Drafted.{IsFault}

-- a fault of a part is one of the whole
pub fault_of : {X Y : Type 0} (P : X → Type 0) (Q : Y → Type 0) (e : Cause) → ((x : X) → P x → (y : Y) × Q y)
    → IsFault Q e → IsFault P e
fault_of P Q e f (inl h) = inl h
fault_of P Q e f (inr h) = inr (h.0, λ x p. let y = f x p in h.1 y.0 y.1)

-- what the exit of a `?` returns
pub exit_on_error : {X : Type 0} (A : X → Type 0) (F : Cause → Type 0) (r : Result X Cause) (e : Cause)
    → IsErrAnd r (λ y. y ≡ e) → F e → MatchResult r A F
exit_on_error A F r e h f =
    let p = err_from_is_err_and r h in subst (λ x. MatchResult x A F) (sym p.1) (subst F (sym p.2) f)

-- a list is what was read, and a rest with the rows that are left
pub record Rest {X Y : Type 0} (g : ℕ → X → Y) (n : ℕ) (done xs : List X) (left : List Y) : Type 0 where
  pub rest : List X
  pub split : xs ≡ done ++ rest
  pub same : numbered g n rest ≡ left

-- so for each list with these rows that has a property
abbrev pub IsFront : {X Y : Type 0} → (ℕ → X → Y) → (List X → Type 0) → ℕ → List Y → ℕ → ℕ → List X → Type 0
IsFront {X = X} g P first rows n i done = (xs : List X) → P xs → numbered g first xs ≡ rows
    → Rest g n done xs (drop i rows)

pub front_start : {X Y : Type 0} (g : ℕ → X → Y) (P : List X → Type 0) (first : ℕ) (rows : List Y)
    → IsFront g P first rows first 0 []
front_start g P first rows xs p e = record { rest = xs; split = refl; same = e }

-- the next item of such a list
pub record Next {X Y : Type 0} (g : ℕ → X → Y) (n : ℕ) (done xs : List X) (row : Y) (left : List Y) : Type 0 where
  pub item : X
  pub rest : List X
  pub split : xs ≡ done ++ item ∷ rest
  pub here : g n item ≡ row
  pub later : numbered g (n + 1) rest ≡ left

next_at : {X Y : Type 0} (g : ℕ → X → Y) (n : ℕ) (done xs rest : List X) (row : Y) (left : List Y) → xs ≡ done ++ rest
    → numbered g n rest ≡ row ∷ left → Next g n done xs row left
next_at g n done xs [] row left s e = absurd cc
next_at g n done xs (x ∷ rest) row left s e = record {
  item = x;
  rest = rest;
  split = s;
  here = same_heads (g n x) row (numbered g (n + 1) rest) left e;
  later = same_tails (g n x) row (numbered g (n + 1) rest) left e;
}

pub front_item : {X Y : Type 0} (g : ℕ → X → Y) (P : List X → Type 0) (first : ℕ) (rows : List Y) (n i : ℕ)
    (done : List X) (row : Y) → i < length rows → row ≡ get_or rows i row
    → IsFront g P first rows n i done → (xs : List X) → P xs → numbered g first xs ≡ rows
    → Next g n done xs row (drop (i + 1) rows)
front_item g P first rows n i done row h is front xs p e =
    let r = front xs p e in
    next_at g n done xs r.rest row (drop (i + 1) rows) r.split (r.same ∙ drop_at rows i row h is)

-- one more item was read, the only one with its row
pub front_next : {X Y : Type 0} (g : ℕ → X → Y) (P : List X → Type 0) (Q : X → Type 0) (first : ℕ) (rows : List Y)
    (n i nr : ℕ) (done new : List X) (row : Y) (x : X)
    → i < length rows → row ≡ get_or rows i row → nr ≡ n → new ≡ done ++ x ∷ []
    → ((xs rest : List X) (y : X) → P xs → xs ≡ done ++ y ∷ rest → Q y)
    → ((y : X) → Q y × (g nr y ≡ row) → y ≡ x)
    → IsFront g P first rows n i done → IsFront g P first rows (n + 1) (i + 1) new
front_next g P Q first rows n i nr done new row x h is at pushed q only front xs p e =
    let nx = front_item g P first rows n i done row h is front xs p e in
    let same : nx.item ≡ x = only nx.item (q xs nx.rest nx.item p nx.split, ap (λ (k : ℕ). g k nx.item) at ∙ nx.here) in
    record {
      rest = nx.rest;
      split = nx.split ∙ ap (λ y. done ++ y ∷ nx.rest) same ∙ sym (append_assoc done (x ∷ []) nx.rest) ∙ ap
          (λ ys. ys ++ nx.rest) (sym pushed);
      same = nx.later;
    }

-- no list has these rows where nothing has the next row
pub front_fault : {X Y : Type 0} (g : ℕ → X → Y) (P : List X → Type 0) (Q : X → Type 0) (first : ℕ) (rows : List Y)
    (n i nr : ℕ) (done : List X) (row : Y) (e : Cause)
    → i < length rows → row ≡ get_or rows i row → nr ≡ n
    → ((xs rest : List X) (y : X) → P xs → xs ≡ done ++ y ∷ rest → Q y)
    → IsFront g P first rows n i done → IsFault (λ y. Q y × (g nr y ≡ row)) e
    → IsFault (λ xs. P xs × (numbered g first xs ≡ rows)) e
front_fault g P Q first rows n i nr done row e h is at q front fault =
    fault_of (λ xs. P xs × (numbered g first xs ≡ rows)) (λ y. Q y × (g nr y ≡ row)) e
    (λ xs p. let nx = front_item g P first rows n i done row h is front xs p.0 p.1 in
    (nx.item, (q xs nx.rest nx.item p.0 nx.split, ap (λ (k : ℕ). g k nx.item) at ∙ nx.here))) fault

-- all was read
pub none_left : {X Y : Type 0} (g : ℕ → X → Y) (n : ℕ) (rest : List X) → numbered g n rest ≡ [] → rest ≡ []
none_left g n [] e = refl
none_left g n (x ∷ rest) e = absurd cc

pub front_end : {X Y : Type 0} (g : ℕ → X → Y) (P : List X → Type 0) (first : ℕ) (rows : List Y) (n i : ℕ)
    (done : List X) → length rows ≤ i → IsFront g P first rows n i done
    → (xs : List X) → P xs × (numbered g first xs ≡ rows) → xs ≡ done
front_end g P first rows n i done h front xs p =
    let r = front xs p.0 p.1 in
    r.split ∙ ap (λ ys. done ++ ys) (none_left g n r.rest (r.same ∙ drop_all i rows h)) ∙ append-nil done

-- what holds of all holds of one in the middle
pub all_middle : {X : Type 0} (P : X → Type 0) (done xs rest : List X) (y : X) → AllByRecursion P xs
    → xs ≡ done ++ y ∷ rest → P y
all_middle {X = X} P done xs rest y h e = at done (subst (AllByRecursion P) e h)
  where
    at : (ds : List X) → AllByRecursion P (ds ++ y ∷ rest) → P y
    at [] k = k.0
    at (d ∷ ds) k = at ds k.1

pub pushed_length : {X : Type 0} (done new : List X) (x : X) (i : ℕ) → new ≡ done ++ x ∷ [] → length done ≡ i
    → length new ≡ i + 1
pushed_length done new x i e h = ap (λ ys. length ys) e ∙ length_push done x ∙ ap (λ (k : ℕ). k + 1) h

-- what was read has the rows so far
numbered-append : {X Y : Type 0} (g : ℕ → X → Y) (n : ℕ) (xs : List X) (x : X)
    → numbered g n (xs ++ x ∷ []) ≡ numbered g n xs ++ g (n + length xs) x ∷ []
numbered-append g n [] x = ap (λ (k : ℕ). g k x ∷ []) (let e : n ≡ n + 0 = omega arith in e)
numbered-append g n (y ∷ xs) x =
    ap (λ zs. g n y ∷ zs)
    (numbered-append g (n + 1) xs x
    ∙ ap (λ (k : ℕ). numbered g (n + 1) xs ++ g k x ∷ [])
    (let e : n + 1 + length xs ≡ n + suc (length xs) = omega arith in e))

pub same_next : {X Y : Type 0} (g : ℕ → X → Y) (first i nr : ℕ) (rows : List Y) (done new : List X) (row : Y) (x : X)
    → i < length rows → row ≡ get_or rows i row → length done ≡ i → nr ≡ first + i → new ≡ done ++ x ∷ []
    → g nr x ≡ row → numbered g first done ≡ take i rows → numbered g first new ≡ take (i + 1) rows
same_next g first i nr rows done new row x h is len at pushed here same =
    let place : first + length done ≡ nr = omega (arith, len, at) in
    ap (numbered g first) pushed
    ∙ (numbered-append g first done x
    ∙ (ap (λ ys. ys ++ g (first + length done) x ∷ []) same
    ∙ (ap (λ y. take i rows ++ y ∷ []) (ap (λ (k : ℕ). g k x) place ∙ (here ∙ is)) ∙ sym (take_more rows i row h))))
