-- a ledger that is filled entry by entry
use Rattle.std.proofs.Common.{◌≡◌, List, [], ◌∷◌, ◌++◌, ap, ◌∙◌, sym, subst, append_assoc, append-nil}
use Rattle.std.specs.List.{AllByRecursion}
use Rattle.book_core.specs.declared.entry.Entry.{Entry}
use Rattle.book_core.specs.GoodBook.{IsFit, IsWithin}
use Rattle.book_core.proofs.BookLemmas.{within_left}

-- the entries so far, the next one, and the rest are all
pub record Next (done : List Entry) (x : Entry) (rest all : List Entry) : Type 0 where
  pub split : done ++ x ∷ rest ≡ all

pub next_split : (done left rest all : List Entry) (x : Entry) → left ≡ x ∷ rest → done ++ left ≡ all
    → Next done x rest all
next_split done left rest all x e same = record { split = ap (λ (es : List Entry). done ++ es) (sym e) ∙ same }

fit_at : (done rest : List Entry) (x : Entry) → AllByRecursion IsFit (done ++ x ∷ rest) → IsFit x
fit_at [] rest x h = h.0
fit_at (y ∷ done) rest x h = fit_at done rest x h.1

pub next_fit : (done rest all : List Entry) (x : Entry) → Next done x rest all → AllByRecursion IsFit all → IsFit x
next_fit done rest all x n h = fit_at done rest x (subst (AllByRecursion IsFit) (sym n.split) h)

pub next_done : (done rest all : List Entry) (x : Entry) → Next done x rest all → (done ++ x ∷ []) ++ rest ≡ all
next_done done rest all x n = append_assoc done (x ∷ []) rest ∙ n.split

pub next_room : (done rest all : List Entry) (x : Entry) → Next done x rest all → IsWithin all
    → IsWithin (done ++ x ∷ [])
next_room done rest all x n h =
    within_left (done ++ x ∷ []) rest (subst IsWithin (sym (next_done done rest all x n)) h)

pub all_done : (done left all : List Entry) → left ≡ [] → done ++ left ≡ all → done ≡ all
all_done done left all e same =
    sym (append-nil done) ∙ (ap (λ (es : List Entry). done ++ es) (sym e) ∙ same)
