-- What is added to a state can be written, if the joined state is good.
use Rattle.std.proofs.Common.{◌≡◌, ℕ, suc, ◌+◌, ◌<◌, ◌≤◌, Bool, true, false, List, [], ◌∷◌, ◌++◌, length, get_or, refl}
use Rattle.std.proofs.Common.{sym, ap, subst, ◌∙◌, arith, bytes_eq}
use Rattle.std.specs.Prelude.{if◌then◌else◌}
use Rattle.std.specs.List.{AllByRecursion}
use Rattle.std.proofs.lemmas.List.{length-append, length-map}
use Rattle.money_core.specs.declared.style.Style.{Style}
use Rattle.money_core.specs.Style.{AreStyles}
use Rattle.money_core.proofs.ListLemmas.{all_front, all_last, all_weaker}
use Rattle.book_core.specs.declared.claim.Placed.{Placed}
use Rattle.treasury_state.specs.declared.record.Record.{Record}
use Rattle.treasury_state.specs.declared.delta.Addition.{Addition}
use Rattle.treasury_state.specs.declared.delta.Addition.TheVariants as add
use Rattle.treasury_state.specs.Federation.{Branch, Federation, entries, name_place, names_of}
use Rattle.treasury_state.specs.Good.{IsGoodRecord, IsGoodBranch, IsGoodState}
use Rattle.treasury_state.specs.Joined.{new_branch, with_records, with_lock, changed, joined_one, joined}
use Rattle.treasury_state.specs.Room.{FitsLedger, IsRoomy}
use Rattle.treasury_state.proofs.BackLemmas.{room_fit, room_within, room_back, good_room}
use Rattle.treasury_store.specs.Numbers.{Numbering, records_each, numbers_of}
use Rattle.treasury_store.specs.Changes.{Counts, place_in, styles_with, names_with, counts_of_numbering, IsWritable}
use Rattle.treasury_store.specs.Changes.{CanWrite}
use Rattle.treasury_store.specs.Changes.{CanWriteFrom}
use Rattle.treasury_store.proofs.AdditionLemmas.{styles_joined, names_joined, names_grown, place_same, count_step}

-- each record is good under these styles
abbrev ArePrinted : List Style → Branch → Type 0
ArePrinted styles b = AllByRecursion (IsGoodRecord styles) b.records

back_at : (P : Branch → Type 0) (g : Branch → Branch) (b : Branch) (bs xs : List Branch) (t : Bool)
    → ((x : Branch) → P (g x) → P x) → (AllByRecursion P xs → AllByRecursion P bs)
    → AllByRecursion P (if t then g b ∷ bs else b ∷ xs) → AllByRecursion P (b ∷ bs)
back_at P g b bs xs true p k h = (p b h.0, h.1)
back_at P g b bs xs false p k h = (h.0, k h.1)

back_changed : (P : Branch → Type 0) (g : Branch → Branch) (name : List ℕ) (bs : List Branch)
    → ((x : Branch) → P (g x) → P x) → AllByRecursion P (changed g name bs) → AllByRecursion P bs
back_changed P g name [] p h = tt
back_changed P g name (b ∷ bs) p h =
    back_at P g b bs (changed g name bs) (bytes_eq b.name name) p (back_changed P g name bs p) h

printed_one : (styles : List Style) (f : Federation) (x : Addition)
    → AllByRecursion (ArePrinted styles) (joined_one f x).branches → AllByRecursion (ArePrinted styles) f.branches
printed_one styles f (add.Commodity style) h = h
printed_one styles f (add.Branch name) h = all_front (ArePrinted styles) f.branches (new_branch name ∷ []) h
printed_one styles f (add.Record name r) h =
    back_changed (ArePrinted styles) (with_records (r ∷ [])) name f.branches
    (λ b k. all_front (IsGoodRecord styles) b.records (r ∷ []) k) h
printed_one styles f (add.Dispatched t) h = h
printed_one styles f (add.Received id p) h = h
printed_one styles f (add.Locked name day) h =
    back_changed (ArePrinted styles) (with_lock day) name f.branches (λ b k. k) h

printed_back : (styles : List Style) (xs : List Addition) (f : Federation)
    → AllByRecursion (ArePrinted styles) (joined f xs).branches → AllByRecursion (ArePrinted styles) f.branches
printed_back styles [] f h = h
printed_back styles (x ∷ xs) f h = printed_one styles f x (printed_back styles xs (joined_one f x) h)

-- what holds of the changed branches holds of the one that was changed
record IsChanged (P : Branch → Type 0) (g : Branch → Branch) (bs : List Branch) (p : ℕ) : Type 0 where
  branch : Branch
  count : length branch.records ≡ get_or (records_each bs) p 0
  holds : P (g branch)

changed_at : (P : Branch → Type 0) (g : Branch → Branch) (b : Branch) (bs xs : List Branch) (p : ℕ) (t : Bool)
    → (if t then 0 else suc p) < suc (length bs) → (p < length bs → AllByRecursion P xs → IsChanged P g bs p)
    → AllByRecursion P (if t then g b ∷ bs else b ∷ xs) → IsChanged P g (b ∷ bs) (if t then 0 else suc p)
changed_at P g b bs xs p true l k h = record { branch = b; count = refl; holds = h.0 }
changed_at P g b bs xs p false l k h =
    let w = k (omega (arith, l)) h.1 in record { branch = w.branch; count = w.count; holds = w.holds }

the_changed : (P : Branch → Type 0) (g : Branch → Branch) (name : List ℕ) (bs : List Branch)
    → name_place bs name < length bs → AllByRecursion P (changed g name bs) → IsChanged P g bs (name_place bs name)
the_changed P g name [] l h = absurd (omega (arith, l))
the_changed P g name (b ∷ bs) l h =
    changed_at P g b bs (changed g name bs) (name_place bs name) (bytes_eq b.name name) l (the_changed P g name bs) h

record_fits : (styles : List Style) (f : Federation) (name : List ℕ) (r : Record)
    → name_place f.branches name < length f.branches → IsRoomy (joined_one f (add.Record name r))
    → AllByRecursion (ArePrinted styles) (joined_one f (add.Record name r)).branches
    → IsWritable styles (get_or (records_each f.branches) (name_place f.branches name) 0) r
record_fits styles f name r low room printed =
    let g = with_records (r ∷ []) in
    let a = the_changed FitsLedger g name f.branches low room.branches in
    let b = the_changed (ArePrinted styles) g name f.branches low printed in
    let good = all_last (IsGoodRecord styles) b.branch.records r b.holds in
    let within = room_within a.branch r a.holds in
    let count : length (entries a.branch.records ++ r.entry ∷ []) ≡ length a.branch.records + 1 =
    length-append (entries a.branch.records) (r.entry ∷ []) ∙ ap (λ (n : ℕ). n + 1)
    (length-map a.branch.records (λ (x : Record). x.entry)) in
    record {
      printable = good.printable;
      few = omega (arith, within.few, count, a.count);
      claims = all_weaker (λ (x : Placed). (1 ≤ x.leg) × (x.leg ≤ length r.entry.legs))
          (λ (x : Placed). x.leg ≤ length r.entry.legs) r.entry.claims (λ x h. h.1)
          (room_fit a.branch r a.holds).on_legs;
    }

one_fits : (styles : List Style) (N more : List (List ℕ)) (f : Federation) (x : Addition)
    → N ≡ names_of f.branches ++ more → IsRoomy f → IsRoomy (joined_one f x)
    → AllByRecursion (ArePrinted styles) (joined_one f x).branches
    → CanWrite styles N (counts_of_numbering (numbers_of f)) x
one_fits styles N more f (add.Commodity style) e was room printed = let few = was.styles.few in omega (arith, few)
one_fits styles N more f (add.Branch name) e was room printed = tt
one_fits styles N more f (add.Record name r) e was room printed =
    λ h. let low : place_in N name < length f.branches =
    omega (arith, h, length-map f.branches (λ (b : Branch). length b.records)) in
    let same = place_same [] N f more e name low in
    subst (λ (p : ℕ). IsWritable styles (get_or (records_each f.branches) p 0) r) (sym same)
    (record_fits styles f name r (omega (arith, same, low)) room printed)
one_fits styles N more f (add.Dispatched t) e was room printed = tt
one_fits styles N more f (add.Received id p) e was room printed = tt
one_fits styles N more f (add.Locked name day) e was room printed = tt

all_fit : (styles : List Style) (N : List (List ℕ)) (xs : List Addition) (f : Federation)
    → N ≡ names_of (joined f xs).branches → IsRoomy (joined f xs)
    → AllByRecursion (ArePrinted styles) (joined f xs).branches
    → CanWriteFrom styles N (counts_of_numbering (numbers_of f)) xs
all_fit styles N [] f e room printed = tt
all_fit styles N (x ∷ xs) f e room printed =
    let w = names_grown (x ∷ xs) f N e in
    let next = joined_one f x in (
      one_fits styles N w.0 f x w.1 (room_back (x ∷ xs) f room) (room_back xs next room)
          (printed_back styles xs next printed),
      subst (λ (c : Counts). CanWriteFrom styles N c xs) (sym (count_step styles N f w.0 w.1 x))
          (all_fit styles N xs next e room printed),
    )

-- what a good joined state says of the additions
pub record AreWritable (n : Numbering) (xs : List Addition) : Type 0 where
  pub styles : AreStyles (styles_with n.styles xs)
  pub fit : CanWriteFrom (styles_with n.styles xs) (names_with n.names xs) (counts_of_numbering n) xs

pub additions_fit : (f : Federation) (xs : List Addition) → IsGoodState (joined f xs) → AreWritable (numbers_of f) xs
additions_fit f xs good =
    let last = joined f xs in
    let printed =
    all_weaker (IsGoodBranch last.styles) (ArePrinted last.styles) last.branches (λ b h. h.records) good.branches in
    record {
      styles = subst AreStyles (sym (styles_joined xs f)) good.styles;
      fit = subst (λ (styles : List Style).
          CanWriteFrom styles (names_with (names_of f.branches) xs) (counts_of_numbering (numbers_of f)) xs)
          (sym (styles_joined xs f))
          (all_fit last.styles (names_with (names_of f.branches) xs) xs f (names_joined xs f) (good_room last good)
          printed);
    }
