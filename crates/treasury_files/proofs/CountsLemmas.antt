-- No addition takes anything back.
use Rattle.std.proofs.Common.{◌≤◌, ◌<◌, ℕ, zero, suc, Bool, true, false, List, [], ◌∷◌, ◌++◌, map, length, arith}
use Rattle.std.proofs.Common.{length-append}
use Rattle.std.specs.Prelude.{if◌then◌else◌, slice_index}
use Rattle.std.specs.List.{sum_by}
use Rattle.std.specs.Ordering.{is_lt}
use Rattle.std.specs.Str.{bytes_eq}
use Rattle.std.proofs.lemmas.List.Sums.{sum_by-cons}
use Rattle.book_core.specs.Account.{name_cmp}
use Rattle.treasury_state.specs.declared.transfer.Part.{Part}
use Rattle.treasury_state.specs.declared.transfer.Transfer.{Transfer}
use Rattle.treasury_state.specs.declared.delta.Addition.{Addition}
use Rattle.treasury_state.specs.declared.delta.Addition.TheVariants as add
use Rattle.treasury_state.specs.Federation.{Branch, Federation}
use Rattle.treasury_state.specs.Transfer.{is_all}
use Rattle.treasury_state.specs.Joined.{new_branch, with_records, with_lock, changed, inserted, put_part, parts_with}
use Rattle.treasury_state.specs.Joined.{with_receipt, received, joined_one, joined}
use Rattle.treasury_files.specs.declared.shrinking.Counts.{Counts}
use Rattle.treasury_files.specs.Counts.{count_of_parts, count_of_records, counts_of, AreNoFewer, Keeps}

-- ---- numbers

kept_same : (ns : List ℕ) → AreNoFewer ns ns
kept_same ns = record { all = omega arith; each = λ place below. omega arith }

kept_twice : (a b c : List ℕ) → AreNoFewer a b → AreNoFewer b c → AreNoFewer a c
kept_twice a b c h k = record {
  all = omega (arith, h.all, k.all);
  each = λ place below.
      let there : place < length b = omega (arith, h.all, below) in
      omega (arith, h.each place below, k.each place there);
}

each_behind : (m n : ℕ) (ms ns : List ℕ) → m ≤ n
    → ((place : ℕ) → place < length ms → slice_index ms place ≤ slice_index ns place)
    → (place : ℕ) → place < length (m ∷ ms) → slice_index (m ∷ ms) place ≤ slice_index (n ∷ ns) place
each_behind m n ms ns first each zero below = first
each_behind m n ms ns first each (suc place) below = each place (omega (arith, below))

kept_behind : (m n : ℕ) (ms ns : List ℕ) → m ≤ n → AreNoFewer ms ns → AreNoFewer (m ∷ ms) (n ∷ ns)
kept_behind m n ms ns first k = record {
  all = omega (arith, k.all);
  each = each_behind m n ms ns first k.each;
}

-- ---- branches

kept_push : (bs : List Branch) (name : List ℕ)
    → AreNoFewer (map count_of_records bs) (map count_of_records (bs ++ new_branch name ∷ []))
kept_push [] name = record { all = omega arith; each = λ place below. absurd (omega (arith, below)) }
kept_push (b ∷ bs) name = kept_behind _ _ _ _ (omega arith) (kept_push bs name)

kept_at : (g : Branch → Branch) (b : Branch) (bs xs : List Branch) (t : Bool)
    → count_of_records b ≤ count_of_records (g b) → AreNoFewer (map count_of_records bs) (map count_of_records xs)
    → AreNoFewer (map count_of_records (b ∷ bs)) (map count_of_records (if t then g b ∷ bs else b ∷ xs))
kept_at g b bs xs true more k = kept_behind _ _ _ _ more (kept_same (map count_of_records bs))
kept_at g b bs xs false more k = kept_behind _ _ _ _ (omega arith) k

kept_changed : (g : Branch → Branch) (name : List ℕ) (bs : List Branch)
    → ((b : Branch) → count_of_records b ≤ count_of_records (g b))
    → AreNoFewer (map count_of_records bs) (map count_of_records (changed g name bs))
kept_changed g name [] more = kept_same []
kept_changed g name (b ∷ bs) more =
    kept_at g b bs (changed g name bs) (bytes_eq b.name name) (more b) (kept_changed g name bs more)

-- ---- transfers

-- how many parts transfers have, and how many they are: no fewer
record AreMore (ts us : List Transfer) : Type 0 where
  count : length ts ≤ length us
  parts : sum_by count_of_parts ts ≤ sum_by count_of_parts us

more_behind : (t u : Transfer) (ts us : List Transfer) → count_of_parts t ≤ count_of_parts u → AreMore ts us
    → AreMore (t ∷ ts) (u ∷ us)
more_behind t u ts us first h = record {
  count = omega (arith, h.count);
  parts = omega (arith, sum_by-cons count_of_parts t ts, sum_by-cons count_of_parts u us, first, h.parts);
}

more_same : (ts : List Transfer) → AreMore ts ts
more_same ts = record { count = omega arith; parts = omega arith }

more_front : (t : Transfer) (ts : List Transfer) → AreMore ts (t ∷ ts)
more_front t ts = record { count = omega arith; parts = omega (arith, sum_by-cons count_of_parts t ts) }

inserted_at : (t x : Transfer) (xs ys : List Transfer) (before : Bool) → AreMore xs ys
    → AreMore (x ∷ xs) (if before then x ∷ ys else t ∷ x ∷ xs)
inserted_at t x xs ys true h = more_behind x x xs ys (omega arith) h
inserted_at t x xs ys false h = more_front t (x ∷ xs)

more_inserted : (t : Transfer) (ts : List Transfer) → AreMore ts (inserted t ts)
more_inserted t [] = more_front t []
more_inserted t (x ∷ xs) = inserted_at t x xs (inserted t xs) (is_lt (name_cmp x.id t.id)) (more_inserted t xs)

put_at : (p x : Part) (xs ys : List Part) (before : Bool) → length xs ≤ length ys
    → length (x ∷ xs) ≤ length (if before then x ∷ ys else p ∷ x ∷ xs)
put_at p x xs ys true h = omega (arith, h)
put_at p x xs ys false h = omega arith

more_put : (p : Part) (ps : List Part) → length ps ≤ length (put_part p ps)
more_put p [] = omega arith
more_put p (x ∷ xs) = put_at p x xs (put_part p xs) (is_lt (name_cmp x.key p.key)) (more_put p xs)

more_parts : (all : Bool) (p : Part) (ps : List Part) → length ps ≤ length (parts_with all p ps)
more_parts true p ps = omega arith
more_parts false p ps = more_put p ps

received_at : (p : Part) (x : Transfer) (xs ys : List Transfer) (t : Bool) → AreMore xs ys
    → AreMore (x ∷ xs) (if t then with_receipt p x ∷ xs else x ∷ ys)
received_at p x xs ys true h =
    more_behind x (with_receipt p x) xs xs (more_parts (is_all p.key) p x.parts) (more_same xs)
received_at p x xs ys false h = more_behind x x xs ys (omega arith) h

more_received : (id : List ℕ) (p : Part) (ts : List Transfer) → AreMore ts (received id p ts)
more_received id p [] = more_same []
more_received id p (x ∷ xs) = received_at p x xs (received id p xs) (bytes_eq x.id id) (more_received id p xs)

-- ---- states

keeps_twice : (a b c : Counts) → Keeps a b → Keeps b c → Keeps a c
keeps_twice a b c h k = record {
  commodities = omega (arith, h.commodities, k.commodities);
  transfers = omega (arith, h.transfers, k.transfers);
  receipts = omega (arith, h.receipts, k.receipts);
  entries = kept_twice a.entries b.entries c.entries h.entries k.entries;
}

keeps_branches : (f : Federation) (bs : List Branch)
    → AreNoFewer (map count_of_records f.branches) (map count_of_records bs)
    → Keeps (counts_of f) (counts_of (record f { branches = bs }))
keeps_branches f bs kept = record {
  commodities = omega arith;
  transfers = omega arith;
  receipts = omega arith;
  entries = kept;
}

keeps_transfers : (f : Federation) (ts : List Transfer) → AreMore f.transfers ts
    → Keeps (counts_of f) (counts_of (record f { transfers = ts }))
keeps_transfers f ts more = record {
  commodities = omega arith;
  transfers = more.count;
  receipts = more.parts;
  entries = kept_same (map count_of_records f.branches);
}

keeps_one : (f : Federation) (x : Addition) → Keeps (counts_of f) (counts_of (joined_one f x))
keeps_one f (add.Commodity style) = record {
  commodities = simp length-append (omega arith);
  transfers = omega arith;
  receipts = omega arith;
  entries = kept_same (map count_of_records f.branches);
}
keeps_one f (add.Branch name) = keeps_branches f _ (kept_push f.branches name)
keeps_one f (add.Record name r) =
    keeps_branches f _ (kept_changed (with_records (r ∷ [])) name f.branches (λ b. simp length-append (omega arith)))
keeps_one f (add.Dispatched t) = keeps_transfers f _ (more_inserted t f.transfers)
keeps_one f (add.Received id p) = keeps_transfers f _ (more_received id p f.transfers)
keeps_one f (add.Locked name day) =
    keeps_branches f _ (kept_changed (with_lock day) name f.branches (λ b. omega arith))

pub keeps_joined : (f : Federation) (xs : List Addition) → Keeps (counts_of f) (counts_of (joined f xs))
keeps_joined f [] = record {
  commodities = omega arith;
  transfers = omega arith;
  receipts = omega arith;
  entries = kept_same (map count_of_records f.branches);
}
keeps_joined f (x ∷ xs) = keeps_twice _ _ _ (keeps_one f x) (keeps_joined (joined_one f x) xs)
