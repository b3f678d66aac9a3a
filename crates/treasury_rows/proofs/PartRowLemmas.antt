-- transfers, read from their rows and those of their parts
use Rattle.std.proofs.Common.{◌≡◌, ◌<◌, ◌≤◌, ◌+◌, ℕ, List, [], ◌∷◌, ◌++◌, length, take, drop, get_or, refl, ap, ◌∙◌}
use Rattle.std.proofs.Common.{sym, subst, append_assoc, append-nil, inr, map}
use Rattle.std.specs.List.{AllByRecursion}
use Rattle.std.proofs.lemmas.List.{drop_all}
use Rattle.money_core.specs.declared.cause.Cause.{Cause}
use Rattle.money_core.specs.declared.cause.Cause.TheVariants.{Damaged}
use Rattle.money_core.proofs.ListLemmas.{drop_at}
use Rattle.treasury_state.specs.declared.rows.PartRow.{PartRow}
use Rattle.treasury_state.specs.declared.rows.TransferRow.{TransferRow}
use Rattle.treasury_state.specs.declared.transfer.Transfer.{Transfer}
use Rattle.treasury_state.specs.Federation.{Branch}
use Rattle.treasury_state.specs.Good.{AreAscending}
use Rattle.treasury_state.specs.Rows.{transfer_row, part_row, part_rows}
use Rattle.treasury_state.proofs.RestLemmas.{same_heads, same_tails}
use Rattle.treasury_state.proofs.OrderLemmas.{none_like}
use Rattle.treasury_state.proofs.PartRowLemmas.{IsOf, IsOfOther, own_rows, other_rows}
use Rattle.treasury_rows.specs.Drafted.{IsFault, IsNamed}
use Rattle.treasury_rows.proofs.BranchRowLemmas.{take_front, drop_front}
use Rattle.treasury_rows.proofs.DraftLemmas.{fault_of, all_middle}

-- ---- transfers with their rows

-- a transfer between those branches with its row, and its parts with theirs
abbrev pub HasRow : List Branch → TransferRow → List PartRow → Transfer → Type 0
HasRow bs row own t = IsNamed bs t × ((transfer_row bs t ≡ row) × (map (part_row row.id) t.parts ≡ own))

abbrev pub HaveRows : List Branch → List TransferRow → List PartRow → List Transfer → Type 0
HaveRows bs rows parts ts =
    AllByRecursion (IsNamed bs) ts × (AreAscending ts × ((map (transfer_row bs) ts ≡ rows) × (part_rows ts ≡ parts)))

-- transfers are those that were read, and a rest with the rows that are left
pub record TransferRest (bs : List Branch) (done ts : List Transfer) (rows : List TransferRow)
    (left : List PartRow) : Type 0 where
  pub rest : List Transfer
  pub split : ts ≡ done ++ rest
  pub sent : map (transfer_row bs) rest ≡ rows
  pub received : part_rows rest ≡ left

abbrev pub IsTransferFront : List Branch → List TransferRow → List PartRow → ℕ → List Transfer → List PartRow → Type 0
IsTransferFront bs rows parts i done left =
    (ts : List Transfer) → HaveRows bs rows parts ts → TransferRest bs done ts (drop i rows) left

pub transfer_start : (bs : List Branch) (rows : List TransferRow) (parts : List PartRow)
    → IsTransferFront bs rows parts 0 [] parts
transfer_start bs rows parts ts p = record { rest = ts; split = refl; sent = p.1.1.0; received = p.1.1.1 }

-- so many rows at the front are of that transfer
abbrev pub Counts : ℕ → List ℕ → List PartRow → Type 0
Counts count id left = (own rest : List PartRow) → AllByRecursion (IsOf id) own → AllByRecursion (IsOfOther id) rest
    → left ≡ own ++ rest → count ≡ length own

pub record TransferNext (bs : List Branch) (count : ℕ) (done ts : List Transfer) (row : TransferRow)
    (rows : List TransferRow) (left : List PartRow) : Type 0 where
  pub item : Transfer
  pub rest : List Transfer
  pub split : ts ≡ done ++ item ∷ rest
  pub here : HasRow bs row (take count left) item
  pub sent : map (transfer_row bs) rest ≡ rows
  pub received : part_rows rest ≡ drop count left

ascending_rest : (xs ys : List Transfer) → AreAscending (xs ++ ys) → AreAscending ys
ascending_rest [] ys h = h
ascending_rest (x ∷ xs) ys h = ascending_rest xs ys h.1

transfer_at : (bs : List Branch) (count : ℕ) (done ts rest : List Transfer) (row : TransferRow)
    (rows : List TransferRow) (left : List PartRow) → Counts count row.id left → AllByRecursion (IsNamed bs) ts
    → AreAscending ts → ts ≡ done ++ rest
    → map (transfer_row bs) rest ≡ row ∷ rows → part_rows rest ≡ left → TransferNext bs count done ts row rows left
transfer_at bs count done ts [] row rows left counts named order split sent received = absurd cc
transfer_at bs count done ts (x ∷ rest) row rows left counts named order split sent received =
    let same : transfer_row bs x ≡ row = same_heads (transfer_row bs x) row (map (transfer_row bs) rest) rows sent in
    let id : x.id ≡ row.id = ap (λ (r : TransferRow). r.id) same in
    let own = map (part_row x.id) x.parts in
    let others = part_rows rest in
    let whole : left ≡ own ++ others = sym received in
    let behind = (ascending_rest done (x ∷ rest) (subst AreAscending split order)).0 in
    let size : count ≡ length own =
    counts own others (subst (λ (k : List ℕ). AllByRecursion (IsOf k) own) id (own_rows x.id x.parts))
    (subst (λ (k : List ℕ). AllByRecursion (IsOfOther k) others) id
    (other_rows x.id rest (none_like x.id rest behind))) whole in
    record {
      item = x;
      rest = rest;
      split = split;
      here = (
        all_middle (IsNamed bs) done ts rest x named split,
        (
          same,
          ap (λ (k : List ℕ). map (part_row k) x.parts) (sym id) ∙ sym
              (ap (λ (k : ℕ). take k left) size ∙ (ap (take (length own)) whole ∙ take_front own others)),
        ),
      );
      sent = same_tails (transfer_row bs x) row (map (transfer_row bs) rest) rows sent;
      received = sym (ap (λ (k : ℕ). drop k left) size ∙ (ap (drop (length own)) whole ∙ drop_front own others));
    }

transfer_item : (bs : List Branch) (rows : List TransferRow) (parts : List PartRow) (i count : ℕ) (done : List Transfer)
    (row : TransferRow) (left : List PartRow) → i < length rows → row ≡ get_or rows i row → Counts count row.id left
    → IsTransferFront bs rows parts i done left → (ts : List Transfer) → HaveRows bs rows parts ts
    → TransferNext bs count done ts row (drop (i + 1) rows) left
transfer_item bs rows parts i count done row left h is counts front ts p =
    let r = front ts p in
    transfer_at bs count done ts r.rest row (drop (i + 1) rows) left counts p.0 p.1.0 r.split
    (r.sent ∙ drop_at rows i row h is) r.received

pub transfer_next : (bs : List Branch) (rows : List TransferRow) (parts : List PartRow) (i count : ℕ)
    (done new : List Transfer) (row : TransferRow) (left : List PartRow) (x : Transfer) → i < length rows
    → row ≡ get_or rows i row
    → Counts count row.id left → new ≡ done ++ x ∷ [] → ((t : Transfer) → HasRow bs row (take count left) t → t ≡ x)
    → IsTransferFront bs rows parts i done left → IsTransferFront bs rows parts (i + 1) new (drop count left)
transfer_next bs rows parts i count done new row left x h is counts pushed only front ts p =
    let nx = transfer_item bs rows parts i count done row left h is counts front ts p in
    let same : nx.item ≡ x = only nx.item nx.here in
    record {
      rest = nx.rest;
      split = nx.split ∙ ap (λ y. done ++ y ∷ nx.rest) same ∙ sym (append_assoc done (x ∷ []) nx.rest) ∙ ap
          (λ ys. ys ++ nx.rest) (sym pushed);
      sent = nx.sent;
      received = nx.received;
    }

pub transfer_fault : (bs : List Branch) (rows : List TransferRow) (parts : List PartRow) (i count : ℕ)
    (done : List Transfer) (row : TransferRow) (left : List PartRow) (e : Cause) → i < length rows
    → row ≡ get_or rows i row
    → Counts count row.id left → IsTransferFront bs rows parts i done left → IsFault (HasRow bs row (take count left)) e
    → IsFault (HaveRows bs rows parts) e
transfer_fault bs rows parts i count done row left e h is counts front fault =
    fault_of (HaveRows bs rows parts) (HasRow bs row (take count left)) e
    (λ ts p. let nx = transfer_item bs rows parts i count done row left h is counts front ts p in (nx.item, nx.here))
    fault

no_transfers : (bs : List Branch) (rest : List Transfer) → map (transfer_row bs) rest ≡ [] → rest ≡ []
no_transfers bs [] e = refl
no_transfers bs (x ∷ rest) e = absurd cc

pub transfer_end : (bs : List Branch) (rows : List TransferRow) (parts : List PartRow) (i : ℕ) (done : List Transfer)
    (left : List PartRow) → length rows ≤ i → IsTransferFront bs rows parts i done left
    → (ts : List Transfer) → HaveRows bs rows parts ts → (ts ≡ done) × (left ≡ [])
transfer_end bs rows parts i done left h front ts p =
    let r = front ts p in
    let none : r.rest ≡ [] = no_transfers bs r.rest (r.sent ∙ drop_all i rows h) in
    (r.split ∙ ap (λ ys. done ++ ys) none ∙ append-nil done, sym r.received ∙ ap part_rows none)

pub rest_damaged : (bs : List Branch) (rows : List TransferRow) (parts : List PartRow) (i : ℕ) (done : List Transfer)
    (left : List PartRow) → length rows ≤ i → IsTransferFront bs rows parts i done left
    → (left ≡ [] → ⊥) → IsFault (HaveRows bs rows parts) Damaged
rest_damaged bs rows parts i done left h front some =
    inr (refl, λ ts p. some (transfer_end bs rows parts i done left h front ts p).1)
