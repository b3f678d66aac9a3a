-- a transfer's mark is looked up among the records of transfers
use Rattle.std.proofs.Common.{◌≡◌, ℕ, Bool, true, false, cond, List, [], ◌∷◌, refl, ap, ◌∙◌, sym, Option, Some}
use Rattle.std.specs.Prelude.{filter}
use Rattle.std.specs.Str.{bytes_eq}
use Rattle.money_core.proofs.BytesLemmas.{same_bytes}
use Rattle.treasury_state.specs.declared.record.Record.{Record}
use Rattle.treasury_state.specs.Mark.{held, is_transfer_mark, is_of_transfer}

-- a transfer's mark is looked up among the transfers' records
filtered_at : (r : Record) (rs : List Record) (m : List ℕ) (b t : Bool) → is_transfer_mark r.mark ≡ b
    → bytes_eq r.mark m ≡ t → is_transfer_mark m ≡ true → held (filter is_of_transfer rs) m ≡ held rs m
    → held (cond b (r ∷ filter is_of_transfer rs) (filter is_of_transfer rs)) m ≡ held (r ∷ rs) m
filtered_at r rs m true t e f g h = ap (λ (o : Option Record). cond (bytes_eq r.mark m) (Some r) o) h
filtered_at r rs m false true e f g h = let k = ap is_transfer_mark (same_bytes r.mark m f) in absurd cc
filtered_at r rs m false false e f g h = h ∙ sym (ap (λ (b : Bool). cond b (Some r) (held rs m)) f)

pub held-filter : (rs : List Record) (m : List ℕ) → is_transfer_mark m ≡ true
    → held (filter is_of_transfer rs) m ≡ held rs m
held-filter [] m g = refl
held-filter (r ∷ rs) m g =
    filtered_at r rs m (is_transfer_mark r.mark) (bytes_eq r.mark m) refl refl g (held-filter rs m g)
