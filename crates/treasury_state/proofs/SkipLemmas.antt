-- records that a look-up by a mark passes over
use Rattle.std.proofs.Common.{◌≡◌, ℕ, Bool, false, List, ◌++◌, ap, ◌∙◌, Option, Some, None}
use Rattle.std.specs.Prelude.{codes}
use Rattle.std.specs.Option.{option_or}
use Rattle.std.specs.Str.{bytes_eq}
use Rattle.std.proofs.lemmas.List.Folds.{find-append}
use Rattle.treasury_state.specs.declared.record.Record.{Record}
use Rattle.treasury_state.specs.declared.transfer.Part.{Part}
use Rattle.treasury_state.specs.declared.transfer.Transfer.{Transfer}
use Rattle.treasury_state.specs.Mark.{has_mark, held}
use Rattle.treasury_state.specs.Transfer.{out_records, in_records}
use Rattle.treasury_state.proofs.AskedLemmas.{out_of_in, out_of_out}

-- records without that mark are passed over
pub held-append : (xs rest : List Record) (m : List ℕ) → held xs m ≡ None → held (xs ++ rest) m ≡ held rest m
held-append xs rest m e = find-append (has_mark m) xs rest ∙ ap (λ (o : Option Record). option_or o (held rest m)) e

-- the records of other transfers have other marks
pub pass_out : (x : Transfer) (rest : List Record) (id : List ℕ) (a b : Bool) (ps : List Part)
    → bytes_eq x.id id ≡ false
    → held (out_records x a ++ (in_records x b ps ++ rest)) (codes "out:" ++ id) ≡ held rest (codes "out:" ++ id)
pass_out x rest id a b ps e =
    held-append (out_records x a) (in_records x b ps ++ rest) (codes "out:" ++ id) (out_of_out x id a e) ∙ held-append
    (in_records x b ps) rest (codes "out:" ++ id) (out_of_in x id b ps)

pub same_transfer : (x t : Transfer) → ◌≡◌ {A = Option Transfer} (Some x) (Some t) → x ≡ t
same_transfer x t e = ap (λ (o : Option Transfer). elim o as (λ v. Transfer) [ None ↦ x | Some y ↦ y ]) e
