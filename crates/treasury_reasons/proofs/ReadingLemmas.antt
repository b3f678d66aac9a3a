-- the places of the marks of records, one by one
use Rattle.std.proofs.Common.{◌≡◌, ◌<◌, ◌+◌, ℕ, cond, List, [], ◌∷◌, ◌++◌, length, take, get_or, ap, ◌∙◌, sym, subst}
use Rattle.std.proofs.Common.{arith, Some, None}
use Rattle.std.specs.Str.{bytes_eq}
use Rattle.std.proofs.lemmas.List.{take_more, length-take-le}
use Rattle.std.specs.HashMap.{get_by_text}
use Rattle.std.specs.Option.{option_or}
use Rattle.treasury_state.specs.Index.{IsIndexOf}
use Rattle.treasury_state.proofs.IndexLemmas.{Index, index_pushed}
use Rattle.treasury_state.specs.declared.record.Record.{Record}

pub index_next : (records : List Record) (i : ℕ) (r : Record) (old new : Index) (mark : List ℕ) → i < length records
    → r ≡ get_or records i r → mark ≡ r.mark → IsIndexOf old (take i records)
    → ((k : List ℕ) → get_by_text new k ≡ option_or (get_by_text old k) (cond (bytes_eq mark k) (Some i) None))
    → IsIndexOf new (take (i + 1) records)
index_next records i r old new mark h e same before put =
    let xs = take i records in
    let long : length xs ≡ i = length-take-le i records (omega arith) in
    subst (IsIndexOf new) (sym (take_more records i r h ∙ ap (λ (y : Record). xs ++ y ∷ []) (sym e)))
    (index_pushed (λ (x : Record). x.mark) old new xs r before (λ k. put k
    ∙ ap (λ (m : List ℕ). option_or (get_by_text old k) (cond (bytes_eq m k) (Some i) None)) same
    ∙ ap (λ (n : ℕ). option_or (get_by_text old k) (cond (bytes_eq r.mark k) (Some n) None)) (sym long)))
