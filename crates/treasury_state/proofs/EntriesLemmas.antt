-- the entries of records
use Rattle.std.proofs.Common.{◌≡◌, List, [], ◌∷◌, ◌++◌, refl, ap}
use Rattle.book_core.specs.declared.entry.Entry.{Entry}
use Rattle.treasury_state.specs.declared.record.Record.{Record}
use Rattle.treasury_state.specs.Federation.{entries}

pub entries-append : (xs ys : List Record) → entries (xs ++ ys) ≡ entries xs ++ entries ys
entries-append [] ys = refl
entries-append (x ∷ xs) ys = ap (λ (es : List Entry). x.entry ∷ es) (entries-append xs ys)
