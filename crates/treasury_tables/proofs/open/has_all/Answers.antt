use Rattle.std.proofs.Common.{◌≡◌, ◌∙◌, ℕ, List, Bool, true, false, ◌&&◌, codes, sym, ap, refl, rules}
use Rattle.std.specs.List.{list_any}
use Rattle.sqlite.specs.Table.{Table}
use Rattle.sqlite_schema.specs.Names.{same_name}
use Rattle.treasury_tables.proofs.open.has_all.Goals as goal

named : (name given : List ℕ) (tables : List Table) (r : Bool) → r ≡ list_any (λ t. same_name t.name given) tables
    → given ≡ name → list_any (λ t. same_name t.name name) tables ≡ r
named name given tables r is same = ap (λ n. list_any (λ (t : Table). same_name t.name n) tables) (sym same) ∙ sym is

all_seven : (a b c d e f g r : Bool) → a ≡ true → b ≡ true → c ≡ true → d ≡ true → e ≡ true → f ≡ true → g ≡ r
    → r ≡ (a && (b && (c && (d && (e && (f && (g && true)))))))
all_seven a b c d e f g r p q s t u v w = rw (p, q, s, t, u, v, w) (go r)
  where
    go : (r : Bool) → r ≡ (r && true)
    go true = refl
    go false = refl

first_six : (a b c d e f g : Bool) → a ≡ true → b ≡ true → c ≡ true → d ≡ true → e ≡ true → f ≡ false
    → false ≡ (a && (b && (c && (d && (e && (f && (g && true)))))))
first_six a b c d e f g p q s t u v = rw (p, q, s, t, u, v) refl

pub returns-then-not-has_table-6 : goal.returns-then-not-has_table-6
returns-then-not-has_table-6 g c =
    let tables = c.args.conn.now.schema.tables in
    let one : c.has_table.result ≡ true = search rules in
    let two : c.has_table-2.result ≡ true = search rules in
    let three : c.has_table-3.result ≡ true = search rules in
    let four : c.has_table-4.result ≡ true = search rules in
    let five : c.has_table-5.result ≡ true = search rules in
    let six : c.has_table-6.result ≡ false = search rules in
    first_six _ _ _ _ _ _ _ (named (codes "format") _ tables _ c.has_table.ensures c.as_slice.ensures ∙ one)
    (named (codes "unit") _ tables _ c.has_table-2.ensures c.as_slice-2.ensures ∙ two)
    (named (codes "branch") _ tables _ c.has_table-3.ensures c.as_slice-3.ensures ∙ three)
    (named (codes "entry") _ tables _ c.has_table-4.ensures c.as_slice-4.ensures ∙ four)
    (named (codes "leg") _ tables _ c.has_table-5.ensures c.as_slice-5.ensures ∙ five)
    (named (codes "claim") _ tables _ c.has_table-6.ensures c.as_slice-6.ensures ∙ six)

pub returns : goal.returns
returns g c =
    let tables = c.args.conn.now.schema.tables in
    let one : c.has_table.result ≡ true = search rules in
    let two : c.has_table-2.result ≡ true = search rules in
    let three : c.has_table-3.result ≡ true = search rules in
    let four : c.has_table-4.result ≡ true = search rules in
    let five : c.has_table-5.result ≡ true = search rules in
    let six : c.has_table-6.result ≡ true = search rules in
    all_seven _ _ _ _ _ _ _ _ (named (codes "format") _ tables _ c.has_table.ensures c.as_slice.ensures ∙ one)
    (named (codes "unit") _ tables _ c.has_table-2.ensures c.as_slice-2.ensures ∙ two)
    (named (codes "branch") _ tables _ c.has_table-3.ensures c.as_slice-3.ensures ∙ three)
    (named (codes "entry") _ tables _ c.has_table-4.ensures c.as_slice-4.ensures ∙ four)
    (named (codes "leg") _ tables _ c.has_table-5.ensures c.as_slice-5.ensures ∙ five)
    (named (codes "claim") _ tables _ c.has_table-6.ensures c.as_slice-6.ensures ∙ six)
    (named (codes "transfer") _ tables _ c.has_table-7.ensures c.as_slice-7.ensures)
