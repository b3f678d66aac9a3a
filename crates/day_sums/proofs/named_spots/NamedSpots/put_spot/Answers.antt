use Rattle.std.proofs.Common.{◌≡◌, ◌∙◌, ap, sym, subst, List, ℕ, [], arith, length, ◌<◌, Option, Vec, Global}
use Rattle.std.specs.Prelude.{Contains}
use Rattle.std.specs.Map.{lookup}
use Rattle.std.specs.Ordering.{nat_cmp}
use Rattle.std.specs.Cmp.Lexicographic.{slice_cmp}
use Rattle.std.specs.BTreeMap.{is_at}
use Rattle.std.proofs.lemmas.List.{get_or_past, get_or_default}
use Rattle.day_sums.specs.declared.spots.Spot.{Spot}
use Rattle.day_sums.specs.Spots.{row_of}
use Rattle.day_sums.proofs.NameLemmas.{under, Puts}
use Rattle.day_sums.proofs.SpotLemmas.{found, replaced_kept, pushed_kept, made_kept, made_put}
use Rattle.day_sums.proofs.named_spots.NamedSpots.put_spot.Goals as goal
use Rattle.day_sums.proofs.named_spots.NamedSpots.put_spot.Goals.{in-Some+else-row-number, in_default}

pub returns-then-row-number-clause-kept : goal.returns-then-row-number-clause-kept
returns-then-row-number-clause-kept c a s h =
    let rows = c.args.self.now.rows.items in
    let row = c.in-Some.row in
    let here : row < length rows = omega (arith, c.if-row-number.true, c.len-number.ensures, c.args.self.now.rows.ok.0)
    in
    replaced_kept rows row c.put.new.self (row_of c.args.self.now a) s here
    (λ x k. c.put.ensures.kept x (subst (λ (xs : List Spot). Contains xs x)
    (get_or_default rows row [] c.index_mut.result.now here ∙ sym c.index_mut.ensures.value) k)) h

pub returns-in_err-insert-clause-kept : goal.returns-in_err-insert-clause-kept
returns-in_err-insert-clause-kept c a s h =
    let rows = c.args.self.now.rows.items in
    let same : row_of c.args.self.now a ≡ under a c.insert.new.self =
    ap (λ (es : List (Vec ℕ Global × ℕ)). lookup (is_at (λ (k : Vec ℕ Global). slice_cmp nat_cmp a k.items)) es)
    (sym c.in_err-insert.ensures.err) in
    subst (λ (o : Option ℕ). Contains (found c.push.new.self.items o) s) same
    (subst (λ (xs : List (List Spot)). Contains (found xs (row_of c.args.self.now a)) s)
    (sym c.in_ok-push.ensures.items) (pushed_kept rows c.put-2.new.self (row_of c.args.self.now a) s h))

none : (c : goal.In_ok-insert) → found c.args.self.now.rows.items (under c.args.account.now c.args.self.now.names) ≡ []
none c =
    elim c.match-row_of.branch [
      | in-Some+else-row-number w ↦
          ap (λ (o : Option ℕ). found c.args.self.now.rows.items o) (sym w.in-Some.ensures)
          ∙ get_or_past c.args.self.now.rows.items w.in-Some.row []
          (omega (arith, w.if-row-number.false, c.len-number.ensures, c.args.self.now.rows.ok.0))
      | in_default w ↦ ap (λ (o : Option ℕ). found c.args.self.now.rows.items o) (sym w.in_default.ensures)
    ]

put : (c : goal.In_ok-insert) → Puts c.args.account.now c.args.self.now.names c.insert.new.self c.len-number.result
put c = subst (λ (name : List ℕ). Puts name c.args.self.now.names c.insert.new.self c.len-number.result)
    c.in_ok-name.ensures.items c.in_ok-insert.ensures.updates

pub returns-clause-kept : goal.returns-clause-kept
returns-clause-kept c a s h = made_kept c.args.account.now c.args.self.now.names c.insert.new.self
    c.args.self.now.rows.items c.push.new.self.items c.put-2.new.self c.len-number.result (put c)
    c.in_ok-push.ensures.items (none c) a s h

pub returns-clause-put : goal.returns-clause-put
returns-clause-put c = made_put c.args.account.now c.args.self.now.names c.insert.new.self c.args.self.now.rows.items
    c.push.new.self.items c.put-2.new.self c.len-number.result c.args.spot (put c) c.in_ok-push.ensures.items
    (c.len-number.ensures ∙ c.args.self.now.rows.ok.0) c.in_ok-put.ensures.put
