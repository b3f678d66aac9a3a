use Rattle.std.proofs.Common.{◌≡◌, ℕ, ◌+◌, ◌-◌, ◌/◌, ◌<◌, List, [], length, get_or, arith, ap, sym, ◌∙◌}
use Rattle.std.specs.Ordering.{is_lt}
use Rattle.std.specs.declared.cmp.Ordering.TheVariants.{Less}
use Rattle.std.proofs.lemmas.List.{get_or_default}
use Rattle.book_core.specs.Account.{name_cmp}
use Rattle.book_core.proofs.AccountListLemmas.{is_less, before_middle, none_middle}
use Rattle.treasury_reports.proofs.names.count_before.Goals as goal

pub search-preserved-then-lt : goal.search-preserved-then-lt
search-preserved-then-lt c =
    let names = c.args.names.now in
    let middle = c.search.low + (c.search.high - c.search.low) / 2 in
    let here : middle < length names = omega arith in
    let same : c.as_str.result.now ≡ get_or names middle [] =
    c.as_str.ensures ∙ c.index-names-middle.is ∙ get_or_default names middle c.index-names-middle.result [] here in
    record {
      order = omega arith;
      bound = c.search.invariant.bound;
      before = before_middle names c.args.name.now middle c.requires here
          (ap (λ (x : List ℕ). name_cmp x c.args.name.now) (sym same) ∙ is_less _ (sym c.lt.ensures ∙ c.if-lt.true));
      after = c.search.invariant.after;
    }

pub search-preserved : goal.search-preserved
search-preserved c =
    let names = c.args.names.now in
    let middle = c.search.low + (c.search.high - c.search.low) / 2 in
    let here : middle < length names = omega arith in
    let same : c.as_str.result.now ≡ get_or names middle [] =
    c.as_str.ensures ∙ c.index-names-middle.is ∙ get_or_default names middle c.index-names-middle.result [] here in
    record {
      order = omega arith;
      bound = omega arith;
      before = c.search.invariant.before;
      after = none_middle names c.args.name.now middle c.requires
          (λ e. absurd (let f : is_lt (name_cmp c.as_str.result.now c.args.name.now) ≡ is_lt Less =
          ap (λ (x : List ℕ). is_lt (name_cmp x c.args.name.now)) same ∙ ap is_lt e in let g = c.lt.ensures in let h =
          c.if-lt.false in cc));
    }
