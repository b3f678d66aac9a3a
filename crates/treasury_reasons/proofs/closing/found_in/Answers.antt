use Rattle.std.proofs.Common.{◌≡◌, ◌∙◌, ◌==◌, ap, sym, find, lit<, rules, List, ℕ, option_map}
use Rattle.std.specs.List.{slice_split}
use Rattle.std.proofs.lemmas.Iterator.Search.{find_from_yields_List}
use Rattle.std.proofs.lemmas.Iterator.Splits.{YieldsList-from_str_split}
use borrow.Author.Tests.{tests}
use Rattle.treasury_reasons.specs.Closing.{is_against, found_in}
use Rattle.treasury_reasons.proofs.closing.found_in.Goals as goal

-- `find` over the parts of the list
pub returns : goal.returns
returns c =
    let found : option_map (λ name. name.now) c.find.result
    ≡ find (is_against c.args.cause) (slice_split (λ b. b == 59) c.as_str.result.now) =
    find_from_yields_List (is_against c.args.cause) _ _ c.find.result c.find.ensures.ran
    (YieldsList-from_str_split 59 c.as_str.result.now (lit< tt) c.split.ensures.text c.split.ensures.has_more
    c.split.ensures.pattern)
    (λ x b q k. search (rules, tests)) in
    found ∙ ap (λ (bs : List ℕ). find (is_against c.args.cause) (slice_split (λ b. b == 59) bs)) c.as_str.ensures
    ∙ sym (ap (found_in c.args.cause) c.in-Some.is)
