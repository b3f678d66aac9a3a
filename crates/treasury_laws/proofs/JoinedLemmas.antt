-- a run joins what its commands add; two states of the same parts
use Rattle.std.proofs.Common.{◌≡◌, List, [], ◌∷◌, refl, ap, ◌∙◌, sym}
use Rattle.std.specs.List.{AllByRecursion}
use Rattle.money_core.proofs.ListLemmas.{all_weaker}
use Rattle.treasury_state.specs.Federation.{Federation, Branch}
use Rattle.treasury_state.specs.Joined.{joined}
use Rattle.treasury_state.specs.Good.{IsGoodRecord, IsGoodBranch, IsGoodState}
use Rattle.treasury_state.proofs.BranchRowLemmas.{AreGood}
use Rattle.treasury_core.specs.Step.{after, delta}
use Rattle.treasury_core.specs.Run.{Turn, state_after}
use Rattle.treasury_core.proofs.JoinedLemmas.{after_joined, joined-append}
use Rattle.treasury_laws.specs.History.{history}

pub run_joined : (f : Federation) (turns : List Turn) → state_after f turns ≡ joined f (history f turns)
run_joined f [] = refl
run_joined f (t ∷ ts) =
    run_joined (after f t.command t.reply) ts
    ∙ ap (λ (g : Federation). joined g (history (after f t.command t.reply) ts)) (after_joined f t.command t.reply)
    ∙ sym (joined-append f (delta f t.command t.reply) (history (after f t.command t.reply) ts))

pub good_records : (f : Federation) → IsGoodState f → AreGood f.styles f.branches
good_records f good = all_weaker (IsGoodBranch f.styles)
    (λ (b : Branch). AllByRecursion (IsGoodRecord f.styles) b.records) f.branches (λ b h. h.records) good.branches
