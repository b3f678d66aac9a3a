-- An import that is answered with counts: the state after it reads its journal as the same transactions.
use Rattle.std.proofs.Common.{◌≡◌, ℕ, List, refl, ap, sym, subst, Result, Ok}
use Rattle.money_core.specs.declared.style.Style.{Style}
use Rattle.book_core.specs.declared.refusal.Refusal.{Refusal}
use Rattle.journal_format.specs.declared.txn.Located.{Located}
use Rattle.journal_format.specs.Pieces.{Reads}
use Rattle.treasury_state.specs.Federation.{Federation}
use Rattle.treasury_core.specs.declared.command.Answer.{Answer}
use Rattle.treasury_core.specs.declared.command.Answer.TheVariants.{Entered}
use Rattle.treasury_core.specs.declared.command.Command.TheVariants.{Enter}
use Rattle.treasury_core.specs.Step.{reply, done, after, step}
use Rattle.treasury_requests.specs.declared.request.Request.TheVariants.{Import as ForImport}
use Rattle.treasury_reasons.specs.Uneven.{IsReadImport}

styles_after_entered : (f : Federation) (name : List ℕ) (file : List Located) (new repeated : ℕ)
    → reply f (Enter name file) ≡ Ok (Entered new repeated) → (step f (Enter name file)).next.styles ≡ f.styles
unfolding done
styles_after_entered f name file new repeated h =
    ap (λ (r : Result Answer Refusal). (after f (Enter name file) r).styles) h

pub answered_is_read : (f : Federation) (name journal : List ℕ) (file : List Located) (new repeated : ℕ)
    → Reads f.styles journal file → reply f (Enter name file) ≡ Ok (Entered new repeated)
    → IsReadImport (step f (Enter name file)).next.styles (ForImport name journal) name journal file
answered_is_read f name journal file new repeated reads h = (
  refl,
  subst (λ (styles : List Style). Reads styles journal file)
      (sym (styles_after_entered f name file new repeated h)) reads,
)
