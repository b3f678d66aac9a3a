-- What a request asks on its terms.
use Rattle.std.proofs.Common.{◌≡◌, Bool, true, false, List, Option, Some, None, Result, Ok, Err, ap, ◌∙◌, sym, subst}
use Rattle.std.proofs.Common.{◌⊎◌, refl, inl, inr, if◌then◌else◌}
use Rattle.money_core.specs.declared.style.Style.{Style}
use Rattle.money_core.specs.declared.cause.Cause.TheVariants.{OutOfMemory, Changed}
use Rattle.book_core.specs.declared.refusal.Refusal.{Refusal}
use Rattle.book_core.specs.declared.refusal.Refusal.TheVariants.{Plain}
use Rattle.treasury_state.specs.Federation.{Federation}
use Rattle.treasury_core.specs.declared.command.Command.{Command as AnyCommand}
use Rattle.treasury_requests.specs.declared.request.Spelled.{Spelled}
use Rattle.treasury_api.specs.declared.asking.Asked.{Asked}
use Rattle.treasury_api.specs.declared.asking.Asked.TheVariants.{Command, DryRun, Report}
use Rattle.treasury_requests.specs.declared.request.Request.{Request}
use Rattle.treasury_api.specs.Asked.{or_dry_run, has_changed, unless_changed, RequestAsks, SpelledAsks}
use Rattle.treasury_api.specs.Serving.{IsReady, OrMemory}

-- ---- a branch that may have changed

-- what is asked while the branch has not changed is what the texts say
kept_ok : (f : Federation) (request : Spelled) (said : Result Asked Refusal) (asked : Asked)
    → Ok asked ≡ unless_changed f request said → said ≡ Ok asked
kept_ok f request (Ok (Command c)) asked e = by_test (has_changed f request c) e
  where
    by_test : (t : Bool) → Ok asked ≡ (if t then Err (Plain Changed) else Ok (Command c))
        → ◌≡◌ {A = Result Asked Refusal} (Ok (Command c)) (Ok asked)
    by_test true e = absurd cc
    by_test false e = sym e
kept_ok f request (Ok (DryRun c)) asked e = sym e
kept_ok f request (Ok (Report report)) asked e = sym e
kept_ok f request (Err refusal) asked e = sym e

-- a refusal is that of a text, or says that the branch has changed
kept_err : (f : Federation) (request : Spelled) (said : Result Asked Refusal) (refusal : Refusal)
    → Err refusal ≡ unless_changed f request said → (said ≡ Err refusal) ⊎ (refusal ≡ Plain Changed)
kept_err f request (Ok (Command c)) refusal e = by_test (has_changed f request c) e
  where
    by_test : (t : Bool) → Err refusal ≡ (if t then Err (Plain Changed) else Ok (Command c))
        → (Ok (Command c) ≡ Err refusal) ⊎ (refusal ≡ Plain Changed)
    by_test true e = inr cc
    by_test false e = absurd cc
kept_err f request (Ok (DryRun c)) refusal e = absurd cc
kept_err f request (Ok (Report report)) refusal e = absurd cc
kept_err f request (Err other) refusal e = inl (sym e)

-- ---- a dry run

err_stays : (dry : Bool) (said : Result Asked Refusal) (refusal : Refusal) → Err refusal ≡ or_dry_run dry said
    → said ≡ Err refusal
err_stays false said refusal e = sym e
err_stays true (Ok (Command c)) refusal e = absurd cc
err_stays true (Ok (DryRun c)) refusal e = absurd cc
err_stays true (Ok (Report report)) refusal e = absurd cc
err_stays true (Err other) refusal e = sym e

-- a refusal is that of a text, in a dry run too, or says that the branch has changed
pub spelled_refusal : (f : Federation) (request : Spelled) (refusal : Refusal) → SpelledAsks f request (Err refusal)
    → RequestAsks f.styles request.request (Err refusal) ⊎ (refusal ≡ Plain Changed)
spelled_refusal f request refusal (said, (asks, e)) =
    by_said (kept_err f request said refusal
    (sym (err_stays request.terms.is_dry_run (unless_changed f request said) refusal e)))
  where
    by_said : (said ≡ Err refusal) ⊎ (refusal ≡ Plain Changed)
        → RequestAsks f.styles request.request (Err refusal) ⊎ (refusal ≡ Plain Changed)
    by_said (inl is) = inl (subst (RequestAsks f.styles request.request) is asks)
    by_said (inr is) = inr is

command_stays : (dry : Bool) (said : Result Asked Refusal) (c : AnyCommand) → Ok (Command c) ≡ or_dry_run dry said
    → said ≡ Ok (Command c)
command_stays false said c e = sym e
command_stays true (Ok (Command other)) c e = absurd cc
command_stays true (Ok (DryRun other)) c e = absurd cc
command_stays true (Ok (Report report)) c e = absurd cc
command_stays true (Err refusal) c e = absurd cc

-- a command that is to be performed is what the request asks
pub spelled_command : (f : Federation) (request : Spelled) (c : AnyCommand) → SpelledAsks f request (Ok (Command c))
    → RequestAsks f.styles request.request (Ok (Command c))
spelled_command f request c (said, (asks, e)) =
    subst (RequestAsks f.styles request.request) (kept_ok f request said (Command c)
    (sym (command_stays request.terms.is_dry_run (unless_changed f request said) c e))) asks

in_earnest_only : (dry : Bool) (said : Result Asked Refusal) (c : AnyCommand) → Ok (Command c) ≡ or_dry_run dry said
    → dry ≡ false
in_earnest_only false said c e = refl
in_earnest_only true (Ok (Command other)) c e = absurd cc
in_earnest_only true (Ok (DryRun other)) c e = absurd cc
in_earnest_only true (Ok (Report report)) c e = absurd cc
in_earnest_only true (Err refusal) c e = absurd cc

-- and is no dry run
pub spelled_in_earnest : (f : Federation) (request : Spelled) (c : AnyCommand) → SpelledAsks f request (Ok (Command c))
    → request.terms.is_dry_run ≡ false
spelled_in_earnest f request c (said, (asks, e)) =
    in_earnest_only request.terms.is_dry_run (unless_changed f request said) c e

report_stays : (dry : Bool) (said : Result Asked Refusal) (report : Request)
    → Ok (Report report) ≡ or_dry_run dry said → said ≡ Ok (Report report)
report_stays false said report e = sym e
report_stays true (Ok (Command c)) report e = absurd cc
report_stays true (Ok (DryRun c)) report e = absurd cc
report_stays true (Ok (Report other)) report e = sym e
report_stays true (Err refusal) report e = absurd cc

-- and so is a report
pub spelled_report : (f : Federation) (request : Spelled) (report : Request)
    → SpelledAsks f request (Ok (Report report)) → RequestAsks f.styles request.request (Ok (Report report))
spelled_report f request report (said, (asks, e)) =
    subst (RequestAsks f.styles request.request) (kept_ok f request said (Report report)
    (sym (report_stays request.terms.is_dry_run (unless_changed f request said) report e))) asks

dry_run_of : (dry : Bool) (said : Result Asked Refusal) (c : AnyCommand) → Ok (DryRun c) ≡ or_dry_run dry said
    → (said ≡ Ok (Command c)) ⊎ (said ≡ Ok (DryRun c))
dry_run_of false said c e = inr (sym e)
dry_run_of true (Ok (Command other)) c e = let same : c ≡ other = cc in inl (ap (λ x. Ok (Command x)) (sym same))
dry_run_of true (Ok (DryRun other)) c e = inr (sym e)
dry_run_of true (Ok (Report report)) c e = absurd cc
dry_run_of true (Err refusal) c e = absurd cc

-- a dry run is of a command that the request asks
pub spelled_dry_run : (f : Federation) (request : Spelled) (c : AnyCommand) → SpelledAsks f request (Ok (DryRun c))
    → RequestAsks f.styles request.request (Ok (Command c)) ⊎ RequestAsks f.styles request.request (Ok (DryRun c))
spelled_dry_run f request c (said, (asks, e)) =
    by_kept (dry_run_of request.terms.is_dry_run (unless_changed f request said) c e)
  where
    by_kept : (unless_changed f request said ≡ Ok (Command c)) ⊎ (unless_changed f request said ≡ Ok (DryRun c))
        → RequestAsks f.styles request.request (Ok (Command c)) ⊎ RequestAsks f.styles request.request (Ok (DryRun c))
    by_kept (inl is) =
        inl (subst (RequestAsks f.styles request.request) (kept_ok f request said (Command c) (sym is)) asks)
    by_kept (inr is) =
        inr (subst (RequestAsks f.styles request.request) (kept_ok f request said (DryRun c) (sym is)) asks)

-- ---- what is read of a request

pub spelled_ok : (f : Federation) (request : Spelled) (asked kept result : Asked)
    → OrMemory (RequestAsks f.styles request.request) (Ok asked)
    → OrMemory (λ one. one ≡ unless_changed f request (Ok asked)) (Ok kept)
    → Ok result ≡ or_dry_run request.terms.is_dry_run (Ok kept) → OrMemory (SpelledAsks f request) (Ok result)
spelled_ok f request asked kept result (inl memory) keeps is = absurd cc
spelled_ok f request asked kept result (inr asks) (inl memory) is = absurd cc
spelled_ok f request asked kept result (inr asks) (inr keeps) is =
    inr (Ok asked, (asks, is ∙ ap (or_dry_run request.terms.is_dry_run) keeps))

same_refusal : (dry : Bool) (refusal : Refusal) → Err refusal ≡ or_dry_run dry (Err refusal)
same_refusal true refusal = refl
same_refusal false refusal = refl

-- a text that has a fault
pub spelled_err : (f : Federation) (request : Spelled) (refusal : Refusal)
    → OrMemory (RequestAsks f.styles request.request) (Err refusal) → OrMemory (SpelledAsks f request) (Err refusal)
spelled_err f request refusal (inl memory) = inl memory
spelled_err f request refusal (inr asks) =
    inr (Err refusal, (asks, same_refusal request.terms.is_dry_run refusal))

-- a branch that has changed
pub spelled_changed : (f : Federation) (request : Spelled) (asked : Asked) (refusal : Refusal)
    → OrMemory (RequestAsks f.styles request.request) (Ok asked)
    → OrMemory (λ one. one ≡ unless_changed f request (Ok asked)) (Err refusal)
    → OrMemory (SpelledAsks f request) (Err refusal)
spelled_changed f request asked refusal (inl none) keeps = absurd cc
spelled_changed f request asked refusal (inr asks) (inl memory) = inl memory
spelled_changed f request asked refusal (inr asks) (inr keeps) =
    inr (
      Ok asked,
      (
        asks,
        same_refusal request.terms.is_dry_run refusal
            ∙ ap (or_dry_run request.terms.is_dry_run) keeps,
      ),
    )

-- a dry run fits as its command does
pub ready_stays : (styles : List Style) (dry : Bool) (asked result : Asked) → IsReady styles (Ok asked)
    → Ok result ≡ or_dry_run dry (Ok asked) → IsReady styles (Ok result)
ready_stays styles dry asked result ready is = subst (IsReady styles) (sym is) (by_choice dry asked ready)
  where
    by_choice : (dry : Bool) (asked : Asked) → IsReady styles (Ok asked)
        → IsReady styles (or_dry_run dry (Ok asked))
    by_choice false asked ready = ready
    by_choice true (Command c) ready = ready
    by_choice true (DryRun c) ready = ready
    by_choice true (Report report) ready = tt
