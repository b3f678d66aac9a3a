use Rattle.std.proofs.Common.{◌≡◌, ◌∙◌, Result, Ok, Err, sym, ap, subst, arith}
use Rattle.sqlite.specs.Held.{Held}
use Rattle.treasury_store.specs.declared.store.Refused.{Refused}
use Rattle.treasury_files.specs.Started.{IsClosedAs, IsStillOpen}
use Rattle.treasury_files.proofs.LeftLemmas.{keeps_unmade, keeps_made}
use Rattle.treasury_files.proofs.StartedLemmas.{tables_made}
use Rattle.treasury_files.proofs.file.make_on.Goals as goal

err_is : {X E : Type 0} (e d : E) → ◌≡◌ {A = Result X E} (Err e) (Err d) → e ≡ d
err_is {X} {E} e d same = ap (error_in e) same
  where
    error_in : E → Result X E → E
    error_in e (Ok x) = e
    error_in e (Err d) = d

pub returns-in-Err : goal.returns-in-Err
returns-in-Err g c = λ image on.
    let r = c.in-Err.refused in
    keeps_unmade _ g.met.D.Disk.seen_may_stay image c.args.conn r.conn r.cause c.give_up.result.left on
    c.in-Err.ensures.refused
    (λ has. let same = err_is r _ (sym c.in-Err.is ∙ c.create.ensures.taken has) in
    (ap (λ (x : Refused _). x.conn) same, ap (λ (x : Refused _). x.cause) same))
    (λ clean. omega (arith, c.in-Err.ensures.crash.clean, clean)) c.give_up.ensures.open c.give_up.ensures.closed

pub returns-in-Ok-close : goal.returns-in-Ok-close
returns-in-Ok-close g c = λ image on.
    tables_made _ image c.args.conn c.in-Ok.store c.in-Ok-close.files on c.in-Ok.ensures.made c.in-Ok.ensures.free
    c.in-Ok.ensures.clean
    (subst (λ (h : Held _). IsClosedAs _ h c.in-Ok-close.files) c.into_connection.ensures c.in-Ok-close.ensures)

pub returns-in-Err-close : goal.returns-in-Err-close
returns-in-Err-close g c = λ image on.
    keeps_made _ g.met.D.Disk.seen_may_stay image c.args.conn c.in-Ok.store.conn c.in-Err-close.store on
    c.in-Ok.ensures.free (λ clean. omega (arith, c.in-Ok.ensures.clean, clean))
    (subst (λ (h : Held _). IsStillOpen _ h c.in-Err-close.store) c.into_connection.ensures c.in-Err-close.ensures)
