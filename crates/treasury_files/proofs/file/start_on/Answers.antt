use Rattle.std.proofs.Common.{◌≡◌, ◌⊎◌, ◌∙◌, Bool, true, false, not, ap, sym, subst, inl, inr, arith}
use Rattle.sqlite.specs.Held.{Held}
use Rattle.treasury_tables.specs.Creating.{has_receipt}
use Rattle.treasury_files.specs.Leaving.{IsLeftOpen, IsLeftClosed}
use Rattle.treasury_files.specs.Started.{IsOpenedOn, StartsOn}
use Rattle.treasury_files.proofs.LeftLemmas.{keeps_unasked, keeps_judged, keeps_refused, keeps_unstarted}
use Rattle.treasury_files.proofs.StartedLemmas.{starts_on, had_treasury}
use Rattle.treasury_files.proofs.UnservedLemmas.{none_checked, none_judged, none_opened, none_started}
use Rattle.treasury_files.proofs.file.start_on.Goals as goal

not_false : (r b : Bool) → r ≡ b → (not r ≡ false → b ≡ true) × (b ≡ true → not r ≡ false)
not_false true b same = (λ _. sym same, λ is. cc)
not_false false b same = (λ no. absurd cc, λ is. let clash : false ≡ true = same ∙ is in absurd cc)

pub returns-in-Err : goal.returns-in-Err
returns-in-Err g c = λ image on. elim c.in-Err.ensures.reads [
  | inl same ↦ record {
    keeps = keeps_unasked _ g.met.D.Disk.seen_may_stay image c.args.conn _ on
        (subst (λ (h : Held _). IsLeftOpen h c.left_open.result) same c.left_open.ensures);
    reason = λ is. none_checked _ image c.args.conn c.check_opened.new.conn _ on same c.left_open.ensures
        (c.in-Err.ensures.damaged is);
  }
  | inr read ↦ record {
    keeps = keeps_judged _ g.met.D.Disk.seen_may_stay image c.args.conn c.check_opened.new.conn _ on
        c.left_open.ensures read.1 read.0;
    reason = λ is. none_judged _ image c.args.conn c.check_opened.new.conn _ on c.left_open.ensures read.1
        (c.in-Err.ensures.damaged is);
  }
]

pub returns-in-Ok-start : goal.returns-in-Ok-start
returns-in-Ok-start g c =
    subst (λ (h : Held _). StartsOn _ h c.in-Ok-start.treasury) c.in-Ok.ensures.same
    (starts_on _ c.check_opened.new.conn c.in-Ok-open.store c.in-Ok-start.treasury c.in-Ok-open.ensures.opened
    c.in-Ok-open.ensures.clean c.in-Ok-open.ensures.still_open
    c.in-Ok-start.ensures.of c.in-Ok-start.ensures.open c.in-Ok-start.ensures.crash c.in-Ok-start.ensures.still_open
    c.in-Ok-start.ensures.kept
    (had_treasury _ c.check_opened.new.conn c.in-Ok-open.store c.in-Ok-start.treasury c.in-Ok-open.ensures.tables
    c.in-Ok-open.ensures.there c.in-Ok-open.ensures.first c.in-Ok-open.ensures.same c.in-Ok-start.ensures.crash
    c.in-Ok-start.ensures.held c.in-Ok-start.ensures.shown))

pub returns-in-Err-open : goal.returns-in-Err-open
returns-in-Err-open g c = λ image opened.
    let on = subst (λ (h : Held _). IsOpenedOn _ image h) (sym c.in-Ok.ensures.same) opened in
    let r = c.in-Err-open.refused in
    let told = c.without_tables.ensures.left in
    record {
      keeps = keeps_refused _ g.met.D.Disk.seen_may_stay image c.check_opened.new.conn r.conn told.0 r.cause
          (not c.has_receipts-is_first.result) c.without_tables.result.left on
          (not_false c.has_receipts-is_first.result _
          (c.has_receipts-is_first.ensures ∙ ap has_receipt c.schema.ensures.value)) c.in-Err-open.ensures.refused
          (λ is clean. (c.in-Err-open.ensures.damaged is clean).0) c.in-Err-open.ensures.crash
          c.in-Err-open.ensures.left c.in-Err-open.ensures.left_first told.1 told.2;
      reason = λ is. none_opened _ image c.check_opened.new.conn r.conn told.0 r.cause
          (not c.has_receipts-is_first.result)
          c.without_tables.result.left on (c.without_tables.ensures.damaged is)
          (λ clean. omega (arith, c.in-Err-open.ensures.crash.clean, clean))
          (λ is clean. (c.in-Err-open.ensures.damaged is clean).0) told.1 told.2;
    }

pub returns-in-Err-start : goal.returns-in-Err-start
returns-in-Err-start g c = λ image opened.
    let on = subst (λ (h : Held _). IsOpenedOn _ image h) (sym c.in-Ok.ensures.same) opened in
    let r = c.in-Err-start.refused in
    let left_so = subst (λ (h : Held _). IsLeftOpen h c.left_unstarted.result ⊎ IsLeftClosed h c.left_unstarted.result)
    c.into_connection.ensures c.left_unstarted.ensures in
    record {
      keeps = keeps_unstarted _ g.met.D.Disk.seen_may_stay image c.check_opened.new.conn c.in-Ok-open.store.conn
          r.store.conn
          c.left_unstarted.result on
          (λ clean. omega (arith, c.in-Ok-open.ensures.clean, clean)) c.in-Ok-open.ensures.still_open
          c.in-Ok-open.ensures.live c.in-Ok-open.ensures.opened
          c.in-Err-start.ensures.crash c.in-Err-start.ensures.unchanged left_so;
      reason = λ is. none_started _ image c.check_opened.new.conn c.in-Ok-open.store.conn r.store.conn
          c.left_unstarted.result on
          (λ clean. omega (arith, c.in-Ok-open.ensures.clean, clean))
          (λ clean. omega (arith, c.in-Err-start.ensures.crash.clean, clean)) c.in-Ok-open.ensures.opened
          (c.in-Err-start.ensures.damaged (c.unstarted.ensures is)) left_so;
    }
