use Rattle.std.proofs.Common.{refl, inl, inr, rules, subst}
use Rattle.treasury_store.specs.Treasury.{Treasury}
use Rattle.treasury.specs.OverFileParts.{spoken}
use Rattle.treasury_files.specs.Started.{IsClosedAs, IsStillOpen, IsLeftAs}
use Rattle.treasury_files.proofs.StartedLemmas.{keeps_started, keeps_unclosed, keeps_left}
use Rattle.treasury.proofs.ServingLemmas.{serves_over, serves_open, serves_shut, ends_open, ends_otherwise}
use Rattle.treasury.proofs.ServingLemmas.{keeps_unheard}
use Rattle.treasury.proofs.words.serving.serve_on_file.Goals as goal

pub returns-then-is_changed-clause-says : goal.returns-then-is_changed-clause-says
returns-then-is_changed-clause-says g c = λ image values started.
    ends_open _ image c.serve_port-ending.result (spoken c.refused_file.result) _ c.refused_file.ensures
    (serves_open _ g.met.D.Disk.seen_may_stay image c.args.treasury c.serve_port-ending.new.treasury
    c.leave_treasury.result started c.serve_port-ending.ensures.served c.leave_treasury.ensures)
    (keeps_unheard _ image c.serve_port-ending.result c.args.treasury c.serve_port-ending.new.treasury _
    c.serve_port-ending.ensures.heard
    (λ same. keeps_left _ g.met.D.Disk.seen_may_stay image c.args.treasury c.leave_treasury.result started
    (subst (λ (t : Treasury _). IsLeftAs t.store.conn c.leave_treasury.result) same c.leave_treasury.ensures)))

pub returns-in-Ok-clause-says : goal.returns-in-Ok-clause-says
returns-in-Ok-clause-says g c = λ image values started.
    ends_otherwise _ image c.serve_port-ending.result (spoken c.said_at_end.result) _
    (c.is_changed.ensures (search rules))
    (inr (
      serves_over _ image c.args.treasury c.serve_port-ending.new.treasury c.in-Ok.files started
          c.serve_port-ending.ensures.served c.in-Ok.ensures,
      c.said_at_end.ensures,
    ))
    (keeps_unheard _ image c.serve_port-ending.result c.args.treasury c.serve_port-ending.new.treasury _
    c.serve_port-ending.ensures.heard
    (λ same. keeps_started _ g.met.D.Disk.seen_may_stay image c.args.treasury c.in-Ok.files started
    (subst (λ (t : Treasury _). IsClosedAs _ t.store.conn c.in-Ok.files) same c.in-Ok.ensures)))

pub returns-in-Err-clause-says : goal.returns-in-Err-clause-says
returns-in-Err-clause-says g c = λ image values started.
    ends_otherwise _ image c.serve_port-ending.result (spoken c.refused_file-in-Err.result) _
    (c.is_changed.ensures (search rules))
    (inl (
      c.refused_file-in-Err.ensures,
      inr (serves_shut _ g.met.D.Disk.seen_may_stay image c.args.treasury c.serve_port-ending.new.treasury
          c.in-Err.store started c.serve_port-ending.ensures.served c.in-Err.ensures),
    ))
    (keeps_unheard _ image c.serve_port-ending.result c.args.treasury c.serve_port-ending.new.treasury _
    c.serve_port-ending.ensures.heard
    (λ same. keeps_unclosed _ g.met.D.Disk.seen_may_stay image c.args.treasury c.in-Err.store started
    (subst (λ (t : Treasury _). IsStillOpen _ t.store.conn c.in-Err.store) same c.in-Err.ensures)))

pub returns-then-is_changed-clause-touched : goal.returns-then-is_changed-clause-touched
returns-then-is_changed-clause-touched g c = inr (c.leave_treasury.result, refl)

pub returns-in-Ok-clause-touched : goal.returns-in-Ok-clause-touched
returns-in-Ok-clause-touched g c = inl (inl (c.in-Ok.files, refl))

pub returns-in-Err-clause-touched : goal.returns-in-Err-clause-touched
returns-in-Err-clause-touched g c = inl (inr (c.in-Err.store, refl))
