use Rattle.treasury_files.proofs.left.close.Goals as goal

pub returns-in-Ok : goal.returns-in-Ok
returns-in-Ok g c = record { live = c.schema.ensures.live; copied = c.in-Ok.ensures.copied }

pub returns-in-Err : goal.returns-in-Err
returns-in-Err g c = c.in-Err.ensures.err.0.quiet
