use Rattle.std.proofs.Common.{refl, inl, inr}
use Rattle.treasury_files.proofs.file.left_closed.Goals as goal

pub returns-in-Ok : goal.returns-in-Ok
returns-in-Ok g c = inl (c.in-Ok.files, refl, c.in-Ok.ensures)

pub returns-in-Err : goal.returns-in-Err
returns-in-Err g c = inr (c.in-Err.store, refl, c.in-Err.ensures)
