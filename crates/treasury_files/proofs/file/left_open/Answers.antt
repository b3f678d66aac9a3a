use Rattle.std.proofs.Common.{refl}
use Rattle.treasury_files.proofs.file.left_open.Goals as goal

pub returns : goal.returns
returns g c = (c.leave.result, refl, c.leave.ensures)
