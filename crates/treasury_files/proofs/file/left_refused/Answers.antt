use Rattle.std.proofs.Common.{refl, inr}
use Rattle.treasury_files.proofs.file.left_refused.Goals as goal

pub returns-then-is_first : goal.returns-then-is_first
returns-then-is_first g c = inr (c.leave.result, refl, c.leave.ensures.quiet)
