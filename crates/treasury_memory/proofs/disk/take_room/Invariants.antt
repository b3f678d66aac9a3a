use Rattle.treasury_memory.proofs.disk.take_room.Given as goal

abbrev pub decreases-halves : goal.decreases-halves
decreases-halves l = l.asked
