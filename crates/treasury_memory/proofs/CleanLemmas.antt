-- A connection over disks that are never wrong is clean, whatever was done with it.
use Rattle.std.proofs.Common.{◌&&◌, Bool, true, false, IsTrue, refl}
use Rattle.sqlite_disk.specs.declared.Disk.{Ghosts}
use Rattle.sqlite_trees.proofs.Doubt.{no_doubt}
use Rattle.sqlite_pool.specs.Pool.{state}
use Rattle.sqlite_store.specs.declared.store.FileStore.{FileStore}
use Rattle.sqlite.specs.Held.{Held}
use Rattle.sqlite.specs.State.{HasCleanDisk}
use Rattle.sqlite.specs.Files.{file_state}
use Rattle.treasury_memory.specs.declared.disk.MemoryDisk.{MemoryDisk}
use Rattle.treasury_memory.specs.contracts.disk.MemoryDiskDisk.TheImpl.{ghosts}

IsTrue_and : (a b : Bool) → IsTrue a → IsTrue b → IsTrue (a && b)
IsTrue_and true b p q = q
IsTrue_and false b p q = p

always_clean : {D : Type 0} {g : Ghosts D} → ((disk : D) → IsTrue (g.is_clean disk)) → (conn : Held (FileStore D g))
    → HasCleanDisk (file_state conn)
unfolding state
always_clean right conn = no_doubt _ (IsTrue_and _ _ (right _) (right _))

-- so each clause that stands under `HasCleanDisk` holds outright
pub memory_is_clean : (conn : Held (FileStore MemoryDisk ghosts)) → HasCleanDisk (file_state conn)
memory_is_clean conn = always_clean (λ _. refl) conn
