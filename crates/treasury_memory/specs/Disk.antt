-- What a file in memory shows.
use Rattle.std.specs.Prelude.{ℕ, List, vec_capacity}
use Rattle.treasury_memory.specs.declared.disk.MemoryDisk.{MemoryDisk}

-- its member `seen`
abbrev pub disk_bytes : MemoryDisk → List ℕ
disk_bytes disk = disk.bytes.items

-- how many bytes it holds before it asks for more memory
abbrev pub disk_room : MemoryDisk → ℕ
disk_room disk = vec_capacity disk.bytes

-- how many writes it has refused, for want of memory
abbrev pub disk_faults : MemoryDisk → ℕ
disk_faults disk = disk.faults
