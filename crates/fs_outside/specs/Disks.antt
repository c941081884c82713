-- What befell the disks in memory.
use Rattle.std.specs.Prelude.{ℕ, ◌+◌}
use Rattle.fs_outside.specs.declared.memory.disk_plan.DiskPlan.{DiskPlan}
use Rattle.fs_outside.specs.declared.memory.mem_disk.MemDisk.{MemDisk}
use Rattle.fs_outside.specs.declared.memory.sure_disk.SureDisk.{SureDisk}
use Rattle.fs_outside.specs.Past.{Past}
use Rattle.fs_outside.specs.Memory.{tape_past}

abbrev pub sure_past : SureDisk → Past
sure_past disk = tape_past disk.tape

-- how often it found no memory: its count of faults
abbrev pub sure_disk_short : SureDisk → ℕ
sure_disk_short disk = disk.short

abbrev pub mem_past : MemDisk → Past
mem_past disk = tape_past disk.tape

-- its list of the calls that fail and its fuse, with what it has counted
abbrev pub mem_plan : MemDisk → DiskPlan
mem_plan disk = disk.plan

-- how many bytes its reads gave
abbrev pub mem_given : MemDisk → ℕ
mem_given disk = disk.given

-- how often it found no memory
abbrev pub mem_short : MemDisk → ℕ
mem_short disk = disk.short

-- how often it failed
abbrev pub mem_faults : MemDisk → ℕ
mem_faults disk = disk.plan.listed + disk.short
