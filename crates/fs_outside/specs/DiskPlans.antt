-- Which calls of a disk in memory are to fail.
use Rattle.std.specs.Prelude.{ℕ, ◌&&◌, ◌==◌, nat_le, if◌then◌else◌, is_some, List, [], ◌∷◌, Option, Some, None, Vec}
use Rattle.std.specs.declared.alloc.Global.{Global}
use Rattle.fs_outside.specs.declared.memory.disk_plan.DiskCall.{DiskCall}
use Rattle.fs_outside.specs.declared.memory.disk_plan.DiskCall.TheVariants.{Len, Read, Write, Sync}
use Rattle.fs_outside.specs.declared.memory.disk_plan.DiskFail.{DiskFail}
use Rattle.fs_outside.specs.declared.memory.disk_plan.DiskPlan.{DiskPlan}
use Rattle.fs_outside.specs.Faults.{one_more}

abbrev pub kind_number : DiskCall → ℕ
kind_number Len = 0
kind_number Read = 1
kind_number Write = 2
kind_number Sync = 3

-- how many bytes the list lets this call of its kind take, if it names it
abbrev pub fail_named : List DiskFail → DiskCall → ℕ → Option ℕ
fail_named [] call number = None
fail_named (fail ∷ fails) call number =
    if (kind_number fail.call == kind_number call) && (fail.number == number) then Some fail.taken else fail_named fails call number

-- the same where a fuse makes this call of all and each later one fail
abbrev pub named_now : List DiskFail → Option ℕ → ℕ → DiskCall → ℕ → Option ℕ
named_now fails None calls call number = fail_named fails call number
named_now fails (Some first) calls call number = if nat_le first calls then Some 0 else fail_named fails call number

-- no call was made
abbrev pub fresh_plan : Vec DiskFail Global → DiskPlan
fresh_plan fails = record { fails = fails; fuse = None; calls = 0; lens = 0; reads = 0; writes = 0; syncs = 0; listed = 0 }

-- how many calls of a kind there were
abbrev pub calls_counted : DiskPlan → DiskCall → ℕ
calls_counted plan Len = plan.lens
calls_counted plan Read = plan.reads
calls_counted plan Write = plan.writes
calls_counted plan Sync = plan.syncs

-- one call more of this kind
abbrev pub with_call : DiskPlan → DiskCall → DiskPlan
with_call plan Len = record plan { lens = one_more plan.lens }
with_call plan Read = record plan { reads = one_more plan.reads }
with_call plan Write = record plan { writes = one_more plan.writes }
with_call plan Sync = record plan { syncs = one_more plan.syncs }

-- how many bytes the next call may take, if that is a call of this kind and is to fail
abbrev pub next_fail : DiskPlan → DiskCall → Option ℕ
next_fail plan call = named_now plan.fails.items plan.fuse (one_more plan.calls) call (one_more (calls_counted plan call))

-- the plan after that call
abbrev pub plan_after : DiskPlan → DiskCall → DiskPlan
plan_after plan call = record (with_call plan call) {
  calls = one_more plan.calls;
  listed = if is_some (next_fail plan call) then one_more plan.listed else plan.listed;
}
