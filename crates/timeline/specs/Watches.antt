-- Watchpoints: which instructions touch watched bytes, and what stops a run.
use Rattle.std.specs.Prelude.{◌+◌, ◌&&◌, nat_lt, not, Bool, true, false, if◌then◌else◌, List, find, Option, Some, None}
use Rattle.fs_model.specs.declared.instructions.Instr.{Instr}
use Rattle.fs_model.specs.declared.instructions.Effect.{Effect}
use Rattle.fs_model.specs.declared.instructions.Effect.TheVariants.{Next, Set, Jump, Load, Store}
use Rattle.fs_model.specs.Memory.{count_of}
use Rattle.fs_model.specs.Machine.{Core, asked}
use Rattle.timeline.specs.declared.watches.Access.{Access}
use Rattle.timeline.specs.declared.watches.Watch.{Watch}
use Rattle.timeline.specs.declared.watches.WatchKind.{WatchKind}
use Rattle.timeline.specs.declared.watches.WatchKind.TheVariants as kind
use Rattle.timeline.specs.declared.watches.Hit.{Hit}
use Rattle.timeline.specs.declared.watches.Hit.TheVariants.{Breakpoint, Watchpoint}

-- the bytes that an instruction with this effect loads or stores
abbrev pub access_by : Effect → Option Access
access_by Next = None
access_by (Set v) = None
access_by (Jump link target) = None
access_by (Load size signed at) = Some (record { stores = false; first = at; count = count_of size })
access_by (Store size at v) = Some (record { stores = true; first = at; count = count_of size })

-- those of the instruction that is executed next
abbrev pub access_of : Core → Option Instr → Option Access
access_of s (Some i) = access_by (asked s i)
access_of s None = None

-- a watchpoint of this kind is for stores, or for loads
abbrev pub is_for : WatchKind → Bool → Bool
is_for kind.Write stores = stores
is_for kind.Read stores = not stores
is_for kind.Access stores = true

-- the ranges have a byte in common, and the watchpoint is for this access
abbrev pub is_touched : Access → Watch → Bool
is_touched a w = is_for w.kind a.stores && (nat_lt a.first (w.address + w.length) && nat_lt w.address (a.first + a.count))

-- the first of the watchpoints that an access touches
abbrev pub touched_by : List Watch → Option Access → Option Watch
touched_by watches (Some a) = find (is_touched a) watches
touched_by watches None = None

-- what stops a run at a place, by the watchpoint that was touched and by whether a breakpoint is there
abbrev pub hit_by : Option Watch → Bool → Option Hit
hit_by (Some w) stop = Some (Watchpoint w)
hit_by None stop = if stop then Some Breakpoint else None
