-- Which calls of a source or a sink in memory are to fail.
use Rattle.std.specs.Prelude.{ℕ, Bool, ◌==◌, if◌then◌else◌, Vec}
use Rattle.std.specs.List.{list_any}
use Rattle.std.specs.declared.alloc.Global.{Global}
use Rattle.fs_outside.specs.declared.memory.call_list.CallList.{CallList}
use Rattle.fs_outside.specs.Faults.{one_more}

-- no call was made
abbrev pub fresh_list : Vec ℕ Global → CallList
fresh_list fails = record { fails = fails; calls = 0; listed = 0 }

-- the list names the next call
abbrev pub names_next : CallList → Bool
names_next list = list_any (λ number. number == one_more list.calls) list.fails.items

-- the list after that call
abbrev pub after_call : CallList → CallList
after_call list = record list {
  calls = one_more list.calls;
  listed = if names_next list then one_more list.listed else list.listed;
}
