-- How many steps a job takes.
use Rattle.std.specs.Prelude.{ℕ, ◌+◌, ◌-◌, ◌^◌, ◌≤◌, ◌==◌, nat_lt, ◌&&◌, Bool, true, false, min, if◌then◌else◌}
use Rattle.std.specs.Prelude.{bytes_eq, zero, suc, ◌≡◌, ◌⊎◌, List, [], ◌∷◌, ◌++◌}
use Rattle.fs_model.specs.declared.sites.Job.{Job}
use Rattle.fs_model.specs.Case.{CaseData}
use Rattle.fs_model.specs.Machine.{Core}
use Rattle.fs_model.specs.Run.{State, flipped, after, run, ending}
use Rattle.snapshot_store.specs.Along.{Rose}
use Rattle.snapshot_store.specs.Stored.{SnapsData, kept_below, is_kept}
use Rattle.known_states.specs.Known.{AreAlike, KeyData, States, stands_for}
use Rattle.experiment.specs.Steps.{steps_of}

-- the machine holds the same in both
abbrev pub same_core : Core → Core → Bool
same_core a b = a.pc == b.pc && (bytes_eq a.regs b.regs && bytes_eq a.ram b.ram)

-- and just the same was put out
abbrev pub same_state : State → State → Bool
same_state a b = bytes_eq a.output b.output && same_core a.core b.core

-- j steps after s, which is a state at that cycle, the run stands at a kept cycle above, just as the run without a flip does there
unfoldable pub rejoins : CaseData → ℕ → ℕ → ℕ → State → ℕ → Bool
rejoins c spacing n cycle s j = nat_lt 0 j && (is_kept spacing n (cycle + j) && same_state (run c j s) (after c (cycle + j)))

-- the first of n numbers from `from` on that passes the test; if none does, the number after them
unfoldable pub first_from : (ℕ → Bool) → ℕ → ℕ → ℕ
first_from test from zero = from
first_from test from (suc more) = if test from then from else first_from test (from + 1) more

-- how many steps a run takes from a state at that cycle: to its end, to the limit, or to where it first stands as the run without a flip does
unfoldable pub steps_until : CaseData → ℕ → ℕ → ℕ → State → ℕ
steps_until c spacing n cycle s = first_from (rejoins c spacing n cycle s) 0 (steps_of (c.limit - cycle) (ending c (c.limit - cycle) s))

-- how many steps a job takes, where the multiples of the spacing below n are kept: from the nearest one to its cycle, and after the flip
unfoldable pub steps_of_job : CaseData → ℕ → ℕ → Job → ℕ
steps_of_job c spacing n job = job.cycle - kept_below spacing job.cycle + steps_until c spacing n job.cycle (flipped (after c job.cycle) job.cell job.bit)

-- a count of 64 bits rose by so much at least, and by so much at most
abbrev pub RoseWithin : ℕ → ℕ → ℕ → ℕ → Type 0
RoseWithin least before most after = (min (before + least) (2 ^ 64 - 1) ≤ after) × (after ≤ before + most)

-- a count of steps rose by those of `jobs` jobs; or, if runs may end at known states, by at most as many, and by at least one for each job
abbrev pub RoseAs : Bool → ℕ → ℕ → ℕ → ℕ → Type 0
RoseAs false jobs before steps after = Rose before steps after
RoseAs true jobs before steps after = RoseWithin jobs before steps after

-- a key of states that end as the state does was noted after the others, or none was
abbrev pub IsNotedHere : SnapsData → States → List KeyData → List KeyData → Type 0
IsNotedHere snaps states old new = ((key : KeyData) × AreAlike snaps.case (stands_for snaps key) states × (new ≡ old ++ key ∷ [])) ⊎ (new ≡ old)
