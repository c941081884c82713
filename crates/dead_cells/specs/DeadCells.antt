-- Runs whose outcome is known at a cycle of the golden run, from what they hold there.
use Rattle.std.specs.Prelude.{◌≡◌, ◌≢◌, ℕ, ◌+◌, ◌-◌, ◌^◌, ◌<◌, ◌≤◌, ◌⊎◌, Bool, true, not, if◌then◌else◌, Option, Some}
use Rattle.std.specs.Prelude.{None, length, bit_xor, bytes_eq, MatchOption}
use Rattle.fs_model.specs.declared.sites.Site.{Site}
use Rattle.fs_model.specs.declared.outcomes.Outcome.TheVariants.{NoEffect, Silent}
use Rattle.fs_model.specs.Case.{CaseData}
use Rattle.fs_model.specs.Machine.{Core, IsCore}
use Rattle.fs_model.specs.Cell.{cell_at, first_cell, held, bits}
use Rattle.fs_model.specs.Run.{State, ending, after, golden, cycles}
use Rattle.fs_model.specs.Outcome.{compare, outcome}
use Rattle.fs_model.specs.AccessLog.{AccessLog, log, next_touch, job_of}
use Rattle.fs_model.specs.Job.{IsSameLog}

-- the next touch is only a write, or there is no next touch
abbrev pub unread : Option (ℕ × Bool) → Bool
unread None = true
unread (Some (cycle, reads)) = not reads

-- from a cycle on the run writes the cell before it reads it, or touches it no more
unfoldable pub is_dead : AccessLog → ℕ → ℕ → Bool
is_dead l cell cycle = unread (next_touch l cell cycle)

-- the machine of a case holds what that of the golden run holds at cycle t, but for cells that are dead then
pub record IsAllDead (c : CaseData) (t : ℕ) (s : Core) : Type 0 where
  pub is_core : IsCore c s
  pub pc : s.pc ≡ (after c t).core.pc
  pub cells : (cell : ℕ) → 1 ≤ cell → cell < 32 + length c.ram
      → (held s (cell_at cell) ≡ held (after c t).core (cell_at cell)) ⊎ (is_dead (log c) cell t ≡ true)

-- it holds that but for one bit of one cell, which is not the pc
pub record IsOneBit (c : CaseData) (site : Site) (s : Core) : Type 0 where
  pub early : site.cycle < cycles c
  pub low : 1 ≤ site.cell
  pub in_cells : site.cell < 32 + length c.ram
  pub in_bits : site.bit < bits site.cell
  pub is_core : IsCore c s
  pub pc : s.pc ≡ (after c site.cycle).core.pc
  pub flipped : held s (cell_at site.cell) ≡ bit_xor (held (after c site.cycle).core (cell_at site.cell)) (2 ^ site.bit)
  pub others : (cell : ℕ) → 1 ≤ cell → cell < 32 + length c.ram → cell ≢ site.cell → held s (cell_at cell) ≡ held (after c site.cycle).core (cell_at cell)

-- no effect, or silent where it sent something else before
abbrev pub DeadOutcome : Type 0
DeadOutcome = (c : CaseData) (t : ℕ) (s : State) → t < cycles c → IsAllDead c t s.core →
    compare (golden c) (ending c (c.limit - t) s) ≡ (if bytes_eq (after c t).output s.output then NoEffect else Silent)

-- the state is that of the site
abbrev pub LaterSite : Type 0
LaterSite = (c : CaseData) (site : Site) (s : State) → IsOneBit c site s.core → s.output ≡ (after c site.cycle).output →
    compare (golden c) (ending c (c.limit - site.cycle) s) ≡ outcome c site

-- the outcome is that of the job, or no effect where the cell is dead
abbrev pub LaterJob : Type 0
LaterJob = (c : CaseData) (site : Site) (s : State) → IsOneBit c site s.core → s.output ≡ (after c site.cycle).output →
    let found = compare (golden c) (ending c (c.limit - site.cycle) s) in
    MatchOption (job_of (log c) site) (found ≡ NoEffect) (λ job. found ≡ outcome c job)

-- the case of one cell: a flip in a dead cell has no effect
abbrev pub OneDeadCell : Type 0
OneDeadCell = (c : CaseData) (site : Site) → site.cycle < cycles c → 1 ≤ site.cell → is_dead (log c) site.cell site.cycle ≡ true → outcome c site ≡ NoEffect

-- logs that say the same of each cell have the same dead cells
abbrev pub SameDead : Type 0
SameDead = (l m : AccessLog) (cell t : ℕ) → IsSameLog l m → first_cell l.pc ≤ cell → is_dead l cell t ≡ is_dead m cell t
