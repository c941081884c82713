-- Which instruction wrote a register last.
use Rattle.std.specs.Prelude.{ℕ, ◌==◌, ◌&&◌, not, Bool, false, Option, Some, None}
use Rattle.fs_model.specs.declared.instructions.Instr.{Instr}
use Rattle.fs_model.specs.declared.sites.Site.{Site}
use Rattle.fs_model.specs.Case.{CaseData}
use Rattle.fs_model.specs.Machine.{instr_at}
use Rattle.fs_model.specs.Run.{State}
use Rattle.timeline.specs.Places.{state_at, last_from}

-- the instruction has this rd; stores, branches and FENCE, which have none, have 0 there
abbrev pub has_rd : Option Instr → ℕ → Bool
has_rd (Some i) k = i.rd == k
has_rd None k = false

-- the next instruction of a state writes the register; the one of number 0 is never written
abbrev pub writes_next : CaseData → State → ℕ → Bool
writes_next c s k = not (k == 0) && has_rd (instr_at c s.core) k

-- the last of the first `place` instructions that writes the register, by the number of those before it
abbrev pub last_write : CaseData → Option Site → ℕ → ℕ → Option ℕ
last_write c flip k place = last_from (λ n. writes_next c (state_at c flip n) k) 0 place
