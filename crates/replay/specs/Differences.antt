-- Where the injected run is first seen to be another than the run without a flip.
use Rattle.std.specs.Prelude.{ℕ, zero, suc, ◌+◌, Bool, not, if◌then◌else◌, bytes_eq, Option, Some, None, option_map}
use Rattle.std.specs.Option.{option_or}
use Rattle.fs_model.specs.declared.sites.Site.{Site}
use Rattle.fs_model.specs.Case.{CaseData}
use Rattle.fs_model.specs.Run.{State, after}
use Rattle.timeline.specs.Apart.{other_output, other_pc}
use Rattle.replay.specs.Injected.{injected_at}
use Rattle.replay.specs.declared.differences.Differences.{Differences}

-- two runs differ in a register
abbrev pub other_registers : State → State → Bool
other_registers a b = not (bytes_eq a.core.regs b.core.regs)

-- the first number below n that passes the test
unfoldable pub first_below : (ℕ → Bool) → ℕ → Option ℕ
first_below test zero = None
first_below test (suc n) = option_or (first_below test n) (if test n then Some n else None)

-- the number of the first of n instructions from the flip on before which the runs differ so
abbrev pub first_apart : CaseData → Site → (State → State → Bool) → ℕ → Option ℕ
first_apart c site other n =
    option_map (λ k. site.cycle + k) (first_below (λ k. other (injected_at c site k) (after c (site.cycle + k))) n)

abbrev pub differences : CaseData → Site → ℕ → Differences
differences c site n = record {
  pc = first_apart c site other_pc n;
  registers = first_apart c site other_registers n;
  output = first_apart c site other_output n;
}
