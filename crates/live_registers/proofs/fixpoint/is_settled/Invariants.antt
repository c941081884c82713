use Rattle.std.proofs.Common.{◌≡◌, ℕ, ◌<◌, slice_index}
use Rattle.live_registers.specs.Masks.{live_of, CoversWord}
use Rattle.live_registers.proofs.fixpoint.is_settled.Given as goal

abbrev pub invariant-loop-j : goal.invariant-loop-j
invariant-loop-j l = (i : ℕ) → i < l.j → CoversWord l.case (live_of (record { base = l.case.rom_base; masks = l.masks })) i (slice_index l.masks i)
