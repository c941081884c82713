-- A key without the registers that are not live.
use Rattle.std.proofs.Common.{◌≡◌, ℕ, ◌<◌, ◌==◌, Bool, true, false, if◌then◌else◌, Option, List, length, slice_index, refl, ap, ◌∙◌, arith}
use Rattle.std.specs.Int.{bit_at}
use Rattle.fs_model.specs.Case.{CaseData}
use Rattle.fs_model.specs.Machine.{Core, IsCore}
use Rattle.fs_model.specs.Run.{ending}
use Rattle.dead_cells.specs.Live.{IsLiveness, SameLive}
use Rattle.dead_cells.proofs.Live.{live_end}
use Rattle.live_registers.specs.Masks.{LiveData, mask_at, live_of}
use Rattle.known_states.specs.Known.{AreAlike}
use Rattle.known_states.specs.Live.{live_only}

-- the state that differs from the machine's in registers that are not live at its pc
module _ (c : CaseData) (l : LiveData) (s : Core) (kept : List ℕ) (is_core : IsCore c s) (size : length kept ≡ 32)
    (each : (k : ℕ) → k < 32 → slice_index kept k ≡ live_only (mask_at l s.pc) s.regs k) where
  abbrev other : Core
  other = record { pc = s.pc; regs = kept; ram = s.ram }

  -- 0 is kept as 0
  zero_kept : (b : Bool) → (if b then slice_index s.regs 0 else 0) ≡ 0
  zero_kept true = is_core.zero_is_zero
  zero_kept false = refl

  kept_live : (k : ℕ) → k < 32 → live_of l s.pc k ≡ true → slice_index kept k ≡ slice_index s.regs k
  unfolding live_of
  kept_live k few on = each k few ∙ ap (λ (b : Bool). if b then slice_index s.regs k else 0) on

  same_live : SameLive c (live_of l) other s
  same_live = record {
    is_core = record { regs_length = size; zero_is_zero = each 0 (omega arith) ∙ zero_kept (bit_at (mask_at l s.pc) 0 == 1); ram_length = is_core.ram_length };
    other_core = is_core;
    pc = refl;
    ram = refl;
    regs = λ k low few on. kept_live k few on;
  }

  pub ends_alike : IsLiveness c (live_of l) → (k : ℕ) (output : List ℕ) → ending c k (record { core = record { pc = s.pc; regs = kept; ram = s.ram }; output = output }) ≡ ending c k (record { core = s; output = output })
  ends_alike is k output = live_end c (live_of l) (record { core = other; output = output }) (record { core = s; output = output }) k is same_live refl

-- the states of a key, and the machine's
pub key_alike : (c : CaseData) (l : LiveData) (s : Core) (kept ram : List ℕ) (pc cycle : ℕ) (sent : Option ℕ) → IsLiveness c (live_of l) → IsCore c s → length kept ≡ 32
    → ((k : ℕ) → k < 32 → slice_index kept k ≡ live_only (mask_at l s.pc) s.regs k) → pc ≡ s.pc → ram ≡ s.ram
    → AreAlike c (record { core = record { pc = pc; regs = kept; ram = ram }; cycle = cycle; sent = sent }) (record { core = s; cycle = cycle; sent = sent })
key_alike c l s kept ram pc cycle sent is is_core size each same_pc same_ram = record {
  cycle = refl;
  sent = refl;
  ends = λ k output.
      ap (λ (x : ℕ). ending c k (record { core = record { pc = x; regs = kept; ram = ram }; output = output })) same_pc
      ∙ ap (λ (x : List ℕ). ending c k (record { core = record { pc = s.pc; regs = kept; ram = x }; output = output })) same_ram
      ∙ ends_alike c l s kept is_core size each is k output;
}
