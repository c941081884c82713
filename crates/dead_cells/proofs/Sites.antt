-- Outcomes of sites, from states that their runs come to.
use Rattle.std.proofs.Common.{ℕ, zero, suc, ◌≡◌, ◌+◌, ◌-◌, ◌^◌, ◌<◌, ◌≤◌, ◌⊎◌, true, if◌then◌else◌, arith, refl, ap, ◌∙◌, ⊎_elim, inl, inr}
use Rattle.std.specs.Prelude.{bit_xor, bytes_eq}
use Rattle.std.proofs.lemmas.Bool.{cases_eq, cases_lt}
use Rattle.std.proofs.lemmas.Slice.Eq.{bytes_eq-Decides}
use Rattle.fs_model.specs.declared.sites.Site.{Site}
use Rattle.fs_model.specs.declared.outcomes.Outcome.TheVariants.{NoEffect, Silent}
use Rattle.fs_model.specs.Case.{CaseData}
use Rattle.fs_model.specs.Machine.{Core, IsCore}
use Rattle.fs_model.specs.Cell.{cell_at, first_cell, held, with_cell, flip}
use Rattle.fs_model.specs.Run.{after, flipped, injected}
use Rattle.fs_model.specs.Outcome.{outcome}
use Rattle.fs_model.specs.Job.{IsSameLog}
use Rattle.fs_model.specs.AccessLog.{AccessLog, first_of, touch_within, next_touch, log}
use Rattle.dead_cells.specs.DeadCells.{unread, is_dead, IsAllDead, OneDeadCell, SameDead}
use Rattle.dead_cells.proofs.Alike.{Keeps, held_else, with_cell_keeps}
use Rattle.dead_cells.proofs.Known.{after_core, flip-is, dead_outcome}

-- ---- logs that say the same

same_within : (l m : AccessLog) (cell n t : ℕ) → IsSameLog l m → first_cell l.pc ≤ cell → t + n ≤ l.cycles → touch_within l cell n t ≡ touch_within m cell n t
unfolding touch_within
same_within l m cell zero t same low few = refl
same_within l m cell (suc n) t same low few =
    ap (λ a. first_of a t (touch_within l cell n (t + 1))) (same.access t cell (omega arith) low) ∙ ap (first_of (m.access t cell) t) (same_within l m cell n (t + 1) same low (omega arith))

pub same_dead : SameDead
unfolding is_dead next_touch
same_dead l m cell t same low =
    ap (λ n. unread (touch_within l cell (n - t) t)) same.cycles ∙ ap unread (by (cases_lt t m.cycles))
  where
    by : (t < m.cycles) ⊎ (m.cycles ≤ t) → touch_within l cell (m.cycles - t) t ≡ touch_within m cell (m.cycles - t) t
    by (inl early) = same_within l m cell (m.cycles - t) t same low (let e = same.cycles in omega arith)
    by (inr late) = let e : m.cycles - t ≡ 0 = omega arith in rw e (unfold touch_within in refl)

-- ---- a flip

pub flip_core : (c : CaseData) (s : Core) (cell bit : ℕ) → 1 ≤ cell → IsCore c s → IsCore c (flip s cell bit)
flip_core c s cell bit low core =
    let keeps = with_cell_keeps s cell (bit_xor (held s (cell_at cell)) (2 ^ bit)) low in
    rw (← flip-is s cell bit) (record {
      regs_length = keeps.size.regs ∙ core.regs_length;
      zero_is_zero = keeps.zero_reg ∙ core.zero_is_zero;
      ram_length = keeps.size.ram ∙ core.ram_length;
    })

-- ---- a flip in a dead cell

flip_dead : (c : CaseData) (site : Site) → 1 ≤ site.cell → is_dead (log c) site.cell site.cycle ≡ true → IsAllDead c site.cycle (flip (after c site.cycle).core site.cell site.bit)
flip_dead c site low dead = rw (← flip-is g site.cell site.bit) (record {
  is_core = record {
    regs_length = keeps.size.regs ∙ core.regs_length;
    zero_is_zero = keeps.zero_reg ∙ core.zero_is_zero;
    ram_length = keeps.size.ram ∙ core.ram_length;
  };
  pc = keeps.pc;
  cells = λ cell one few. ⊎_elim
      (λ (a : cell ≡ site.cell). inr (rw a dead))
      (λ (a : cell ≡ site.cell → ⊥). inl (held_else g site.cell cell v a one))
      (cases_eq cell site.cell);
})
  where
    g : Core
    g = (after c site.cycle).core

    v : ℕ
    v = bit_xor (held g (cell_at site.cell)) (2 ^ site.bit)

    core : IsCore c g
    core = after_core c site.cycle

    keeps : Keeps (with_cell g site.cell v) g
    keeps = with_cell_keeps g site.cell v low

pub one_dead_cell : OneDeadCell
unfolding outcome injected flipped
one_dead_cell c site early low dead =
    let o = (after c site.cycle).output in
    let same : bytes_eq o o ≡ true = (bytes_eq-Decides o o).1 refl in
    dead_outcome c site.cycle (flipped (after c site.cycle) site.cell site.bit) early (flip_dead c site low dead) ∙ ap (λ b. if b then NoEffect else Silent) same
