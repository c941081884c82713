-- Outcomes that are known at a cycle of the golden run.
use Rattle.std.proofs.Common.{ℕ, zero, suc, ◌≡◌, ◌+◌, ◌-◌, ◌^◌, ◌<◌, ◌≤◌, ◌⊎◌, ◌==◌, Bool, true, false, if◌then◌else◌, List, [], ◌∷◌, ◌++◌, length, arith, refl, sym, ap, ◌∙◌, ⊎_elim, inl, inr}
use Rattle.std.specs.Prelude.{bit_xor, bytes_eq}
use Rattle.std.proofs.lemmas.List.{append_cancel_right, length-replicate, get_or-replicate}
use Rattle.std.proofs.lemmas.Bool.{cases_eq, eq-eqb}
use Rattle.std.proofs.lemmas.Bool.Decides.{same_from_decides}
use Rattle.std.proofs.lemmas.Slice.Eq.{bytes_eq-Decides}
use Rattle.fs_model.specs.declared.sites.Site.{Site}
use Rattle.fs_model.specs.declared.outcomes.Outcome.TheVariants.{NoEffect, Silent}
use Rattle.fs_model.specs.Case.{CaseData}
use Rattle.fs_model.specs.Machine.{Core, IsCore, turn}
use Rattle.fs_model.specs.Cell.{cell_at, held, with_cell, flip}
use Rattle.fs_model.specs.Run.{State, step_by, step, Halt, Ending, Ended, ending, go_on, run, start, after, flipped, golden, injected, cycles_of, cycles}
use Rattle.fs_model.specs.Outcome.{agrees, compare, outcome}
use Rattle.fs_model.specs.AccessLog.{touch_within, next_touch, log}
use Rattle.fs_model.specs.declared.events.Event.{Event}
use Rattle.fs_model.specs.declared.events.Event.TheVariants.{Went, Out, Halted, Detected, Trapped}
use Rattle.fs_model.proofs.Kept.{IsCore-turn}
use Rattle.fs_model.proofs.Fate.{golden_at}
use Rattle.fs_model.proofs.Pruned.{halts, site_outcome}
use Rattle.fs_model.proofs.SiteList.{IsSite, first_one}
use Rattle.dead_cells.specs.Differs.{Patch, patched}
use Rattle.dead_cells.specs.DeadCells.{unread, is_dead, IsAllDead, IsOneBit, DeadOutcome, LaterSite, LaterJob}
use Rattle.dead_cells.proofs.Rest.{AllDead, same_rest}
use Rattle.dead_cells.proofs.Outputs.{behind, ending_fresh, IsBehind, behind_is}
use Rattle.dead_cells.proofs.Alike.{Keeps, held_here, held_else, with_cell_keeps, core_ext, diffs, is_patched}

-- ---- what holds of the golden run's machine

step_core : (c : CaseData) (e : Event) (x : Core) (s : State) → IsCore c x → IsCore c s.core → IsCore c (go_on (step_by s.output e x) s).core
unfolding go_on step_by
step_core c Went x s h g = h
step_core c (Out byte) x s h g = h
step_core c (Halted value) x s h g = g
step_core c Detected x s h g = g
step_core c (Trapped kind) x s h g = g

run_core : (c : CaseData) (k : ℕ) (s : State) → IsCore c s.core → IsCore c (run c k s).core
unfolding run step
run_core c zero s h = h
run_core c (suc k) s h =
    let g = run_core c k s h in
    step_core c (turn c (run c k s).core).event (turn c (run c k s).core).core (run c k s) (IsCore-turn c (run c k s).core g) g

start_core : (c : CaseData) → IsCore c (start c).core
unfolding start
start_core c = record { regs_length = length-replicate {A = ℕ} 32 0; zero_is_zero = get_or-replicate {A = ℕ} 32 0 0 0 (omega arith); ram_length = refl }

pub after_core : (c : CaseData) (t : ℕ) → IsCore c (after c t).core
unfolding after
after_core c t = run_core c t (start c) (start_core c)

pub cores_keep : (c : CaseData) (s g : Core) → IsCore c s → IsCore c g → s.pc ≡ g.pc → Keeps s g
cores_keep c s g h i pc = record {
  size = record { regs = h.regs_length ∙ sym i.regs_length; ram = h.ram_length ∙ sym i.ram_length };
  pc = pc;
  zero_reg = h.zero_is_zero ∙ sym i.zero_is_zero;
}

-- ---- dead cells

dead_diffs : (c : CaseData) (n t : ℕ) (s g : Core) (m : ℕ) → m < 32 + length c.ram →
    ((cell : ℕ) → 1 ≤ cell → cell < 32 + length c.ram → (held s (cell_at cell) ≡ held g (cell_at cell)) ⊎ (unread (touch_within (log c) cell n t) ≡ true)) → AllDead (log c) n t (diffs s g m)
unfolding AllDead diffs
dead_diffs c n t s g zero few h = tt
dead_diffs c n t s g (suc m) few h = by (held s (cell_at (suc m)) == held g (cell_at (suc m))) refl (h (suc m) (omega arith) few) (dead_diffs c n t s g m (omega arith) h)
  where
    by : (b : Bool) → (held s (cell_at (suc m)) == held g (cell_at (suc m))) ≡ b → (held s (cell_at (suc m)) ≡ held g (cell_at (suc m))) ⊎ (unread (touch_within (log c) (suc m) n t) ≡ true) →
        AllDead (log c) n t (diffs s g m) → AllDead (log c) n t (if b then diffs s g m else record { cell = suc m; value = held s (cell_at (suc m)) } ∷ diffs s g m)
    by true e now rest = rest
    by false e (inl same) rest = absurd (let f : (held s (cell_at (suc m)) == held g (cell_at (suc m))) ≡ true = eq-eqb _ _ same in cc)
    by false e (inr dead) rest = (let low : 1 ≤ suc m = omega arith in low, dead, rest)

-- what the golden run sends from t on
record Left (c : CaseData) (value n : ℕ) (out : List ℕ) (t : ℕ) (s : State) : Type 0 where
  rest : List ℕ
  whole : (after c t).output ++ rest ≡ out
  is : ending c (c.limit - t) s ≡ Ended (Halt value) n (s.output ++ rest)

left_at : (c : CaseData) (value n : ℕ) (out : List ℕ) (t : ℕ) (s : State) → ending c (c.limit - t) (after c t) ≡ Ended (Halt value) n out →
    ((cell : ℕ) → 1 ≤ cell → cell < 32 + length c.ram → (held s.core (cell_at cell) ≡ held (after c t).core (cell_at cell)) ⊎ (unread (touch_within (log c) cell n t) ≡ true)) →
    IsCore c s.core → s.core.pc ≡ (after c t).core.pc → Left c value n out t s
unfolding behind
left_at c value n out t s h cells is_core pc =
    let fresh : IsBehind (after c t).output (ending c k (record { core = g; output = [] })) (Halt value) n out = behind_is _ _ _ _ _ (sym (ending_fresh c k g (after c t).output) ∙ h) in
    let from : ending c k (record { core = g; output = s.output }) ≡ Ended (Halt value) n (s.output ++ fresh.rest) = ending_fresh c k g s.output ∙ ap (behind s.output) fresh.is in
    let patch : ending c k (record { core = patched g ps; output = s.output }) ≡ ending c k (record { core = g; output = s.output }) = same_rest c (Halt value) out n t k h ps dead s.output in
    record { rest = fresh.rest; whole = fresh.whole; is = ap (λ (x : Core). ending c k (record { core = x; output = s.output })) same ∙ patch ∙ from }
  where
    k : ℕ
    k = c.limit - t

    g : Core
    g = (after c t).core

    core : IsCore c g
    core = after_core c t

    ps : List Patch
    ps = diffs s.core g (31 + length g.ram)

    same : s.core ≡ patched g ps
    same = is_patched s.core g (cores_keep c s.core g is_core core pc) is_core.regs_length

    dead : AllDead (log c) n t ps
    dead = dead_diffs c n t s.core g (31 + length g.ram) (let e = core.ram_length in omega arith) cells

cycles_are : (e : Ending) (value steps : ℕ) (out : List ℕ) → e ≡ Ended (Halt value) steps out → cycles_of e ≡ steps
unfolding cycles_of
cycles_are e value steps out h = rw h refl

-- a dead cell is dead as far as the rest of the golden run tells
dead_within : (c : CaseData) (cell t n : ℕ) → cycles c ≡ n → is_dead (log c) cell t ≡ true → unread (touch_within (log c) cell (n - t) t) ≡ true
unfolding is_dead next_touch log
dead_within c cell t n e h = rw (← e) h

dead_left : (c : CaseData) (value steps : ℕ) (out : List ℕ) (t : ℕ) (s : State) → golden c ≡ Ended (Halt value) steps out → t < steps → IsAllDead c t s.core → Left c value (steps - t) out t s
dead_left c value steps out t s good early h =
    let n : ℕ = steps - t - 1 in
    let e : suc n ≡ steps - t = omega arith in
    let long : cycles c ≡ steps = cycles_are (golden c) value steps out good in
    let left = golden_at c (Halt value) steps out good t n (omega arith) in
    left_at c value (steps - t) out t s (rw e at left)
    (λ cell low few. ⊎_elim (λ (a : held s.core (cell_at cell) ≡ held (after c t).core (cell_at cell)). inl a) (λ (a : is_dead (log c) cell t ≡ true). inr (dead_within c cell t steps long a)) (h.cells cell low few))
    h.is_core h.pc

same_bytes : (p q rest : List ℕ) → bytes_eq (p ++ rest) (q ++ rest) ≡ bytes_eq p q
same_bytes p q rest =
    same_from_decides (bytes_eq (p ++ rest) (q ++ rest)) (bytes_eq p q)
    ((λ h. append_cancel_right p q rest ((bytes_eq-Decides (p ++ rest) (q ++ rest)).0 h)), (λ (e : p ≡ q). (bytes_eq-Decides (p ++ rest) (q ++ rest)).1 (ap (λ x. x ++ rest) e)))
    (bytes_eq-Decides p q)

compare_halt : (g e : Ending) (value n m : ℕ) (p q rest : List ℕ) → g ≡ Ended (Halt value) n (p ++ rest) → e ≡ Ended (Halt value) m (q ++ rest) → compare g e ≡ (if bytes_eq p q then NoEffect else Silent)
unfolding compare agrees
compare_halt g e value n m p q rest a b =
    let v : (value == value) ≡ true = eq-eqb value value refl in
    rw (a, b, v) (ap (λ b. if b then NoEffect else Silent) (same_bytes p q rest))

pub dead_outcome : DeadOutcome
dead_outcome c t s early h =
    let good = halts (golden c) (omega arith) in
    let left = dead_left c good.value (cycles c) good.out t s good.is early h in
    compare_halt (golden c) (ending c (c.limit - t) s) good.value (cycles c) (cycles c - t) (after c t).output s.output left.rest (good.is ∙ ap (Ended (Halt good.value) (cycles c)) (sym left.whole)) left.is

-- ---- one bit of one cell

pub flip-is : (s : Core) (cell bit : ℕ) → with_cell s cell (bit_xor (held s (cell_at cell)) (2 ^ bit)) ≡ flip s cell bit
unfolding with_cell flip
flip-is s cell bit = refl

one_bit : (c : CaseData) (site : Site) (s : Core) → IsOneBit c site s → s ≡ flip (after c site.cycle).core site.cell site.bit
one_bit c site s h =
    core_ext s (with_cell g site.cell v) keeps h.is_core.regs_length same ∙ flip-is g site.cell site.bit
  where
    g : Core
    g = (after c site.cycle).core

    v : ℕ
    v = bit_xor (held g (cell_at site.cell)) (2 ^ site.bit)

    core : IsCore c g
    core = after_core c site.cycle

    first : Keeps s g
    first = cores_keep c s g h.is_core core h.pc

    set : Keeps (with_cell g site.cell v) g
    set = with_cell_keeps g site.cell v h.low

    keeps : Keeps s (with_cell g site.cell v)
    keeps = record {
      size = record { regs = first.size.regs ∙ sym set.size.regs; ram = first.size.ram ∙ sym set.size.ram };
      pc = first.pc ∙ sym set.pc;
      zero_reg = first.zero_reg ∙ sym set.zero_reg;
    }

    here : held s (cell_at site.cell) ≡ held (with_cell g site.cell v) (cell_at site.cell)
    here = h.flipped ∙ sym (held_here g site.cell v h.low core.regs_length (let e = core.ram_length in let f = h.in_cells in omega arith))

    same : (cell : ℕ) → 1 ≤ cell → cell < 32 + length s.ram → held s (cell_at cell) ≡ held (with_cell g site.cell v) (cell_at cell)
    same cell low few = ⊎_elim
        (λ (a : cell ≡ site.cell). rw a here)
        (λ (a : cell ≡ site.cell → ⊥). h.others cell low (let e = h.is_core.ram_length in omega arith) a ∙ sym (held_else g site.cell cell v a low))
        (cases_eq cell site.cell)

pub later_site : LaterSite
unfolding outcome injected flipped
later_site c site s h sent =
    let core = one_bit c site s.core h in
    ap (λ (x : Core). compare (golden c) (ending c (c.limit - site.cycle) (record { core = x; output = s.output }))) core
    ∙ ap (λ o. compare (golden c) (ending c (c.limit - site.cycle) (record { core = flip (after c site.cycle).core site.cell site.bit; output = o }))) sent

is_site : (c : CaseData) (site : Site) (s : Core) → IsOneBit c site s → IsSite (cycles c) (length c.ram) c.pc_cell site
is_site c site s h = record { early = h.early; low = (let one = first_one c.pc_cell in let low = h.low in omega arith); in_cells = h.in_cells; in_bits = h.in_bits }

pub later_job : LaterJob
later_job c site s h sent = rw (later_site c site s h sent) (site_outcome c site (is_site c site s.core h))
