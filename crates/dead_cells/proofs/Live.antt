-- Registers that are not live do not matter to how a run ends.
use Rattle.std.proofs.Common.{ℕ, zero, suc, ◌≡◌, ◌+◌, ◌-◌, ◌%◌, ◌<◌, ◌≤◌, ◌⊎◌, ◌==◌, ◌&&◌, Bool, true, false, not, if◌then◌else◌, Option, Some, None, List, [], ◌∷◌, length, slice_index, arith, refl, ap, ◌∙◌, ⊎_elim, inl, inr}
use Rattle.std.proofs.lemmas.Bool.{cases_Bool, cases_lt, eq-eqb}
use Rattle.fs_model.specs.declared.instructions.Instr.{Instr}
use Rattle.fs_model.specs.declared.instructions.Op.{Op}
use Rattle.fs_model.specs.declared.instructions.Op.TheVariants.{Jal, Jalr, Beq, Bne, Blt, Bge, Bltu, Bgeu, Sb, Sh, Sw, Fence}
use Rattle.fs_model.specs.declared.instructions.Size.{Size}
use Rattle.fs_model.specs.declared.instructions.Size.TheVariants.{Word}
use Rattle.fs_model.specs.declared.instructions.Effect.{Effect}
use Rattle.fs_model.specs.declared.instructions.Effect.TheVariants.{Next, Set, Jump, Load, Store}
use Rattle.fs_model.specs.Event.{GoesOn}
use Rattle.fs_model.specs.Case.{CaseData}
use Rattle.fs_model.specs.Word.{plus}
use Rattle.fs_model.specs.Decode.{decode}
use Rattle.fs_model.specs.Effect.{effect_by, branch_if}
use Rattle.fs_model.specs.Memory.{is_aligned, number_at}
use Rattle.fs_model.specs.Machine.{Core, Turn, load_by, loaded, send, store_to, ram_place, rom_place, out_port, detect_port, halt_port, apply, asked, execute, word_by, fetch, decoded, turn_by, turn}
use Rattle.fs_model.specs.Cell.{cell_at, held}
use Rattle.fs_model.specs.Touch.{reads, writes, reads_reg, sets_reg, writes_reg}
use Rattle.fs_model.specs.Run.{step_by, step, follow, ending}
use Rattle.dead_cells.specs.Differs.{Patch, patched, unwritten, AllUnread}
use Rattle.dead_cells.specs.Live.{Liveness, IsLiveness, SameLive, LiveEnd, sets_rd, idle_after, IsRomLiveness, RomLiveness}
use Rattle.dead_cells.proofs.OneStep.{unread_cells}
use Rattle.dead_cells.proofs.Rest.{state, follow_alike}
use Rattle.dead_cells.proofs.Alike.{diffs, is_patched, cell_at-reg, cell_at-ram}
use Rattle.dead_cells.proofs.Known.{cores_keep}

-- ---- patches of registers that are not live

unfoldable AllIdle : Liveness → ℕ → List Patch → Type 0
AllIdle live pc [] = Unit {0}
AllIdle live pc (p ∷ ps) = (1 ≤ p.cell) × (p.cell < 32) × (live pc p.cell ≡ false) × AllIdle live pc ps

none_read : (c : CaseData) (live : Liveness) (s : Core) (ps : List Patch) → IsLiveness c live → AllIdle live s.pc ps → AllUnread c s ps
unfolding AllIdle AllUnread
none_read c live s [] is h = tt
none_read c live s (p ∷ ps) is h = (h.0, is.unread s p.cell h.0 h.1 h.2, none_read c live s ps is h.3)

still_idle : (c : CaseData) (live : Liveness) (s : Core) (ps : List Patch) → IsLiveness c live → GoesOn (turn c s).event → AllIdle live s.pc ps → AllIdle live (turn c s).core.pc (unwritten c s ps)
unfolding AllIdle unwritten
still_idle c live s [] is g h = tt
still_idle c live s (p ∷ ps) is g h = by (writes c s p.cell) (is.kept s p.cell h.0 h.1 h.2 g) (still_idle c live s ps is g h.3)
  where
    by : (w : Bool) → (w ≡ false → live (turn c s).core.pc p.cell ≡ false) → AllIdle live (turn c s).core.pc (unwritten c s ps) → AllIdle live (turn c s).core.pc (if w then unwritten c s ps else p ∷ unwritten c s ps)
    by true kept rest = rest
    by false kept rest = (h.0, h.1, kept refl, rest)

idle_end : (c : CaseData) (live : Liveness) → IsLiveness c live → (k : ℕ) (s : Core) (ps : List Patch) (o : List ℕ) → AllIdle live s.pc ps → ending c k (state (patched s ps) o) ≡ ending c k (state s o)
unfolding ending step
idle_end c live is zero s ps o h = refl
idle_end c live is (suc k) s ps o h =
    let law = unread_cells c s ps (none_read c live s ps is h) in
    ap (λ e. follow (step_by o e (turn c (patched s ps)).core) o (ending c k)) law.0
    ∙ follow_alike c k (turn c s).event (turn c (patched s ps)).core (turn c s).core o (λ g o'.
    ap (λ (x : Core). ending c k (state x o')) (law.1 g) ∙ idle_end c live is k (turn c s).core (unwritten c s ps) o' (still_idle c live s ps is g h))

-- ---- states that differ in such registers

idle_diffs : (live : Liveness) (pc : ℕ) (s g : Core) (m : ℕ) → ((cell : ℕ) → 1 ≤ cell → cell ≤ m → (held s (cell_at cell) ≡ held g (cell_at cell)) ⊎ ((cell < 32) × (live pc cell ≡ false))) → AllIdle live pc (diffs s g m)
unfolding AllIdle diffs
idle_diffs live pc s g zero h = tt
idle_diffs live pc s g (suc m) h = by (held s (cell_at (suc m)) == held g (cell_at (suc m))) refl (h (suc m) (omega arith) (omega arith)) (idle_diffs live pc s g m (λ cell low few. h cell low (omega arith)))
  where
    by : (b : Bool) → (held s (cell_at (suc m)) == held g (cell_at (suc m))) ≡ b → (held s (cell_at (suc m)) ≡ held g (cell_at (suc m))) ⊎ ((suc m < 32) × (live pc (suc m) ≡ false)) →
        AllIdle live pc (diffs s g m) → AllIdle live pc (if b then diffs s g m else record { cell = suc m; value = held s (cell_at (suc m)) } ∷ diffs s g m)
    by true e now rest = rest
    by false e (inl same) rest = absurd (let f : (held s (cell_at (suc m)) == held g (cell_at (suc m))) ≡ true = eq-eqb _ _ same in cc)
    by false e (inr idle) rest = (let low : 1 ≤ suc m = omega arith in low, idle.0, idle.1, rest)

same_or_idle : (c : CaseData) (live : Liveness) (s g : Core) → SameLive c live s g → (cell : ℕ) → 1 ≤ cell → (held s (cell_at cell) ≡ held g (cell_at cell)) ⊎ ((cell < 32) × (live g.pc cell ≡ false))
same_or_idle c live s g h cell low =
    ⊎_elim
    (λ (few : cell < 32). ⊎_elim
    (λ (a : live g.pc cell ≡ true). inl (rw (cell_at-reg cell low few) (h.regs cell low few a)))
    (λ (a : live g.pc cell ≡ false). inr (few, a))
    (cases_Bool (live g.pc cell)))
    (λ (many : 32 ≤ cell).
    let d : ℕ = cell - 32 in
    let e : cell ≡ 32 + d = omega arith in
    inl (rw (e, cell_at-ram d) (ap (λ (l : List ℕ). slice_index l d) h.ram)))
    (cases_lt cell 32)

pub live_end : LiveEnd
live_end c live s g k is h sent =
    let keeps = cores_keep c s.core g.core h.is_core h.other_core h.pc in
    let ps = diffs s.core g.core (31 + length g.core.ram) in
    let same : s.core ≡ patched g.core ps = is_patched s.core g.core keeps h.is_core.regs_length in
    let idle = idle_diffs live g.core.pc s.core g.core (31 + length g.core.ram) (λ cell low few. same_or_idle c live s.core g.core h cell low) in
    ap (λ (x : Core). ending c k (state x s.output)) same ∙ idle_end c live is k g.core ps s.output idle ∙ ap (λ o. ending c k (state g.core o)) sent

-- ---- a liveness of the words in ROM

not_is : (b : Bool) → not b ≡ true → b ≡ false
not_is true h = absurd cc
not_is false h = refl

both : (a b : Bool) → (not a && not b) ≡ true → (a ≡ false) × (b ≡ false)
both true b h = absurd cc
both false true h = absurd cc
both false false h = (refl, refl)

-- where the effect goes on, the register is not live
abbrev Leads : Liveness → ℕ → ℕ → Effect → Type 0
Leads live pc k Next = live (plus pc 4) k ≡ false
Leads live pc k (Set v) = live (plus pc 4) k ≡ false
Leads live pc k (Jump link target) = live target k ≡ false
Leads live pc k (Load size signed at) = live (plus pc 4) k ≡ false
Leads live pc k (Store size at v) = live (plus pc 4) k ≡ false

branch_leads : (live : Liveness) (pc k : ℕ) (b : Bool) (target : ℕ) → (not (live target k) && not (live (plus pc 4) k)) ≡ true → Leads live pc k (branch_if b target)
branch_leads live pc k true target h = (both (live target k) (live (plus pc 4) k) h).0
branch_leads live pc k false target h = (both (live target k) (live (plus pc 4) k) h).1

leads : (live : Liveness) (op : Op) (imm pc k a b : ℕ) → idle_after live op imm pc k ≡ true → Leads live pc k (effect_by op imm pc a b)
leads live Jal imm pc k a b h = not_is _ h
leads live Jalr imm pc k a b h = absurd cc
leads live Beq imm pc k a b h = branch_leads live pc k _ (plus pc imm) h
leads live Bne imm pc k a b h = branch_leads live pc k _ (plus pc imm) h
leads live Blt imm pc k a b h = branch_leads live pc k _ (plus pc imm) h
leads live Bge imm pc k a b h = branch_leads live pc k _ (plus pc imm) h
leads live Bltu imm pc k a b h = branch_leads live pc k _ (plus pc imm) h
leads live Bgeu imm pc k a b h = branch_leads live pc k _ (plus pc imm) h
leads live op imm pc k a b h = not_is _ h

-- an instruction that sets rd does so wherever it goes on
unset : (op : Op) (imm pc a b rd k : ℕ) → sets_reg rd (effect_by op imm pc a b) k ≡ false → (sets_rd op && k == rd) ≡ false
unset Beq imm pc a b rd k h = refl
unset Bne imm pc a b rd k h = refl
unset Blt imm pc a b rd k h = refl
unset Bge imm pc a b rd k h = refl
unset Bltu imm pc a b rd k h = refl
unset Bgeu imm pc a b rd k h = refl
unset Sb imm pc a b rd k h = refl
unset Sh imm pc a b rd k h = refl
unset Sw imm pc a b rd k h = refl
unset Fence imm pc a b rd k h = refl
unset op imm pc a b rd k h = h

-- ---- where a step goes on

module _ (c : CaseData) (live : Liveness) (s : Core) (k : ℕ) where
  -- if it goes on, the register is not live there
  Idle : Turn → Type 0
  Idle t = GoesOn t.event → live t.core.pc k ≡ false

  idle_choice : (b : Bool) (t u : Turn) → Idle t → Idle u → Idle (if b then t else u)
  idle_choice true t u p q = p
  idle_choice false t u p q = q

  idle_load : (r : ℕ) (size : Size) (signed : Bool) (n : Option ℕ) → live (plus s.pc 4) k ≡ false → Idle (load_by s r size signed n)
  unfolding Idle
  idle_load r size signed (Some n) h = λ g. h
  idle_load r size signed None h = λ g. absurd g

  idle_send : (size : Size) (at v : ℕ) → live (plus s.pc 4) k ≡ false → Idle (send s size at v)
  unfolding Idle
  idle_send size at v h =
      idle_choice (at == out_port) _ _ (λ g. h) (idle_choice (at == detect_port) _ _ (λ g. absurd g) (idle_choice (at == halt_port) _ _ (λ g. absurd g) (λ g. absurd g)))

  idle_store : (size : Size) (at v : ℕ) (place : Option ℕ) → live (plus s.pc 4) k ≡ false → Idle (store_to s size at v place)
  unfolding Idle
  idle_store size at v (Some p) h = λ g. h
  idle_store size at v None h = idle_send size at v h

  idle_apply : (r : ℕ) (e : Effect) → Leads live s.pc k e → Idle (apply c s r e)
  unfolding Idle
  idle_apply r Next h = λ g. h
  idle_apply r (Set v) h = λ g. h
  idle_apply r (Jump link target) h = idle_choice (target % 4 == 0) _ _ (λ g. h) (λ g. absurd g)
  idle_apply r (Load size signed at) h = idle_choice (is_aligned size at) _ _ (idle_load r size signed (loaded c s size at) h) (λ g. absurd g)
  idle_apply r (Store size at v) h = idle_choice (is_aligned size at) _ _ (idle_store size at v (ram_place c s size at) h) (λ g. absurd g)

  -- what the word at pc is, where the register is not live
  module _ (is : IsRomLiveness c live) (low : 1 ≤ k) (few : k < 32) (idle : live s.pc k ≡ false) where
    Facts : Option Instr → Type 0
    Facts i = (reads_reg i k ≡ false) × (writes_reg s i k ≡ false → Idle (execute c s i))

    at_instr : (p : ℕ) (o : Option Instr) → is_aligned Word s.pc ≡ true → rom_place c Word s.pc ≡ Some p → decode (number_at Word c.rom p) ≡ o → Facts o
    unfolding Facts Idle
    at_instr p (Some i) aligned place d =
        let f = is.inside s.pc p k i aligned place d low few idle in
        (f.0, λ w. idle_apply i.rd (asked s i) (leads live i.op i.imm s.pc k _ _ (f.1 (unset i.op i.imm s.pc _ _ i.rd k w))))
    at_instr p None aligned place d = (refl, λ w g. absurd g)

    FactsBy : Option ℕ → Type 0
    FactsBy o = (reads_reg (decoded o) k ≡ false) × (writes_reg s (decoded o) k ≡ false → Idle (turn_by c s o))

    at_word : (b : Bool) (rom : Option ℕ) → is_aligned Word s.pc ≡ b → rom_place c Word s.pc ≡ rom → FactsBy (if b then word_by c s rom else None)
    unfolding FactsBy Facts Idle
    at_word true (Some p) aligned place = at_instr p (decode (number_at Word c.rom p)) aligned place refl
    at_word true None aligned place = absurd (let l : live s.pc k ≡ true = is.outside s.pc k low few place in cc)
    at_word false rom aligned place = (refl, λ w g. absurd g)

    facts : FactsBy (fetch c s)
    facts = at_word (is_aligned Word s.pc) (rom_place c Word s.pc) refl refl

    idle_unread : reads c s k ≡ false
    unfolding reads FactsBy
    idle_unread = rw (cell_at-reg k low few) facts.0

    idle_kept : GoesOn (turn c s).event → writes c s k ≡ false → live (turn c s).core.pc k ≡ false
    unfolding writes FactsBy Idle
    idle_kept g w = facts.1 (rw (cell_at-reg k low few) at w) g

pub rom_liveness : RomLiveness
rom_liveness c live is = record {
  unread = λ s k low few idle. idle_unread c live s k is low few idle;
  kept = λ s k low few idle g w. idle_kept c live s k is low few idle g w;
}
