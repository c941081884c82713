-- Where a run may continue, by the kind of the instruction.
use Rattle.std.proofs.Common.{ℕ, ◌≡◌, ◌==◌, ◌&&◌, Bool, true, false, not, refl, sym, ap, ◌∙◌}
use Rattle.std.specs.Int.{bit_at}
use Rattle.fs_model.specs.Word.{plus}
use Rattle.fs_model.specs.declared.instructions.Op.{Op}
use Rattle.fs_model.specs.declared.instructions.Op.TheVariants.{Jal, Jalr, Beq, Bne, Blt, Bge, Bltu, Bgeu}
use Rattle.dead_cells.specs.Live.{Liveness, idle_after}
use Rattle.live_registers.specs.declared.flows.Flow.{Flow}
use Rattle.live_registers.specs.declared.flows.Flow.TheVariants.{Straight, Jump, Branch, Anywhere}
use Rattle.live_registers.specs.Flows.{flow_of}
use Rattle.live_registers.specs.Masks.{LiveData, mask_at, live_of}

abbrev pub idle_by : Liveness → Flow → ℕ → ℕ → ℕ → Bool
idle_by live Straight imm pc k = not (live (plus pc 4) k)
idle_by live Jump imm pc k = not (live (plus pc imm) k)
idle_by live Branch imm pc k = not (live (plus pc imm) k) && not (live (plus pc 4) k)
idle_by live Anywhere imm pc k = false

idle_is : (live : Liveness) (op : Op) (imm pc k : ℕ) → idle_after live op imm pc k ≡ idle_by live (flow_of op) imm pc k
idle_is live Jal imm pc k = refl
idle_is live Jalr imm pc k = refl
idle_is live Beq imm pc k = refl
idle_is live Bne imm pc k = refl
idle_is live Blt imm pc k = refl
idle_is live Bge imm pc k = refl
idle_is live Bltu imm pc k = refl
idle_is live Bgeu imm pc k = refl
idle_is live op imm pc k = refl

pub idle_of : (live : Liveness) (op : Op) (flow : Flow) (imm pc k : ℕ) → flow ≡ flow_of op → idle_by live flow imm pc k ≡ true → idle_after live op imm pc k ≡ true
idle_of live op flow imm pc k e h = idle_is live op imm pc k ∙ ap (λ (f : Flow). idle_by live f imm pc k) (sym e) ∙ h

-- a register that is not in the mask is not live
pub idle_at : (l : LiveData) (pc m k : ℕ) → m ≡ mask_at l pc → bit_at m k ≡ 0 → not (live_of l pc k) ≡ true
unfolding live_of
idle_at l pc m k e off = ap (λ (n : ℕ). not (n == 1)) (ap (λ (n : ℕ). bit_at n k) (sym e) ∙ off)

pub both_idle : (a b : Bool) → not a ≡ true → not b ≡ true → (not a && not b) ≡ true
both_idle a b p q = ap (λ (x : Bool). x && not b) p ∙ q
