use Rattle.std.proofs.Common.{ℕ, ◌≡◌, ◌<◌, true, refl}
use Rattle.std.specs.Int.{bit_at}
use Rattle.fs_model.specs.Word.{plus}
use Rattle.live_registers.specs.Masks.{LiveData, mask_at, live_of}
use Rattle.live_registers.specs.declared.flows.Flow.TheVariants.{Straight, Jump, Branch, Anywhere}
use Rattle.live_registers.proofs.Bits.{or_off, all_off}
use Rattle.live_registers.proofs.Ways.{idle_of, idle_at, both_idle}
use Rattle.live_registers.proofs.words.live_after.Goals as goal

pub returns-in-Straight : goal.returns-in-Straight
returns-in-Straight c = λ k few off.
    let l : LiveData = record { base = c.args.base; masks = c.args.masks.now } in
    idle_of (live_of l) c.args.instr.now.op Straight c.args.instr.now.imm c.args.pc k c.in-Straight.ensures
    (idle_at l (plus c.args.pc 4) c.mask_at.result k c.mask_at.ensures off)

pub returns-in-Jump : goal.returns-in-Jump
returns-in-Jump c = λ k few off.
    let l : LiveData = record { base = c.args.base; masks = c.args.masks.now } in
    idle_of (live_of l) c.args.instr.now.op Jump c.args.instr.now.imm c.args.pc k c.in-Jump.ensures
    (idle_at l (plus c.args.pc c.args.instr.now.imm) c.mask_at-in-Jump.result k c.mask_at-in-Jump.ensures off)

pub returns-in-Branch : goal.returns-in-Branch
returns-in-Branch c = λ k few off.
    let l : LiveData = record { base = c.args.base; masks = c.args.masks.now } in
    let two = or_off c.mask_at-in-Branch.result c.mask_at-in-Branch-2.result k off in
    idle_of (live_of l) c.args.instr.now.op Branch c.args.instr.now.imm c.args.pc k c.in-Branch.ensures
    (both_idle _ _ (idle_at l (plus c.args.pc c.args.instr.now.imm) c.mask_at-in-Branch.result k c.mask_at-in-Branch.ensures two.0) (idle_at l (plus c.args.pc 4) c.mask_at-in-Branch-2.result k c.mask_at-in-Branch-2.ensures two.1))

pub returns-in-Anywhere : goal.returns-in-Anywhere
returns-in-Anywhere c = λ k few off. absurd (all_off k few off)
