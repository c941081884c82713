use Rattle.std.proofs.Common.{◌≡◌, ◌==◌, ◌&&◌, false, true, rules}
use Rattle.dead_cells.specs.Live.{sets_rd}
use Rattle.live_registers.proofs.Bits.{without_off}
use Rattle.live_registers.proofs.words.without_set.Goals as goal

pub returns-then-sets_rd : goal.returns-then-sets_rd
returns-then-sets_rd c = λ k few off other.
    let instr = c.args.instr.now in
    let sets : sets_rd instr.op ≡ true = search rules in
    let other' : (k == instr.rd) ≡ false = rw sets at other in
    without_off c.args.after instr.rd k c.requires.rd_below few other' off
