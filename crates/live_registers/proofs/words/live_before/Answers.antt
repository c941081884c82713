use Rattle.std.proofs.Common.{◌≡◌, ◌==◌, ◌||◌, false, arith}
use Rattle.std.proofs.lemmas.Bool.Decides.{nat_tests}
use Rattle.live_registers.proofs.Bits.{with_off}
use Rattle.live_registers.proofs.words.live_before.Goals as goal

pub returns : goal.returns
returns c = λ k few off.
    let instr = c.args.instr.now in
    let b = with_off _ instr.rs2 k c.requires.rs2_below off in
    let a = with_off c.without_set-kept.result instr.rs1 k c.requires.rs1_below b.1 in
    let ne = a.0 in
    let ne' = b.0 in
    record {
      unread = grind (arith, nat_tests);
      after = λ other. c.live_after-after.ensures k few (c.without_set-kept.ensures k few a.1 other);
    }
