use Rattle.std.proofs.Common.{◌≡◌, ◌∙◌, true, length, sym, ap, rules}
use Rattle.fs_model.specs.Case.{CaseData}
use Rattle.counting_loops.proofs.Paths.{loop_is_long}
use Rattle.counting_loops.proofs.rounds.rounds_stay.Goals as goal

pub returns-then-is_back-clause-long : goal.returns-then-is_back-clause-long
returns-then-is_back-clause-long c = λ _.
    let back = c.is_back.ensures in
    let is : c.is_back.result ≡ true = search rules in
    let on : c.path_stays.result ≡ true = search rules in
    loop_is_long c.args.case.now c.args.extent.last c.args.extent.length c.loop-pass.paces.registers c.path_stays.new.now.registers c.loop-pass.paces.words c.path_stays.new.now.words
    c.args.head.now.core c.path_stays.new.machine.core (record {
      path = c.path_stays.ensures.stays on;
      back = back.back is;
      words = back.words is;
      pc_is = back.pc is;
      regs_length = back.length is;
      ram_length = ap length (sym c.ram.ensures.value) ∙ c.ram.ensures.length ∙ ap (λ (m : CaseData). length m.ram) c.requires.head;
      low = back.low is;
    })
