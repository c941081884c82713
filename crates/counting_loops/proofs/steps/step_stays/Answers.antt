use Rattle.std.proofs.Common.{◌≡◌, ◌<◌, ◌^◌, ◌∙◌, true, length, rules, sym, ap, refl}
use Rattle.fs_model.specs.Case.{CaseData}
use Rattle.fs_model.specs.Event.{GoesOn}
use Rattle.fs_model.specs.Machine.{turn, reg}
use Rattle.counting_loops.proofs.Turns.{Found, step_stays, on_by}
use Rattle.counting_loops.proofs.steps.step_stays.Goals as goal

pub returns-then-instr-ne0-clause-stays : goal.returns-then-instr-ne0-clause-stays
returns-then-instr-ne0-clause-stays c = λ _.
    let case = c.args.case.now in
    let first = c.args.machine.now.core in
    let instr = c.in-Some.instr in
    let some = c.if-instr-ne0.true in
    let long : length c.args.paces.now ≡ 32 = search rules in
    let low : reg c.step.new.self.core instr.rd < 2 ^ 32 = search rules in
    let found : Found case c.args.last c.args.paces.now c.args.held.now c.words_after.new.held first instr c.moving_at-a.result c.moving_at-b.result c.in-Some-pace_after.pace = record {
      instr_is = c.in-Some.ensures;
      regs_length = c.moving_at-a.ensures.length;
      ram_length = ap length (sym c.ram.ensures.value) ∙ c.ram.ensures.length ∙ ap (λ (m : CaseData). length m.ram) c.requires;
      paces_length = long;
      a_first = c.moving_at-a.ensures.first;
      a_pace = c.moving_at-a.ensures.pace;
      b_first = c.moving_at-b.ensures.first;
      b_pace = c.moving_at-b.ensures.pace;
      alike = c.in-Some-pace_after.ensures;
      after = c.words_after.ensures (search rules);
    } in
    let next_is : c.step.new.self.core ≡ (turn case first).core = c.step.ensures.core ∙ ap (λ (m : CaseData). (turn m first).core) c.requires in
    let tested : c.goes_on.result ≡ true = search rules in
    let on : GoesOn (turn case first).event = on_by c.step.result (turn case first).event c.goes_on.result (c.step.ensures.event ∙ ap (λ (m : CaseData). (turn m first).event) c.requires) c.goes_on.ensures tested in
    step_stays case c.args.last c.args.paces.now _ c.args.held.now c.words_after.new.held first c.step.new.self.core instr c.moving_at-a.result c.moving_at-b.result c.in-Some-pace_after.pace found next_is on
    (record { none = λ e. absurd (some e); some = λ _. refl }) (λ _. low)

pub returns-else-instr-ne0-clause-stays : goal.returns-else-instr-ne0-clause-stays
returns-else-instr-ne0-clause-stays c = λ _.
    let case = c.args.case.now in
    let first = c.args.machine.now.core in
    let instr = c.in-Some.instr in
    let none = c.if-instr-ne0.false in
    let long : length c.args.paces.now ≡ 32 = search rules in
    let found : Found case c.args.last c.args.paces.now c.args.held.now c.words_after.new.held first instr c.moving_at-a.result c.moving_at-b.result c.in-Some-pace_after.pace = record {
      instr_is = c.in-Some.ensures;
      regs_length = c.moving_at-a.ensures.length;
      ram_length = ap length (sym c.ram.ensures.value) ∙ c.ram.ensures.length ∙ ap (λ (m : CaseData). length m.ram) c.requires;
      paces_length = long;
      a_first = c.moving_at-a.ensures.first;
      a_pace = c.moving_at-a.ensures.pace;
      b_first = c.moving_at-b.ensures.first;
      b_pace = c.moving_at-b.ensures.pace;
      alike = c.in-Some-pace_after.ensures;
      after = c.words_after.ensures (search rules);
    } in
    let next_is : c.step.new.self.core ≡ (turn case first).core = c.step.ensures.core ∙ ap (λ (m : CaseData). (turn m first).core) c.requires in
    let tested : c.goes_on.result ≡ true = search rules in
    let on : GoesOn (turn case first).event = on_by c.step.result (turn case first).event c.goes_on.result (c.step.ensures.event ∙ ap (λ (m : CaseData). (turn m first).event) c.requires) c.goes_on.ensures tested in
    step_stays case c.args.last c.args.paces.now _ c.args.held.now c.words_after.new.held first c.step.new.self.core instr c.moving_at-a.result c.moving_at-b.result c.in-Some-pace_after.pace found next_is on
    (record { none = λ _. refl; some = λ some. absurd (some none) }) (λ some. absurd (some none))
