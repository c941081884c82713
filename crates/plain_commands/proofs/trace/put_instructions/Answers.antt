use Rattle.std.proofs.Common.{◌≡◌, true, false, refl, sym, ◌∙◌, arith, rules}
use Rattle.std.proofs.lemmas.Result.{MatchResult-from_err}
use Rattle.fs_model.specs.Event.{goes_on}
use Rattle.report.proofs.Buffered.{moved_none}
use Rattle.plain_commands.proofs.Traced.{walks_first, walks_on, walked, walked_all, lines_none, moved_line, part_line, lines_on, lines_fail, lines_stopped}
use Rattle.plain_commands.proofs.trace.put_instructions.Goals as goal

pub loop-cycle-init : goal.loop-cycle-init
loop-cycle-init g c = record {
  walks = walks_first c.args.machine.now.case c.args.machine.now refl c.requires.start;
  faults = refl;
  so_far = λ told. rw lines_none (moved_none _ _);
}

pub loop-cycle-preserved : goal.loop-cycle-preserved
loop-cycle-preserved g c =
    let old = c.loop-cycle.invariant in
    let on : goes_on c.step-event.result ≡ true = sym c.goes_on.ensures ∙ c.if-not-goes_on.false in
    record {
      walks = walks_on c.args.machine.now.case c.loop-cycle.cycle c.loop-cycle.machine c.step-event.new.self c.step-event.result old.walks c.step-event.ensures.event c.step-event.ensures.core c.step-event.ensures.case on;
      faults = search rules;
      so_far = λ told. lines_on c.args.machine.now.case c.loop-cycle.cycle _ _ _ _ _ _ (old.so_far told)
          (moved_line c.args.machine.now.case c.loop-cycle.cycle c.loop-cycle.machine c.pc.result c.word.result _ _ _ _ old.walks c.pc.ensures c.word.ensures (c.in_ok-put_instruction.ensures.bytes told));
    }

pub returns-in_err-put_instruction-clause-bytes : goal.returns-in_err-put_instruction-clause-bytes
returns-in_err-put_instruction-clause-bytes g c = λ told.
    let old = c.loop-cycle.invariant in
    MatchResult-from_err c.from_residual.result _ _ c.from_residual.ensures.0 (λ _.
    lines_fail c.args.machine.now.case c.loop-cycle.cycle c.loop-cycle.machine _ _ _ _ _ old.walks (omega (arith, c.requires.limit)) (old.so_far told)
    (part_line c.args.machine.now.case c.loop-cycle.cycle c.loop-cycle.machine c.pc.result c.word.result _ _ _ old.walks c.pc.ensures c.word.ensures (c.in_err-put_instruction.ensures.bytes told)))

pub returns-in_err-put_instruction-clause-case : goal.returns-in_err-put_instruction-clause-case
returns-in_err-put_instruction-clause-case g c = c.loop-cycle.invariant.walks.same_case

pub returns-then-not-goes_on : goal.returns-then-not-goes_on
returns-then-not-goes_on g c =
    let old = c.loop-cycle.invariant in
    let off : goes_on c.step-event.result ≡ false = sym c.goes_on.ensures ∙ c.if-not-goes_on.true in
    record {
      walked = walked c.args.machine.now.case c.loop-cycle.cycle c.loop-cycle.machine c.step-event.new.self c.step-event.result old.walks c.step-event.ensures.event c.step-event.ensures.core (omega (arith, c.requires.limit)) off;
      bytes = λ told. lines_stopped c.args.machine.now.case c.loop-cycle.cycle c.step-event.result _ _ _ _ off
          (lines_on c.args.machine.now.case c.loop-cycle.cycle _ _ _ _ _ _ (old.so_far told)
          (moved_line c.args.machine.now.case c.loop-cycle.cycle c.loop-cycle.machine c.pc.result c.word.result _ _ _ _ old.walks c.pc.ensures c.word.ensures (c.in_ok-put_instruction.ensures.bytes told)));
      case = c.step-event.ensures.case ∙ old.walks.same_case;
      cause = search rules;
    }

pub returns : goal.returns
returns g c =
    let old = c.loop-cycle.invariant in
    let all : c.loop-cycle.cycle ≡ c.args.limit = omega arith in
    record {
      walked = walked_all c.args.machine.now.case c.args.limit c.loop-cycle.machine (rw all at old.walks) c.requires.limit;
      bytes = λ told. let lines = old.so_far told in rw all at lines;
      case = old.walks.same_case;
      cause = old.faults;
    }
