use Rattle.std.proofs.Common.{◌≡◌, refl, sym, ap, ◌∙◌, arith, rules}
use Rattle.fs_model.specs.Run.{State, run}
use Rattle.report.proofs.Buffered.{moved_none, puts_part}
use Rattle.replay.proofs.Lines.{line_fails, line_on, lines_none}
use Rattle.replay.proofs.Stepped.{stepped}
use Rattle.replay.proofs.site_texts.put_lines.Goals as goal

pub loop-taken-init : goal.loop-taken-init
unfolding run
loop-taken-init g c = record {
  same_case = refl;
  here = λ s e. sym e;
  faults = refl;
  so_far = λ s e told. rw lines_none (moved_none _ _);
}

pub loop-taken-preserved : goal.loop-taken-preserved
loop-taken-preserved g c =
    let old = c.loop-taken.invariant in
    let case = c.args.machine.now.case in
    let at = c.loop-taken.machine in
    record {
      same_case = c.step.ensures.case ∙ old.same_case;
      here = λ s e. ap (λ (x : State). x.core) (sym (stepped case s c.loop-taken.taken at c.step.new.self c.step.result old.same_case (old.here s e)
          (record { event_is = c.step.ensures.event; core_is = c.step.ensures.core; case_is = c.step.ensures.case })));
      faults = search rules;
      so_far = λ s e told. line_on case at.case c.args.first c.loop-taken.taken s at.core c.pc.result c.word.result old.same_case (old.here s e) c.pc.ensures c.word.ensures
          _ _ _ _ _ _ (old.so_far s e told) (c.in_ok-put_instruction.ensures.bytes told);
    }

pub returns-in_err-put_instruction-clause-bytes : goal.returns-in_err-put_instruction-clause-bytes
returns-in_err-put_instruction-clause-bytes g c = λ s e told.
    let old = c.loop-taken.invariant in
    let at = c.loop-taken.machine in
    puts_part _ _ _ _ _ c.from_residual.result c.from_residual.ensures.0
    (line_fails c.args.machine.now.case at.case c.args.first c.loop-taken.taken s at.core c.pc.result c.word.result old.same_case (old.here s e) c.pc.ensures c.word.ensures
    c.args.count _ _ _ _ _ (omega arith) (old.so_far s e told) (c.in_err-put_instruction.ensures.bytes told))

pub returns-clause-bytes : goal.returns-clause-bytes
returns-clause-bytes g c = λ s e told.
    let all : c.loop-taken.taken ≡ c.args.count = omega arith in
    let moved = c.loop-taken.invariant.so_far s e told in
    rw all at moved
