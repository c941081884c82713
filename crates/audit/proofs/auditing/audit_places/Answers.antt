use Rattle.std.proofs.Common.{◌≡◌, ◌≤◌, ◌+◌, List, ℕ, ◌++◌, Some, length, sym, ap, subst, ◌∙◌, arith}
use mir.Val.{bool_byte}
use Rattle.std.specs.Prelude.{slice_get}
use Rattle.fs_model.specs.declared.sites.Job.{Job}
use Rattle.fs_model.specs.Case.{CaseData}
use Rattle.fs_model.specs.Job.{JobTable, jobs_in}
use Rattle.fs_outside.specs.Writing.{TookPart}
use Rattle.fs_outside.proofs.Writes.{writes_part}
use Rattle.audit.specs.Text.{is_wrong, place_text}
use Rattle.audit.proofs.Places.{count_all, count_on, few_on, text_all, text_on, text_part}
use Rattle.audit.proofs.auditing.audit_places.Goals as goal

pub returns-in_err-is_wrong-clause-bytes : goal.returns-in_err-is_wrong-clause-bytes
returns-in_err-is_wrong-clause-bytes g c = λ told.
    let old = c.loop-number.invariant in
    let at : slice_get (jobs_in c.args.reruns.now) c.loop-number.number ≡ Some c.get-job.result =
    subst (λ (l : List Job). slice_get l c.loop-number.number ≡ Some c.get-job.result) (ap (λ (t : JobTable). t.list) old.along ∙ c.requires.list) c.get-job.ensures.job in
    let part = subst (λ (d : CaseData). TookPart (g.O.Sink.taken c.loop-number.out) (g.O.Sink.taken c.audit_place.new.out) (place_text d c.get-job.result c.get.result)) old.same
    (c.in_err-is_wrong.ensures.bytes told) in
    writes_part _ _ _ c.from_residual.result c.from_residual.ensures.0
    (text_part c.args.reruns.now c.args.board.now c.loop-number.number c.get-job.result c.get.result at c.get.ensures _ _ _ (old.so_far told) part)

pub loop-number-preserved : goal.loop-number-preserved
loop-number-preserved g c =
    let old = c.loop-number.invariant in
    let at : slice_get (jobs_in c.args.reruns.now) c.loop-number.number ≡ Some c.get-job.result =
    subst (λ (l : List Job). slice_get l c.loop-number.number ≡ Some c.get-job.result) (ap (λ (t : JobTable). t.list) old.along ∙ c.requires.list) c.get-job.ensures.job in
    let wrong = c.in_ok-is_wrong.ensures.wrong ∙ ap (λ (d : CaseData). is_wrong d c.get-job.result c.get.result) old.same in
    record {
      same = c.audit_place.ensures.same ∙ old.same;
      along = c.get-job.ensures.same ∙ old.along;
      counted = ap (λ (n : ℕ). n + bool_byte c.in_ok-is_wrong.is_wrong) old.counted
          ∙ sym (count_on c.args.reruns.now c.args.board.now c.loop-number.number c.get-job.result c.get.result at c.get.ensures c.in_ok-is_wrong.is_wrong wrong);
      few = few_on c.in_ok-is_wrong.is_wrong c.loop-number.wrong c.loop-number.number old.few;
      faults = c.in_ok-is_wrong.ensures.cause ∙ old.faults;
      so_far = λ told.
          text_on c.args.reruns.now c.args.board.now c.loop-number.number c.get-job.result c.get.result at c.get.ensures _ _ _ (old.so_far told)
          (c.in_ok-is_wrong.ensures.bytes told ∙ ap (λ (d : CaseData). g.O.Sink.taken c.loop-number.out ++ place_text d c.get-job.result c.get.result) old.same);
    }

pub returns-clause-wrong : goal.returns-clause-wrong
returns-clause-wrong g c =
    let all : length (jobs_in c.args.reruns.now) ≤ c.loop-number.number =
    let long = ap (λ (l : List Job). length l) c.requires.list in omega (arith, long, c.loop-number-test.false, c.len-number-end.ensures) in
    c.loop-number.invariant.counted ∙ count_all c.args.reruns.now c.args.board.now c.loop-number.number all

pub returns-clause-bytes : goal.returns-clause-bytes
returns-clause-bytes g c = λ told.
    let all : length (jobs_in c.args.reruns.now) ≤ c.loop-number.number =
    let long = ap (λ (l : List Job). length l) c.requires.list in omega (arith, long, c.loop-number-test.false, c.len-number-end.ensures) in
    c.loop-number.invariant.so_far told
    ∙ ap (λ (s : List ℕ). g.O.Sink.taken c.args.out.now ++ s) (text_all c.args.reruns.now c.args.board.now c.loop-number.number all)
