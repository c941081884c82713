use Rattle.std.proofs.Common.{rules, arith, ◌∙◌, length-drop}
use Rattle.std.proofs.lemmas.List.{take_rest}
use Rattle.fs_outside.proofs.Writes.{part_up_to, whole_up_to, writes_part}
use Rattle.fs_outside.proofs.writing.write_whole.Goals as goal

pub returns-in_err-at-clause-bytes : goal.returns-in_err-at-clause-bytes
returns-in_err-at-clause-bytes g c =
    let part = part_up_to _ _ c.args.text.now c.loop-at.at in
    λ told. writes_part _ _ _ _ c.from_residual.ensures.0 (part (c.in_err-at.ensures.err told ∙ c.loop-at.invariant.so_far told))

pub loop-at-preserved : goal.loop-at-preserved
loop-at-preserved g c =
    let rest = take_rest c.args.text.now c.loop-at.at in
    let fits = rw rest at c.in_ok-at.ensures.fits in
    record {
      within = omega (arith, fits.1, length-drop c.loop-at.at c.args.text.now);
      faults = search rules;
      so_far = λ told. whole_up_to _ _ _ c.args.text.now c.loop-at.at c.in_ok-at.field-0
          (c.loop-at.invariant.so_far told) (rw rest at (c.in_ok-at.ensures.bytes told));
      untouched = λ none. absurd (omega arith);
    }
