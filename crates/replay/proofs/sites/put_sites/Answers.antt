use Rattle.std.proofs.Common.{arith, rules, refl}
use Rattle.std.proofs.lemmas.List.{take_all}
use Rattle.fs_outside.proofs.Writes.{writes_part}
use Rattle.report.proofs.Buffered.{each_moves, each_part, flushed, moved_none, part_of_empty}
use Rattle.replay.specs.Text.{replay_text, site_text}
use Rattle.replay.proofs.sites.put_sites.Goals as goal

pub loop-site-init : goal.loop-site-init
loop-site-init g c = record { machine = c.requires.machine; other = c.requires.other; faults = refl; so_far = λ told. moved_none _ _ }

pub loop-site-preserved : goal.loop-site-preserved
loop-site-preserved g c = record {
  machine = c.put_site_text.ensures.machine;
  other = c.put_site_text.ensures.other;
  faults = search rules;
  so_far = λ told. each_moves (site_text c.args.case.now c.args.view) _ _ _ _ _ _ c.args.sites.now c.loop-site.site-index _ (omega arith)
      (c.loop-site.invariant.so_far told) (c.in_ok-put_site_text.ensures.bytes told);
}

pub returns-in_err-put_site_text-clause-bytes : goal.returns-in_err-put_site_text-clause-bytes
returns-in_err-put_site_text-clause-bytes g c = λ told.
    writes_part _ _ _ c.from_residual.result c.from_residual.ensures.0
    (part_of_empty _ _ _ _ c.requires.empty
    (each_part (site_text c.args.case.now c.args.view) _ _ _ _ _ c.args.sites.now c.loop-site.site-index _ (omega arith)
    (c.loop-site.invariant.so_far told) (c.in_err-put_site_text.ensures.bytes told)))

pub returns-clause-bytes : goal.returns-clause-bytes
returns-clause-bytes g c = λ told.
    let moved = c.loop-site.invariant.so_far told in
    flushed _ _ _ _ _ (replay_text c.args.case.now c.args.view c.args.sites.now) c.flush.result c.requires.empty
    (rw (take_all c.loop-site.site-index c.args.sites.now (omega arith)) at moved) (c.flush.ensures.bytes told)
