use Rattle.std.proofs.Common.{◌++◌, ◌∙◌, arith}
use Rattle.fs_model.specs.Outcome.{outcome}
use Rattle.plain_commands.specs.Trace.{output_line}
use Rattle.plain_commands.specs.Walk.{end_text, steps_by}
use Rattle.report.proofs.Buffered.{moved_part, part_goes_on, puts_part}
use Rattle.replay.specs.Injected.{injected_at}
use Rattle.replay.specs.Text.{differences_line, outcome_line, site_line, view_lines}
use Rattle.replay.proofs.Lines.{puts_behind, site_early, site_parts, site_within, steps_within}
use Rattle.replay.proofs.site_texts.put_site_text.Goals as goal

pub walk_along-walk-requires-clause-within : goal.walk_along-walk-requires-clause-within
walk_along-walk-requires-clause-within g c = site_within c.args.case.now c.args.golden.now c.args.site.now c.requires.golden c.requires.site

pub outcome_of-outcome-requires-clause-cycle : goal.outcome_of-outcome-requires-clause-cycle
outcome_of-outcome-requires-clause-cycle g c = site_early c.args.case.now c.args.golden.now c.args.site.now c.requires.golden c.requires.site

pub walk_along-walk-requires-clause-cycle : goal.walk_along-walk-requires-clause-cycle
walk_along-walk-requires-clause-cycle g c =
    let early = site_early c.args.case.now c.args.golden.now c.args.site.now c.requires.golden c.requires.site in
    omega (arith, early, c.requires.count)

pub put_view-requires-clause-cycle : goal.put_view-requires-clause-cycle
put_view-requires-clause-cycle g c =
    let early = site_early c.args.case.now c.args.golden.now c.args.site.now c.requires.golden c.requires.site in
    omega (arith, early, c.requires.count)

pub put_output-requires-clause-cycle : goal.put_output-requires-clause-cycle
put_output-requires-clause-cycle g c =
    let early = site_early c.args.case.now c.args.golden.now c.args.site.now c.requires.golden c.requires.site in
    omega (arith, early, c.requires.count)

pub steps_of-requires : goal.steps_of-requires
steps_of-requires g c =
    let walk = c.walk_along-walk.ensures.walk in
    let few = steps_within c.args.case.now c.args.site.now in
    omega (arith, walk.steps, few, c.facts.ensures.limit_max)

pub put_view-requires-clause-few : goal.put_view-requires-clause-few
put_view-requires-clause-few g c =
    let walk = c.walk_along-walk.ensures.walk in
    let few = steps_within c.args.case.now c.args.site.now in
    let within = site_within c.args.case.now c.args.golden.now c.args.site.now c.requires.golden c.requires.site in
    omega (arith, walk.steps, few, within, c.facts.ensures.limit_max, c.steps_of.ensures)

pub returns-in_err-put_site-clause-bytes : goal.returns-in_err-put_site-clause-bytes
returns-in_err-put_site-clause-bytes g c = λ told.
    let walk = c.walk_along-walk.result in
    rw (site_parts c.args.case.now c.args.view c.args.site.now walk c.walk_along-walk.ensures.walk)
    (puts_part _ _ _ _ _ c.from_residual.result c.from_residual.ensures.0
    (part_goes_on _ _ c.args.waiting.now.items (site_line c.args.site.now) _ (c.in_err-put_site.ensures.bytes told)))

pub returns-in_err-put_view-clause-bytes : goal.returns-in_err-put_view-clause-bytes
returns-in_err-put_view-clause-bytes g c = λ told.
    let case = c.args.case.now in
    let site = c.args.site.now in
    let walk = c.walk_along-walk.result in
    let stands = c.outcome_of-outcome.ensures.case ∙ c.walk_along-walk.ensures.case in
    let part = c.in_err-put_view.ensures.bytes told in
    rw (site_parts case c.args.view site walk c.walk_along-walk.ensures.walk)
    (puts_part _ _ _ _ _ c.from_residual-in_err-put_view.result c.from_residual-in_err-put_view.ensures.0
    (moved_part _ _ _ _ _ (site_line site) _ (c.in_ok-put_site.ensures.bytes told)
    (part_goes_on _ _ _ (view_lines case site (steps_by walk.went walk.last) c.args.view) _ (rw (stands, c.steps_of.ensures) at part))))

pub returns-in_err-put_differences-clause-bytes : goal.returns-in_err-put_differences-clause-bytes
returns-in_err-put_differences-clause-bytes g c = λ told.
    let case = c.args.case.now in
    let site = c.args.site.now in
    let walk = c.walk_along-walk.result in
    let stands = c.outcome_of-outcome.ensures.case ∙ c.walk_along-walk.ensures.case in
    let view = c.in_ok-put_view.ensures.bytes told in
    rw (site_parts case c.args.view site walk c.walk_along-walk.ensures.walk)
    (puts_part _ _ _ _ _ c.from_residual-in_err-put_differences.result c.from_residual-in_err-put_differences.ensures.0
    (moved_part _ _ _ _ _ (site_line site) _ (c.in_ok-put_site.ensures.bytes told)
    (moved_part _ _ _ _ _ (view_lines case site (steps_by walk.went walk.last) c.args.view) _ (rw (stands, c.steps_of.ensures) at view)
    (part_goes_on _ _ _ (differences_line walk.differences) _ (c.in_err-put_differences.ensures.bytes told)))))

pub returns-in_err-put_output-clause-bytes : goal.returns-in_err-put_output-clause-bytes
returns-in_err-put_output-clause-bytes g c = λ told.
    let case = c.args.case.now in
    let site = c.args.site.now in
    let walk = c.walk_along-walk.result in
    let stands = c.outcome_of-outcome.ensures.case ∙ c.walk_along-walk.ensures.case in
    let still = c.put_view.ensures.case ∙ stands in
    let view = c.in_ok-put_view.ensures.bytes told in
    let part = c.in_err-put_output.ensures.bytes told in
    rw (site_parts case c.args.view site walk c.walk_along-walk.ensures.walk)
    (puts_part _ _ _ _ _ c.from_residual-in_err-put_output.result c.from_residual-in_err-put_output.ensures.0
    (moved_part _ _ _ _ _ (site_line site) _ (c.in_ok-put_site.ensures.bytes told)
    (moved_part _ _ _ _ _ (view_lines case site (steps_by walk.went walk.last) c.args.view) _ (rw (stands, c.steps_of.ensures) at view)
    (moved_part _ _ _ _ _ (differences_line walk.differences) _ (c.in_ok-put_differences.ensures.bytes told)
    (part_goes_on _ _ _ (output_line (injected_at case site walk.went).output) _ (rw still at part))))))

pub returns-clause-bytes : goal.returns-clause-bytes
returns-clause-bytes g c = λ told.
    let case = c.args.case.now in
    let site = c.args.site.now in
    let walk = c.walk_along-walk.result in
    let stands = c.outcome_of-outcome.ensures.case ∙ c.walk_along-walk.ensures.case in
    let still = c.put_view.ensures.case ∙ stands in
    let view = c.in_ok-put_view.ensures.bytes told in
    let output = c.in_ok-put_output.ensures.bytes told in
    let end = c.put_end_and_outcome.ensures.bytes told in
    rw (site_parts case c.args.view site walk c.walk_along-walk.ensures.walk)
    (puts_behind _ _ _ _ _ _ (site_line site) _ c.put_end_and_outcome.result (c.in_ok-put_site.ensures.bytes told)
    (puts_behind _ _ _ _ _ _ (view_lines case site (steps_by walk.went walk.last) c.args.view) _ c.put_end_and_outcome.result (rw (stands, c.steps_of.ensures) at view)
    (puts_behind _ _ _ _ _ _ (differences_line walk.differences) _ c.put_end_and_outcome.result (c.in_ok-put_differences.ensures.bytes told)
    (puts_behind _ _ _ _ _ _ (output_line (injected_at case site walk.went).output) (end_text walk.last ++ outcome_line (outcome case site)) c.put_end_and_outcome.result (rw still at output)
    (rw c.outcome_of-outcome.ensures.outcome at end)))))
