use Rattle.std.proofs.Common.{◌≡◌, ℕ, ◌+◌, ◌*◌, ◌<◌, ◌≤◌, ◌==◌, List, length, sym, ap, ◌∙◌, arith}
use Rattle.access_log.specs.LogData.{log_in}
use Rattle.fs_model.specs.declared.sites.Job.{Job}
use Rattle.fs_model.specs.AccessLog.{AccessLog}
use Rattle.fs_model.specs.Job.{JobTable, job_list, jobs_of, log_of}
use Rattle.site_counts.specs.Counts.{weight_where}
use Rattle.site_counts.specs.Lines.{line_in}
use Rattle.test_campaign.proofs.tests_of_site_counts.counted_by_cell.Goals as goal

a_part : (sum weight dead all : ℕ) → sum ≡ weight → weight + dead ≡ all → sum ≤ all
a_part sum weight dead all is whole = omega arith

-- the weights of a line's jobs are a part of its sites
pub add_dead-requires-clause-within : goal.add_dead-requires-clause-within
unfolding log_of jobs_of
add_dead-requires-clause-within c = λ k low.
    let l : AccessLog = log_in c.args.log.now in
    let three : k < 3 = omega (arith, low) in
    let lists : c.args.list.now.list ≡ job_list l = ap (λ (t : JobTable). t.list) c.requires.list in
    let weights = ap (λ (js : List Job). weight_where (λ site. line_in c.args.table.now site.cycle site.cell == k) js) lists in
    let whole = c.bits_by.ensures.whole l (sym c.ram.ensures) (sym c.pc.ensures) k (omega (arith, c.requires.last)) in
    let cycles : length c.touches.result.now ≡ l.cycles = ap length c.touches.ensures.value in
    rw cycles (a_part _ _ _ _ (c.counted-totals.ensures.sum k three ∙ weights) whole)
