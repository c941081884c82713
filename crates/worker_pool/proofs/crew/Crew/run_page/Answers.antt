use Rattle.std.proofs.Common.{◌≡◌, ◌++◌, length, drop, take, refl, sym, ap, ◌∙◌, subst, arith}
use Rattle.std.specs.Prelude.{All, flat_map}
use Rattle.job_queue.specs.Hands.{claims_of}
use Rattle.job_queue.specs.Pages.{HasSame}
use Rattle.experiment.specs.Jobs.{RoseAs}
use Rattle.experiment.proofs.Rises.{as_same}
use Rattle.worker_pool.specs.Steps.{steps_of_numbers}
use Rattle.fs_model.specs.Job.{jobs_in}
use Rattle.worker_pool.specs.CrewData.{CrewData}
use Rattle.worker_pool.specs.Crews.{IsBack, IsIdle, taken_by_all}
use Rattle.worker_pool.specs.Workers.{has_shortcuts}
use Rattle.worker_pool.proofs.CrewCases.{known_here, rows_same, steps_same}
use Rattle.worker_pool.proofs.StepSums.{written_back}
use Rattle.worker_pool.proofs.crew.Crew.run_page.Goals as goal

pub run_first-begun-requires-clause-page : goal.run_first-begun-requires-clause-page
run_first-begun-requires-clause-page g c = λ κs within.
    let s = c.self.inside.shared in
    let i = c.self.invariant in
    let few = ap (λ (r : CrewData). r.page) c.self.view_is in
    record {
      shared = i.shared;
      own = i.filler;
      settled = i.settled;
      some = omega (arith, i.nonempty, i.hands, c.as_mut_slice.ensures.len);
      hands = omega (arith, i.hands, c.as_mut_slice.ensures.len);
      idle = subst (λ l. All (λ w. IsIdle s w) l) (sym c.as_mut_slice.ensures.value) i.idle;
      apart = c.requires.apart;
      known = known_here s.case.now c.args.self.now.case s.list.now i.shared.list_is (ap (λ (r : CrewData). r.case) c.self.view_is) c.args.numbers.now c.requires.known;
      fits = omega (arith, c.requires.page, few);
    }

pub collect-requires-clause-known : goal.collect-requires-clause-known
collect-requires-clause-known g c =
    let s = c.self.inside.shared in
    known_here s.case.now c.args.self.now.case s.list.now c.self.invariant.shared.list_is (ap (λ (r : CrewData). r.case) c.self.view_is) c.args.numbers.now c.requires.known

pub returns-clause-rows : goal.returns-clause-rows
returns-clause-rows g c =
    let s = c.self.inside.shared in
    c.collect.ensures.rows ∙ rows_same s.case.now c.args.self.now.case s.list.now c.self.invariant.shared.list_is (ap (λ (r : CrewData). r.case) c.self.view_is) c.args.numbers.now

pub returns-clause-taken : goal.returns-clause-taken
returns-clause-taken g c =
    let s = c.self.inside.shared in
    let seen = c.args.self.now in
    let before = c.self.inside.workers in
    let after = c.run_first-begun.new.workers in
    let numbers = c.args.numbers.now in
    let len : length after ≡ before.len = omega (arith, c.run_first-begun.auto.workers, c.as_mut_slice.ensures.len) in
    let back = ap (λ l. taken_by_all l) (written_back before.items after before.len len) in
    let old = ap (λ l. taken_by_all l) c.as_mut_slice.ensures.value ∙ ap (λ (r : CrewData). r.taken) c.self.view_is in
    let steps = steps_same s.case.now seen.case s.list.now c.self.invariant.shared.list_is (ap (λ (r : CrewData). r.case) c.self.view_is) s.snaps.spacing seen.spacing numbers (ap (λ (r : CrewData). r.spacing) c.self.view_is) in
    let rise = as_same (has_shortcuts s) (length numbers) _ _ _ _ _ _ _ c.run_first-begun.ensures.taken refl old steps (sym back) in
    subst (λ b. RoseAs b (length numbers) seen.taken (steps_of_numbers seen.case seen.spacing (jobs_in seen.case) numbers) (taken_by_all (take before.len (after ++ drop (length after) before.items)))) (ap (λ (r : CrewData). r.shortcuts) c.self.view_is) rise
