use Rattle.std.proofs.Common.{◌≡◌, ℕ, List, [], ◌++◌, refl, sym, ap, ◌∙◌, subst, arith, drop, length, take}
use Rattle.std.specs.Prelude.{All, flat_map, slice_get}
use Rattle.std.proofs.lemmas.Bool.{eqb-true}
use Rattle.std.proofs.lemmas.List.Elements.{All-append, All-drop}
use Rattle.job_queue.proofs.Totals.{empty}
use Rattle.job_queue.specs.Hands.{claims_of}
use Rattle.job_queue.specs.Pages.{HasSame}
use Rattle.experiment.proofs.Rises.{as_still}
use Rattle.worker_pool.specs.Steps.{steps_at, steps_of_numbers}
use Rattle.worker_pool.specs.Workers.{has_shortcuts, steps_in, taken_of}
use Rattle.worker_pool.specs.Crews.{IsBack, IsIdle, taken_by_all}
use Rattle.worker_pool.proofs.StepLists.{steps_none, steps_sum}
use Rattle.worker_pool.proofs.StepSums.{all_rise, part_rises, first_ones}
use Rattle.worker_pool.proofs.shared.Shared.run_first.Goals as goal

pub returns-then-is_empty-clause-page : goal.returns-then-is_empty-clause-page
returns-then-is_empty-clause-page g c =
    let none : c.args.numbers.now ≡ [] = empty c.args.numbers.now (eqb-true _ 0 (sym c.is_empty.ensures ∙ c.if-is_empty.true)) in
    λ weight. rw none refl

pub returns-then-is_empty-clause-taken : goal.returns-then-is_empty-clause-taken
returns-then-is_empty-clause-taken g c =
    let s = c.args.self.now in
    let none : c.args.numbers.now ≡ [] = empty c.args.numbers.now (eqb-true _ 0 (sym c.is_empty.ensures ∙ c.if-is_empty.true)) in
    let steps = ap (steps_of_numbers s.case.now s.snaps.spacing s.list.now.list) none ∙ steps_none s.case.now s.snaps.spacing s.list.now.list in
    as_still (has_shortcuts s) (length c.args.numbers.now) (steps_in s c.args.numbers.now) (taken_by_all c.args.workers.now) (ap (λ (l : List ℕ). length l) none) steps (omega arith)

pub returns-clause-workers : goal.returns-clause-workers
returns-clause-workers g c =
    let s = c.args.self.now in
    let all = c.args.workers.now in
    let begun = c.min-begun.result in
    All-append (λ w. IsIdle s w) c.run_all.new.workers (drop begun all) (λ k d below. (c.run_all.ensures.workers k d below).0) (All-drop (λ w. IsIdle s w) begun all c.requires.page.idle)

pub returns-clause-back : goal.returns-clause-back
returns-clause-back g c =
    let s = c.args.self.now in
    subst (λ l. All (λ w. IsBack s w) l) (sym (first_ones c.min-begun.result c.args.workers.now c.run_all.new.workers (omega (arith, c.min-begun.ensures)) c.run_all.auto.workers)) c.run_all.ensures.workers

pub returns-clause-page : goal.returns-clause-page
returns-clause-page g c =
    subst (λ l. HasSame c.args.numbers.now (flat_map (λ w. claims_of w.hand) l)) (sym (first_ones c.min-begun.result c.args.workers.now c.run_all.new.workers (omega (arith, c.min-begun.ensures)) c.run_all.auto.workers)) c.run_all.ensures.page

pub returns-clause-taken : goal.returns-clause-taken
returns-clause-taken g c =
    let s = c.args.self.now in
    let all = c.args.workers.now in
    let begun = c.min-begun.result in
    let numbers = c.args.numbers.now in
    let e = c.run_all.ensures in
    let first = all_rise (λ w. taken_of w) (λ w. claims_of w.hand) (steps_of_numbers s.case.now s.snaps.spacing s.list.now.list) (λ (n : ℕ). steps_at s.case.now s.snaps.spacing (slice_get s.list.now.list n))
    (steps_sum s.case.now s.snaps.spacing s.list.now.list) (has_shortcuts s) (take begun all) c.run_all.new.workers numbers c.run_all.auto.workers e.taken e.page in
    part_rises (has_shortcuts s) (λ w. taken_of w) (length numbers) (steps_in s numbers) begun all c.run_all.new.workers first
