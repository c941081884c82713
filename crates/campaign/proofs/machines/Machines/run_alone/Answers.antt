use Rattle.std.proofs.Common.{All, ◌<◌, length, ap, rules, sym, subst, ◌∙◌}
use Rattle.fs_model.specs.Job.{jobs_in}
use Rattle.fs_model.specs.Case.{CaseData}
use Rattle.fs_model.specs.Outcome.{outcome}
use Rattle.snapshot_store.specs.Along.{Rose}
use Rattle.snapshot_store.specs.Stored.{SnapsData}
use Rattle.worker_pool.specs.CrewData.{CrewData}
use Rattle.campaign.specs.Ready.{all_taken}
use Rattle.def_use.specs.Rows.{rows_of}
use Rattle.worker_pool.specs.Steps.{steps_of_numbers}
use Rattle.campaign.proofs.OwnSteps.{as_ready, known_in, own_rows, own_steps}
use Rattle.campaign.proofs.machines.Machines.run_alone.Goals as goal

pub run_numbers-requires-clause-ready : goal.run_numbers-requires-clause-ready
run_numbers-requires-clause-ready g c =
    as_ready c.self.inside.of.case.now c.self.inside.crew.case c.self.inside.of.golden.now c.self.inside.of.list.now c.self.inside.own c.self.invariant.0 c.self.invariant.1
    c.snaps.result.now (ap (λ (s : SnapsData). s.case) c.snaps.ensures) (ap (λ (s : SnapsData). s.count) c.snaps.ensures)

pub run_numbers-requires-clause-numbers : goal.run_numbers-requires-clause-numbers
run_numbers-requires-clause-numbers g c =
    known_in c.self.inside.of.case.now c.self.inside.crew.case c.self.inside.of.golden.now c.self.inside.of.list.now c.self.inside.own c.self.invariant.0 c.self.invariant.1 c.args.numbers.now
    (subst (λ (x : CaseData). All (λ n. n < length (jobs_in x)) c.args.numbers.now) (sym (ap (λ (m : CrewData). m.case) c.self.view_is)) c.requires.known)

pub returns : goal.returns
returns g c =
    let spacing = ap (λ (s : SnapsData). s.spacing) c.snaps.ensures in
    let ran = c.run_numbers.ensures.taken in
    let rose = own_steps c.self.inside.of.case.now c.self.inside.crew.case c.self.inside.of.golden.now c.self.inside.of.list.now c.self.inside.own c.self.invariant.0 c.self.invariant.1
    c.self.inside.crew.spacing c.args.numbers.now c.self.inside.own.taken c.run_numbers.new.machine.taken c.self.inside.crew.taken (rw spacing at ran) in
    record {
      rows =
          own_rows c.self.inside.of.case.now c.self.inside.crew.case c.self.inside.of.golden.now c.self.inside.of.list.now c.self.inside.own c.self.invariant.0 c.self.invariant.1 c.args.numbers.now _ c.run_numbers.ensures.rows
          ∙ ap (λ (m : CrewData). rows_of (outcome m.case) (jobs_in m.case) c.args.numbers.now) c.self.view_is;
      taken = subst (λ (m : CrewData). Rose m.taken (steps_of_numbers m.case m.spacing (jobs_in m.case) c.args.numbers.now) (all_taken c.run_numbers.new.machine.taken c.self.inside.crew.taken)) c.self.view_is rose;
      room = search rules;
      same = search rules;
    }
