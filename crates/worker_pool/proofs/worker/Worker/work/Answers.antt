use Rattle.std.proofs.Common.{◌≡◌, ℕ, ◌+◌, ◌≤◌, List, [], ◌∷◌, ◌++◌, length, take, refl, sym, subst, ◌∙◌, ap, arith}
use Rattle.fs_model.specs.declared.outcomes.Row.{Row}
use Rattle.fs_model.specs.Outcome.{outcome}
use Rattle.fs_model.specs.Verdict.{IsRight}
use Rattle.job_queue.specs.Hands.{page_size_of, claims_of, hand_view}
use Rattle.result_desk.specs.Tally.{TallyData}
use Rattle.rv_machine.specs.Machines.{MachineData}
use Rattle.experiment.specs.Jobs.{RoseAs}
use Rattle.worker_pool.specs.Waiting.{AreWaiting}
use Rattle.worker_pool.specs.Workers.{has_shortcuts, steps_in}
use Rattle.worker_pool.proofs.Ahead.{ran_same, none_ran, no_rows_ran, no_steps_ran, no_more, ahead_of_none}
use Rattle.worker_pool.proofs.Since.{since_whole, rows_since, rose_since, room_left}
use Rattle.experiment.proofs.Rises.{as_still}
use Rattle.worker_pool.proofs.Waitings.{none_given, none_waits, one_more, waits_more}
use Rattle.worker_pool.proofs.worker.Worker.work.Goals as goal

pub loop-init : goal.loop-init
loop-init g c =
    let s = c.args.shared.now in
    let claims = claims_of c.args.self.now.hand in
    let w = c.requires.worker in
    let e = c.clear.ensures in
    let ran = length c.claims-ran.result.now in
    let all : ran ≡ length claims = ap (λ (l : List ℕ). length l) c.claims-ran.ensures.claims in
    let none = no_steps_ran ran claims all s.case.now s.snaps.spacing s.list.now.list in
    let taken = ap (λ (m : MachineData). m.taken) c.deref.ensures in
    record {
      along = c.walk-walk.ensures;
      worker = (w.0, omega (arith, w.1, ap (λ (t : TallyData). t.page) e), ap (λ (t : TallyData). t.case) e ∙ w.2, w.3, omega (arith, w.4, c.clear-2.ensures.capacity), w.5);
      out = c.requires.out;
      page = refl;
      ahead = ahead_of_none s c.args.self.now.hand ran all;
      claims = ran_same ran claims all;
      rows = none_given c.clear.new.self.offered c.clear-2.new.self.items (ap (λ (t : TallyData). t.offered) e) c.clear-2.ensures.items ∙ no_rows_ran ran claims all (outcome s.case.now) s.list.now.list;
      waiting = none_waits c.clear.new.self c.clear-2.new.self.items (ap (λ (t : TallyData). t.offered) e) c.clear-2.ensures.items;
      few = omega (arith, c.clear-2.ensures.len);
      taken = as_still (has_shortcuts s) _ _ _ (none_ran ran claims all) none (omega (arith, taken, c.taken.ensures));
      number = refl;
      parts = ap (λ (t : TallyData). t.parts) e;
    }

pub run_claim-verdict-requires-clause-job : goal.run_claim-verdict-requires-clause-job
run_claim-verdict-requires-clause-job g c = rw c.loop.invariant.along at c.get-job.ensures.job

-- there is room for the row of one more claim
pub file_some-requires-clause-waiting : goal.file_some-requires-clause-waiting
file_some-requires-clause-waiting g c =
    let s = c.args.shared.now in
    let i = c.loop.invariant in
    let e = c.in-Some-next_claim.ensures in
    let old = take c.loop.ran (claims_of c.loop.self.hand) in
    let new = take (c.loop.ran + 1) (claims_of c.next_claim.new.hand) in
    let within : length new ≤ length (hand_view c.next_claim.new.hand).page = omega (arith, e.within, no_more (c.loop.ran + 1) (claims_of c.next_claim.new.hand)) in
    let room = room_left (outcome s.case.now) s.list.now.list (claims_of c.args.self.now.hand) old new (hand_view c.next_claim.new.hand).page c.in-Some-next_claim.number (page_size_of s.jobs) c.loop.self.tally.page (c.loop.self.tally.offered ++ c.loop.self.waiting.items)
    i.claims e.claims i.rows within e.hand.0.2 i.worker.1 in
    let own = c.row.ensures.right in
    let right : IsRight c.loop.self.tally.case c.row.result = rw (c.run_claim-verdict.ensures.case ∙ sym i.worker.2) at own in
    subst (λ (l : List Row). AreWaiting c.loop.self.tally l) (sym c.push_reserved.ensures.items) (waits_more c.loop.self.tally c.loop.self.waiting.items c.row.result i.waiting right room)

pub loop-preserved : goal.loop-preserved
loop-preserved g c =
    let s = c.args.shared.now in
    let i = c.loop.invariant in
    let e = c.in-Some-next_claim.ensures in
    let r = c.run_claim-verdict.ensures in
    let f = c.file_some.ensures in
    let before = claims_of c.args.self.now.hand in
    let old = take c.loop.ran (claims_of c.loop.self.hand) in
    let new = take (c.loop.ran + 1) (claims_of c.next_claim.new.hand) in
    let machine = c.deref_mut.ensures.value in
    let rose : RoseAs (has_shortcuts s) 1 c.loop.self.machine.value.taken (steps_in s (c.in-Some-next_claim.number ∷ [])) c.run_claim-verdict.new.machine.taken = subst (λ (t : ℕ). RoseAs (has_shortcuts s) 1 t (steps_in s (c.in-Some-next_claim.number ∷ [])) c.run_claim-verdict.new.machine.taken) (ap (λ (m : MachineData). m.taken) machine) r.taken in
    let row = r.row ∙ ap (λ (x : Row). x ∷ []) (sym c.row.ensures.value) in
    let more = one_more c.loop.self.tally.offered c.loop.self.waiting.items c.push_reserved.new.self.items c.row.result _ c.push_reserved.ensures.items (sym row) in
    record {
      along = c.get-job.ensures.same ∙ i.along;
      worker = (e.hand.0, omega (arith, i.worker.1, f.tally.1), f.tally.0 ∙ i.worker.2, r.machine ∙ (ap (λ (m : MachineData). m.case) machine ∙ i.worker.3), omega (arith, i.worker.4, c.push_reserved.ensures.capacity, f.room), r.known);
      out = e.hand.2 ∙ i.out;
      page = e.hand.1 ∙ i.page;
      ahead = e.ahead;
      claims = since_whole before old new c.in-Some-next_claim.number i.claims e.claims;
      rows = rows_since (outcome s.case.now) s.list.now.list before old new c.in-Some-next_claim.number _ _ i.claims e.claims i.rows (f.rows ∙ more);
      waiting = f.waiting;
      few = f.few;
      taken = rose_since s.case.now s.snaps.spacing s.list.now.list (has_shortcuts s) before old new c.in-Some-next_claim.number _ _ _ i.claims e.claims i.taken rose;
      number = i.number;
      parts = f.tally.2 ∙ i.parts;
    }
