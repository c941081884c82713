use Rattle.std.proofs.Common.{◌∙◌, arith}
use Rattle.fs_model.specs.Outcome.{outcome}
use Rattle.def_use.proofs.RowLists.{rows_none, rows_fit, rows_next}
use Rattle.worker_pool.proofs.shared.Shared.collect.Goals as goal

pub loop-place-init : goal.loop-place-init
loop-place-init g c =
    let s = c.args.self.now in
    record {
      along = c.walk-walk.ensures;
      rows = c.clear.ensures.items ∙ rows_none (outcome s.case.now) s.list.now.list;
      room = c.clear.ensures.capacity;
    }

pub push_reserved-requires : goal.push_reserved-requires
push_reserved-requires g c =
    let s = c.args.self.now in
    let i = c.loop-place.invariant in
    let fits = rows_fit (outcome s.case.now) s.list.now.list c.args.numbers.now c.loop-place.place c.loop-place.rows.items c.loop-place-test.true i.rows in
    omega (arith, fits, i.room, c.requires.room, c.loop-place.rows.ok.0)

pub loop-place-preserved : goal.loop-place-preserved
loop-place-preserved g c =
    let s = c.args.self.now in
    let i = c.loop-place.invariant in
    let e = c.push_reserved.ensures in
    record {
      along = c.get-job.ensures.same ∙ i.along;
      rows = rows_next (outcome s.case.now) s.list.now.list c.args.numbers.now c.loop-place.place 0 c.loop-place.rows.items c.push_reserved.new.self.items c.row_of.result c.loop-place-test.true i.rows c.row_of.ensures e.items;
      room = e.capacity ∙ i.room;
    }

pub row_of-requires-clause-job : goal.row_of-requires-clause-job
row_of-requires-clause-job g c = rw c.loop-place.invariant.along at c.get-job.ensures.job
