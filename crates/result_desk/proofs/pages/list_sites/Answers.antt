use Rattle.std.proofs.Common.{◌∙◌, arith}
use Rattle.std.proofs.lemmas.Option.{slice_get-get_or, slice_get_within}
use Rattle.fs_model.specs.Job.{site_of}
use Rattle.result_desk.proofs.Search.{listed_more}
use Rattle.result_desk.proofs.pages.list_sites.Goals as goal

pub returns-clause-sites : goal.returns-clause-sites
returns-clause-sites c =
    let i = c.loop-number.invariant in record {
      long = omega (arith, i.long, c.loop-number.sites.ok.0);
      each = λ k n job at here. i.each k n job (omega (arith, slice_get_within _ k n at)) at here;
    }

pub loop-number-preserved : goal.loop-number-preserved
unfolding site_of
loop-number-preserved c =
    let i = c.loop-number.invariant in
    let k = c.loop-number.number-index in
    let here = slice_get-get_or c.args.numbers.now k 0 c.loop-number-test.true in
    let job = rw i.along at c.get-job.ensures.job in record {
      along = c.get-job.ensures.same ∙ i.along;
      long = omega (arith, i.long, c.push_reserved.ensures.len);
      room = c.push_reserved.ensures.capacity ∙ i.room;
      each = rw c.push_reserved.ensures.items (listed_more c.args.list.now.list c.args.numbers.now c.loop-number.sites.items k _ c.get-job.result (omega (arith, i.long, c.loop-number.sites.ok.0)) here job i.each);
    }
