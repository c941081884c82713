use Rattle.std.proofs.Common.{get_or, arith}
use Rattle.std.proofs.lemmas.Option.{slice_get-get_or}
use Rattle.def_use.proofs.Search.{none, job_of, bit_low}
use Rattle.def_use.proofs.job_lists.job_at.Goals as goal

pub overflow_cast-result : goal.overflow_cast-result
overflow_cast-result c =
    let gs = c.args.reads.now in
    let low = bit_low gs c.args.firsts.now c.args.place c.args.number (get_or gs c.args.place none) c.requires.firsts c.requires.place (slice_get-get_or gs c.args.place none c.requires.place.inside) in
    omega (arith, low)

pub returns : goal.returns
returns c =
    let gs = c.args.reads.now in
    job_of gs c.args.firsts.now c.args.place c.args.number (get_or gs c.args.place none) c.requires.firsts c.requires.place (slice_get-get_or gs c.args.place none c.requires.place.inside)
