use Rattle.std.specs.Fork.{AcceptsAt, ChangesAt}
use Rattle.fan_out.proofs.Firsts.{of_others, of_both}
use Rattle.fan_out.proofs.threads.+starting.Goals as goal

pub start_from-start_first-requires-clause-others : goal.start_from-start_first-requires-clause-others
start_from-start_first-requires-clause-others g t c κs within =
    let cut = c.split_at_mut-first in
    of_others (AcceptsAt g.F.Fn c.args.f.now) c.args.place c.args.all.now cut.result.0.now cut.result.1.now cut.ensures.value cut.ensures.front_len c.requires.accepts

pub start_from-returns : goal.start_from-returns
start_from-returns g t c =
    let cut = c.split_at_mut-first in
    of_both (ChangesAt g.F.Fn c.args.f.now) c.args.place c.args.all.now cut.result.0.now cut.result.1.now c.start_first.new.first c.start_first.new.others cut.ensures.value cut.ensures.front_len c.start_first.ensures.first c.start_first.ensures.others
