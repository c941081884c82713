use Rattle.std.specs.Fork.{ChangesAt}
use Rattle.fan_out.proofs.Firsts.{one_changed}
use Rattle.fan_out.proofs.threads.at_first.Goals as goal

pub returns : goal.returns
returns g c = one_changed (ChangesAt g.F.Fn c.args.f.now) c.args.place c.args.first.now c.index-first-0.result c.at_one.new.it c.requires.one c.at_one.ensures
