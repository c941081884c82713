use Rattle.std.specs.Fork.{ChangesAt}
use Rattle.fan_out.proofs.Firsts.{of_each}
use Rattle.fan_out.proofs.threads.for_each_mut.Goals as goal

pub returns-then-all-eq1 : goal.returns-then-all-eq1
returns-then-all-eq1 g c = of_each (ChangesAt g.F.Fn c.args.f.now) c.args.all.now c.at_first.new.first c.at_first.ensures

pub returns-else-all-eq1 : goal.returns-else-all-eq1
returns-else-all-eq1 g c = of_each (ChangesAt g.F.Fn c.args.f.now) c.args.all.now c.start_from.new.all c.start_from.ensures
