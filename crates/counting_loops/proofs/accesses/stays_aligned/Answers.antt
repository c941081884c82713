use Rattle.std.proofs.Common.{◌≡◌, ◌%◌, rules}
use Rattle.std.proofs.lemmas.Bool.Decides.{Decides-eqb}
use Rattle.counting_loops.proofs.Wrapping.{aligned}
use Rattle.counting_loops.proofs.accesses.stays_aligned.Goals as goal

pub returns-then-at-count-eq0 : goal.returns-then-at-count-eq0
returns-then-at-count-eq0 c = λ even i x f.
    let first : c.args.at.first % c.args.count ≡ 0 = search rules in
    aligned c.args.count c.requires c.args.at.pace i c.args.at.first c.in-By.step x c.in-By.is first ((Decides-eqb _ _).0 even) f
