use Rattle.std.proofs.Common.{◌<◌, length, sym, ◌∙◌, arith}
use Rattle.std.proofs.lemmas.List.Elements.{All-set}
use Rattle.keep_format.specs.Runs.{Ascends}
use Rattle.keep_format.proofs.RunWalk.{found_in, none_in, joined-set}
use Rattle.keep_format.proofs.runs.apart_in_runs.Goals as goal

pub returns-in-Some-clause-apart : goal.returns-in-Some-clause-apart
returns-in-Some-clause-apart c =
    let within : c.loop-front.front-index < length c.loop-front.fronts = omega (arith, c.loop-front-test.true, c.loop-front.auto.fronts) in
    sym (sym c.loop-front.invariant.none ∙ found_in c.loop-front.fronts c.loop-front.front-index c.front-item.result within c.args.row c.in-Some.first (sym c.in-Some.ensures.apart))

pub returns-in-Some-clause-later : goal.returns-in-Some-clause-later
returns-in-Some-clause-later c = λ later is.
    joined-set c.loop-front.fronts c.loop-front.front-index c.front-item.result c.apart.new.self later (c.in-Some.ensures.later later is)
    ∙ c.loop-front.invariant.later later is

pub loop-front-preserved : goal.loop-front-preserved
loop-front-preserved c =
    let within : c.loop-front.front-index < length c.loop-front.fronts = omega (arith, c.loop-front-test.true, c.loop-front.auto.fronts) in
    record {
      none = none_in c.loop-front.fronts c.loop-front.front-index c.front-item.result within c.args.row c.apart.new.self (sym c.in_default.ensures.apart) ∙ c.loop-front.invariant.none;
      ascend = All-set Ascends c.loop-front.fronts c.loop-front.front-index c.apart.new.self c.in_default.ensures.ascends c.loop-front.invariant.ascend;
      later = λ later is.
          joined-set c.loop-front.fronts c.loop-front.front-index c.front-item.result c.apart.new.self later (c.in_default.ensures.later later is)
          ∙ c.loop-front.invariant.later later is;
    }
