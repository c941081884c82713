use Rattle.std.proofs.Common.{◌≡◌, ℕ, ◌<◌, ◌≤◌, ◌%◌, length, arith}
use Rattle.std.proofs.Math.ListN.{length-set}
use Rattle.std.proofs.Math.Nat.{mod-lt}
use Rattle.counting_loops.specs.declared.paces.Pace.TheVariants.{By, Unknown}
use Rattle.counting_loops.specs.declared.words.Held.{Held}
use Rattle.counting_loops.proofs.Numbers.{forgets, forgets_done, forgets_rest}
use Rattle.counting_loops.proofs.words.forget.Goals as goal

pub loop-j-preserved : goal.loop-j-preserved
loop-j-preserved c =
    let none : Held = record { word = 0; pace = By 0 } in
    let low = c.loop-j-test.true in
    let told = c.told-held in
    let long = c.loop-j.invariant.long in
    let few : c.loop-j.j < length c.loop-j.held = omega (arith, low, long) in
    let some : c.loop-j.j < length c.args.held.now = omega (arith, low, told) in
    record {
      long = simp length-set long;
      done = forgets_done c.args.base c.args.count c.args.range c.args.held.now c.loop-j.held c.loop-j.j c.forgotten.result few some c.loop-j.invariant.done none (c.loop-j.invariant.rest c.loop-j.j none (omega arith)) c.forgotten.ensures;
      rest = forgets_rest c.args.base c.args.count c.args.range c.args.held.now c.loop-j.held c.loop-j.j c.forgotten.result few some c.loop-j.invariant.rest;
    }

pub returns : goal.returns
returns c = λ k.
    let low : k % 64 < 64 = mod-lt k {m = 64} (omega arith) in
    forgets _ _ _ k _ _ (c.loop-j.invariant.done (k % 64) (record { word = 0; pace = Unknown }) (omega (arith, low)))
