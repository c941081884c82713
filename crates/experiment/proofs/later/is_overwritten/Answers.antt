use Rattle.std.proofs.Common.{◌≡◌, ◌<◌, ◌≤◌, Bool, true, false, length, refl, arith}
use Rattle.std.specs.Prelude.{not}
use Rattle.experiment.proofs.Onward.{dead_soon}
use Rattle.experiment.proofs.later.is_overwritten.Goals as goal

not_true : (b : Bool) → not b ≡ true → b ≡ false
not_true true h = absurd cc
not_true false h = refl

pub returns-in-Some : goal.returns-in-Some
returns-in-Some c = λ yes case h.
    let off : c.in-Some.reads ≡ false = not_true c.in-Some.reads yes in
    let low : c.args.site.cycle < length c.args.golden.now.touches = omega (arith, c.if-site-count.false, c.count.ensures.value) in
    let cell : 1 ≤ c.args.site.cell = omega (arith, c.if-site-eq0.false) in
    dead_soon case c.args.golden.now c.args.site c.in-Some.field-0-0 h low cell (λ ram pc. rw (c.touches.ensures.value, off) at (c.in-Some.ensures ram pc))
