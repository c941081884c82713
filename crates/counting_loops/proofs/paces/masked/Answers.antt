use Rattle.std.proofs.Common.{◌≡◌, ◌<◌, true, inr, refl, rules}
use Rattle.counting_loops.proofs.Wrapping.{mask_fixed}
use Rattle.counting_loops.proofs.paces.masked.Goals as goal

pub returns-then-is_low_mask : goal.returns-then-is_low_mask
returns-then-is_low_mask c =
    let low : c.is_low_mask.result ≡ true = search rules in
    let few : c.trailing_ones-count.result < 32 = search rules in
    inr (refl, λ i x f. mask_fixed c.args.a.pace c.in-By.step i c.args.a.first x c.trailing_ones-count.result c.args.mask c.in-By.is few (c.is_low_mask.ensures.mask low) (c.is_low_mask.ensures.step low) f)
