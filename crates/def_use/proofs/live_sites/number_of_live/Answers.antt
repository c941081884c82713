use Rattle.std.proofs.Common.{refl, arith}
use Rattle.def_use.proofs.Lives.{bit_is, number_low, holds_live}
use Rattle.def_use.proofs.live_sites.number_of_live.Goals as goal

pub nonzero_div-bit : goal.nonzero_div-bit
nonzero_div-bit c = (bit_is c.args.reads.now c.args.index _ _ c.place_of_live-place.ensures).some

pub overflow_cast-result : goal.overflow_cast-result
overflow_cast-result c =
    let bit = bit_is c.args.reads.now c.args.index _ _ c.place_of_live-place.ensures in
    let low = number_low c.args.reads.now c.args.firsts.now c.args.index _ _ _ c.requires.firsts c.place_of_live-place.ensures bit in
    record { fits = omega (arith, low.0) }

pub overflow_add-result : goal.overflow_add-result
overflow_add-result c =
    let bit = bit_is c.args.reads.now c.args.index _ _ c.place_of_live-place.ensures in
    let low = number_low c.args.reads.now c.args.firsts.now c.args.index _ _ _ c.requires.firsts c.place_of_live-place.ensures bit in
    record { fits = omega (arith, low.1, c.requires.few) }

pub returns : goal.returns
returns c =
    let bit = bit_is c.args.reads.now c.args.index _ _ c.place_of_live-place.ensures in
    holds_live c.args.reads.now c.args.firsts.now c.args.index _ _ _ _ c.requires.firsts c.place_of_live-place.ensures bit refl
