use Rattle.std.proofs.Common.{get_or, arith}
use Rattle.std.proofs.lemmas.Option.{slice_get-get_or}
use Rattle.def_use.proofs.Search.{none, found, no_bit, number_fits, get_or_is}
use Rattle.def_use.proofs.job_lists.number_at.Goals as goal

pub overflow_add-result : goal.overflow_add-result
overflow_add-result c =
    let gs = c.args.reads.now in
    let there = slice_get-get_or gs c.args.place none c.requires.place in
    let first = c.requires.firsts.each c.args.place (omega arith) in
    let low = number_fits gs c.args.place (get_or gs c.args.place none) c.args.bit _ there (omega (arith, c.bits.ensures.value)) first in
    record { fits = omega (arith, low) }

pub returns-then-bit-bits : goal.returns-then-bit-bits
returns-then-bit-bits c = λ g there.
    let gs = c.args.reads.now in
    let same = get_or_is gs c.args.place g none c.requires.place there in
    found gs c.args.place g c.args.bit _ there (rw (← same) (omega (arith, c.bits.ensures.value))) (c.requires.firsts.each c.args.place (omega arith))

pub returns-else-bit-bits : goal.returns-else-bit-bits
returns-else-bit-bits c = λ g there.
    let same = get_or_is c.args.reads.now c.args.place g none c.requires.place there in
    no_bit c.args.reads.now g.cycle g.cell c.args.bit (rw (← same) (omega (arith, c.bits.ensures.value)))
