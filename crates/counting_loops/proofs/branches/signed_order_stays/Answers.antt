use Rattle.std.proofs.Common.{◌≡◌, ◌<◌, ◌^◌, rules, sym, ◌∙◌}
use Rattle.fs_model.specs.Word.{plus, less}
use Rattle.counting_loops.proofs.Orders.{moved_low, signed_is}
use Rattle.counting_loops.proofs.branches.signed_order_stays.Goals as goal

pub returns : goal.returns
returns c = λ stays i x y low f g.
    let p : c.args.a.first < 2 ^ 32 = search rules in
    let q : c.args.b.first < 2 ^ 32 = search rules in
    let a = moved_low c.args.a.pace _ i c.args.a.first x c.in-By-By.is-0 f in
    let b = moved_low c.args.b.pace _ i c.args.b.first y c.in-By-By.is-1 g in
    let same : less (plus x 0x80000000) (plus y 0x80000000) ≡ less c.plus.result.first c.plus-2.result.first = c.order_stays.ensures stays i (plus x 0x80000000) (plus y 0x80000000) low (c.plus.ensures.each i x f) (c.plus-2.ensures.each i y g) in
    signed_is x y a b ∙ (rw (c.plus.ensures.first, c.plus-2.ensures.first) at same) ∙ sym (signed_is c.args.a.first c.args.b.first p q)
