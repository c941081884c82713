use Rattle.std.proofs.Common.{arith}
use Rattle.debug_session.proofs.Growing.{bytes_more, bytes_none, differing_more, differing_none}
use Rattle.debug_session.proofs.words.put_ram.Goals as goal

pub loop-offset-init : goal.loop-offset-init
loop-offset-init c = record {
  text = bytes_none c.args.base c.args.injected.now c.args.golden.now c.args.text.now.items;
  count = differing_none c.args.injected.now c.args.golden.now;
  few = omega arith;
}

pub overflow_add-count : goal.overflow_add-count
overflow_add-count c =
    let h = c.loop-offset.invariant in
    let few = h.few in
    omega (arith, few, c.difference-count.ensures.few, c.requires.few, c.loop-offset-test.true)

pub loop-offset-preserved : goal.loop-offset-preserved
loop-offset-preserved c =
    let h = c.loop-offset.invariant in
    let few = h.few in
    record {
      text = bytes_more c.args.base c.args.injected.now c.args.golden.now c.args.text.now.items c.loop-offset.text.items c.put_listed.new.text.items c.loop-offset.offset c.loop-offset.count h.count c.in_ok-put_listed.ensures h.text;
      count = differing_more c.args.injected.now c.args.golden.now c.loop-offset.offset c.loop-offset.count c.difference-count.result h.count c.difference-count.ensures.value;
      few = omega (arith, few, c.difference-count.ensures.few);
    }
