use Rattle.std.proofs.Common.{◌≡◌, sym, ◌∙◌, ap, rules, append_assoc}
use Rattle.phases.specs.Demo.{next_draw, state_after}
use Rattle.phases.proofs.Made.{state_more, bytes_more}
use Rattle.phases.proofs.demo.put_blocks.Goals as goal

pub loop-i-preserved : goal.loop-i-preserved
loop-i-preserved c =
    let old = c.loop-i.invariant in
    let state : c.next_state-state.result ≡ next_draw (state_after c.args.seed c.loop-i._i) = c.next_state-state.ensures ∙ ap next_draw old.state_is in
    record {
      state_is = state ∙ sym (state_more c.args.seed c.loop-i._i);
      bytes = rw (bytes_more c.args.seed c.loop-i._i, sym state) (search (rules, append_assoc));
      len = search rules;
    }
