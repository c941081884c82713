use Rattle.std.proofs.Common.{◌∙◌, arith}
use Rattle.std.proofs.lemmas.Grind.{common_steps}
use Rattle.fs_model.specs.Card.{card}
use Rattle.keep_format.proofs.Cards.{card_more}
use Rattle.keep_format.proofs.writing.put_card.Goals as goal

pub loop-i-preserved : goal.loop-i-preserved
loop-i-preserved c = record {
  written = c.put.ensures.items ∙ card_more c.loop-i.out.items c.args.out.now.items (card c.args.case.now) c.loop-i.i c.card_at.result c.loop-i.invariant.written c.card_at.ensures;
  room = grind (arith, common_steps);
  kept = omega arith;
}
