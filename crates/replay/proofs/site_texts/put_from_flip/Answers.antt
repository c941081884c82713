use Rattle.std.proofs.Common.{sym}
use Rattle.timeline.specs.Places.{from_flip}
use Rattle.replay.proofs.site_texts.put_from_flip.Goals as goal

pub returns-clause-bytes : goal.returns-clause-bytes
returns-clause-bytes g c = λ told.
    let lines = c.put_lines.ensures.bytes (from_flip c.args.machine.now.case c.args.site.now) (sym c.stand_at_flip.ensures.core) told in
    rw c.stand_at_flip.ensures.case at lines
