use Rattle.std.proofs.Common.{append_assoc}
use Rattle.std.specs.Prelude.{codes, decimal}
use Rattle.debug_session.proofs.last_writes.put_instruction.Goals as goal

pub returns : goal.returns
returns c =
    let told = c.put_number.ensures in
    rw (c.in_ok-put.ensures, append_assoc c.args.text.now.items (codes ", written by instruction ") (decimal c.args.number)) at told
