-- What befell a disk in memory.
use Rattle.std.proofs.Common.{subst}
use Rattle.fs_outside.specs.declared.memory.tape.Tape.{Tape}
use Rattle.fs_outside.specs.Past.{Past, Made, content, IsImage}
use Rattle.fs_outside.specs.Replay.{replayed}

abbrev pub tape_past : Tape → Past
tape_past tape = replayed (Made tape.made.items) tape.calls.items

pub tape_reads : (tape : Tape) → IsImage (tape_past tape) (content (tape_past tape))
tape_reads tape = subst (IsImage (tape_past tape)) tape.reads tape.image
