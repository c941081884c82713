use Rattle.std.proofs.Common.{ap}
use Rattle.command_line.specs.Commands.{ShapeData}
use Rattle.phases.proofs.tell.write_usage_line.Goals as goal

pub returns-clause-bytes : goal.returns-clause-bytes
returns-clause-bytes g c =
    let word = ap (λ (row : ShapeData). row.word) c.shape_of.ensures.row in
    λ told. rw (word, c.file_words.ensures, c.usage_options.ensures) at (c.write_parts.ensures.bytes told)
