use Rattle.phases.proofs.tell.write_format_fault.Goals as goal

pub returns-in-BadRow-clause-bytes : goal.returns-in-BadRow-clause-bytes
returns-in-BadRow-clause-bytes g c = λ told. rw c.in-BadRow.is (c.write_parts-in-BadRow.ensures.bytes told)
