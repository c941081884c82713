use Rattle.phases.proofs.tell.write_image_fault.Goals as goal

pub returns-clause-bytes : goal.returns-clause-bytes
returns-clause-bytes g c = λ told. rw c.fault_name.ensures at (c.write_parts.ensures.bytes told)
