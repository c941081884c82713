use Rattle.std.proofs.Common.{arith}
use Rattle.std.proofs.lemmas.List.{length-take}
use Rattle.fs_outside.proofs.Taken.{taken_more}
use Rattle.fs_outside.proofs.reading.read_by_pieces.Goals as goal

pub returns-then-n-spare-clause-taken : goal.returns-then-n-spare-clause-taken
returns-then-n-spare-clause-taken g c =
    let fits = c.in-Ok.ensures.fits in
    λ told. taken_more _ _ _ _ c.pieces.bytes.items c.read.new.buf c.in-Ok.n (c.pieces.invariant.so_far told) (c.in-Ok.ensures.bytes told).next
    (omega (arith, length-take c.min-room.result c.pieces.piece))
