use Rattle.std.proofs.Common.{refl}
use Rattle.phases.specs.Loading.{TooLong}
use Rattle.phases.proofs.loading.load_case.Goals as goal

pub returns-in-Err-TooLong-clause-refused : goal.returns-in-Err-TooLong-clause-refused
returns-in-Err-TooLong-clause-refused g c = λ told. TooLong refl ((rw c.in-Err-TooLong.field-0-is at c.in-Err-TooLong.ensures.long) told refl)
