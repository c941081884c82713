use Rattle.std.proofs.Common.{refl}
use Rattle.test_campaign.proofs.tests_of_spacings.ended_twice.Goals as goal

-- a campaign that is done is as its last call left it
pub perform_alone-requires-2-clause-file : goal.perform_alone-requires-2-clause-file
perform_alone-requires-2-clause-file g c = λ told. c.in-Done.ensures.file told refl
