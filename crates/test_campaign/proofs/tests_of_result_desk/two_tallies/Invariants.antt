use Rattle.test_campaign.proofs.tests_of_result_desk.two_tallies.Given as goal

abbrev pub ghosts-settles : goal.ghosts-settles
ghosts-settles g a = record { name = a.blank.name; parts = a.blank.parts }
