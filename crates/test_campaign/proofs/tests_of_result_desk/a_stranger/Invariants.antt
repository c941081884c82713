use Rattle.test_campaign.proofs.tests_of_result_desk.a_stranger.Given as goal

abbrev pub ghosts-is_strange : goal.ghosts-is_strange
ghosts-is_strange g a = record { name = a.blank.name; parts = a.blank.parts }
