use Rattle.test_machine.proofs.tests_of_shared_sites.sites_by_hand.Given as goal

abbrev pub ghosts-both_sites : goal.ghosts-both_sites
ghosts-both_sites g a = record { case = a.case.now }
