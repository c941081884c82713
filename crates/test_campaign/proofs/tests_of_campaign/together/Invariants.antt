use Rattle.test_campaign.proofs.tests_of_campaign.together.Given as goal

abbrev pub ghosts-by_workers-K-Ledger : goal.ghosts-by_workers-K-Ledger
ghosts-by_workers-K-Ledger g a = record { name = a.blank.name; parts = a.blank.parts }

abbrev pub ghosts-by_workers-K-CaseLedger : goal.ghosts-by_workers-K-CaseLedger
ghosts-by_workers-K-CaseLedger g a = record { case = a.case.now }
