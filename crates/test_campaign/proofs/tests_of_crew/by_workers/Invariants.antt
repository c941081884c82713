use Rattle.test_campaign.proofs.tests_of_crew.by_workers.Given as goal

abbrev pub ghosts-run_all-K-Ledger : goal.ghosts-run_all-K-Ledger
ghosts-run_all-K-Ledger g a = record { name = a.blank.name; parts = a.blank.parts }

abbrev pub ghosts-run_all-K-CaseLedger : goal.ghosts-run_all-K-CaseLedger
ghosts-run_all-K-CaseLedger g a = record { case = a.case.now }
