use Rattle.test_campaign.proofs.tests_of_campaign.carry_out.Given as goal

abbrev pub ghosts-told_of-K-Ledger : goal.ghosts-told_of-K-Ledger
ghosts-told_of-K-Ledger g a = record { name = a.blank.name; parts = a.blank.parts }

abbrev pub ghosts-told_of-K-CaseLedger : goal.ghosts-told_of-K-CaseLedger
ghosts-told_of-K-CaseLedger g a = record { case = a.case.now }
