use Rattle.test_campaign.proofs.tests_of_spacings.gives.Given as goal

abbrev pub ghosts-campaign_told-K-Ledger : goal.ghosts-campaign_told-K-Ledger
ghosts-campaign_told-K-Ledger g a = record { name = a.blank.name; parts = a.blank.parts }

abbrev pub ghosts-campaign_told-K-CaseLedger : goal.ghosts-campaign_told-K-CaseLedger
ghosts-campaign_told-K-CaseLedger g a = record { case = a.case.now }
