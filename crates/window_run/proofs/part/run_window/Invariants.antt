use Rattle.window_run.proofs.part.run_window.Given as goal

-- the ledger of the workers' desk
abbrev pub ghosts-run_jobs-K-Ledger : goal.ghosts-run_jobs-K-Ledger
ghosts-run_jobs-K-Ledger g a = record { name = a.blank.name; parts = a.blank.parts }

abbrev pub ghosts-run_jobs-K-CaseLedger : goal.ghosts-run_jobs-K-CaseLedger
ghosts-run_jobs-K-CaseLedger g a = record { case = a.baseline.now.case }
