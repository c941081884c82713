use Rattle.site_counts.proofs.AddUp.{lines_add_up, case_lines_add_up}
use Rattle.site_counts.proofs.laws.lines_add_up.Goals as goal

pub returns-clause-of_log : goal.returns-clause-of_log
returns-clause-of_log c = lines_add_up

pub returns-clause-of_case : goal.returns-clause-of_case
returns-clause-of_case c = case_lines_add_up
