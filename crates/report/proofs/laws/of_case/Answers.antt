use Rattle.report.proofs.SymbolLaws.{all_functions, all_objects}
use Rattle.report.proofs.laws.of_case.Goals as goal

pub returns-clause-functions : goal.returns-clause-functions
returns-clause-functions c = all_functions

pub returns-clause-objects : goal.returns-clause-objects
returns-clause-objects c = all_objects
