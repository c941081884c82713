use Rattle.report.proofs.SymbolLaws.{functions_add_up, functions_are_right, objects_add_up, objects_are_right}
use Rattle.report.proofs.laws.of_board.Goals as goal

pub returns-clause-functions : goal.returns-clause-functions
returns-clause-functions c = functions_add_up

pub returns-clause-objects : goal.returns-clause-objects
returns-clause-objects c = objects_add_up

pub returns-clause-right_functions : goal.returns-clause-right_functions
returns-clause-right_functions c = functions_are_right

pub returns-clause-right_objects : goal.returns-clause-right_objects
returns-clause-right_objects c = objects_are_right
