use Rattle.std.proofs.Common.{◌∙◌, ap}
use Rattle.fs_model.specs.Outcome.{outcome_of}
use Rattle.def_use.specs.Words.{kept_at_place}
use Rattle.def_use.proofs.boards.outcome_at.Goals as goal

pub returns : goal.returns
unfolding kept_at_place
returns c = c.of_number.ensures ∙ ap outcome_of c.number_at.ensures
