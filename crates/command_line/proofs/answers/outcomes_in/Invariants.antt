use Rattle.std.proofs.Common.{◌≡◌, drop, length}
use Rattle.std.specs.List.{slice_split}
use Rattle.command_line.specs.Chosen.{is_comma, outcomes_in, outcomes_of}
use Rattle.command_line.proofs.ChosenLemmas.{behind}
use Rattle.command_line.proofs.answers.outcomes_in.Given as goal

abbrev pub invariant-loop-word : goal.invariant-loop-word
invariant-loop-word l = outcomes_in l.text ≡ behind l.outcomes.items (outcomes_of (drop (length l.yielded) (slice_split is_comma l.text)))
