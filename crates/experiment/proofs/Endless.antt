-- A run that is in a loop up to its limit.
use Rattle.std.proofs.Common.{◌≡◌, ℕ, ◌-◌, List, refl, sym, ap, ◌∙◌}
use Rattle.fs_model.specs.declared.outcomes.Outcome.TheVariants.{Timeout}
use Rattle.fs_model.specs.Case.{CaseData}
use Rattle.fs_model.specs.Run.{Halt, Ended, Ending, Over, ending}
use Rattle.fs_model.specs.Outcome.{compare}
use Rattle.rv_machine.specs.Machines.{MachineData}
use Rattle.golden_trace.specs.Goldens.{GoldenData}
use Rattle.outcome_class.specs.Seen.{WatchData}
use Rattle.known_states.specs.Known.{IsKnown, here}

over_is : (g : Ending) → Timeout ≡ compare g Over
unfolding compare
over_is g = refl

pub times_out : (c c' : CaseData) (g : GoldenData) (at : ℕ) (m : MachineData) (w : WatchData) → c' ≡ c → ((output : List ℕ) → ending c' (c.limit - at) (record { core = m.core; output = output }) ≡ Over)
    → IsKnown c g (here m at w.sent) Timeout
times_out c c' g at m w same over = record {
  outcome = λ n output is.
      let here : ending c (c.limit - at) (record { core = m.core; output = output }) ≡ Over = rw same at (over output) in
      over_is (Ended (Halt g.exit) n g.output) ∙ ap (compare (Ended (Halt g.exit) n g.output)) (sym here);
}
