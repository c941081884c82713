-- One step of a machine, as the run's.
use Rattle.std.proofs.Common.{◌≡◌, ℕ, ◌+◌, false, true, refl, sym, ap, ◌∙◌, add-one}
use Rattle.fs_model.specs.declared.events.Event.{Event}
use Rattle.fs_model.specs.declared.events.Event.TheVariants.{Went, Out, Halted, Detected, Trapped}
use Rattle.fs_model.specs.Case.{CaseData}
use Rattle.fs_model.specs.Event.{goes_on}
use Rattle.fs_model.specs.Leg.{sent}
use Rattle.fs_model.specs.Machine.{Core, turn}
use Rattle.fs_model.specs.Run.{State, Next, step_by, step, go_on, run}
use Rattle.fs_model.proofs.Legs.{turn_stays}
use Rattle.experiment.proofs.Follows.{next_after}
use Rattle.rv_machine.specs.Machines.{MachineData}

-- the event and what the machine holds are those of a step
pub record IsStep (m : MachineData) (event : Event) (m' : MachineData) : Type 0 where
  pub event_is : event ≡ (turn m.case m.core).event
  pub core_is : m'.core ≡ (turn m.case m.core).core
  pub case_is : m'.case ≡ m.case

state_by : (s : State) (event : Event) (core : Core) → (goes_on event ≡ false → core ≡ s.core) → go_on (step_by s.output event core) s ≡ record { core = core; output = sent s.output event }
unfolding step_by go_on
state_by s Went core stays = refl
state_by s (Out byte) core stays = refl
state_by s (Halted value) core stays = ap (λ (x : Core). record { core = x; output = s.output }) (sym (stays refl))
state_by s Detected core stays = ap (λ (x : Core). record { core = x; output = s.output }) (sym (stays refl))
state_by s (Trapped kind) core stays = ap (λ (x : Core). record { core = x; output = s.output }) (sym (stays refl))

-- a state and the next, whether the run goes on or has ended
pub state_next : (c : CaseData) (s : State) → go_on (step c s) s ≡ record { core = (turn c s.core).core; output = sent s.output (turn c s.core).event }
unfolding step
state_next c s = state_by s (turn c s.core).event (turn c s.core).core (turn_stays c s.core)

run_next : (c : CaseData) (s : State) (k : ℕ) → run c (k + 1) s ≡ record { core = (turn c (run c k s).core).core; output = sent (run c k s).output (turn c (run c k s).core).event }
unfolding run
run_next c s k = rw add-one (state_next c (run c k s))

module _ (c : CaseData) (s : State) (k : ℕ) (m m' : MachineData) (event : Event) (same : m.case ≡ c) (here : m.core ≡ (run c k s).core) (h : IsStep m event m') where
  told : event ≡ (turn c (run c k s).core).event
  told = h.event_is ∙ ap (λ (x : CaseData). (turn x m.core).event) same ∙ ap (λ (x : Core). (turn c x).event) here

  held : m'.core ≡ (turn c (run c k s).core).core
  held = h.core_is ∙ ap (λ (x : CaseData). (turn x m.core).core) same ∙ ap (λ (x : Core). (turn c x).core) here

  pub stepped : run c (k + 1) s ≡ record { core = m'.core; output = sent (run c k s).output event }
  stepped = rw (told, held) (run_next c s k)

  pub step_is : step c (run c k s) ≡ step_by (run c k s).output event m'.core
  unfolding step
  step_is = rw (told, held) refl

  pub goes : goes_on event ≡ true → step c (run c k s) ≡ Next (run c (k + 1) s)
  goes on = step_is ∙ next_after (run c k s).output event m'.core on ∙ ap Next (sym stepped)
