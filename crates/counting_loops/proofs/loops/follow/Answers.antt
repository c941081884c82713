use Rattle.std.proofs.Common.{◌≡◌, ◌∙◌, ℕ, ◌+◌, Bool, true, refl, ap, subst, rules, arith}
use Rattle.fs_model.specs.Case.{CaseData}
use Rattle.fs_model.specs.declared.events.Event.{Event}
use Rattle.fs_model.specs.Event.{goes_on}
use Rattle.fs_model.specs.Machine.{Core, turn}
use Rattle.counting_loops.specs.Rounds.{LeadsTo}
use Rattle.counting_loops.proofs.Turns.{on_by}
use Rattle.counting_loops.proofs.Paths.{leads_none, leads_more, again_is_long}
use Rattle.counting_loops.proofs.loops.follow.Goals as goal

pub loop-step-init : goal.loop-step-init
loop-step-init c = record { same_case = refl; leads = λ start m leads. let e : m + 0 ≡ m = omega arith in rw e leads }

-- the step after those of the loop
step_on : (c : CaseData) (m steps : ℕ) (start at next : Core) (event : Event) (tested : Bool) → LeadsTo c start (m + steps) at → event ≡ (turn c at).event → tested ≡ goes_on event → tested ≡ true → next ≡ (turn c at).core
    → LeadsTo c start (m + (steps + 1)) next
step_on c m steps start at next event tested leads same test on next_is =
    let e : m + (steps + 1) ≡ m + steps + 1 = omega arith in
    rw e (leads_more c (m + steps) start at next leads (on_by event (turn c at).event tested same test on) next_is)

pub loop-step-preserved : goal.loop-step-preserved
loop-step-preserved c =
    let case = c.args.case.now in
    let at = c.loop-step.head.core in
    let same : c.loop-step.head.case ≡ case = c.loop-step.invariant.same_case ∙ c.requires.head in
    let tested : c.goes_on.result ≡ true = search rules in
    record {
      same_case = c.step.ensures.case ∙ c.loop-step.invariant.same_case;
      leads = λ start m leads. step_on case m c.loop-step._step start at c.step.new.self.core c.step.result c.goes_on.result (c.loop-step.invariant.leads start m leads)
          (c.step.ensures.event ∙ ap (λ (m : CaseData). (turn m at).event) same) c.goes_on.ensures tested (c.step.ensures.core ∙ ap (λ (m : CaseData). (turn m at).core) same);
    }

pub returns-then-stands_as-clause-repeats : goal.returns-then-stands_as-clause-repeats
returns-then-stands_as-clause-repeats c = λ _ rest output.
    let case = c.args.case.now in
    let core = c.args.head.now.core in
    let at = c.loop-step.head.core in
    let same : c.loop-step.head.case ≡ case = c.loop-step.invariant.same_case ∙ c.requires.head in
    let tested : c.goes_on.result ≡ true = search rules in
    let leads : LeadsTo case core (0 + (c.loop-step._step + 1)) c.step.new.self.core = step_on case 0 c.loop-step._step core at c.step.new.self.core c.step.result c.goes_on.result (c.loop-step.invariant.leads core 0 (leads_none case core))
    (c.step.ensures.event ∙ ap (λ (m : CaseData). (turn m at).event) same) c.goes_on.ensures tested (c.step.ensures.core ∙ ap (λ (m : CaseData). (turn m at).core) same) in
    let there : c.step.new.self.core ≡ c.args.kept.now.core = search rules in
    let back : c.step.new.self.core ≡ core = there ∙ c.requires.same in
    again_is_long case core (0 + (c.loop-step._step + 1)) (omega arith) (subst (λ (s : Core). LeadsTo case core (0 + (c.loop-step._step + 1)) s) back leads) rest output

pub returns-clause-leads : goal.returns-clause-leads
returns-clause-leads c = λ _.
    let end = c.loop-step.auto._step-end in
    let past = c.loop-step-test.false in
    let e : c.loop-step._step ≡ c.args.steps = omega (arith, end, past) in
    rw e at c.loop-step.invariant.leads
