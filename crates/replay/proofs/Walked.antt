-- Along an injected run, beside the run without a flip.
use Rattle.std.proofs.Common.{◌≡◌, ℕ, ◌+◌, ◌-◌, ◌<◌, Bool, true, false, not, ◌&&◌, List, ◌++◌, codes, refl, sym, ap, ◌∙◌, ⊎_elim, arith}
use Rattle.std.specs.Prelude.{None, bytes_eq, ◌==◌}
use Rattle.std.proofs.lemmas.Bool.{cases_eq}
use Rattle.fs_model.specs.declared.events.Event.{Event}
use Rattle.fs_model.specs.declared.events.Event.TheVariants.{Went, Out, Halted, Detected, Trapped}
use Rattle.fs_model.specs.declared.sites.Site.{Site}
use Rattle.fs_model.specs.Case.{CaseData}
use Rattle.fs_model.specs.Event.{goes_on}
use Rattle.fs_model.specs.Leg.{GoesFor, sent}
use Rattle.fs_model.specs.Machine.{Core}
use Rattle.fs_model.specs.Run.{State, Stop, End, Halt, Detect, Fault, Ended, Over, step_by, step, start, run, after, flipped, injected}
use Rattle.fs_model.proofs.Stepwise.{run_ends, run_is_long}
use Rattle.experiment.specs.Steps.{steps_of}
use Rattle.plain_commands.specs.Trace.{output_line, end_line}
use Rattle.plain_commands.specs.Walk.{steps_by, end_text}
use Rattle.rv_machine.specs.Machines.{MachineData}
use Rattle.replay.specs.declared.differences.Differences.{Differences}
use Rattle.replay.specs.declared.walk.Walk.{Walk}
use Rattle.timeline.specs.Apart.{other_output, other_pc}
use Rattle.replay.specs.Differences.{differences, other_registers}
use Rattle.replay.specs.Injected.{injected_at, steps_from}
use Rattle.timeline.specs.Places.{from_flip}
use Rattle.replay.specs.Text.{ending_lines}
use Rattle.replay.specs.Walk.{IsWalk, seen, send_same}
use Rattle.replay.proofs.Stepped.{IsStep, stepped, step_is, goes}
use Rattle.replay.proofs.Apart.{none_apart, apart_more, seen_if, unseen, are_differences, sends_same, equal_bytes, bytes_equal}

-- both machines stand k steps behind the flip, each in its run
pub record Both (c : CaseData) (site : Site) (k : ℕ) (m g : MachineData) (d : Differences) (same : Bool) : Type 0 where
  pub m_case : m.case ≡ c
  pub m_core : m.core ≡ (injected_at c site k).core
  pub g_case : g.case ≡ c
  pub g_core : g.core ≡ (after c (site.cycle + k)).core
  pub goes : GoesFor c (from_flip c site) k
  pub found : d ≡ differences c site k
  pub same_is : d.output ≡ None → same ≡ bytes_eq (injected_at c site k).output (after c (site.cycle + k)).output

pub both_first : (c : CaseData) (site : Site) (k : ℕ) (m g : MachineData) (d : Differences) → k ≡ 0 → m.case ≡ c → g.case ≡ c → m.core ≡ (from_flip c site).core → g.core ≡ (after c site.cycle).core
    → d ≡ record { pc = None; registers = None; output = None } → Both c site k m g d true
unfolding run flipped
both_first c site k m g d none e f a b is =
    let here : site.cycle + 0 ≡ site.cycle = omega arith in
    rw none (record {
      m_case = e;
      m_core = a;
      g_case = f;
      g_core = rw here b;
      goes = λ i low. absurd (omega arith);
      found = is ∙ sym (are_differences (differences c site 0) None None None (none_apart c site other_pc) (none_apart c site other_registers) (none_apart c site other_output));
      same_is = λ _. rw here (sym (bytes_equal (after c site.cycle).output (after c site.cycle).output refl));
    })

-- both were looked at
pub looked : (c : CaseData) (site : Site) (k : ℕ) (m g : MachineData) (d d' : Differences) (same : Bool) → Both c site k m g d same
    → d'.pc ≡ seen d.pc (site.cycle + k) (not (m.core.pc == g.core.pc)) → d'.registers ≡ seen d.registers (site.cycle + k) (not (bytes_eq m.core.regs g.core.regs))
    → d'.output ≡ seen d.output (site.cycle + k) (not same) → d' ≡ differences c site (k + 1)
looked c site k m g d d' same h p r o =
    let a = injected_at c site k in
    let b = after c (site.cycle + k) in
    let n = site.cycle + k in
    are_differences d' _ _ _
    (p ∙ ap (λ (x : Core). seen d.pc n (not (x.pc == g.core.pc))) h.m_core ∙ ap (λ (x : Core). seen d.pc n (not (a.core.pc == x.pc))) h.g_core
    ∙ ap (λ (x : Differences). seen x.pc n (other_pc a b)) h.found ∙ sym (apart_more c site other_pc k))
    (r ∙ ap (λ (x : Core). seen d.registers n (not (bytes_eq x.regs g.core.regs))) h.m_core ∙ ap (λ (x : Core). seen d.registers n (not (bytes_eq a.core.regs x.regs))) h.g_core
    ∙ ap (λ (x : Differences). seen x.registers n (other_registers a b)) h.found ∙ sym (apart_more c site other_registers k))
    (o ∙ seen_if d.output n (not same) (other_output a b) (λ none. ap not (h.same_is none))
    ∙ ap (λ (x : Differences). seen x.output n (other_output a b)) h.found ∙ sym (apart_more c site other_output k))

not_false : (b : Bool) → not b ≡ false → b ≡ true
not_false true e = refl
not_false false e = absurd cc

-- both have made a step, and the injected run goes on
pub both_on : (c : CaseData) (site : Site) (k : ℕ) (m g m' g' : MachineData) (d d' : Differences) (same : Bool) (event told : Event) → Both c site k m g d same
    → d' ≡ differences c site (k + 1) → d'.output ≡ seen d.output (site.cycle + k) (not same)
    → IsStep m event m' → IsStep g told g' → goes_on event ≡ true → Both c site (k + 1) m' g' d' (same && send_same event told)
unfolding after
both_on c site k m g m' g' d d' same event told h found o step other on =
    let place : site.cycle + k + 1 ≡ site.cycle + (k + 1) = omega arith in
    let mine = stepped c (from_flip c site) k m m' event h.m_case h.m_core step in
    let yours : after c (site.cycle + (k + 1)) ≡ record { core = g'.core; output = sent (after c (site.cycle + k)).output told } =
    rw (← place) (stepped c (start c) (site.cycle + k) g g' told h.g_case h.g_core other) in
    let next = goes c (from_flip c site) k m m' event h.m_case h.m_core step on in
    record {
      m_case = step.case_is ∙ h.m_case;
      m_core = ap (λ (x : State). x.core) (sym mine);
      g_case = other.case_is ∙ h.g_case;
      g_core = ap (λ (x : State). x.core) (sym yours);
      goes = λ i low. ⊎_elim (λ (is : i ≡ k). rw is next) (λ (no : i ≡ k → ⊥). h.goes i (omega arith)) (cases_eq i k);
      found = found;
      same_is = λ none.
          let before = unseen d.output (site.cycle + k) (not same) (sym o ∙ none) in
          let yes : same ≡ true = not_false same before.1 in
          let equal : (injected_at c site k).output ≡ (after c (site.cycle + k)).output = equal_bytes _ _ (sym (h.same_is before.0) ∙ yes) in
          rw (yes, mine, yours) (sym (sends_same (injected_at c site k).output (after c (site.cycle + k)).output event told equal));
    }

-- ---- the end

ends_at : (c : CaseData) (site : Site) (k : ℕ) (end : End) → GoesFor c (from_flip c site) k → k < c.limit - site.cycle → step c (injected_at c site k) ≡ Stop end
    → injected c site ≡ Ended end (k + 1) (injected_at c site k).output
unfolding injected
ends_at c site k end goes low stop = run_ends c (from_flip c site) k (c.limit - site.cycle) end low goes stop

ends_by : (c : CaseData) (site : Site) (w : Walk) (end : End) → injected c site ≡ Ended end (w.went + 1) (injected_at c site w.went).output → steps_by w.went w.last ≡ w.went + 1
    → end_text w.last ≡ end_line end → w.differences ≡ differences c site (w.went + 1) → IsWalk c site w
unfolding steps_of
ends_by c site w end e steps text found =
    let taken : steps_from c site ≡ w.went + 1 = ap (steps_of (c.limit - site.cycle)) e in
    record {
      steps = steps ∙ sym taken;
      lines = ap (ending_lines c site) e ∙ ap (λ (x : List ℕ). output_line (injected_at c site w.went).output ++ x) (sym text);
      differences = rw taken found;
    }

-- the injected run ended by the step behind k others
pub walked : (c : CaseData) (site : Site) (k : ℕ) (m m' g : MachineData) (d d' : Differences) (same : Bool) (event : Event) → Both c site k m g d same → IsStep m event m'
    → goes_on event ≡ false → k < c.limit - site.cycle → d' ≡ differences c site (k + 1) → IsWalk c site (record { went = k; last = event; differences = d' })
unfolding step_by
walked c site k m m' g d d' same event h made off low found = by event (step_is c (from_flip c site) k m m' event h.m_case h.m_core made) off
  where
    by : (event : Event) → step c (injected_at c site k) ≡ step_by (injected_at c site k).output event m'.core → goes_on event ≡ false
        → IsWalk c site (record { went = k; last = event; differences = d' })
    by Went e off = absurd cc
    by (Out byte) e off = absurd cc
    by (Halted value) e off = ends_by c site _ (Halt value) (ends_at c site k (Halt value) h.goes low e) refl refl found
    by Detected e off = ends_by c site _ Detect (ends_at c site k Detect h.goes low e) refl refl found
    by (Trapped kind) e off = ends_by c site _ (Fault kind) (ends_at c site k (Fault kind) h.goes low e) refl refl found

-- it has not ended at the limit
pub walked_all : (c : CaseData) (site : Site) (k : ℕ) (m g : MachineData) (d : Differences) (same : Bool) → Both c site k m g d same → k ≡ c.limit - site.cycle
    → IsWalk c site (record { went = k; last = Went; differences = d })
unfolding steps_of injected
walked_all c site k m g d same h all =
    let goes : GoesFor c (from_flip c site) (c.limit - site.cycle) = rw all at h.goes in
    let long : injected c site ≡ Over = run_is_long c (from_flip c site) (c.limit - site.cycle) goes in
    let taken : steps_from c site ≡ k = ap (steps_of (c.limit - site.cycle)) long ∙ sym all in
    record {
      steps = sym taken;
      lines = ap (ending_lines c site) long ∙ ap (λ (n : ℕ). output_line (injected_at c site n).output ++ codes "end limit\n") (sym all);
      differences = rw taken h.found;
    }
