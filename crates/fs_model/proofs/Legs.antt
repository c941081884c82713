-- A leg by its first step, and what legs say of a run.
use Rattle.std.proofs.Common.{ℕ, zero, suc, ◌≡◌, ◌+◌, ◌-◌, ◌%◌, ◌==◌, ◌<◌, ◌≤◌, Bool, false, true, if◌then◌else◌, Option, Some, None, List, arith, refl, ap, sym, ◌∙◌}
use Rattle.fs_model.specs.declared.events.Event.{Event}
use Rattle.fs_model.specs.declared.events.Event.TheVariants.{Went, Out, Halted, Detected, Trapped}
use Rattle.fs_model.specs.declared.instructions.Instr.{Instr}
use Rattle.fs_model.specs.declared.instructions.Size.{Size}
use Rattle.fs_model.specs.declared.instructions.Effect.{Effect}
use Rattle.fs_model.specs.declared.instructions.Effect.TheVariants.{Next, Set, Jump, Load, Store}
use Rattle.fs_model.specs.Case.{CaseData}
use Rattle.fs_model.specs.Decode.{decode}
use Rattle.fs_model.specs.Memory.{is_aligned}
use Rattle.fs_model.specs.Machine.{Core, IsCore, Turn, jump, load_by, loaded, send, store_to, out_port, detect_port, halt_port, ram_place, apply, asked, execute, fetch, turn_by, turn}
use Rattle.fs_model.specs.Event.{goes_on}
use Rattle.fs_model.specs.Run.{State, Step, step_by, step, Ending, Ended, Over, one_step_more, follow, ending, go_on, run}
use Rattle.fs_model.specs.Run as runs
use Rattle.fs_model.specs.Leg.{Leg, is_went, onward, leg, left_by, later, follow_leg, step_of, GoesFor}
use Rattle.fs_model.proofs.Kept.{IsCore-turn}

-- ---- a leg by its first step

leg-step : (c : CaseData) (s : Core) (n : ℕ) → 0 < n → leg c s n ≡ onward (turn c s).event (turn c s).core (leg c (turn c s).core (n - 1))
unfolding leg
leg-step c s zero h = absurd (omega arith)
leg-step c s (suc n) h = let e : suc n - 1 ≡ n = omega arith in rw e

-- a step that tells no more is followed by the rest of the leg
pub leg_more : (c : CaseData) (s : Core) (n : ℕ) → 0 < n → is_went (turn c s).event ≡ true →
    ((leg c s n).event ≡ (leg c (turn c s).core (n - 1)).event) × ((leg c s n).core ≡ (leg c (turn c s).core (n - 1)).core) × ((leg c s n).steps ≡ (leg c (turn c s).core (n - 1)).steps + 1)
unfolding onward
leg_more c s n h went = rw (leg-step c s n h, went) (refl, refl, refl)

-- and one that tells more ends it
pub leg_last : (c : CaseData) (s : Core) (n : ℕ) → 0 < n → is_went (turn c s).event ≡ false → leg c s n ≡ record { event = (turn c s).event; core = (turn c s).core; steps = 1 }
unfolding onward
leg_last c s n h tells = rw (leg-step c s n h, tells) refl

-- a leg of one step is the step
pub leg_one : (c : CaseData) (s : Core) → ((leg c s 1).event ≡ (turn c s).event) × ((leg c s 1).core ≡ (turn c s).core)
unfolding leg onward
leg_one c s = by (turn c s).event
  where
    by : (e : Event) → ((onward e (turn c s).core (leg c (turn c s).core 0)).event ≡ e) × ((onward e (turn c s).core (leg c (turn c s).core 0)).core ≡ (turn c s).core)
    by Went = (refl, refl)
    by (Out byte) = (refl, refl)
    by (Halted value) = (refl, refl)
    by Detected = (refl, refl)
    by (Trapped kind) = (refl, refl)

-- a leg keeps what holds of what a machine holds
pub IsCore-leg : (c : CaseData) (s : Core) (n : ℕ) → IsCore c s → IsCore c (leg c s n).core
unfolding leg onward
IsCore-leg c s zero h = h
IsCore-leg c s (suc n) h = by (is_went (turn c s).event) (leg c (turn c s).core n) (IsCore-leg c (turn c s).core n (IsCore-turn c s h))
  where
    by : (b : Bool) (rest : Leg) → IsCore c rest.core → IsCore c (if b then record rest { steps = rest.steps + 1 } else record { event = (turn c s).event; core = (turn c s).core; steps = 1 }).core
    by true rest k = k
    by false rest k = IsCore-turn c s h

-- ---- how many steps it takes

steps-some : (e : Event) (s : Core) (rest : Leg) → 1 ≤ (onward e s rest).steps
unfolding onward
steps-some e s rest = by (is_went e)
  where
    by : (b : Bool) → 1 ≤ (if b then record rest { steps = rest.steps + 1 } else record { event = e; core = s; steps = 1 }).steps
    by true = omega arith
    by false = omega arith

-- one at least, where it may take any
pub leg_some : (c : CaseData) (s : Core) (n : ℕ) → 0 < n → 1 ≤ (leg c s n).steps
leg_some c s n h = rw (leg-step c s n h) (steps-some (turn c s).event (turn c s).core _)

steps-all : (e : Event) (s : Core) (rest : Leg) (n : ℕ) → (rest.event ≡ Went → rest.steps ≡ n) → (onward e s rest).event ≡ Went → (onward e s rest).steps ≡ n + 1
unfolding onward
steps-all Went s rest n all went = ap (λ k. k + 1) (all went)
steps-all (Out byte) s rest n all went = cc
steps-all (Halted value) s rest n all went = cc
steps-all Detected s rest n all went = cc
steps-all (Trapped kind) s rest n all went = cc

-- all that it may take, where it told no more than that it went on
pub leg_all : (c : CaseData) (s : Core) (n : ℕ) → (leg c s n).event ≡ Went → (leg c s n).steps ≡ n
unfolding leg
leg_all c s zero went = refl
leg_all c s (suc n) went =
    let e : n + 1 ≡ suc n = omega arith in
    steps-all (turn c s).event (turn c s).core (leg c (turn c s).core n) n (leg_all c (turn c s).core n) went ∙ e

-- ---- a step that ends the run leaves what the machine holds

module _ (c : CaseData) (s : Core) where
  Stays : Turn → Type 0
  Stays t = goes_on t.event ≡ false → t.core ≡ s

  of_choice : (b : Bool) (t u : Turn) → Stays t → Stays u → Stays (if b then t else u)
  unfolding Stays
  of_choice true t u p q = p
  of_choice false t u p q = q

  of_jump : (k link target : ℕ) → Stays (jump s k link target)
  unfolding Stays
  of_jump k link target = of_choice (target % 4 == 0) _ _ (λ e. cc) (λ e. refl)

  of_load : (k : ℕ) (size : Size) (signed : Bool) (n : Option ℕ) → Stays (load_by s k size signed n)
  unfolding Stays
  of_load k size signed (Some n) = λ e. cc
  of_load k size signed None = λ e. refl

  of_send : (size : Size) (at v : ℕ) → Stays (send s size at v)
  unfolding Stays
  of_send size at v =
      of_choice (at == out_port) _ _ (λ e. cc) (of_choice (at == detect_port) _ _ (λ e. refl) (of_choice (at == halt_port) _ _ (λ e. refl) (λ e. refl)))

  of_store : (size : Size) (at v : ℕ) (place : Option ℕ) → Stays (store_to s size at v place)
  unfolding Stays
  of_store size at v (Some p) = λ e. cc
  of_store size at v None = of_send size at v

  of_effect : (k : ℕ) (effect : Effect) → Stays (apply c s k effect)
  unfolding Stays
  of_effect k Next = λ e. cc
  of_effect k (Set v) = λ e. cc
  of_effect k (Jump link target) = of_jump k link target
  of_effect k (Load size signed at) = of_choice (is_aligned size at) _ _ (of_load k size signed (loaded c s size at)) (λ e. refl)
  of_effect k (Store size at v) = of_choice (is_aligned size at) _ _ (of_store size at v (ram_place c s size at)) (λ e. refl)

  of_instr : (i : Option Instr) → Stays (execute c s i)
  unfolding Stays
  of_instr (Some i) = of_effect i.rd (asked s i)
  of_instr None = λ e. refl

  of_word : (o : Option ℕ) → Stays (turn_by c s o)
  unfolding Stays
  of_word (Some w) = of_instr (decode w)
  of_word None = λ e. refl

pub turn_stays : (c : CaseData) (s : Core) → goes_on (turn c s).event ≡ false → (turn c s).core ≡ s
unfolding Stays
turn_stays c s = of_word c s (fetch c s)

-- ---- the state after some steps, by legs

run-first : (c : CaseData) (k : ℕ) (s : State) → run c (suc k) s ≡ run c k (go_on (step c s) s)
unfolding run
run-first c zero s = refl
run-first c (suc k) s = ap (λ t. go_on (step c t) t) (run-first c k s)

-- steps one after another
pub run_add : (c : CaseData) (k n : ℕ) (s : State) → run c (k + n) s ≡ run c n (run c k s)
unfolding run
run_add c k zero s = let e : k + 0 ≡ k = omega arith in rw e refl
run_add c k (suc n) s = let e : k + suc n ≡ suc (k + n) = omega arith in rw e (ap (λ t. go_on (step c t) t) (run_add c k n s))

-- the steps of a leg lead to the state that it leaves
pub run_leg : (c : CaseData) (s : State) (m : ℕ) → run c (leg c s.core m).steps s ≡ left_by s (leg c s.core m)
unfolding leg run onward step step_by go_on
run_leg c s zero = refl
run_leg c s (suc m) =
    by (turn c s.core).event (turn c s.core).core (leg c (turn c s.core).core m) refl refl (run_leg c (record { core = (turn c s.core).core; output = s.output }) m)
  where
    stays : (e : Event) (t : Core) → (turn c s.core).event ≡ e → (turn c s.core).core ≡ t → goes_on e ≡ false → t ≡ s.core
    stays e t p q h = sym q ∙ turn_stays c s.core (ap goes_on p ∙ h)

    by : (e : Event) (t : Core) (l : Leg) → (turn c s.core).event ≡ e → (turn c s.core).core ≡ t → run c l.steps (record { core = t; output = s.output }) ≡ left_by (record { core = t; output = s.output }) l →
        run c (onward e t l).steps s ≡ left_by s (onward e t l)
    by Went t l p q rest =
        let e : l.steps + 1 ≡ suc l.steps = omega arith in
        rw e (run-first c l.steps s ∙ rw (p, q) rest)
    by (Out byte) t l p q rest = rw (p, q) refl
    by (Halted value) t l p q rest = let same : t ≡ s.core = stays (Halted value) t p q refl in rw (p, same) refl
    by Detected t l p q rest = let same : t ≡ s.core = stays Detected t p q refl in rw (p, same) refl
    by (Trapped kind) t l p q rest = let same : t ≡ s.core = stays (Trapped kind) t p q refl in rw (p, same) refl

-- ---- steps that go on

goes-first : (c : CaseData) (s t : State) (k : ℕ) → step c s ≡ runs.Next t → GoesFor c s (suc k) → GoesFor c t k
unfolding go_on
goes-first c s t k first goes = λ i below.
    let e : go_on (step c s) s ≡ t = rw first refl in
    let here : run c (suc i) s ≡ run c i t = rw (← e) (run-first c i s) in
    let next : run c (suc (i + 1)) s ≡ run c (i + 1) t = rw (← e) (run-first c (i + 1) s) in
    let one : suc i + 1 ≡ suc (i + 1) = omega arith in
    let on : step c (run c (suc i) s) ≡ runs.Next (run c (suc i + 1) s) = goes (suc i) (omega arith) in
    rw (← here, ← next, ← one) on

-- the rest of steps that go on
pub goes_rest : (c : CaseData) (s : State) (j k : ℕ) → GoesFor c s (j + k) → GoesFor c (run c j s) k
goes_rest c s j k goes = λ i below.
    let one : j + i + 1 ≡ j + (i + 1) = omega arith in
    rw (← run_add c j i s, ← run_add c j (i + 1) s, ← one) (goes (j + i) (omega arith))

-- a leg of steps that go on goes on
pub leg_goes : (c : CaseData) (s : State) (m k : ℕ) → m ≤ k → GoesFor c s k → goes_on (leg c s.core m).event ≡ true
unfolding leg onward run step step_by
leg_goes c s zero k low goes = refl
leg_goes c s (suc m) zero low goes = absurd (omega arith)
leg_goes c s (suc m) (suc k) low goes =
    by (turn c s.core).event (turn c s.core).core (leg c (turn c s.core).core m) refl
    (λ first. leg_goes c (record { core = (turn c s.core).core; output = s.output }) m k (omega arith) (goes-first c s _ k first goes))
    (goes 0 (omega arith))
  where
    by : (e : Event) (t : Core) (l : Leg) → step c s ≡ step_by s.output e t →
        (step c s ≡ runs.Next (record { core = t; output = s.output }) → goes_on l.event ≡ true) → step c s ≡ runs.Next (run c 1 s) → goes_on (onward e t l).event ≡ true
    by Went t l p rest first = rest p
    by (Out byte) t l p rest first = refl
    by (Halted value) t l p rest first = cc
    by Detected t l p rest first = cc
    by (Trapped kind) t l p rest first = cc

-- ---- the end of a run, by legs

later_none : (e : Ending) → e ≡ later 0 e
unfolding later
later_none (Ended end steps output) = let e : steps + 0 ≡ steps = omega arith in rw e refl
later_none Over = refl

later_more : (k : ℕ) (e : Ending) → one_step_more (later k e) ≡ later (k + 1) e
unfolding later one_step_more
later_more k (Ended end steps output) = let e : steps + k + 1 ≡ steps + (k + 1) = omega arith in rw e refl
later_more k Over = refl

later_one : (e : Ending) → one_step_more e ≡ later 1 e
unfolding later one_step_more
later_one (Ended end steps output) = refl
later_one Over = refl

follow_more : (x : Step) (k : ℕ) (output : List ℕ) (rest : State → Ending) → one_step_more (follow_leg x k output rest) ≡ follow_leg x (k + 1) output rest
unfolding follow_leg one_step_more
follow_more (runs.Next s) k output rest = later_more k (rest s)
follow_more (runs.Stop end) k output rest = refl

-- a run is a leg, and what follows it
pub ending_leg : (c : CaseData) (s : State) (m n : ℕ) → (leg c s.core m).steps ≤ n →
    ending c n s ≡ follow_leg (step_of s (leg c s.core m)) (leg c s.core m).steps s.output (ending c (n - (leg c s.core m).steps))
unfolding leg onward step step_by ending follow follow_leg
ending_leg c s zero n low = let e : n - 0 ≡ n = omega arith in rw e (later_none (ending c n s))
ending_leg c s (suc m) zero low = absurd (let some : 1 ≤ (leg c s.core (suc m)).steps = leg_some c s.core (suc m) (omega arith) in omega arith)
ending_leg c s (suc m) (suc n) low =
    by (turn c s.core).event (turn c s.core).core (leg c (turn c s.core).core m) refl low (λ below. ending_leg c (record { core = (turn c s.core).core; output = s.output }) m n below)
  where
    by : (e : Event) (t : Core) (l : Leg) → step_by s.output (turn c s.core).event (turn c s.core).core ≡ step_by s.output e t → (onward e t l).steps ≤ suc n →
        (l.steps ≤ n → ending c n (record { core = t; output = s.output }) ≡ follow_leg (step_of (record { core = t; output = s.output }) l) l.steps s.output (ending c (n - l.steps))) →
        ending c (suc n) s ≡ follow_leg (step_of s (onward e t l)) (onward e t l).steps s.output (ending c (suc n - (onward e t l).steps))
    by Went t l p below rest =
        let e : suc n - (l.steps + 1) ≡ n - l.steps = omega arith in
        rw (p, e) (ap one_step_more (rest (omega arith)) ∙ follow_more (step_by s.output l.event l.core) l.steps s.output (ending c (n - l.steps)))
    by (Out byte) t l p below rest = let e : suc n - 1 ≡ n = omega arith in rw (p, e) (later_one (ending c n _))
    by (Halted value) t l p below rest = rw p refl
    by Detected t l p below rest = rw p refl
    by (Trapped kind) t l p below rest = rw p refl
