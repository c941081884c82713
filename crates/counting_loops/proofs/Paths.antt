-- Paths of steps, and rounds of paths.
use Rattle.std.proofs.Common.{◌≡◌, ℕ, zero, suc, ◌+◌, ◌-◌, ◌*◌, ◌/◌, ◌%◌, ◌^◌, ◌<◌, ◌≤◌, List, length, slice_index, slice_index_or, refl, sym, ap, subst, ◌∙◌, ⊎_elim, arith}
use Rattle.std.proofs.Math.Nat.{mod-add-mod, mod-add-div', mod-lt}
use Rattle.std.proofs.lemmas.Bool.{cases_lt}
use Rattle.fs_model.specs.declared.events.Event.{Event}
use Rattle.fs_model.specs.declared.events.Event.TheVariants.{Went, Out, Halted, Detected, Trapped}
use Rattle.fs_model.specs.Case.{CaseData}
use Rattle.fs_model.specs.Machine.{Core, turn}
use Rattle.fs_model.specs.Run.{State, Next, step_by, step, go_on, Over, run, ending, follow, one_step_more}
use Rattle.fs_model.specs.Event.{GoesOn}
use Rattle.fs_model.specs.Leg.{GoesFor, sent}
use Rattle.fs_model.proofs.Legs.{run_add, goes_rest}
use Rattle.dead_cells.specs.Rounds.{AreRounds}
use Rattle.dead_cells.proofs.Rounds.{rounds_go_on}
use Rattle.counting_loops.specs.declared.paces.Pace.{Pace}
use Rattle.counting_loops.specs.declared.paces.Pace.TheVariants.{By, Unknown}
use Rattle.counting_loops.specs.Paces.{MovedBy}
use Rattle.counting_loops.specs.Steps.{FitsPaces, StepStays}
use Rattle.counting_loops.specs.declared.words.Held.{Held}
use Rattle.counting_loops.specs.Words.{ram_word, word_pace}
use Rattle.counting_loops.specs.Rounds.{PathStays, ComesBack, AllComeBack, WordComesBack, AllWordsComeBack, LeadsTo, IsLong}
use Rattle.counting_loops.proofs.Orders.{moved_first}

-- ---- a path, step by step

pub path_none : (c : CaseData) (last : ℕ) (paces : List Pace) (held : List Held) (first : Core) → PathStays c last 0 paces held first paces held first
unfolding run
path_none c last paces held first = record { each = λ i s round fits. record { goes = λ j low. absurd (omega arith); fits = fits } }

next_is : (c : CaseData) (u : State) → GoesOn (turn c u.core).event → step c u ≡ Next (record { core = (turn c u.core).core; output = sent u.output (turn c u.core).event })
unfolding step step_by
next_is c u on = by (turn c u.core).event on
  where
    by : (e : Event) → GoesOn e → step_by u.output e (turn c u.core).core ≡ Next (record { core = (turn c u.core).core; output = sent u.output e })
    by Went h = refl
    by (Out byte) h = refl
    by (Halted v) h = absurd h
    by Detected h = absurd h
    by (Trapped kind) h = absurd h

run_more : (c : CaseData) (m : ℕ) (s : State) → GoesOn (turn c (run c m s).core).event → run c (m + 1) s ≡ record { core = (turn c (run c m s).core).core; output = sent (run c m s).output (turn c (run c m s).core).event }
unfolding run go_on
run_more c m s e = let one : m + 1 ≡ suc m = omega arith in rw (one, next_is c (run c m s) e) refl

goes_more : (c : CaseData) (m : ℕ) (s : State) → GoesFor c s m → GoesOn (turn c (run c m s).core).event → GoesFor c s (m + 1)
goes_more c m s goes e = λ j low. ⊎_elim
    (λ (h : j < m). goes j h)
    (λ (h : m ≤ j). let same : j ≡ m = omega arith in rw same (next_is c (run c m s) e ∙ ap Next (sym (run_more c m s e))))
    (cases_lt j m)

pub path_more : (c : CaseData) (last m : ℕ) (paces now new : List Pace) (held held_now held_new : List Held) (first at next : Core) → PathStays c last m paces held first now held_now at → StepStays c last now held_now at new held_new next
    → PathStays c last (m + 1) paces held first new held_new next
path_more c last m paces now new held held_now held_new first at next path more = record {
  each = λ i s round fits.
      let came = path.each i s round fits in
      let on = more.each i (run c m s).core round came.fits in
      record { goes = goes_more c m s came.goes on.event; fits = rw (run_more c m s on.event) on.fits };
}

-- ---- a run that goes on

pub leads_none : (c : CaseData) (core : Core) → LeadsTo c core 0 core
unfolding run
leads_none c core = record { goes = λ output j low. absurd (omega arith); comes = λ output. refl }

pub leads_more : (c : CaseData) (m : ℕ) (core at next : Core) → LeadsTo c core m at → GoesOn (turn c at).event → next ≡ (turn c at).core → LeadsTo c core (m + 1) next
leads_more c m core at next leads on next_is = record {
  goes = λ output. goes_more c m (from output) (leads.goes output) (here output);
  comes = λ output. ap (λ (s : State). s.core) (run_more c m (from output) (here output)) ∙ ap (λ (s : Core). (turn c s).core) (leads.comes output) ∙ sym next_is;
}
  where
    from : List ℕ → State
    from output = record { core = core; output = output }

    here : (output : List ℕ) → GoesOn (turn c (run c m (from output)).core).event
    here output = subst (λ (s : Core). GoesOn (turn c s).event) (sym (leads.comes output)) on

-- ---- rounds

moved_back : (before after : Pace) (i first next x : ℕ) → ComesBack before after first next → MovedBy after i next x → MovedBy before (i + 1) first x
moved_back (By step) after i first next x back moved =
    let moved' : x ≡ (next + i * step) % 2 ^ 32 = rw back.0 at moved in
    let sum : first + step + i * step ≡ first + (i + 1) * step = grind arith in
    moved' ∙ ap (λ (n : ℕ). (n + i * step) % 2 ^ 32) back.1 ∙ mod-add-mod (first + step) (2 ^ 32) (i * step) ∙ ap (λ (n : ℕ). n % 2 ^ 32) sum
moved_back Unknown after i first next x back moved = tt

word_back : (before after : Pace) (i first next x : ℕ) → WordComesBack before after first next → MovedBy after i next x → MovedBy before (i + 1) first x
word_back before after i first next x word moved = moved_back before after i first next x word.back moved

-- a head of a loop, and what its first round leads to
pub record IsLoop (c : CaseData) (last m : ℕ) (paces now : List Pace) (held held_now : List Held) (first next : Core) : Type 0 where
  pub path : PathStays c last m paces held first now held_now next
  pub back : AllComeBack paces now first.regs next.regs 32
  pub words : AllWordsComeBack held held_now first.ram next.ram
  pub pc_is : next.pc ≡ first.pc
  pub regs_length : length first.regs ≡ 32
  pub ram_length : length first.ram ≡ length c.ram
  pub low : (k : ℕ) → k < 32 → slice_index first.regs k < 2 ^ 32

module _ (c : CaseData) (last m : ℕ) (paces now : List Pace) (held held_now : List Held) (first next : Core) (loop : IsLoop c last m paces now held held_now first next) (output : List ℕ) where
  abbrev start : State
  start = record { core = first; output = output }

  fits_at : (i : ℕ) → i ≤ last + 1 → FitsPaces c paces held i first (run c (i * m) start).core
  unfolding run
  fits_at zero low =
      let none : 0 * m ≡ 0 = omega arith in
      rw none (record {
        pc_is = refl;
        regs_length = loop.regs_length;
        ram_length = loop.ram_length;
        each = λ k d h. moved_first (slice_index_or paces k d) (slice_index first.regs k) (loop.low k h);
        words = λ k within. (loop.words k).first_is;
      })
  fits_at (suc i) low =
      let came = loop.path.each i (run c (i * m) start) (omega arith) (fits_at i (omega arith)) in
      let more : suc i * m ≡ i * m + m = omega arith in
      let one : suc i ≡ i + 1 = omega arith in
      rw (more, run_add c (i * m) m start, one) (record {
        pc_is = came.fits.pc_is ∙ loop.pc_is;
        regs_length = came.fits.regs_length;
        ram_length = came.fits.ram_length;
        each = λ k d h. moved_back (slice_index_or paces k d) (slice_index_or now k d) i (slice_index first.regs k) (slice_index next.regs k) _ (loop.back k d h) (came.fits.each k d h);
        words = λ k within. word_back (word_pace held k) (word_pace held_now k) i (ram_word first.ram k) (ram_word next.ram k) _ (loop.words k) (came.fits.words k within);
      })

  rounds : AreRounds c (λ i. run c (i * m) start) m (last + 1)
  rounds = record {
    goes = λ i low. (loop.path.each i (run c (i * m) start) (omega arith) (fits_at i (omega arith))).goes;
    comes = λ i low. let more : (i + 1) * m ≡ i * m + m = omega arith in rw (more, run_add c (i * m) m start) refl;
  }

pub loop_is_long : (c : CaseData) (last m : ℕ) (paces now : List Pace) (held held_now : List Held) (first next : Core) → IsLoop c last m paces now held held_now first next → IsLong c first ((last + 1) * m)
unfolding run
loop_is_long c last m paces now held held_now first next loop = λ output k low.
    let none : 0 * m ≡ 0 = omega arith in
    rw none at (rounds_go_on c (λ i. run c (i * m) (record { core = first; output = output })) m (last + 1) k (rounds c last m paces now held held_now first next loop output) low)

-- ---- a run that comes to such a loop

over_next : (c : CaseData) (s t : State) (k : ℕ) → step c s ≡ Next t → ending c k t ≡ Over → ending c (suc k) s ≡ Over
unfolding ending follow one_step_more
over_next c s t k e over = rw (e, over) refl

run_none : (c : CaseData) (s : State) → run c 0 s ≡ s
unfolding run
run_none c s = refl

-- whatever comes after steps that all go on
ending_after : (c : CaseData) (m k : ℕ) (s : State) → GoesFor c s m → ending c k (run c m s) ≡ Over → ending c (m + k) s ≡ Over
ending_after c zero k s goes over =
    let e : 0 + k ≡ k = omega arith in
    rw e (subst (λ (t : State). ending c k t ≡ Over) (run_none c s) over)
ending_after c (suc m) k s goes over =
    let e : suc m + k ≡ suc (m + k) = omega arith in
    let one : suc m ≡ 1 + m = omega arith in
    let goes' : GoesFor c s (1 + m) = subst (λ (n : ℕ). GoesFor c s n) one goes in
    let over' : ending c k (run c m (run c 1 s)) ≡ Over = subst (λ (t : State). ending c k t ≡ Over) (ap (λ (n : ℕ). run c n s) one ∙ run_add c 1 m s) over in
    let first : step c s ≡ Next (run c 1 s) = subst (λ (t : State). step c t ≡ Next (run c 1 s)) (run_none c s) (goes 0 (omega arith)) in
    rw e (over_next c s (run c 1 s) (m + k) first (ending_after c m k (run c 1 s) (goes_rest c s 1 m goes') over'))

pub leads_to_long : (c : CaseData) (core head : Core) (steps left rest : ℕ) (output : List ℕ) → LeadsTo c core steps head → rest + steps ≡ left → ((output : List ℕ) → ending c rest (record { core = head; output = output }) ≡ Over)
    → ending c left (record { core = core; output = output }) ≡ Over
leads_to_long c core head steps left rest output leads sum over =
    let from : State = record { core = core; output = output } in
    let e : left ≡ steps + rest = omega arith in
    let there : ending c rest (run c steps from) ≡ Over =
    subst (λ (s : Core). ending c rest (record { core = s; output = (run c steps from).output }) ≡ Over) (sym (leads.comes output)) (over (run c steps from).output) in
    rw e (ending_after c steps rest from (leads.goes output) there)

-- as many rounds as the rest needs
pub rest_is_long : (c : CaseData) (head : Core) (rest m : ℕ) → 0 < m → IsLong c head ((rest / m + 1) * m) → (output : List ℕ) → ending c rest (record { core = head; output = output }) ≡ Over
rest_is_long c head rest m some long = λ output.
    let whole = mod-add-div' rest m in
    let less = mod-lt rest {m = m} some in
    let more : (rest / m + 1) * m ≡ rest / m * m + m = grind arith in
    long output rest (omega (arith, whole, less, more))

-- the steps that are left after some more
pub left_sum : (left rest steps : ℕ) → rest ≤ left → steps ≤ rest / 32 → rest - steps + (left - rest + steps) ≡ left
left_sum left rest steps few low = omega arith

pub left_less : (left rest steps : ℕ) → rest ≤ left → steps ≤ rest / 32 → left - (rest - steps) ≡ left - rest + steps
left_less left rest steps few low = omega arith

-- ---- a state that comes again

-- from any state that holds this
record FromHere (c : CaseData) (m : ℕ) (next : Core) (t : State) : Type 0 where
  goes : GoesFor c t m
  comes : (run c m t).core ≡ next

from_here : (c : CaseData) (core : Core) (m : ℕ) (next : Core) (t : State) → LeadsTo c core m next → t.core ≡ core → FromHere c m next t
from_here c core m next t leads e = record {
  goes = subst (λ (x : Core). GoesFor c (record { core = x; output = t.output }) m) (sym e) (leads.goes t.output);
  comes = subst (λ (x : Core). (run c m (record { core = x; output = t.output })).core ≡ next) (sym e) (leads.comes t.output);
}

again_at : (c : CaseData) (core : Core) (m : ℕ) (s : State) → LeadsTo c core m core → s.core ≡ core → (i : ℕ) → (run c (i * m) s).core ≡ core
unfolding run
again_at c core m s leads e zero = let none : 0 * m ≡ 0 = omega arith in rw none e
again_at c core m s leads e (suc i) =
    let more : suc i * m ≡ i * m + m = omega arith in
    rw (more, run_add c (i * m) m s) (from_here c core m core (run c (i * m) s) leads (again_at c core m s leads e i)).comes

pub again_is_long : (c : CaseData) (core : Core) (m : ℕ) → 0 < m → LeadsTo c core m core → (rest : ℕ) (output : List ℕ) → ending c rest (record { core = core; output = output }) ≡ Over
again_is_long c core m some leads rest output =
    let s : State = record { core = core; output = output } in
    let none : 0 * m ≡ 0 = omega arith in
    let all : AreRounds c (λ i. run c (i * m) s) m rest = record {
      goes = λ i low. (from_here c core m core (run c (i * m) s) leads (again_at c core m s leads refl i)).goes;
      comes = λ i low. let more : (i + 1) * m ≡ i * m + m = omega arith in rw (more, run_add c (i * m) m s) refl;
    } in
    let enough : rest ≤ rest * m = at_least rest m some in
    subst (λ (t : State). ending c rest t ≡ Over) (ap (λ (n : ℕ). run c n s) none ∙ run_none c s) (rounds_go_on c (λ i. run c (i * m) s) m rest rest all enough)
  where
    at_least : (n m : ℕ) → 0 < m → n ≤ n * m
    at_least n zero low = elim low [ ]
    at_least n (suc m) low = let e : n * suc m ≡ n * m + n = omega arith in omega (arith, e)
