-- What is known along a golden run that ends.
use Rattle.std.proofs.Common.{◌≡◌, ℕ, zero, suc, ◌+◌, ◌-◌, ◌<◌, ◌≤◌, List, [], ◌∷◌, ◌++◌, length, take, refl, sym, ◌∙◌, ap, arith, append_assoc}
use Rattle.fs_model.specs.declared.events.Event.{Event}
use Rattle.fs_model.specs.declared.events.Event.TheVariants.{Went, Out, Halted, Detected, Trapped}
use Rattle.fs_model.specs.Case.{CaseData}
use Rattle.fs_model.specs.Machine.{Core, turn}
use Rattle.fs_model.specs.Run.{State, Step, Next, Stop, End, Ending, Ended, Over, step_by, step, one_step_more, follow, after, start, ending, golden}
use Rattle.fs_model.proofs.Fate.{golden_at}
use Rattle.experiment.specs.Steps.{steps_of}

abbrev Extends : List ℕ → List ℕ → Type 0
Extends out old = (rest : List ℕ) × (out ≡ old ++ rest)

pub one_less : (e : Ending) (end : End) (n : ℕ) (out : List ℕ) → one_step_more e ≡ Ended end n out → (m : ℕ) × (e ≡ Ended end m out) × (n ≡ m + 1)
unfolding one_step_more
one_less (Ended end' m out') end n out h =
    let a : end' ≡ end = cc in
    let b : m + 1 ≡ n = cc in
    let d : out' ≡ out = cc in
    (m, rw (a, d) refl, sym b)
one_less Over end n out h = absurd cc

append_none : (xs : List ℕ) → xs ≡ xs ++ []
append_none [] = refl
append_none (x ∷ xs) = ap (λ (t : List ℕ). x ∷ t) (append_none xs)

-- the output of a run that ends begins with what was sent before
pub extends : (c : CaseData) (k : ℕ) (s : State) (end : End) (n : ℕ) (out : List ℕ) → ending c k s ≡ Ended end n out → Extends out s.output
unfolding ending step step_by follow
extends c zero s end n out h = absurd cc
extends c (suc k) s end n out h = by (λ t m is. extends c k t end m out is) (turn c s.core).event (turn c s.core).core h
  where
    by : ((t : State) (m : ℕ) → ending c k t ≡ Ended end m out → Extends out t.output) → (e : Event) (core : Core) → follow (step_by s.output e core) s.output (ending c k) ≡ Ended end n out → Extends out s.output
    by later Went core h =
        let t : State = record { core = core; output = s.output } in
        let less = one_less (ending c k t) end n out h in
        later t less.0 less.1
    by later (Out byte) core h =
        let t : State = record { core = core; output = s.output ++ byte ∷ [] } in
        let less = one_less (ending c k t) end n out h in
        let more = later t less.0 less.1 in
        (byte ∷ more.0, more.1 ∙ append_assoc s.output (byte ∷ []) more.0)
    by later (Halted value) core h = let e : s.output ≡ out = cc in ([], sym e ∙ append_none s.output)
    by later Detected core h = let e : s.output ≡ out = cc in ([], sym e ∙ append_none s.output)
    by later (Trapped kind) core h = let e : s.output ≡ out = cc in ([], sym e ∙ append_none s.output)

take_front : (old rest : List ℕ) → take (length old) (old ++ rest) ≡ old
take_front [] [] = refl
take_front [] (x ∷ rest) = refl
take_front (x ∷ old) rest = ap (λ (t : List ℕ). x ∷ t) (take_front old rest)

length_front : (old rest : List ℕ) → length old ≤ length (old ++ rest)
length_front [] rest = omega arith
length_front (x ∷ old) rest = let h = length_front old rest in omega (arith, h)

-- what is left of the golden run after t steps
pub rest_of : (c : CaseData) (end : End) (n t : ℕ) (out : List ℕ) → golden c ≡ Ended end n out → t < n → ending c (c.limit - t) (after c t) ≡ Ended end (n - t) out
rest_of c end n t out h low =
    let e : n - t ≡ suc (n - t - 1) = omega arith in
    rw e (golden_at c end n out h t (n - t - 1) (omega arith))

pub record Sent (c : CaseData) (t : ℕ) (out : List ℕ) : Type 0 where
  pub some : length (after c t).output ≤ length out
  pub front : take (length (after c t).output) out ≡ (after c t).output

-- what was sent before an instruction of the golden run is the front of its output
pub sent_at : (c : CaseData) (end : End) (n t : ℕ) (out : List ℕ) → golden c ≡ Ended end n out → t < n → Sent c t out
sent_at c end n t out h low =
    let more = extends c (c.limit - t) (after c t) end (n - t) out (rest_of c end n t out h low) in
    record {
      some = rw more.1 (length_front (after c t).output more.0);
      front = rw more.1 (take_front (after c t).output more.0);
    }

-- a run takes no more steps than it may
pub steps_few : (c : CaseData) (k : ℕ) (s : State) → steps_of k (ending c k s) ≤ k
unfolding steps_of ending one_step_more follow
steps_few c zero s = omega arith
steps_few c (suc k) s = by (λ t. steps_few c k t) (step c s)
  where
    more : (e : Ending) → steps_of k e ≤ k → steps_of (suc k) (one_step_more e) ≤ suc k
    more (Ended end n out) h = omega (arith, h)
    more Over h = omega arith

    by : ((t : State) → steps_of k (ending c k t) ≤ k) → (t : Step) → steps_of (suc k) (follow t s.output (ending c k)) ≤ suc k
    by later (Next next) = more (ending c k next) (later next)
    by later (Stop end) = omega arith

pub steps_is : (k : ℕ) (e : Ending) (end : End) (n : ℕ) (out : List ℕ) → e ≡ Ended end n out → steps_of k e ≡ n
unfolding steps_of
steps_is k e end n out h = rw h refl

pub within : (c : CaseData) (end : End) (n : ℕ) (out : List ℕ) → golden c ≡ Ended end n out → n ≤ c.limit
unfolding golden
within c end n out h = let few = steps_few c c.limit (start c) in let is = steps_is c.limit (ending c c.limit (start c)) end n out h in omega (arith, few, is)
