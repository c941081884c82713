-- A run that is compared with the golden one at each kept cycle above its own.
use Rattle.std.proofs.Common.{◌≡◌, ℕ, ◌+◌, ◌-◌, ◌*◌, ◌/◌, ◌%◌, ◌<◌, ◌≤◌, ◌==◌, nat_lt, ◌&&◌, Bool, true, false, List, refl, sym, ◌∙◌, ap, ⊎_elim, arith}
use Rattle.std.proofs.lemmas.Bool.{cases_eq, false_from_ne_true}
use Rattle.std.proofs.lemmas.Bool.Decides.{nat_tests, Decides-eqb, Decides-ltb}
use Rattle.std.proofs.Math.Nat.{mod-eq-sub-div-mul, div-mul-le_self, mul-mod_left, mod-lt}
use Rattle.fs_model.specs.declared.outcomes.Outcome.{Outcome}
use Rattle.fs_model.specs.Case.{CaseData}
use Rattle.fs_model.specs.Run.{State, after, run, ending, golden}
use Rattle.rv_machine.specs.Machines.{MachineData}
use Rattle.outcome_class.specs.Seen.{WatchData, watching, going}
use Rattle.snapshot_store.specs.Along.{Rose}
use Rattle.snapshot_store.specs.Stored.{is_kept}
use Rattle.experiment.specs.Steps.{steps_of}
use Rattle.experiment.specs.Jobs.{same_state, rejoins, steps_until}
use Rattle.experiment.specs.UnderWay.{Follows, IsShortLeg}
use Rattle.experiment.proofs.Follows.{Told}
use Rattle.experiment.proofs.Rejoining.{first_none, state_from, between}

-- ---- what is known of each number of steps

-- strictly between a cycle and the next multiple there is none
none_between : (k t i : ℕ) → 1 ≤ k → t < i → i < t + (k - t % k) → i % k ≡ 0 → ⊥
none_between k t i some low high z =
    let rest : t % k < k = mod-lt t {m = k} (omega arith) in
    let m = mod-eq-sub-div-mul t k in
    let le = div-mul-le_self t k in
    let more : (t / k + 1) * k ≡ t / k * k + k = grind arith in
    let at : i + (t + (k - t % k) - i) ≡ (t / k + 1) * k = omega (arith, rest, m, le, more, low, high) in
    between k i (t + (k - t % k) - i) (ap (λ (n : ℕ). n % k) at ∙ mul-mod_left (t / k + 1) k) (omega (arith, high)) (omega (arith, low, high)) z

-- before the first step
pub none_first : (c : CaseData) (k n cycle j : ℕ) (s : State) → j ≡ 0 → (i : ℕ) → i < j + 1 → rejoins c k n cycle s i ≡ false
unfolding rejoins
none_first c k n cycle j s e i low = let off : nat_lt 0 i ≡ false = grind (arith, nat_tests) in rw off refl

-- at a cycle that is not kept
passed : (c : CaseData) (k n cycle i : ℕ) (s : State) → ((cycle + i) % k ≡ 0 → ⊥) → rejoins c k n cycle s i ≡ false
unfolding rejoins
passed c k n cycle i s ne =
    let no : ((cycle + i) % k == 0) ≡ false = false_from_ne_true ((cycle + i) % k == 0) (λ t. ne ((Decides-eqb ((cycle + i) % k) 0).0 t)) in
    rw no (off (nat_lt 0 i) (nat_lt (cycle + i) n) (same_state (run c i s) (after c (cycle + i))))
  where
    off : (a b d : Bool) → (a && ((b && false) && d)) ≡ false
    off true true d = refl
    off true false d = refl
    off false b d = refl

-- above the golden run no cycle is kept
late : (c : CaseData) (k n cycle i : ℕ) (s : State) → n ≤ cycle + i → rejoins c k n cycle s i ≡ false
unfolding rejoins
late c k n cycle i s le =
    let no : nat_lt (cycle + i) n ≡ false = grind (arith, nat_tests) in
    rw no (off (nat_lt 0 i) ((cycle + i) % k == 0) (same_state (run c i s) (after c (cycle + i))))
  where
    off : (a b d : Bool) → (a && ((false && b) && d)) ≡ false
    off true b d = refl
    off false b d = refl

-- on such a leg
pub none_on_leg : (c : CaseData) (k n cycle at most m : ℕ) (s : State) → 1 ≤ k → cycle ≤ at → IsShortLeg k n at most → m ≤ most → ((i : ℕ) → i < at - cycle + 1 → rejoins c k n cycle s i ≡ false)
    → (i : ℕ) → i < at + m - cycle → rejoins c k n cycle s i ≡ false
none_on_leg c k n cycle at most m s some order short few none i low = by (nat_lt i (at - cycle + 1)) refl
  where
    by : (b : Bool) → nat_lt i (at - cycle + 1) ≡ b → rejoins c k n cycle s i ≡ false
    by true e = none i ((Decides-ltb i (at - cycle + 1)).0 e)
    by false e =
        let not : i < at - cycle + 1 → ⊥ = λ h. let yes : nat_lt i (at - cycle + 1) ≡ true = (Decides-ltb i (at - cycle + 1)).1 h in cc in
        ⊎_elim (λ (near : most ≤ k - at % k). passed c k n cycle i s (none_between k at (cycle + i) some (omega (arith, not, order)) (omega (arith, order, near, low, few))))
        (λ (end : n ≤ at). late c k n cycle i s (omega (arith, not, order, end))) short

-- and at a kept one, as the code looks
pub looked : (c : CaseData) (k n cycle j t exit before limit left : ℕ) (golden : List ℕ) (s : State) (m : MachineData) (w : WatchData) (r : Bool)
    → t ≡ cycle + j → 0 < j → Follows c s exit golden before limit j left m w
    → ((exit : ℕ) (output : List ℕ) → w ≡ watching exit golden (going output) → r ≡ (is_kept k n t && same_state (record { core = m.core; output = output }) (after c t))) → r ≡ rejoins c k n cycle s j
unfolding rejoins
looked c k n cycle j t exit before limit left golden s m w r is low h look =
    let on : nat_lt 0 j ≡ true = grind (arith, nat_tests) in
    rw on (look exit h.output h.watch
    ∙ ap (λ (x : State). is_kept k n t && same_state x (after c t)) (sym h.stands)
    ∙ ap (λ (x : ℕ). is_kept k n x && same_state (run c j s) (after c x)) is)

-- ---- at the end

-- a run that never stands so takes all its steps
pub none_until : (c : CaseData) (k n cycle steps : ℕ) (s : State) → ((i : ℕ) → i < steps → rejoins c k n cycle s i ≡ false) → steps_of (c.limit - cycle) (ending c (c.limit - cycle) s) ≡ steps
    → steps_until c k n cycle s ≡ steps_of (c.limit - cycle) (ending c (c.limit - cycle) s)
unfolding steps_until
none_until c k n cycle steps s none is = rw is (first_none (rejoins c k n cycle s) steps 0 (λ i a b. none i (omega (arith, b))) ∙ omega arith)

parts : (a b d : Bool) → (a && (b && d)) ≡ true → (b ≡ true) × (d ≡ true)
parts true true true h = (refl, refl)
parts true true false h = absurd cc
parts true false d h = absurd cc
parts false b d h = absurd cc

pub record Stands (c : CaseData) (k n cycle j : ℕ) (s : State) : Type 0 where
  pub kept : is_kept k n (cycle + j) ≡ true
  pub same : run c j s ≡ after c (cycle + j)

pub stands : (c : CaseData) (k n cycle j : ℕ) (s : State) → rejoins c k n cycle s j ≡ true → Stands c k n cycle j s
unfolding rejoins
stands c k n cycle j s h =
    let both = parts (nat_lt 0 j) (is_kept k n (cycle + j)) (same_state (run c j s) (after c (cycle + j))) h in
    record { kept = both.0; same = state_from (run c j s) (after c (cycle + j)) both.1 }

pub none_more : (c : CaseData) (k n cycle j : ℕ) (s : State) → ((i : ℕ) → i < j → rejoins c k n cycle s i ≡ false) → rejoins c k n cycle s j ≡ false → (i : ℕ) → i < j + 1 → rejoins c k n cycle s i ≡ false
none_more c k n cycle j s none here i low = ⊎_elim (λ (e : i ≡ j). rw e here) (λ (ne : i ≡ j → ⊥). none i (omega arith)) (cases_eq i j)

pub told_until : (c : CaseData) (k n cycle exit before steps : ℕ) (golden : List ℕ) (s : State) (m : MachineData) (o : Outcome) → ((i : ℕ) → i < steps → rejoins c k n cycle s i ≡ false)
    → Told c s exit golden before (c.limit - cycle) steps o m → Rose before (steps_until c k n cycle s) m.taken
told_until c k n cycle exit before steps golden s m o none h = rw (none_until c k n cycle steps s none h.steps_are) h.taken
