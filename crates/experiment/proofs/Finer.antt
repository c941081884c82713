-- Where states of the golden run are kept at a distance that divides another one, a job takes no more steps.
use Rattle.std.proofs.Common.{◌≡◌, ℕ, zero, suc, ◌+◌, ◌-◌, ◌*◌, ◌/◌, ◌%◌, ◌≤◌, ◌==◌, nat_lt, ◌&&◌, Bool, true, false, if◌then◌else◌, refl, ◌∙◌, ap, arith}
use Rattle.std.proofs.lemmas.Bool.Decides.{Decides-eqb}
use Rattle.std.proofs.Math.Nat.{div-mul-le_self, mod-eq-sub-div-mul, mul-le-mul_right, mul-mod_left, le-div_iff_mul-le}
use Rattle.fs_model.specs.declared.sites.Job.{Job}
use Rattle.fs_model.specs.Case.{CaseData}
use Rattle.fs_model.specs.Run.{State, after, ending, flipped, run}
use Rattle.snapshot_store.specs.Stored.{kept_below}
use Rattle.experiment.specs.Steps.{steps_of}
use Rattle.experiment.specs.Jobs.{first_from, rejoins, same_state, steps_until, steps_of_job}
use Rattle.experiment.proofs.Rises.{first_low}

-- a multiple of k is one of what divides k
multiple : (k d t : ℕ) → k % d ≡ 0 → t % k ≡ 0 → t ≡ t / k * (k / d) * d
multiple k d t divides at =
    let a : k ≡ k / d * d = let m = mod-eq-sub-div-mul k d in let le = div-mul-le_self k d in omega (arith, m, le, divides) in
    let b : t ≡ t / k * k = let m = mod-eq-sub-div-mul t k in let le = div-mul-le_self t k in omega (arith, m, le, at) in
    let e : t / k * (k / d * d) ≡ t / k * (k / d) * d = grind arith in
    b ∙ ap (λ (n : ℕ). t / k * n) a ∙ e

finer_at : (k d t : ℕ) → k % d ≡ 0 → t % k ≡ 0 → t % d ≡ 0
finer_at k d t divides at = ap (λ (n : ℕ). n % d) (multiple k d t divides at) ∙ mul-mod_left (t / k * (k / d)) d

kept_finer : (k d t : ℕ) → 1 ≤ d → k % d ≡ 0 → kept_below k t ≤ kept_below d t
kept_finer k d t some divides =
    let whole : t / k * k % k ≡ 0 = mul-mod_left (t / k) k in
    let is = multiple k d (t / k * k) divides whole in
    let le = div-mul-le_self t k in
    let q = t / k * k / k * (k / d) in
    let low : q ≤ t / d = (le-div_iff_mul-le {k = d} {x = q} {y = t} (omega (arith, some))).1 (omega (arith, is, le)) in
    let more = mul-le-mul_right d low in
    omega (arith, is, more)

-- a test that more numbers pass is passed no later
first_finer : (test finer : ℕ → Bool) → ((i : ℕ) → test i ≡ true → finer i ≡ true) → (more from : ℕ) → first_from finer from more ≤ first_from test from more
unfolding first_from
first_finer test finer each zero from = omega arith
first_finer test finer each (suc more) from = by (test from) (finer from) (λ h. each from h) (first_low test more (from + 1)) (first_finer test finer each more (from + 1))
  where
    by : (a b : Bool) → (a ≡ true → b ≡ true) → from + 1 ≤ first_from test (from + 1) more → first_from finer (from + 1) more ≤ first_from test (from + 1) more
        → (if b then from else first_from finer (from + 1) more) ≤ (if a then from else first_from test (from + 1) more)
    by true true h low rest = omega arith
    by true false h low rest = let e : ◌≡◌ {A = Bool} false true = h refl in absurd cc
    by false true h low rest = omega (arith, low)
    by false false h low rest = rest

rejoins_finer : (c : CaseData) (k d n cycle : ℕ) (s : State) → k % d ≡ 0 → (j : ℕ) → rejoins c k n cycle s j ≡ true → rejoins c d n cycle s j ≡ true
unfolding rejoins
rejoins_finer c k d n cycle s divides j h =
    by (nat_lt 0 j) (nat_lt (cycle + j) n) ((cycle + j) % k == 0) ((cycle + j) % d == 0) (same_state (run c j s) (after c (cycle + j)))
    (λ t. (Decides-eqb ((cycle + j) % d) 0).1 (finer_at k d (cycle + j) divides ((Decides-eqb ((cycle + j) % k) 0).0 t))) h
  where
    by : (a b x y z : Bool) → (x ≡ true → y ≡ true) → (a && ((b && x) && z)) ≡ true → (a && ((b && y) && z)) ≡ true
    by true true true y true more h = rw (more refl) refl
    by true true true y false more h = absurd cc
    by true true false y z more h = absurd cc
    by true false x y z more h = absurd cc
    by false b x y z more h = absurd cc

until_finer : (c : CaseData) (k d n cycle : ℕ) (s : State) → k % d ≡ 0 → steps_until c d n cycle s ≤ steps_until c k n cycle s
unfolding steps_until
until_finer c k d n cycle s divides =
    first_finer (rejoins c k n cycle s) (rejoins c d n cycle s) (rejoins_finer c k d n cycle s divides) (steps_of (c.limit - cycle) (ending c (c.limit - cycle) s)) 0

pub job_finer : (c : CaseData) (k d n : ℕ) (job : Job) → 1 ≤ d → k % d ≡ 0 → steps_of_job c d n job ≤ steps_of_job c k n job
unfolding steps_of_job
job_finer c k d n job some divides =
    let a = kept_finer k d job.cycle some divides in
    let b = until_finer c k d n job.cycle (flipped (after c job.cycle) job.cell job.bit) divides in
    omega (arith, a, b)
