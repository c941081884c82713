-- Counts of steps that rise, exactly or within bounds.
use Rattle.std.proofs.Common.{◌≡◌, ℕ, zero, suc, ◌+◌, ◌-◌, ◌<◌, ◌≤◌, Bool, true, false, if◌then◌else◌, refl, ap, ⊎_elim, arith}
use Rattle.std.specs.Prelude.{◌^◌, length}
use Rattle.std.proofs.lemmas.Bool.{cases_eq}
use Rattle.fs_model.specs.declared.sites.Job.{Job}
use Rattle.fs_model.specs.Case.{CaseData}
use Rattle.fs_model.specs.Run.{State, Halt, End, Ending, Ended, Over, ending, after, flipped}
use Rattle.fs_model.proofs.Fate.{no_end}
use Rattle.golden_trace.specs.Goldens.{GoldenData, IsGolden}
use Rattle.snapshot_store.specs.Along.{Rose}
use Rattle.snapshot_store.specs.Stored.{kept_below}
use Rattle.experiment.specs.Steps.{steps_of}
use Rattle.experiment.specs.Jobs.{RoseAs, RoseWithin, rejoins, first_from, steps_until, steps_of_job}
use Rattle.experiment.proofs.Halts.{within}

pub below_limit : (c : CaseData) (g : GoldenData) (t : ℕ) → IsGolden c g → t < length g.touches → t < c.limit
below_limit c g t h low = let most = within c (Halt g.exit) (length g.touches) g.output h.ends in omega (arith, most, low)

-- ---- within bounds

-- the count is known exactly, and the steps are at most what another number says
pub rose_up : (least before low most after : ℕ) → before ≤ 2 ^ 64 - 1 → Rose before low after → least ≤ low → low ≤ most → RoseWithin least before most after
rose_up least before low most after few h a b = (omega (arith, few, h, a), omega (arith, few, h, b))

pub within_more : (least before most more after : ℕ) → RoseWithin least before most after → most ≤ more → RoseWithin least before more after
within_more least before most more after h le = let high = h.1 in (h.0, omega (arith, high, le))

-- two rises, with a flip between them
pub rose_chain_up : (a0 a2 a3 z k s s' : ℕ) → RoseWithin 0 a0 k a2 → a3 ≡ a2 → RoseWithin 1 a3 s z → s ≡ s' → RoseWithin 1 a0 (k + s') z
rose_chain_up a0 a2 a3 z k s s' f e h is =
    let f0 = f.0 in
    let f1 = f.1 in
    let h0 = h.0 in
    let h1 = h.1 in
    (omega (arith, f0, h0, e), omega (arith, f1, h1, e, is))

pub job_rose_up : (c : CaseData) (k n : ℕ) (job : Job) (before z : ℕ) → RoseWithin 1 before (job.cycle - kept_below k job.cycle + steps_until c k n job.cycle (flipped (after c job.cycle) job.cell job.bit)) z
    → RoseWithin 1 before (steps_of_job c k n job) z
unfolding steps_of_job
job_rose_up c k n job before z h = h

-- ---- exactly, or within bounds

as_none : (meets : Bool) (t : ℕ) → t ≤ 2 ^ 64 - 1 → RoseAs meets 0 t 0 t
as_none false t few = omega (arith, few)
as_none true t few = (omega (arith, few), omega (arith, few))

pub as_still : (meets : Bool) (jobs steps t : ℕ) → jobs ≡ 0 → steps ≡ 0 → t ≤ 2 ^ 64 - 1 → RoseAs meets jobs t steps t
as_still meets jobs steps t none still few = rw (none, still) (as_none meets t few)

pub as_same : (meets : Bool) (jobs jobs' t t' a a' v v' : ℕ) → RoseAs meets jobs t a v → jobs ≡ jobs' → t ≡ t' → a ≡ a' → v ≡ v' → RoseAs meets jobs' t' a' v'
as_same meets jobs jobs' t t' a a' v v' h d e f g = rw (← d, ← e, ← f, ← g) h

pub as_more : (meets : Bool) (i j n t a b m u v : ℕ) → RoseAs meets i t a u → RoseAs meets j u b v → n ≡ i + j → m ≡ a + b → RoseAs meets n t m v
as_more false i j n t a b m u v f g e is = omega (arith, f, g, is)
as_more true i j n t a b m u v f g e is =
    let f0 = f.0 in
    let f1 = f.1 in
    let g0 = g.0 in
    let g1 = g.1 in
    (omega (arith, f0, g0, e), omega (arith, f1, g1, is))

pub as_rose : (meets : Bool) (n t a v : ℕ) → t ≤ 2 ^ 64 - 1 → n ≤ a → Rose t a v → RoseAs meets n t a v
as_rose false n t a v few some h = h
as_rose true n t a v few some h = rose_up n t a a v few h some (omega arith)

-- ---- a job takes a step at least

some_of : (k : ℕ) (e : Ending) → 0 < k → ((end : End) (out : _) → e ≡ Ended end 0 out → ⊥) → 1 ≤ steps_of k e
unfolding steps_of
some_of k (Ended end n out) some none =
    ⊎_elim (λ (z : n ≡ 0). absurd (none end out (ap (λ (i : ℕ). Ended end i out) z))) (λ (ne : n ≡ 0 → ⊥). omega (arith, ne)) (cases_eq n 0)
some_of k Over some none = omega (arith, some)

pub first_low : (test : ℕ → Bool) (more from : ℕ) → from ≤ first_from test from more
unfolding first_from
first_low test zero from = omega arith
first_low test (suc more) from = by (test from) (first_low test more (from + 1))
  where
    by : (b : Bool) → from + 1 ≤ first_from test (from + 1) more → from ≤ (if b then from else first_from test (from + 1) more)
    by true h = omega arith
    by false h = omega (arith, h)

first_some : (test : ℕ → Bool) (more : ℕ) → 1 ≤ more → test 0 ≡ false → 1 ≤ first_from test 0 more
unfolding first_from
first_some test zero some off = absurd (omega (arith, some))
first_some test (suc more) some off = rw off (first_low test more 1)

pub until_some : (c : CaseData) (k n cycle : ℕ) (s : State) → cycle < c.limit → 1 ≤ steps_until c k n cycle s
unfolding steps_until rejoins
until_some c k n cycle s low =
    first_some (rejoins c k n cycle s) (steps_of (c.limit - cycle) (ending c (c.limit - cycle) s))
    (some_of (c.limit - cycle) (ending c (c.limit - cycle) s) (omega (arith, low)) (λ end out h. no_end c (c.limit - cycle) s end out h))
    refl

pub job_some : (c : CaseData) (k n : ℕ) (job : Job) → job.cycle < c.limit → 1 ≤ steps_of_job c k n job
unfolding steps_of_job
job_some c k n job low = let some = until_some c k n job.cycle (flipped (after c job.cycle) job.cell job.bit) low in omega (arith, some)
