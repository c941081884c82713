-- The injected run of a site, begun where the machine stands.
use Rattle.std.proofs.Common.{◌≡◌, ℕ, ◌+◌, ◌-◌, ◌<◌, ◌≤◌, List, length, refl, sym, ◌∙◌, ap, arith}
use Rattle.fs_model.specs.declared.outcomes.Outcome.{Outcome}
use Rattle.fs_model.specs.declared.sites.Site.{Site}
use Rattle.fs_model.specs.declared.sites.Job.{Job}
use Rattle.fs_model.specs.Case.{CaseData}
use Rattle.fs_model.specs.Cell.{flip}
use Rattle.fs_model.specs.Machine.{Core, reset}
use Rattle.fs_model.specs.Run.{State, Halt, Ending, Ended, flipped, after, run, start, ending, injected}
use Rattle.fs_model.specs.Outcome.{compare, outcome}
use Rattle.rv_machine.specs.Machines.{MachineData}
use Rattle.golden_trace.specs.Goldens.{GoldenData, IsGolden}
use Rattle.snapshot_store.specs.Along.{IsAt, Rose}
use Rattle.snapshot_store.specs.Stored.{kept_below}
use Rattle.experiment.specs.Steps.{begun, steps_of}
use Rattle.experiment.specs.Jobs.{rejoins, steps_until, steps_of_job}
use Rattle.experiment.proofs.Halts.{sent_at, within, steps_few}
use Rattle.experiment.proofs.Rejoining.{first_few}
use Rattle.std.proofs.Math.Nat.{div-mul-le_self, mod-eq-sub-div-mul, mod-lt}
use Rattle.std.specs.Prelude.{min, ◌%◌}

pub at_reset : (c : CaseData) (m m' : MachineData) → m.case ≡ c → m' ≡ record m { core = reset m.case } → IsAt m'.case 0 m' 0
unfolding after run start
at_reset c m m' same e = rw e (record { same_case = refl; same_core = refl; sent_is = refl })

pub in_limit : (c : CaseData) (g : GoldenData) (t limit : ℕ) → IsGolden c g → limit ≡ c.limit → t < length g.touches → t ≤ limit
in_limit c g t limit h is low = let most = within c (Halt g.exit) (length g.touches) g.output h.ends in omega (arith, most, is)

pub sent_few : (c : CaseData) (g : GoldenData) (t sent : ℕ) (m : MachineData) → IsGolden c g → t < length g.touches → IsAt c t m sent → sent ≤ length g.output
sent_few c g t sent m h low at = let some = (sent_at c (Halt g.exit) (length g.touches) t g.output h.ends low).some in omega (arith, some, at.sent_is)

begun_is : (c : CaseData) (g : GoldenData) (site : Site) (sent : ℕ) (m : MachineData) → IsGolden c g → site.cycle < length g.touches → IsAt c site.cycle m sent
    → begun (flip m.core site.cell site.bit) g.output sent ≡ flipped (after c site.cycle) site.cell site.bit
unfolding flipped
begun_is c g site sent m h low at =
    let front = (sent_at c (Halt g.exit) (length g.touches) site.cycle g.output h.ends low).front in
    ap (λ (n : ℕ). begun (flip m.core site.cell site.bit) g.output n) at.sent_is
    ∙ ap (λ (out : List ℕ). record { core = flip m.core site.cell site.bit; output = out }) front
    ∙ ap (λ (core : Core). record { core = flip core site.cell site.bit; output = (after c site.cycle).output }) at.same_core

pub injected_is : (c : CaseData) (g : GoldenData) (site : Site) (sent steps : ℕ) (m m' : MachineData) → IsGolden c g → site.cycle < length g.touches → IsAt c site.cycle m sent
    → m' ≡ record m { core = flip m.core site.cell site.bit } → steps ≡ c.limit - site.cycle → ending m'.case steps (begun m'.core g.output sent) ≡ injected c site
unfolding injected
injected_is c g site sent steps m m' h low at e is =
    let case : m'.case ≡ c = ap (λ (x : MachineData). x.case) e ∙ at.same_case in
    let core : m'.core ≡ flip m.core site.cell site.bit = ap (λ (x : MachineData). x.core) e in
    ap (λ (x : CaseData). ending x steps (begun m'.core g.output sent)) case
    ∙ ap (λ (n : ℕ). ending c n (begun m'.core g.output sent)) is
    ∙ ap (λ (k : Core). ending c (c.limit - site.cycle) (begun k g.output sent)) core
    ∙ ap (λ (s : State). ending c (c.limit - site.cycle) s) (begun_is c g site sent m h low at)

pub outcome_is : (c : CaseData) (g : GoldenData) (site : Site) (o : Outcome) (e : Ending) → IsGolden c g → ((n : ℕ) → o ≡ compare (Ended (Halt g.exit) n g.output) e) → e ≡ injected c site → o ≡ outcome c site
unfolding outcome
outcome_is c g site o e h told is = told (length g.touches) ∙ ap (λ (x : Ending). compare (Ended (Halt g.exit) (length g.touches) g.output) x) is ∙ ap (λ (x : Ending). compare x (injected c site)) (sym h.ends)

-- the steps up to the flip, and those after it
pub rose_chain : (a0 a1 a2 a3 z k k' s s' : ℕ) → a1 ≡ a0 → Rose a1 k a2 → a3 ≡ a2 → Rose a3 s z → k ≡ k' → s ≡ s' → Rose a0 (k' + s') z
rose_chain a0 a1 a2 a3 z k k' s s' e f g h same is = omega (arith, e, f, g, h, same, is)

pub steps_same : (k k' : ℕ) (e e' : Ending) → k ≡ k' → e ≡ e' → steps_of k e ≡ steps_of k' e'
steps_same k k' e e' a b = rw (a, b) refl

pub start_is : (c : CaseData) (g : GoldenData) (site : Site) (sent : ℕ) (m m' : MachineData) → IsGolden c g → site.cycle < length g.touches → IsAt c site.cycle m sent
    → m' ≡ record m { core = flip m.core site.cell site.bit } → begun m'.core g.output sent ≡ flipped (after c site.cycle) site.cell site.bit
start_is c g site sent m m' h low at e = ap (λ (x : MachineData). begun x.core g.output sent) e ∙ begun_is c g site sent m h low at

pub ending_is : (c : CaseData) (site : Site) (s : State) → s ≡ flipped (after c site.cycle) site.cell site.bit → ending c (c.limit - site.cycle) s ≡ injected c site
unfolding injected
ending_is c site s e = rw e refl

-- ---- the steps of a job

pub job_rose : (c : CaseData) (k n : ℕ) (job : Job) (before z : ℕ) → Rose before (job.cycle - kept_below k job.cycle + steps_until c k n job.cycle (flipped (after c job.cycle) job.cell job.bit)) z → Rose before (steps_of_job c k n job) z
unfolding steps_of_job
job_rose c k n job before z h = h

until_few : (c : CaseData) (k n cycle : ℕ) (s : State) → steps_until c k n cycle s ≤ c.limit - cycle
unfolding steps_until
until_few c k n cycle s =
    let few = first_few (rejoins c k n cycle s) (steps_of (c.limit - cycle) (ending c (c.limit - cycle) s)) 0 in
    let all = steps_few c (c.limit - cycle) s in
    omega (arith, few, all)

pub job_few : (c : CaseData) (k n : ℕ) (job : Job) → job.cycle ≤ c.limit → steps_of_job c k n job ≤ c.limit - kept_below k job.cycle
unfolding steps_of_job
job_few c k n job low =
    let few = until_few c k n job.cycle (flipped (after c job.cycle) job.cell job.bit) in
    let below = div-mul-le_self job.cycle k in
    omega (arith, few, below, low)

pub job_bound : (c : CaseData) (k n : ℕ) (job : Job) → 1 ≤ k → job.cycle ≤ c.limit → steps_of_job c k n job ≤ min k (job.cycle + 1) - 1 + (c.limit - job.cycle)
unfolding steps_of_job
job_bound c k n job some low =
    let few = until_few c k n job.cycle (flipped (after c job.cycle) job.cell job.bit) in
    let m = mod-eq-sub-div-mul job.cycle k in
    let rest : job.cycle % k < k = mod-lt job.cycle {m = k} (omega arith) in
    omega (arith, few, m, rest, low, some)
