-- A run that is the run of a later site, and the first site of a job.
use Rattle.std.proofs.Common.{◌≡◌, ℕ, ◌+◌, ◌-◌, ◌<◌, ◌≤◌, Bool, true, false, List, length, Option, Some, None, refl, sym, ◌∙◌, ap, arith}
use Rattle.std.specs.Prelude.{All, Contains, IfSome, MatchOption, take}
use Rattle.std.proofs.lemmas.List.Elements.{All-map, All-contains, filter_passes, All-filter}
use Rattle.std.proofs.lemmas.Bool.{eqb-true, and_parts}
use Rattle.fs_model.specs.declared.outcomes.Outcome.{Outcome}
use Rattle.fs_model.specs.declared.outcomes.Outcome.TheVariants.{NoEffect}
use Rattle.fs_model.specs.declared.sites.Site.{Site}
use Rattle.fs_model.specs.declared.sites.Job.{Job}
use Rattle.fs_model.specs.Case.{CaseData}
use Rattle.fs_model.specs.Machine.{Core}
use Rattle.fs_model.specs.Cell.{flip}
use Rattle.fs_model.specs.Site.{same_site}
use Rattle.fs_model.specs.AccessLog.{log, jobs, all_sites, is_read, is_job, job_of, next_touch, weight}
use Rattle.fs_model.specs.Job.{job_list, with_weight, site_of, jobs_in, log_of}
use Rattle.fs_model.specs.Run.{State, Halt, Ended, Ending, after, ending, injected, cycles}
use Rattle.fs_model.specs.Outcome.{compare, agrees, outcome}
use Rattle.fs_model.proofs.SiteList.{IsSite, first_one, sites_hold}
use Rattle.fs_model.proofs.Pruned.{site_outcome}
use Rattle.rv_machine.specs.Machines.{MachineData}
use Rattle.golden_trace.specs.Goldens.{GoldenData, IsGolden}
use Rattle.outcome_class.proofs.Watching.{sent_front}
use Rattle.snapshot_store.specs.Along.{IsAt}
use Rattle.def_use.proofs.Weights.{since, since-le, weight_is, belongs_since}
use Rattle.dead_cells.specs.DeadCells.{unread, is_dead}
use Rattle.dead_cells.proofs.Sites.{one_dead_cell, same_dead}
use Rattle.known_states.specs.Known.{IsKnown, here}
use Rattle.known_states.specs.declared.single_bits.Apart.{Apart}
use Rattle.known_states.specs.declared.single_bits.Apart.TheVariants.{InBit, Nowhere}
use Rattle.known_states.specs.KnownSites.{EndsAlike, EndsFlipped, IsDifference}
use Rattle.experiment.specs.Steps.{begun}
use Rattle.experiment.specs.LaterSites.{IsToldApart}
use Rattle.experiment.proofs.Halts.{rest_of, sent_at}
use Rattle.experiment.proofs.Injected.{sent_few, start_is, ending_is, outcome_is}
use Rattle.experiment.proofs.Rejoining.{no_effect}
use Rattle.experiment.proofs.JobSites.{IsJob, count_is}

-- ---- one bit of the golden state differs, beside registers that are not live

-- what is left of the run is what is left of the site's
pub later_is : (c : CaseData) (g : GoldenData) (o : Outcome) (site : Site) (m ahead : MachineData) (cycle sent : ℕ) (seen : Option ℕ) → IsGolden c g → cycle < length g.touches
    → IsAt c cycle ahead sent → seen ≡ Some sent → EndsFlipped c ahead.core m.core cycle site → IsKnown c g (here m cycle seen) o → o ≡ outcome c site
later_is c g o site m ahead cycle sent seen h low at is bit known =
    by (rw bit.cycle_is low) (rw bit.cycle_is at) (rw (bit.cycle_is, ← is) known)
  where
    by : site.cycle < length g.touches → IsAt c site.cycle ahead sent → IsKnown c g (here m site.cycle (Some sent)) o → o ≡ outcome c site
    by low at known =
        let few : sent ≤ length g.output = sent_few c g site.cycle sent ahead h low at in
        let start = start_is c g site sent ahead (record ahead { core = flip ahead.core site.cell site.bit }) h low at refl in
        let other : State = begun (flip ahead.core site.cell site.bit) g.output sent in
        outcome_is c g site o (ending c (c.limit - site.cycle) (begun m.core g.output sent)) h (λ n. known.outcome n (take sent g.output) (sent_front g.output sent few))
        (bit.ends (c.limit - site.cycle) (take sent g.output) ∙ ending_is c site other start)

-- ---- the golden state, beside registers that are not live

-- the rest of the run is the golden run's, so it has no effect
quiet_is : (c : CaseData) (g : GoldenData) (o : Outcome) (m ahead : MachineData) (cycle sent : ℕ) (seen : Option ℕ) → IsGolden c g → cycle < length g.touches
    → IsAt c cycle ahead sent → seen ≡ Some sent → EndsAlike c ahead.core m.core → IsKnown c g (here m cycle seen) o → o ≡ NoEffect
quiet_is c g o m ahead cycle sent seen h low at is alike known =
    let few : sent ≤ length g.output = sent_few c g cycle sent ahead h low at in
    let front = (sent_at c (Halt g.exit) (length g.touches) cycle g.output h.ends low).front in
    let state : begun ahead.core g.output sent ≡ after c cycle =
    ap (λ (k : Core). record { core = k; output = take sent g.output }) at.same_core
    ∙ ap (λ (n : ℕ). record { core = (after c cycle).core; output = take n g.output }) at.sent_is
    ∙ ap (λ (out : List ℕ). record { core = (after c cycle).core; output = out }) front in
    let rest : ending c (c.limit - cycle) (begun m.core g.output sent) ≡ Ended (Halt g.exit) (length g.touches - cycle) g.output =
    alike.ends (c.limit - cycle) (take sent g.output)
    ∙ ap (λ (s : State). ending c (c.limit - cycle) s) state
    ∙ rest_of c (Halt g.exit) (length g.touches) cycle g.output h.ends low in
    known.outcome 0 (take sent g.output) (sent_front g.output sent few ∙ sym is)
    ∙ sym (no_effect g.exit (length g.touches) cycle g.output (ending c (c.limit - cycle) (begun m.core g.output sent)) rest 0)

-- so how the run differs from the golden run tells its outcome
pub told_apart : (c : CaseData) (g : GoldenData) (own : Site) (apart : Apart) (m ahead : MachineData) (cycle sent : ℕ) (seen : Option ℕ) → IsGolden c g → cycle < length g.touches
    → IsAt c cycle ahead sent → seen ≡ Some sent → IsDifference c ahead.core m.core cycle apart → IsKnown c g (here m cycle seen) (outcome c own)
    → IsToldApart c own apart
told_apart c g own Nowhere m ahead cycle sent seen h low at is apart known = quiet_is c g (outcome c own) m ahead cycle sent seen h low at is apart known
told_apart c g own (InBit site) m ahead cycle sent seen h low at is apart known = later_is c g (outcome c own) site m ahead cycle sent seen h low at is apart known

pub told_if : (c : CaseData) (g : GoldenData) (own : Site) (found : Option Apart) (m ahead : MachineData) (cycle sent : ℕ) (seen : Option ℕ) → IsGolden c g → cycle < length g.touches
    → IsAt c cycle ahead sent → seen ≡ Some sent → IfSome found (λ apart. IsDifference c ahead.core m.core cycle apart) → IsKnown c g (here m cycle seen) (outcome c own)
    → IfSome found (λ apart. IsToldApart c own apart)
told_if c g own None m ahead cycle sent seen h low at is apart known = tt
told_if c g own (Some found) m ahead cycle sent seen h low at is apart known = told_apart c g own found m ahead cycle sent seen h low at is apart known

-- ---- a cell that is written before it is read

pub dead_soon : (c : CaseData) (g : GoldenData) (site : Site) (u : ℕ) → IsGolden c g → site.cycle < length g.touches → 1 ≤ site.cell
    → ((ram : ℕ) (pc : Bool) → next_touch (log_of g.touches ram pc) site.cell site.cycle ≡ Some (u, false)) → outcome c site ≡ NoEffect
unfolding is_dead log_of
dead_soon c g site u h low cell next =
    let one = first_one c.pc_cell in
    let dead : is_dead (log_of g.touches (length c.ram) c.pc_cell) site.cell site.cycle ≡ true = ap unread (next (length c.ram) c.pc_cell) in
    one_dead_cell c site (omega (arith, low, count_is c g h)) cell (sym (same_dead (log_of g.touches (length c.ram) c.pc_cell) (log c) site.cell site.cycle h.log (omega (arith, one, cell))) ∙ dead)

-- ---- what is known of a site, compared with the golden run

-- the number of steps of the golden run is not looked at
any_steps : (exit n m : ℕ) (out : List ℕ) (e : Ending) → compare (Ended (Halt exit) n out) e ≡ compare (Ended (Halt exit) m out) e
unfolding compare agrees
any_steps exit n m out (Ended (Halt value) steps output) = refl
any_steps exit n m out e = refl

pub outcome_any : (c : CaseData) (g : GoldenData) (site : Site) (e : Ending) → IsGolden c g → e ≡ injected c site → (n : ℕ) → outcome c site ≡ compare (Ended (Halt g.exit) n g.output) e
unfolding outcome
outcome_any c g site e h is n =
    ap (λ (x : Ending). compare x (injected c site)) h.ends ∙ any_steps g.exit (length g.touches) n g.output (injected c site) ∙ ap (compare (Ended (Halt g.exit) n g.output)) (sym is)

-- ---- the first site of a job

same_site_is : (a b : Site) → same_site a b ≡ true → a ≡ b
unfolding same_site
same_site_is a b h =
    let p = and_parts _ _ h in
    let q = and_parts _ _ p.1 in
    let cycle : a.cycle ≡ b.cycle = eqb-true _ _ p.0 in
    let cell : a.cell ≡ b.cell = eqb-true _ _ q.0 in
    let bit : a.bit ≡ b.bit = eqb-true _ _ q.1 in
    ap (λ (x : ℕ). record { cycle = x; cell = a.cell; bit = a.bit }) cycle ∙ ap (λ (x : ℕ). record { cycle = b.cycle; cell = x; bit = a.bit }) cell ∙ ap (λ (x : ℕ). record { cycle = b.cycle; cell = b.cell; bit = x }) bit

-- a site that belongs to a job has its outcome
of_job : (c : CaseData) (site job : Site) (o : Option Site) → MatchOption o (outcome c site ≡ NoEffect) (λ j. outcome c site ≡ outcome c j) → is_job o job ≡ true → outcome c site ≡ outcome c job
unfolding is_job
of_job c site job None h is = absurd cc
of_job c site job (Some j) h is = h ∙ ap (outcome c) (same_site_is j job is)

pub record HasFirst (c : CaseData) (job : Job) : Type 0 where
  pub is_job : IsJob c job
  pub some : 1 ≤ job.weight
  pub few : job.weight ≤ job.cycle + 1
  pub same : outcome c (record { cycle = job.cycle - (job.weight - 1); cell = job.cell; bit = job.bit }) ≡ outcome c (site_of job)

job_first : (c : CaseData) (site : Site) → IsSite (cycles c) (length c.ram) c.pc_cell site → is_read ((log c).access site.cycle site.cell) ≡ true → HasFirst c (with_weight (log c) site)
unfolding with_weight log site_of
job_first c site is read =
    let w = weight_is (log c) site is read in
    let le = since-le (log c) site.cell site.cycle in
    let first : site.cycle - (weight (log c) site - 1) ≡ since (log c) site.cell site.cycle = omega (arith, w, le) in
    let belongs = belongs_since (log c) site (since (log c) site.cell site.cycle) is.early read (omega arith) le in
    let here : IsSite (cycles c) (length c.ram) c.pc_cell (record site { cycle = since (log c) site.cell site.cycle }) =
    record { early = let e = is.early in omega (arith, e, le); low = is.low; in_cells = is.in_cells; in_bits = is.in_bits } in
    record {
      is_job = record { early = is.early; cell = (is.low, is.in_cells); bit = is.in_bits };
      some = omega (arith, w, le);
      few = omega (arith, w);
      same = rw first (of_job c (record site { cycle = since (log c) site.cell site.cycle }) site (job_of (log c) (record site { cycle = since (log c) site.cell site.cycle })) (site_outcome c _ here) belongs);
    }

firsts : (c : CaseData) → All (HasFirst c) (jobs_in c)
unfolding job_list jobs log
firsts c =
    let test : Site → Bool = λ site. is_read ((log c).access site.cycle site.cell) in
    let inside = All-filter test (λ site. IsSite (cycles c) (length c.ram) c.pc_cell site) (all_sites (log c)) (sites_hold (cycles c) (length c.ram) c.pc_cell (λ site. IsSite (cycles c) (length c.ram) c.pc_cell site) (λ site is. is)) in
    let reads = filter_passes test (all_sites (log c)) in
    All-map (HasFirst c) (with_weight (log c)) (jobs (log c)) (λ k d low. job_first c _ (inside k d low) (reads k d low))

pub has_first : (c : CaseData) (job : Job) → Contains (jobs_in c) job → HasFirst c job
has_first c job there = All-contains (HasFirst c) (jobs_in c) job (firsts c) there
