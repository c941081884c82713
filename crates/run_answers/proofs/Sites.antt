-- The jobs of a case are sites of its fault space.
use Rattle.std.proofs.Common.{◌≡◌, ℕ, ◌<◌, List, length, ap, subst, ◌∙◌, arith}
use Rattle.std.specs.Prelude.{All}
use Rattle.std.proofs.lemmas.List.Elements.{All-filter, All-map, All-get_or}
use Rattle.std.proofs.lemmas.Option.{get_or_from_slice_get, slice_get_within}
use Rattle.fs_model.specs.declared.sites.Job.{Job}
use Rattle.fs_model.specs.Case.{CaseData}
use Rattle.fs_model.specs.Cell.{IsCell, bits, flip}
use Rattle.fs_model.specs.Machine.{Core}
use Rattle.fs_model.specs.Run.{cycles, after, flipped}
use Rattle.fs_model.specs.AccessLog.{log, jobs, all_sites, is_read}
use Rattle.fs_model.specs.Job.{job_list, jobs_in, with_weight, log_of}
use Rattle.fs_model.proofs.SiteList.{sites_hold}
use Rattle.golden_trace.specs.Goldens.{GoldenData, IsGolden}
use Rattle.run_answers.specs.Reference.{IsJobIn}

-- a job's cycle is one of the golden run, its cell one of the case, and its bit one of the cell
pub record IsSiteOf (c : CaseData) (job : Job) : Type 0 where
  pub early : job.cycle < cycles c
  pub cell : IsCell c job.cell
  pub bit : job.bit < bits job.cell

jobs_are : (c : CaseData) → All (IsSiteOf c) (job_list (log c))
unfolding job_list jobs log with_weight
jobs_are c =
    All-map (IsSiteOf c) (with_weight (log c)) (jobs (log c))
    (All-filter (λ site. is_read ((log c).access site.cycle site.cell)) (λ site. IsSiteOf c (with_weight (log c) site)) (all_sites (log c))
    (sites_hold (cycles c) (length c.ram) c.pc_cell (λ site. IsSiteOf c (with_weight (log c) site))
    (λ site is. record { early = is.early; cell = (is.low, is.in_cells); bit = is.in_bits })))

pub site_is : (c : CaseData) (job : Job) → IsJobIn c job → IsSiteOf c job
site_is c job h =
    subst (IsSiteOf c) (get_or_from_slice_get (jobs_in c) h.number job job h.at)
    (All-get_or (IsSiteOf c) (jobs_in c) h.number job (slice_get_within (jobs_in c) h.number job h.at) (jobs_are c))

-- a golden run has as many instructions as lists of touches
count_is : (c : CaseData) (g : GoldenData) → IsGolden c g → length g.touches ≡ cycles c
unfolding log log_of
count_is c g h = h.log.cycles

pub early_is : (c : CaseData) (g : GoldenData) (job : Job) → IsGolden c g → IsJobIn c job → job.cycle < length g.touches
early_is c g job h is = let early = (site_is c job is).early in let count = count_is c g h in omega (arith, early, count)

-- the state with the flip
pub flip_is : (c : CaseData) (job : Job) (core : Core) (out : List ℕ) → core ≡ flip (after c job.cycle).core job.cell job.bit → out ≡ (after c job.cycle).output
    → record { core = core; output = out } ≡ flipped (after c job.cycle) job.cell job.bit
unfolding flipped
flip_is c job core out e is =
    ap (λ (x : Core). record { core = x; output = out }) e ∙ ap (λ (x : List ℕ). record { core = flip (after c job.cycle).core job.cell job.bit; output = x }) is
