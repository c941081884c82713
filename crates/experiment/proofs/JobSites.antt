-- The jobs of a case are sites of its fault space.
use Rattle.std.proofs.Common.{◌≡◌, ℕ, ◌<◌, List, length, Some, ap, subst, ◌∙◌, ⊎_elim, arith}
use Rattle.std.specs.Prelude.{Contains, slice_get, All}
use Rattle.std.proofs.lemmas.List.Elements.{All-filter, All-map, All-get_or}
use Rattle.std.proofs.lemmas.Option.{get_or_from_slice_get, slice_get_within}
use Rattle.fs_model.specs.declared.sites.Job.{Job}
use Rattle.fs_model.specs.Case.{CaseData}
use Rattle.fs_model.specs.Cell.{IsCell, bits}
use Rattle.fs_model.specs.Run.{cycles, golden, start, Halt, Ended}
use Rattle.fs_model.proofs.Fate.{no_end}
use Rattle.std.proofs.lemmas.Bool.{cases_eq}
use Rattle.fs_model.specs.AccessLog.{log, jobs, all_sites, is_read}
use Rattle.fs_model.specs.Job.{job_list, with_weight, log_of}
use Rattle.golden_trace.specs.Goldens.{GoldenData, IsGolden}
use Rattle.fs_model.proofs.SiteList.{sites_hold}
pub use Rattle.fs_model.proofs.Tables.{list_of, dead_of}

-- a job's cycle is one of the golden run, its cell one of the case, and its bit one of the cell
pub record IsJob (c : CaseData) (job : Job) : Type 0 where
  pub early : job.cycle < cycles c
  pub cell : IsCell c job.cell
  pub bit : job.bit < bits job.cell

pub jobs_are : (c : CaseData) → All (IsJob c) (job_list (log c))
unfolding job_list jobs log with_weight
jobs_are c =
    All-map (IsJob c) (with_weight (log c)) (jobs (log c))
    (All-filter (λ site. is_read ((log c).access site.cycle site.cell)) (λ site. IsJob c (with_weight (log c) site)) (all_sites (log c))
    (sites_hold (cycles c) (length c.ram) c.pc_cell (λ site. IsJob c (with_weight (log c) site))
    (λ site is. record { early = is.early; cell = (is.low, is.in_cells); bit = is.in_bits })))

all_at : {X : Type 0} (P : X → Type 0) (xs : List X) (i : ℕ) (x : X) → All P xs → slice_get xs i ≡ Some x → P x
all_at P xs i x all at = subst P (get_or_from_slice_get xs i x x at) (All-get_or P xs i x (slice_get_within xs i x at) all)

pub job_is : (c : CaseData) (list : List Job) (i : ℕ) (job : Job) → list ≡ job_list (log c) → slice_get list i ≡ Some job → IsJob c job
job_is c list i job e at = all_at (IsJob c) (job_list (log c)) i job (jobs_are c) (rw e at at)

-- what a number gives is one of the list
pub listed : (xs ys : List Job) (i : ℕ) (job : Job) → xs ≡ ys → slice_get xs i ≡ Some job → Contains ys job
listed xs ys i job e at = let there : slice_get ys i ≡ Some job = rw e at at in (i, slice_get_within ys i job there, get_or_from_slice_get ys i job job there)

-- a golden run has as many instructions as lists of touches
pub count_is : (c : CaseData) (g : GoldenData) → IsGolden c g → length g.touches ≡ cycles c
unfolding log log_of
count_is c g h = h.log.cycles

-- and that is one at least
pub some_steps : (c : CaseData) (g : GoldenData) → IsGolden c g → 0 < length g.touches
unfolding golden
some_steps c g h = ⊎_elim (λ (none : length g.touches ≡ 0). absurd (no_end c c.limit (start c) (Halt g.exit) g.output (h.ends ∙ ap (λ (n : ℕ). Ended (Halt g.exit) n g.output) none))) (λ (some : length g.touches ≡ 0 → ⊥). omega arith) (cases_eq (length g.touches) 0)
