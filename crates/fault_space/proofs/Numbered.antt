-- The jobs of a read by their numbers, for a pass over all reads.
use Rattle.std.proofs.Common.{◌≡◌, ℕ, ◌+◌, ◌-◌, ◌<◌, ◌≤◌, Some, List, length, take, get_or, refl, ap, ◌∙◌, arith}
use Rattle.std.specs.Prelude.{slice_get, flat_map}
use Rattle.std.proofs.lemmas.List.{take_all}
use Rattle.std.proofs.lemmas.Option.{slice_get-get_or}
use Rattle.fs_model.specs.declared.sites.Job.{Job}
use Rattle.fs_model.specs.Cell.{bits}
use Rattle.def_use.specs.declared.pass.Read.{Read}
use Rattle.def_use.specs.Reads.{jobs_of_read}
use Rattle.def_use.proofs.Numbers.{first_more, get_job, length_front}

abbrev pub no_read : Read
no_read = record { cycle = 0; cell = 0; weight = 0 }

-- the numbers of the jobs of a read
pub numbers : (list : List Job) (reads : List Read) (i first count : ℕ) → flat_map jobs_of_read reads ≡ list → i < length reads → first ≡ length (flat_map jobs_of_read (take i reads)) → count ≡ bits (get_or reads i no_read).cell →
    (first + count ≡ length (flat_map jobs_of_read (take (i + 1) reads))) × (first + count ≤ length list)
numbers list reads i first count jobs low is bits =
    let more = first_more reads i (get_or reads i no_read) (slice_get-get_or reads i no_read low) in
    (omega arith, omega (arith, more, length_front reads (i + 1), ap length jobs))

-- the job of a number is one of the read
pub record IsJobOf (list : List Job) (number : ℕ) (read : Read) : Type 0 where
  pub job : Job
  pub there : slice_get list number ≡ Some job
  pub cycle : job.cycle ≡ read.cycle
  pub cell : job.cell ≡ read.cell
  pub weight : job.weight ≡ read.weight

pub job_of : (list : List Job) (reads : List Read) (i first count number : ℕ) → flat_map jobs_of_read reads ≡ list → i < length reads → first ≡ length (flat_map jobs_of_read (take i reads)) → count ≡ bits (get_or reads i no_read).cell →
    first ≤ number → number < first + count → IsJobOf list number (get_or reads i no_read)
job_of list reads i first count number jobs low is bits from to =
    let read = get_or reads i no_read in
    let here = slice_get-get_or reads i no_read low in
    let more = first_more reads i read here in
    record {
      job = record { cycle = read.cycle; cell = read.cell; bit = number - length (flat_map jobs_of_read (take i reads)); weight = read.weight };
      there = rw (← jobs) (get_job reads i read number here (omega arith) (omega arith));
      cycle = refl;
      cell = refl;
      weight = refl;
    }

-- at the end all are summed
pub all_read : (list : List Job) (reads : List Read) (i first : ℕ) → flat_map jobs_of_read reads ≡ list → length reads ≤ i → first ≡ length (flat_map jobs_of_read (take i reads)) → length list ≤ first
all_read list reads i first jobs end is =
    let all : length (flat_map jobs_of_read (take i reads)) ≡ length list = ap (λ rs. length (flat_map jobs_of_read rs)) (take_all i reads end) ∙ ap length jobs in
    omega arith
