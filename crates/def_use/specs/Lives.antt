-- The live sites by their index.
use Rattle.std.specs.Prelude.{◌≡◌, ℕ, ◌+◌, ◌-◌, ◌*◌, ◌<◌, ◌≤◌, List, length, take, flat_map, slice_index, sum_by}
use Rattle.fs_model.specs.declared.sites.Job.{Job}
use Rattle.def_use.specs.declared.pass.Read.{Read}
use Rattle.def_use.specs.Reads.{jobs_of_read}

-- how many sites belong to the jobs of these reads
abbrev pub live_in : List Read → ℕ
live_in reads = sum_by (λ (job : Job). job.weight) (flat_map jobs_of_read reads)

-- the live sites before each block of 64 reads, and last all of them
pub record AreLives (reads : List Read) (lives : List ℕ) : Type 0 where
  pub covers : length reads + 64 ≤ length lives * 64
  pub tight : length lives * 64 < length reads + 128
  pub each : (k : ℕ) → k + 1 < length lives → slice_index lives k ≡ live_in (take (k * 64) reads)
  pub all : slice_index lives (length lives - 1) ≡ live_in reads

-- the live site of this index is that of the index `left` in the read at this place
pub record IsLiveAt (reads : List Read) (index place left : ℕ) : Type 0 where
  pub inside : place < length reads
  pub before : live_in (take place reads) + left ≡ index
  pub above : index < live_in (take (place + 1) reads)

-- the job of this number holds the live site of this index: the weights before it are at most the index, and with its own above
pub record HoldsLive (list : List Job) (index number : ℕ) : Type 0 where
  pub inside : number < length list
  pub below : sum_by (λ (job : Job). job.weight) (take number list) ≤ index
  pub above : index < sum_by (λ (job : Job). job.weight) (take (number + 1) list)
