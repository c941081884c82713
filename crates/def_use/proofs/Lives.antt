-- The live sites by their index.
use Rattle.std.proofs.Common.{◌≡◌, ℕ, zero, suc, ◌+◌, ◌*◌, ◌/◌, ◌%◌, ◌<◌, ◌≤◌, List, [], ◌∷◌, ◌++◌, length, map, take, get_or, Some, refl, ap, ◌∙◌, ⊎_elim, arith}
use Rattle.std.specs.Prelude.{slice_get, slice_index, flat_map}
use Rattle.std.specs.List.{range_with_len, sum_by}
use Rattle.std.proofs.lemmas.List.Sums.{sum_by-append}
use Rattle.std.proofs.lemmas.List.{get_or_append_left, get_or_push, length-append, length_push, take-append-le}
use Rattle.std.proofs.Math.Seq.{take-append-add}
use Rattle.std.proofs.lemmas.Bool.{cases_lt}
use Rattle.std.proofs.lemmas.Option.{slice_get-get_or}
use Rattle.std.proofs.Math.Nat.{mul_comm, div-lt_iff_lt-mul, mul-div-le, lt-mul-div-succ}
use Rattle.fs_model.specs.declared.sites.Job.{Job}
use Rattle.fs_model.specs.Cell.{bits}
use Rattle.fs_model.proofs.Sums.{sum_map}
use Rattle.def_use.specs.declared.pass.Read.{Read}
use Rattle.def_use.specs.Reads.{read_jobs, jobs_of_read}
use Rattle.def_use.specs.Firsts.{AreFirsts}
use Rattle.def_use.specs.Lives.{live_in, IsLiveAt, HoldsLive}
use Rattle.def_use.proofs.Search.{none}
use Rattle.def_use.proofs.Numbers.{job_at, read_length, first_more, live_more, live_front, length_front, bits-le, sum_const}

-- ---- the table, as it is made

-- the live sites before each block that begins below i
pub record AreSoFar (reads : List Read) (lives : List ℕ) (i : ℕ) : Type 0 where
  pub covers : i ≤ length lives * 64
  pub tight : length lives * 64 < i + 64
  pub each : (k : ℕ) → k < length lives → slice_index lives k ≡ live_in (take (k * 64) reads)

pub block_more : (gs : List Read) (old new : List ℕ) (i live : ℕ) → AreSoFar gs old i → new ≡ old ++ live ∷ [] → live ≡ live_in (take i gs) → i % 64 ≡ 0 → AreSoFar gs new (i + 1)
block_more gs old new i live h e is zero_rest =
    let long : length new ≡ length old + 1 = ap length e ∙ length_push old live in
    let at : i ≡ length old * 64 = omega (arith, h.covers, h.tight, zero_rest) in
    record {
      covers = omega (arith, long, at);
      tight = omega (arith, long, at);
      each = λ k low. rw e (⊎_elim (λ (l : k < length old). get_or_append_left old (live ∷ []) 0 k l ∙ h.each k l)
          (λ (l : length old ≤ k). let same : length old ≡ k = omega (arith, low, long) in
          rw (← same) (get_or_push old live 0 (length old) refl ∙ is ∙ ap (λ n. live_in (take n gs)) at)) (cases_lt k (length old)));
    }

pub block_same : (gs : List Read) (lives : List ℕ) (i : ℕ) → AreSoFar gs lives i → (i % 64 ≡ 0 → ⊥) → AreSoFar gs lives (i + 1)
block_same gs lives i h ne =
    let apart : i ≡ length lives * 64 → ⊥ = λ e. ne (omega arith) in
    record { covers = omega (arith, h.covers, apart); tight = omega (arith, h.tight); each = h.each }

pub live_next : (gs : List Read) (i live : ℕ) → i < length gs → live ≡ live_in (take i gs) → (live + (get_or gs i none).weight * bits (get_or gs i none).cell ≡ live_in (take (i + 1) gs)) × (live_in (take (i + 1) gs) ≤ live_in gs)
live_next gs i live low is = (omega (arith, is, live_more gs i (get_or gs i none) (slice_get-get_or gs i none low)), live_front gs (i + 1))

-- ---- the first jobs of a read

take_range : (f : ℕ → Job) (a n k : ℕ) → k ≤ n → take k (map f (range_with_len a n)) ≡ map f (range_with_len a k)
take_range f a n zero h = refl
take_range f a zero (suc k) h = absurd (omega arith)
take_range f a (suc n) (suc k) h = ap (λ r. f a ∷ r) (take_range f (a + 1) n k (omega arith))

first_weights : (g : Read) (k : ℕ) → k ≤ bits g.cell → sum_by (λ (job : Job). job.weight) (take k (jobs_of_read g)) ≡ g.weight * k
unfolding read_jobs
first_weights g k h =
    ap (sum_by (λ (job : Job). job.weight)) (take_range (job_at g) 0 (bits g.cell) k h)
    ∙ sum_map (λ (job : Job). job.weight) (job_at g) (range_with_len 0 k) ∙ sum_const g.weight 0 k

-- the jobs up to one of a read
weights_up_to : (gs : List Read) (i : ℕ) (g : Read) (k : ℕ) → slice_get gs i ≡ Some g → k ≤ bits g.cell →
    sum_by (λ (job : Job). job.weight) (take (length (flat_map jobs_of_read (take i gs)) + k) (flat_map jobs_of_read gs)) ≡ live_in (take i gs) + g.weight * k
weights_up_to [] i g k e h = absurd cc
weights_up_to (x ∷ gs) zero g k e h =
    let same : x ≡ g = cc in
    let len = read_length g in
    let off : 0 + k ≡ k = omega arith in
    rw (same, off) (ap (sum_by (λ (job : Job). job.weight)) (take-append-le k (jobs_of_read g) (flat_map jobs_of_read gs) (omega arith)) ∙ first_weights g k h ∙ omega arith)
weights_up_to (x ∷ gs) (suc i) g k e h =
    let here = length-append (jobs_of_read x) (flat_map jobs_of_read (take i gs)) in
    let at : length (jobs_of_read x ++ flat_map jobs_of_read (take i gs)) + k ≡ length (jobs_of_read x) + (length (flat_map jobs_of_read (take i gs)) + k) = omega (arith, here) in
    ap (λ n. sum_by (λ (job : Job). job.weight) (take n (jobs_of_read x ++ flat_map jobs_of_read gs))) at
    ∙ ap (sum_by (λ (job : Job). job.weight)) (take-append-add (jobs_of_read x) (flat_map jobs_of_read gs) (length (flat_map jobs_of_read (take i gs)) + k))
    ∙ sum_by-append (λ (job : Job). job.weight) (jobs_of_read x) (take (length (flat_map jobs_of_read (take i gs)) + k) (flat_map jobs_of_read gs))
    ∙ ap (λ n. sum_by (λ (job : Job). job.weight) (jobs_of_read x) + n) (weights_up_to gs i g k e h)
    ∙ omega (arith, sum_by-append (λ (job : Job). job.weight) (jobs_of_read x) (flat_map jobs_of_read (take i gs)))

-- ---- the job of an index

-- the bit of a read whose job holds the live site of this index in the read
pub record IsBit (g : Read) (left bit : ℕ) : Type 0 where
  pub some : 0 < g.weight
  pub inside : bit < bits g.cell
  pub below : g.weight * bit ≤ left
  pub above : left < g.weight * (bit + 1)

live_inside : (gs : List Read) (index place left : ℕ) → IsLiveAt gs index place left → left < (get_or gs place none).weight * bits (get_or gs place none).cell
live_inside gs index place left h =
    omega (arith, live_more gs place (get_or gs place none) (slice_get-get_or gs place none h.inside), h.before, h.above)

some_weight : (w n left : ℕ) → left < w * n → 0 < w
some_weight zero n left h = absurd (omega arith)
some_weight (suc w) n left h = omega arith

pub bit_is : (gs : List Read) (index place left : ℕ) → IsLiveAt gs index place left → IsBit (get_or gs place none) left (left / (get_or gs place none).weight)
bit_is gs index place left h =
    let g = get_or gs place none in
    let in_it = live_inside gs index place left h in
    let some = some_weight g.weight (bits g.cell) left in_it in
    let turned : left < bits g.cell * g.weight = omega (arith, in_it, mul_comm g.weight (bits g.cell)) in
    record {
      some = some;
      inside = (div-lt_iff_lt-mul {k = g.weight} {x = left} {y = bits g.cell} some).1 turned;
      below = mul-div-le left g.weight;
      above = lt-mul-div-succ left some;
    }

pub holds_live : (gs : List Read) (firsts : List ℕ) (index place left bit number : ℕ) → AreFirsts gs firsts → IsLiveAt gs index place left → IsBit (get_or gs place none) left bit → number ≡ slice_index firsts place + bit →
    HoldsLive (flat_map jobs_of_read gs) index number
holds_live gs firsts index place left bit number are h is e =
    let g = get_or gs place none in
    let there = slice_get-get_or gs place none h.inside in
    let first = are.each place (omega (arith, h.inside)) in
    let at : number ≡ length (flat_map jobs_of_read (take place gs)) + bit = omega (arith, e, first) in
    let next : number + 1 ≡ length (flat_map jobs_of_read (take place gs)) + (bit + 1) = omega (arith, e, first) in
    let low = weights_up_to gs place g bit there (omega (arith, is.inside)) in
    let high = weights_up_to gs place g (bit + 1) there (omega (arith, is.inside)) in
    record {
      inside = omega (arith, at, first_more gs place g there, length_front gs (place + 1), is.inside);
      below = rw at (omega (arith, low, is.below, h.before));
      above = rw next (omega (arith, high, is.above, h.before));
    }

pub number_low : (gs : List Read) (firsts : List ℕ) (index place left bit : ℕ) → AreFirsts gs firsts → IsLiveAt gs index place left → IsBit (get_or gs place none) left bit →
    (bit ≤ 32) × (slice_index firsts place + bit < length (flat_map jobs_of_read gs))
number_low gs firsts index place left bit are h is =
    (omega (arith, is.inside, bits-le (get_or gs place none).cell), (holds_live gs firsts index place left bit _ are h is refl).inside)
