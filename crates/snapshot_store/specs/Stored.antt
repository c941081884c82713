-- What a store of snaps is.
use Rattle.std.specs.Prelude.{ℕ, ◌≡◌, ◌-◌, ◌*◌, ◌/◌, ◌%◌, ◌<◌, ◌≤◌, ◌==◌, nat_lt, ◌&&◌, Bool, List, length, get_or, min}
use Rattle.fs_model.specs.Case.{CaseData}
use Rattle.rv_machine.specs.Machines.{MachineData}
use Rattle.snapshot_store.specs.Along.{IsAt}

pub record SnapData : Type 0 where
  pub cycle : ℕ
  pub machine : MachineData
  pub sent : ℕ

-- the snap of cycle t
pub record IsSnap (c : CaseData) (t : ℕ) (s : SnapData) : Type 0 where
  pub cycle_is : s.cycle ≡ t
  pub stands : IsAt c t s.machine s.sent

-- a store keeps the multiples of the spacing below the count
pub record SnapsData : Type 0 where
  pub case : CaseData
  pub spacing : ℕ
  pub count : ℕ

-- the kept cycles are the multiples of k below n
abbrev pub is_kept : ℕ → ℕ → ℕ → Bool
is_kept k n cycle = nat_lt cycle n && (cycle % k == 0)

-- the greatest multiple of k that is not above
abbrev pub kept_below : ℕ → ℕ → ℕ
kept_below k cycle = cycle / k * k

-- the greatest kept cycle that is not above
abbrev pub kept_at_most : ℕ → ℕ → ℕ → ℕ
kept_at_most k n cycle = kept_below k (min cycle (n - 1))

-- ---- the order of the snaps

-- the snaps at the multiples of k, in order
abbrev pub AreSnaps : CaseData → ℕ → List SnapData → Type 0
AreSnaps c k list = (i : ℕ) (other : SnapData) → i < length list → IsSnap c (i * k) (get_or list i other)

-- they are all those below n
pub record IsStore (c : CaseData) (k n : ℕ) (list : List SnapData) : Type 0 where
  pub spaced : 1 ≤ k
  pub enough : n ≤ length list * k
  pub snaps : AreSnaps c k list
