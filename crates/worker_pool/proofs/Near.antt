-- The kept states that known runs use.
use Rattle.std.proofs.Common.{◌≡◌, ℕ, length, Option, Some, None, Result, Ok, Err, ◌∙◌}
use Rattle.std.specs.Prelude.{IfOk, IfSome}
use Rattle.std.specs.Result.{result_ok}
use Rattle.fs_model.specs.Case.{CaseData}
use Rattle.snapshot_store.specs.Stored.{SnapsData}
use Rattle.worker_pool.specs.declared.own_desk.CaseLedger.{Ghosts}
use Rattle.worker_pool.specs.declared.shared.Shared.{Shared}
use Rattle.worker_pool.specs.Workers.{IsNear, IsShared, near_of, nearest_of}
use Rattle.std.proofs.Math.Nat.{mod_self}

either : (c : CaseData) (count spacing : ℕ) (near : Option SnapsData) (snaps : SnapsData) → IfSome near (λ n. IsNear c count spacing n) → IsNear c count spacing snaps → IsNear c count spacing (nearest_of near snaps)
either c count spacing None snaps some none = none
either c count spacing (Some near) snaps some none = some

pub near_is : {K : Type 0} {G : Ghosts K} (s : Shared K G) → IsShared s → IsNear s.case.now (length s.golden.now.touches) s.snaps.spacing (near_of s)
near_is s is = either s.case.now (length s.golden.now.touches) s.snaps.spacing s.near s.snaps is.near
    (record { same_case = is.snaps_case; same_count = is.snaps_count; divides = mod_self s.snaps.spacing })

-- what was made for this case, if there was memory for it
pub made_for : {E : Type 0} (made : Result CaseData E) (c d : CaseData) → IfOk made (λ k. k ≡ c) → c ≡ d → IfSome (result_ok made) (λ k. k ≡ d)
made_for (Ok k) c d is same = is ∙ same
made_for (Err e) c d is same = tt
