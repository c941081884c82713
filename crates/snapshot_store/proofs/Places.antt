-- Places of snaps.
use Rattle.std.proofs.Common.{◌≡◌, ℕ, ◌+◌, ◌*◌, List, [], ◌∷◌, ◌++◌, length, refl, ap, ◌∙◌, ⊎_elim, arith}
use Rattle.std.proofs.lemmas.List.{get_or_append_left, get_or_push, length_push}
use Rattle.std.proofs.lemmas.Bool.{cases_eq}
use Rattle.fs_model.specs.Case.{CaseData}
use Rattle.snapshot_store.specs.Stored.{SnapData, IsSnap, AreSnaps}

pub more_snaps : (c : CaseData) (k t : ℕ) (old new : List SnapData) (s : SnapData) → new ≡ old ++ s ∷ [] → t ≡ length old * k → IsSnap c t s → AreSnaps c k old → AreSnaps c k new
more_snaps c k t old new s e is here before i other low =
    let len : length new ≡ length old + 1 = ap length e ∙ length_push old s in
    ⊎_elim (λ (h : i ≡ length old). rw (h, e, get_or_push old s other (length old) refl, ← is) here)
    (λ (ne : i ≡ length old → ⊥). rw (e, get_or_append_left old (s ∷ []) other i (omega arith)) (before i other (omega arith)))
    (cases_eq i (length old))

pub no_snaps : (c : CaseData) (k : ℕ) (list : List SnapData) → list ≡ [] → AreSnaps c k list
no_snaps c k list e i other low = absurd (let none : length list ≡ 0 = ap length e in omega arith)

-- a snap of the same case
pub snap_case : (c c' : CaseData) (t : ℕ) (s : SnapData) → c' ≡ c → IsSnap c' t s → IsSnap c t s
snap_case c c' t s e h = rw e at h
