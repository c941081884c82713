-- Whether a budget was enough for the missing jobs, by what is left of them.
use Rattle.std.proofs.Common.{◌≡◌, ◌⊎◌, ⊎_elim, ℕ, ◌<◌, ◌≤◌, min, List, [], length, take, drop, Option, Some, None, refl, ap, ◌∙◌, arith}
use Rattle.std.proofs.lemmas.List.{drop_all, length-drop, length-take}
use Rattle.std.proofs.lemmas.Bool.{cases_lt}
use Rattle.fs_model.specs.Pages.{within_budget}

-- nothing is left: there were no more than the budget
pub was_enough : (budget : Option ℕ) (ns : List ℕ) → drop (length (within_budget budget ns)) ns ≡ [] → (most : ℕ) × (budget ≡ Some most) × (most < length ns) → ⊥
was_enough None ns none over = let is = over.1 in cc
was_enough (Some m) ns none over =
    let is = over.1 in
    let same : m ≡ over.0 = cc in
    let l = ap length none in
    omega (arith, l, same, over.2, length-drop (length (take m ns)) ns, length-take m ns)

-- something is left: there were more
pub was_short : (budget : Option ℕ) (ns : List ℕ) → (drop (length (within_budget budget ns)) ns ≡ [] → ⊥) → (most : ℕ) × (budget ≡ Some most) × (most < length ns)
was_short None ns some = absurd (some (drop_all (length ns) ns (omega arith)))
was_short (Some m) ns some =
    ⊎_elim
    (λ (less : m < length ns). (m, refl, less))
    (λ (all : length ns ≤ m). absurd (some (drop_all (length (take m ns)) ns (omega (arith, length-take m ns)))))
    (cases_lt m (length ns))
