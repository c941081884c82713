-- A job is in one place.
use Rattle.std.proofs.Common.{ℕ, ◌≡◌, ◌<◌, ◌≤◌, ◌==◌, ◌↔◌, Bool, true, false, List, refl, sym, ap, ◌∙◌, subst, arith}
use Rattle.std.specs.List.{list_any}
use Rattle.event_core.specs.EventCore.{CoreState, IsPlaced, times_listed, times_in}
use Rattle.event_core.specs.declared.states.Place.{Place}
use Rattle.event_core.specs.declared.states.Place.TheVariants.{Nowhere, Queue, Hand, Filed, Kept}
use Rattle.event_core.specs.State.{StandsAt}
use Rattle.event_core.proofs.Counts.{count-none, held-holds, holder-same}
use Rattle.event_core.proofs.Placed.{times_in-le}
use Rattle.event_core.proofs.Steps.{count-some}

at-same : (s : CoreState) (job : ℕ) → times_in s job ≤ 1 → (p q : Place) → StandsAt s job p → StandsAt s job q → p ≡ q
at-same s job one Nowhere Nowhere x y = refl
at-same s job one Queue Queue x y = refl
at-same s job one Filed Filed x y = refl
at-same s job one Kept Kept x y = refl
at-same s job one (Hand v) (Hand w) x y = ap Hand (holder-same v w job s.hands x y (omega arith))
at-same s job one (Hand v) q x y = let held = held-holds v job s.hands x in absurd (omega (arith, held))
at-same s job one p (Hand w) x y = let held = held-holds w job s.hands y in absurd (omega (arith, held))
at-same s job one p q x y = absurd (omega arith)

-- the place of the job is this one and no other
abbrev pub IsOnly : CoreState → ℕ → Place → Type 0
IsOnly s job p = (place : Place) → (p ≡ place) ↔ StandsAt s job place

pub is_only : (jobs : ℕ) (s t : CoreState) (job : ℕ) (p : Place) → IsPlaced jobs s → s ≡ t → StandsAt s job p → IsOnly t job p
is_only jobs s t job p h e here =
    let P : CoreState → Type 0 = λ u. IsOnly u job p in
    subst P e (λ place. (λ same. subst (λ (q : Place). StandsAt s job q) same here, λ there. at-same s job (times_in-le jobs s h job) p place here there))

-- what the answer of a `contains` says, over what a list holds
pub stands : (items xs : List ℕ) (job : ℕ) (r : Bool) → xs ≡ items → r ≡ list_any (λ y. y == job) xs → r ≡ true → 0 < times_listed job items
stands items xs job r e is found = count-some (λ y. y == job) items (ap (λ q. list_any (λ y. y == job) q) (sym e) ∙ sym is ∙ found)

pub stands_not : (items xs : List ℕ) (job : ℕ) (r : Bool) → xs ≡ items → r ≡ list_any (λ y. y == job) xs → r ≡ false → times_listed job items ≡ 0
stands_not items xs job r e is missed = count-none (λ y. y == job) items (ap (λ q. list_any (λ y. y == job) q) (sym e) ∙ sym is ∙ missed)
