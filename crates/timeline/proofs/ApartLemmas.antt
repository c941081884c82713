-- Going along two runs until they differ.
use Rattle.std.proofs.Common.{◌≡◌, ℕ, ◌+◌, ◌-◌, ◌≤◌, Bool, true, false, Option, Some, None, refl, ap, ◌∙◌, arith}
use Rattle.std.specs.Prelude.{min}
use Rattle.fs_model.specs.declared.sites.Site.{Site}
use Rattle.fs_model.specs.Case.{CaseData}
use Rattle.timeline.specs.Apart.{apart_at, is_apart}
use Rattle.timeline.specs.Places.{state_at, place_from, last_of}
use Rattle.timeline.specs.Timelines.{TimelineData}
use Rattle.timeline.proofs.Searches.{first_no, first_stays, first_yes}
use Rattle.timeline.proofs.StopLemmas.{IsSame, same_first}

-- none so far
pub record Parting (t u t' u' : TimelineData) (from place : ℕ) : Type 0 where
  pub same : IsSame t t'
  pub other : IsSame u u'
  pub none : place_from (apart_at t.case t.flip u.flip) from (place - from) ≡ None

-- no number is below itself
pub first_none : (c : CaseData) (f g : Option Site) (from k : ℕ) → k ≡ 0 → place_from (apart_at c f g) from k ≡ None
unfolding place_from
first_none c f g from k e = rw e refl

pub part_first : (t u : TimelineData) (from place : ℕ) → place ≡ from → Parting t u t u from place
part_first t u from place e = record { same = same_first t; other = same_first u; none = first_none t.case t.flip u.flip from (place - from) (omega arith) }

-- the other run stands still at its last place
pub stands_at : (u u' : TimelineData) (place n last : ℕ) → u' ≡ record u { place = n } → n ≡ min place last → last ≡ last_of u.case u.flip
    → u' ≡ record u { place = min place (last_of u.case u.flip) }
stands_at u u' place n last e is end = e ∙ ap (λ (k : ℕ). record u { place = k }) (is ∙ ap (λ (k : ℕ). min place k) end)

-- whether they differ at a place
pub at_apart : (t u t' u' : TimelineData) (place : ℕ) (b : Bool) → u.case ≡ t.case → t' ≡ record t { place = place } → u' ≡ record u { place = min place (last_of u.case u.flip) }
    → b ≡ is_apart (state_at t'.case t'.flip t'.place) (state_at u'.case u'.flip u'.place) → b ≡ apart_at t.case t.flip u.flip place
at_apart t u t' u' place b one here there told =
    told
    ∙ ap (λ (x : TimelineData). is_apart (state_at x.case x.flip x.place) (state_at u'.case u'.flip u'.place)) here
    ∙ ap (λ (x : TimelineData). is_apart (state_at t.case t.flip place) (state_at x.case x.flip x.place)) there
    ∙ ap (λ (c : CaseData). is_apart (state_at t.case t.flip place) (state_at c u.flip (min place (last_of c u.flip)))) one

module _ (t u : TimelineData) (from place last : ℕ) (low : from ≤ place) (high : place ≤ last) (none : place_from (apart_at t.case t.flip u.flip) from (place - from) ≡ None) where
  pub part_on : apart_at t.case t.flip u.flip place ≡ false → place_from (apart_at t.case t.flip u.flip) from (place + 1 - from) ≡ None
  part_on off = let more : place + 1 - from ≡ place - from + 1 = omega arith in rw more (first_no (apart_at t.case t.flip u.flip) from (place - from) place (omega arith) none off)

  pub part_found : apart_at t.case t.flip u.flip place ≡ true → place_from (apart_at t.case t.flip u.flip) from (last + 1 - from) ≡ Some place
  part_found is =
      first_stays (apart_at t.case t.flip u.flip) from (place - from + 1) (last + 1 - from) place (omega arith) (first_yes (apart_at t.case t.flip u.flip) from (place - from) place (omega arith) none is)
