-- The rows of a desk.
use Rattle.std.proofs.Common.{◌≡◌, ◌≢◌, ℕ, zero, suc, ◌^◌, ◌<◌, ◌≤◌, false, List, [], ◌∷◌, length, Option, Some, None, replicate, refl, sym, ap, ◌∙◌, subst, ⊎_elim, arith}
use Rattle.std.specs.Option.{is_some}
use Rattle.std.specs.Prelude.{slice_get, slice_set}
use Rattle.std.proofs.lemmas.Bool.{cases_eq}
use Rattle.std.proofs.lemmas.List.{length-set, length-replicate}
use Rattle.std.proofs.lemmas.List.Quantifiers.{position-Some}
use Rattle.std.proofs.lemmas.Option.{slice_get_within}
use Rattle.fs_model.specs.declared.sites.Site.{Site}
use Rattle.fs_model.specs.declared.outcomes.Outcome.{Outcome}
use Rattle.fs_model.specs.Outcome.{outcome}
use Rattle.fs_model.specs.Site.{same_site}
use Rattle.result_desk.specs.Page.{place_of}
use Rattle.result_desk.specs.Desk.{DeskData, HoldsRow, IsDesk}
use Rattle.result_desk.proofs.Search.{site_at}

pub empty : (x : Option Outcome) → is_some x ≡ false → x ≡ None
empty None h = refl
empty (Some o) h = absurd cc

set_here : (rows : List (Option Outcome)) (p : ℕ) (x : Option Outcome) → p < length rows → slice_get (slice_set rows p x) p ≡ Some x
set_here [] p x h = absurd (omega arith)
set_here (y ∷ ys) zero x h = refl
set_here (y ∷ ys) (suc p) x h = set_here ys p x (omega arith)

set_there : (rows : List (Option Outcome)) (i p : ℕ) (x : Option Outcome) → i ≢ p → slice_get (slice_set rows p x) i ≡ slice_get rows i
set_there [] i p x apart = refl
set_there (y ∷ ys) zero zero x apart = absurd (apart refl)
set_there (y ∷ ys) zero (suc p) x apart = refl
set_there (y ∷ ys) (suc i) zero x apart = refl
set_there (y ∷ ys) (suc i) (suc p) x apart = set_there ys i p x (λ e. apart (ap suc e))

-- the job at the first place of a name has the name
pub named_at : (sites : List Site) (site : Site) (p : ℕ) → place_of sites site ≡ Some p → slice_get sites p ≡ Some site
named_at sites site p is = let s = position-Some (same_site site) sites p site is in site_at sites site p site s.0 s.1

pub place_below : (d : DeskData) (site : Site) (p : ℕ) → IsDesk d → place_of d.sites site ≡ Some p → p < length d.rows
place_below d site p desk is = omega (arith, slice_get_within d.sites p site (named_at d.sites site p is), desk.whole)

-- a row more at the first place of its name
pub filed : (d : DeskData) (site : Site) (p : ℕ) (o : Outcome) (n : ℕ) → IsDesk d → place_of d.sites site ≡ Some p → o ≡ outcome d.case site → IsDesk (record d { rows = slice_set d.rows p (Some o); number = n })
filed d site p o n desk is right = record {
  whole = length-set d.rows p (Some o) ∙ desk.whole;
  few = desk.few;
  small = desk.small;
  right = λ i s x h. ⊎_elim
      (λ (e : i ≡ p). let q = here i s x h e in q.1 ∙ (right ∙ ap (λ (t : Site). outcome d.case t) (sym q.0)))
      (λ (ne : i ≡ p → ⊥). desk.right i s x (h.0, sym (set_there d.rows i p (Some o) ne) ∙ h.1))
      (cases_eq i p);
  first = λ i s x h. ⊎_elim
      (λ (e : i ≡ p). let q = here i s x h e in ap (λ (t : Site). place_of d.sites t) q.0 ∙ (is ∙ ap Some (sym e)))
      (λ (ne : i ≡ p → ⊥). desk.first i s x (h.0, sym (set_there d.rows i p (Some o) ne) ∙ h.1))
      (cases_eq i p);
}
  where
    here : (i : ℕ) (s : Site) (x : Outcome) → HoldsRow d.sites (slice_set d.rows p (Some o)) i s x → i ≡ p → (s ≡ site) × (x ≡ o)
    here i s x h e =
        let at : slice_get d.sites p ≡ Some s = subst (λ (k : ℕ). slice_get d.sites k ≡ Some s) e h.0 in
        let same : Some s ≡ Some site = sym at ∙ named_at d.sites site p is in
        let row : slice_get (slice_set d.rows p (Some o)) p ≡ Some (Some x) = subst (λ (k : ℕ). slice_get (slice_set d.rows p (Some o)) k ≡ Some (Some x)) e h.1 in
        let new : Some (Some x) ≡ Some (Some o) = sym row ∙ set_here d.rows p (Some o) (place_below d site p desk is) in
        (cc, cc)

no_row : (n place : ℕ) (o : Outcome) → slice_get (replicate n None) place ≡ Some (Some o) → ⊥
no_row zero place o h = cc
no_row (suc n) zero o h = cc
no_row (suc n) (suc place) o h = no_row n place o h

-- a page that begins has no rows
pub begun : (d : DeskData) (n : ℕ) → d.rows ≡ replicate n None → length d.sites ≡ n → n ≤ d.page → d.page < 2 ^ 32 → IsDesk d
begun d n blank long few small = record {
  whole = ap (λ (l : List (Option Outcome)). length l) blank ∙ (length-replicate n None ∙ sym long);
  few = omega arith;
  small = small;
  right = λ i s o h. absurd (none i o h.1);
  first = λ i s o h. absurd (none i o h.1);
}
  where
    none : (i : ℕ) (o : Outcome) → slice_get d.rows i ≡ Some (Some o) → ⊥
    none i o h = no_row n i o (ap (λ (l : List (Option Outcome)). slice_get l i) (sym blank) ∙ h)
