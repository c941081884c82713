-- Kept states.
use Rattle.std.proofs.Common.{◌≡◌, ℕ, ◌+◌, ◌*◌, List, [], ◌∷◌, ◌++◌, length, Option, refl, ap, ◌∙◌, ⊎_elim, arith}
use Rattle.std.proofs.lemmas.List.{get_or_append_left, get_or_push, length_push}
use Rattle.std.proofs.lemmas.Bool.{cases_eq}
use Rattle.fs_model.specs.declared.sites.Site.{Site}
use Rattle.fs_model.specs.Case.{CaseData}
use Rattle.timeline.specs.Kept.{KeptData, IsStateKept, IsKeptTo}

pub keep_more : (c : CaseData) (flips : Option Site) (spacing n next : ℕ) (old new : List KeptData) (k : KeptData) → new ≡ old ++ k ∷ [] → n ≡ next → IsStateKept c flips n k
    → IsKeptTo c flips spacing old next → IsKeptTo c flips spacing new (next + spacing)
keep_more c flips spacing n next old new k e here is h =
    let len : length new ≡ length old + 1 = ap length e ∙ length_push old k in
    let place : n ≡ length old * spacing = here ∙ h.next_is in
    record {
      states = λ i other low.
          ⊎_elim (λ (at : i ≡ length old). rw (at, e, get_or_push old k other (length old) refl, ← place) is)
          (λ (no : i ≡ length old → ⊥). rw (e, get_or_append_left old (k ∷ []) other i (omega arith)) (h.states i other (omega arith)))
          (cases_eq i (length old));
      next_is = let was = h.next_is in rw len (grind arith);
    }
