-- The texts of all workers of a page.
use Rattle.std.proofs.Common.{◌≡◌, ℕ, suc, ◌<◌, false, List, [], ◌∷◌, ◌++◌, length, refl, ap, ◌∙◌, arith}
use Rattle.std.specs.Prelude.{slice_index_or}
use Rattle.std.specs.List.{flat_map}
use Rattle.fs_model.specs.Case.{CaseData}
use Rattle.answer_pages.specs.declared.worker.Worker.{Worker}
use Rattle.answer_pages.specs.Workers.{EachAnswered, share_text, shares_text}

-- if each worker has answered, and none was refused memory, their texts are the lines of their shares
pub texts_are : (c : CaseData) (old new : List Worker) → length new ≡ length old → EachAnswered c old new → ((k : ℕ) (d : Worker) → k < length new → (slice_index_or new k d).refused ≡ false)
    → flat_map (λ (w : Worker). w.text.items) new ≡ shares_text c old
texts_are c [] [] long each none = refl
texts_are c [] (b ∷ new) long each none = absurd (omega (arith, long))
texts_are c (a ∷ old) [] long each none = absurd (omega (arith, long))
texts_are c (a ∷ old) (b ∷ new) long each none =
    ap (λ (x : List ℕ). x ++ flat_map (λ (w : Worker). w.text.items) new) ((each 0 a (omega arith)).text (none 0 b (omega arith)))
    ∙ ap (λ (x : List ℕ). share_text c a.claims.items ++ x)
    (texts_are c old new (omega (arith, long)) (λ k d low. each (suc k) d (omega arith)) (λ k d low. none (suc k) d (omega arith)))
