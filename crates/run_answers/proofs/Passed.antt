-- The states that a run has passed, as they are noted and kept.
use Rattle.std.proofs.Common.{◌≡◌, ℕ, ◌+◌, ◌<◌, ◌≤◌, List, inl, inr, length, set, subst, sym, arith}
use Rattle.std.specs.Prelude.{slice_index_or}
use Rattle.std.proofs.lemmas.List.{get_or-set_other}
use Rattle.std.proofs.lemmas.Grind.{get_or-set_at}
use Rattle.std.proofs.lemmas.Bool.{cases_eq}
use Rattle.fs_model.specs.Case.{CaseData}
use Rattle.run_answers.specs.Answers.{Answer}
use Rattle.run_answers.specs.Kept.{IsPassed}
use Rattle.run_answers.specs.declared.kept.PassedState.{PassedState}

-- the first states of a list
abbrev pub EachPassed : CaseData → Answer → List PassedState → ℕ → Type 0
EachPassed c a xs n = (k : ℕ) (d : PassedState) → k < n → IsPassed c a (slice_index_or xs k d)

-- a write behind them changes none of them
pub passed_kept : (c : CaseData) (a : Answer) (xs : List PassedState) (n i : ℕ) (s : PassedState) → n ≤ i → EachPassed c a xs n → EachPassed c a (set xs i s) n
passed_kept c a xs n i s low each = λ k d few. subst (IsPassed c a) (sym (get_or-set_other xs i k s d (omega arith))) (each k d few)

-- one more is noted behind them
pub passed_more : (c : CaseData) (a : Answer) (xs : List PassedState) (n : ℕ) (s : PassedState) → n < length xs → IsPassed c a s → EachPassed c a xs n → EachPassed c a (set xs n s) (n + 1)
passed_more c a xs n s low is each = λ k d few. elim (cases_eq k n) [
  | inl same ↦ subst (IsPassed c a) (sym (get_or-set_at xs n k s d same low)) is
  | inr other ↦ subst (IsPassed c a) (sym (get_or-set_other xs n k s d other)) (each k d (omega (arith, other)))
]
