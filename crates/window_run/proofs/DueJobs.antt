-- The missing jobs that are due in a window: which jobs a campaign that keeps to it runs, and whether any is left.
use Rattle.std.proofs.Common.{◌≡◌, ℕ, zero, suc, ◌+◌, ◌<◌, Bool, true, false, List, [], ◌∷◌, length, Option, Some, None, refl, ap, sym, ◌∙◌, arith}
use Rattle.std.specs.Prelude.{filter, slice_get}
use Rattle.std.proofs.Math.Path.{fun_ext}
use Rattle.std.proofs.lemmas.Option.{slice_get_within}
use Rattle.fs_model.specs.declared.outcomes.Outcome.{Outcome}
use Rattle.fs_model.specs.declared.sites.Job.{Job}
use Rattle.fs_model.specs.Case.{CaseData}
use Rattle.fs_model.specs.Job.{jobs_in}
use Rattle.fs_model.specs.Pages.{missing, missing_from}
use Rattle.window_counts.specs.Windows.{IsDueAt}
use Rattle.campaign.specs.Portions.{due, is_due_at, narrowed, within_window}
use Rattle.campaign.specs.Ready.{ReadyData, portion_of}
use Rattle.campaign.specs.Shards.{in_shard}
use Rattle.campaign.proofs.Due.{first_due, left_out, taken_in}
use Rattle.campaign.proofs.InWindow.{at_due, due_at}
use Rattle.window_run.specs.Ends.{HasEachDue, window_jobs}

-- ---- which jobs are run

-- of all jobs those that are due
all_due : (window : List Bool) (list : List Job) → narrowed (in_shard None) window list ≡ is_due_at window list
unfolding in_shard
all_due window list = fun_ext (λ number. refl)

pub portion_is : (ready : ReadyData) (window : List Bool) (c : CaseData) → ready.shard ≡ None → ready.window ≡ Some window → ready.keeper.case ≡ c → portion_of ready ≡ window_jobs window c
portion_is ready window c shard is case =
    ap (λ (s : Option (ℕ × ℕ)). within_window (in_shard s) ready.window (jobs_in ready.keeper.case)) shard
    ∙ ap (λ (w : Option (List Bool)). within_window (in_shard None) w (jobs_in ready.keeper.case)) is
    ∙ ap (λ (x : CaseData). within_window (in_shard None) (Some window) (jobs_in x)) case
    ∙ all_due window (jobs_in c)

-- ---- which are left

head_passes : (p : ℕ → Bool) (ns : List ℕ) (n : ℕ) (rest : List ℕ) → filter p ns ≡ n ∷ rest → p n ≡ true
head_passes p [] n rest e = absurd (cc)
head_passes p (m ∷ ns) n rest e = by (p m) refl (λ later. head_passes p ns n rest later)
  where
    by : (b : Bool) → p m ≡ b → (filter p ns ≡ n ∷ rest → p n ≡ true) → p n ≡ true
    by true is later =
        let whole : m ∷ filter p ns ≡ n ∷ rest = sym (taken_in p m ns is) ∙ e in
        let same : m ≡ n = cc in
        ap p (sym same) ∙ is
    by false is later = later (sym (left_out p m ns is) ∙ e)

-- with an outcome for each due job none is left
pub none_left : (window : List Bool) (c : CaseData) (board : List (Option Outcome)) → HasEachDue window c board → due (window_jobs window c) board ≡ []
none_left window c board each = by (due (window_jobs window c) board) refl
  where
    by : (ns : List ℕ) → due (window_jobs window c) board ≡ ns → ns ≡ []
    by [] is = refl
    by (n ∷ ns) is =
        let first = first_due (window_jobs window c) board n ns is in
        let blank = first.blank in
        let here = due_at window (jobs_in c) n (head_passes (window_jobs window c) (missing board) n ns is) in
        let low : n < length (jobs_in c) = slice_get_within (jobs_in c) n here.0 here.1 in
        let there = (each n here.0 low here.1 here.2).1 in
        absurd (cc)

left_from : (p : ℕ → Bool) (at : ℕ) (board : List (Option Outcome)) (i n : ℕ) → n ≡ at + i → slice_get board i ≡ Some None → p n ≡ true → filter p (missing_from at board) ≡ [] → ⊥
left_from p at [] i n is blank passes none = cc
left_from p at (None ∷ board) zero n is blank passes none =
    let same : at ≡ n = omega arith in
    let some : at ∷ filter p (missing_from (at + 1) board) ≡ [] = sym (taken_in p at (missing_from (at + 1) board) (ap p same ∙ passes)) ∙ none in
    cc
left_from p at (None ∷ board) (suc i) n is blank passes none = by (p at) refl (λ later. left_from p (at + 1) board i n (omega arith) blank passes later)
  where
    by : (b : Bool) → p at ≡ b → (filter p (missing_from (at + 1) board) ≡ [] → ⊥) → ⊥
    by true e later = let some : at ∷ filter p (missing_from (at + 1) board) ≡ [] = sym (taken_in p at (missing_from (at + 1) board) e) ∙ none in cc
    by false e later = later (sym (left_out p at (missing_from (at + 1) board) e) ∙ none)
left_from p at (Some o ∷ board) zero n is blank passes none = cc
left_from p at (Some o ∷ board) (suc i) n is blank passes none = left_from p (at + 1) board i n (omega arith) blank passes none

-- with a blank for a due job one is left
pub some_left : (window : List Bool) (c : CaseData) (board : List (Option Outcome)) (n : ℕ) → IsDueAt window (jobs_in c) n → slice_get board n ≡ Some None → due (window_jobs window c) board ≡ [] → ⊥
some_left window c board n is_due blank = left_from (window_jobs window c) 0 board n n (omega arith) blank (at_due window (jobs_in c) n is_due)
