-- What the run of a job leaves, and what is left where the board has its outcome.
use Rattle.std.proofs.Common.{◌≡◌, ℕ, ◌<◌, ◌^◌, List, Option, Some, None, sym, ap, ◌∙◌, arith}
use Rattle.std.specs.Prelude.{slice_get, slice_set}
use Rattle.std.proofs.lemmas.List.{set-get_or}
use Rattle.std.proofs.lemmas.Option.{get_or_from_slice_get}
use Rattle.fs_model.specs.declared.sites.Job.{Job}
use Rattle.fs_model.specs.declared.outcomes.Outcome.{Outcome}
use Rattle.fs_model.specs.Case.{CaseData}
use Rattle.fs_model.specs.Run.{cycles}
use Rattle.fs_model.specs.Outcome.{outcome}
use Rattle.fs_model.specs.Job.{site_of, jobs_in, HasOutcomes}
use Rattle.experiment.specs.Jobs.{steps_of_job}
use Rattle.snapshot_store.specs.Along.{Rose}
use Rattle.def_use.specs.Board.{place_at, put_in}
use Rattle.campaign.specs.Draw.{IsDrawRun}

same_board : (board : List (Option Outcome)) (n : ℕ) (o : Outcome) → slice_get board n ≡ Some (Some o) → board ≡ slice_set board n (Some o)
same_board board n o at = sym (ap (slice_set board n) (sym (get_or_from_slice_get board n (Some o) None at)) ∙ set-get_or board n None)

pub known_run : (c : CaseData) (spacing : ℕ) (list : List Job) (job : Job) (n : ℕ) (o : Outcome) (board : List (Option Outcome)) (taken : ℕ) → list ≡ jobs_in c → slice_get (jobs_in c) n ≡ Some job →
    slice_get board n ≡ Some (Some o) → HasOutcomes (outcome c) list board → taken < 2 ^ 64 → IsDrawRun c spacing job n o board board taken taken
known_run c spacing list job n o board taken lists at there right small = record {
  outcome_is = right n job o (rw lists at) there;
  board = same_board board n o there;
  taken = let place : place_at board n ≡ Some o = get_or_from_slice_get board n (Some o) None there in rw place (omega (arith, small));
}

pub new_run : (c : CaseData) (spacing count : ℕ) (list : List Job) (job got : Job) (n : ℕ) (o : Outcome) (board new : List (Option Outcome)) (before after : ℕ) → list ≡ jobs_in c → slice_get (jobs_in c) n ≡ Some job →
    slice_get list n ≡ Some got → slice_get board n ≡ Some None → o ≡ outcome c (site_of got) → new ≡ put_in board n (place_at board n) o → count ≡ cycles c → Rose before (steps_of_job c spacing count got) after → IsDrawRun c spacing job n o board new before after
new_run c spacing count list job got n o board new before after lists at found there is put counts rose =
    let some : ◌≡◌ {A = Option Job} (Some got) (Some job) = sym found ∙ ap (λ (l : List Job). slice_get l n) lists ∙ at in
    let same : got ≡ job = cc in
    let place : place_at board n ≡ None = get_or_from_slice_get board n None None there in
    record {
      outcome_is = is ∙ ap (λ (j : Job). outcome c (site_of j)) same;
      board = put ∙ ap (λ p. put_in board n p o) place;
      taken = rw place (rw (counts, same) at rose);
    }
