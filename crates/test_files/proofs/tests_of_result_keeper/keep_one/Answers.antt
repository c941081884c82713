use Rattle.std.proofs.Common.{◌≡◌, ◌∙◌, ap, refl, sym, List, Option, Some, None, Bool, not, false}
use Rattle.std.specs.Prelude.{slice_get, is_some}
use Rattle.fs_model.specs.declared.sites.Job.{Job}
use Rattle.fs_model.specs.declared.outcomes.Outcome.{Outcome}
use Rattle.fs_model.specs.Job.{site_of}
use Rattle.test_files.proofs.tests_of_result_keeper.keep_one.Goals as goal

blank_if : (place : Option Outcome) → is_some place ≡ false → place ≡ None
blank_if None is = refl
blank_if (Some o) is = absurd (cc)

pub append-requires-clause-blank : goal.append-requires-clause-blank
unfolding site_of
append-requires-clause-blank g c = (
  record {
    number = c.args.number;
    job = c.get-job.result;
    there = ap (λ (l : List Job). slice_get l c.args.number) c.requires.list ∙ c.get-job.ensures;
    named = refl;
    blank = ap (λ (b : List (Option Outcome)). slice_get b c.args.number) (sym c.board-2.ensures.value) ∙ c.get.ensures ∙ ap (λ (p : Option Outcome). Some p) (blank_if c.get.result (c.is_none.ensures ∙ ap (λ (b : Bool). not b) c.if-assert-2.false));
  },
  tt,
)
