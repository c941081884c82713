-- What a call leaves by a `?`: the failure that the refusal of the part is.
use Rattle.std.proofs.Common.{◌≡◌, ℕ, ◌≤◌, List, length, Result, Err, refl, ap, ◌∙◌}
use Rattle.std.specs.Prelude.{IsErrAnd}
use Rattle.std.proofs.lemmas.Result.{err_from_is_err_and}
use Rattle.command_line.specs.Line.{CaseLineData}
use Rattle.fs_model.specs.Case.{CaseData}
use Rattle.fs_model.specs.Run.{golden}
use Rattle.elf_loader.specs.Image.{Refuses, image}
use Rattle.elf_loader.specs.declared.faults.LoadRefusal.{LoadRefusal}
use Rattle.elf_loader.specs.declared.faults.LoadRefusal.TheVariants as load
use Rattle.golden_trace.specs.Goldens.{IsGoldenRefusal}
use Rattle.golden_trace.specs.declared.good.GoldenRefusal.{GoldenRefusal}
use Rattle.golden_trace.specs.declared.good.GoldenRefusal.TheVariants as run
use Rattle.phases.specs.Baselines.{HasNoBaseline}
use Rattle.report.specs.declared.refusal.ReportRefusal.{ReportRefusal}
use Rattle.report.specs.declared.refusal.ReportRefusal.TheVariants as report
use Rattle.phases.specs.Failures.{of_golden, of_load, of_report, status_for}
use Rattle.phases.specs.Loading.{Faulty, IsImageCause, max_image}
use Rattle.phases.specs.Status.{IsWriting}
use Rattle.phases.specs.declared.failure.Failure.{Failure}

pub left_by : {T : Type 0} (r : Result T Failure) (why : Failure) → IsErrAnd r (λ y. y ≡ why) → r ≡ Err why
left_by r why is = let left = err_from_is_err_and r is in left.1 ∙ ap Err left.2

pub load_refused : (asked : CaseLineData) (bytes : List ℕ) (refusal : LoadRefusal) → length bytes ≤ max_image → Refuses refusal (image bytes asked.map asked.limit)
    → IsImageCause asked bytes (status_for (of_load refusal))
load_refused asked bytes (load.Fault fault) fits is = Faulty fault refl fits is
load_refused asked bytes load.NoMemory fits is = tt

pub golden_refused : (c : CaseData) (refusal : GoldenRefusal) → IsGoldenRefusal refusal c.limit (golden c) → HasNoBaseline c (status_for (of_golden refusal))
golden_refused c (run.Fault fault) is = is
golden_refused c run.NoMemory is = tt

pub report_writes : (refusal : ReportRefusal) → IsWriting (status_for (of_report refusal))
report_writes report.Failed = tt
report_writes report.NoMemory = tt
