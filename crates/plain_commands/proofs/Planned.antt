-- The plan of a case, by the jobs that were found.
use Rattle.std.proofs.Common.{◌≡◌, ℕ, length, sym, ◌∙◌, ap}
use Rattle.fs_model.specs.AccessLog.{log}
use Rattle.fs_model.specs.Case.{CaseData}
use Rattle.fs_model.specs.Job.{JobTable, jobs_of}
use Rattle.fs_model.specs.Run.{cycles}
use Rattle.fs_model.specs.Site.{sites_of}
use Rattle.golden_trace.specs.Goldens.{GoldenData, IsGolden}
use Rattle.command_line.specs.declared.commands.Format.{Format}
use Rattle.phases.proofs.Reported.{cycles_is}
use Rattle.plain_commands.specs.Plans.{plan_by, plan_in}

pub plan_is : (asked : Format) (c : CaseData) (g : GoldenData) (n s : ℕ) (t : JobTable) → IsGolden c g → n ≡ length g.touches → t ≡ jobs_of (log c) → s ≡ length (sites_of c) → plan_in asked n s t ≡ plan_by asked c
plan_is asked c g n s t h is jobs sum =
    ap (λ (k : ℕ). plan_in asked k s t) (is ∙ sym (cycles_is c g h)) ∙ ap (λ (k : ℕ). plan_in asked (cycles c) k t) sum ∙ ap (λ (u : JobTable). plan_in asked (cycles c) (length (sites_of c)) u) jobs
