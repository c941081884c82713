use Rattle.std.proofs.Common.{ap, ◌∙◌}
use Rattle.fs_model.specs.Case.{CaseData}
use Rattle.fs_model.specs.Run.{cycles}
use Rattle.worker_pool.specs.CrewData.{CrewData}
use Rattle.experiment.proofs.JobSites.{count_is}
use Rattle.worker_pool.proofs.CrewCases.{snaps_are}
use Rattle.worker_pool.proofs.crew.Crew.snaps.Goals as goal

pub returns : goal.returns
returns g c =
    let s = c.self.inside.shared in
    let i = c.self.invariant.shared in
    let seen = c.args.self.now in
    let same = ap (λ (r : CrewData). r.case) c.self.view_is in
    snaps_are s.snaps seen.case seen.spacing (cycles seen.case) (i.snaps_case ∙ same) (ap (λ (r : CrewData). r.spacing) c.self.view_is)
    (i.snaps_count ∙ (count_is s.case.now s.golden.now i.golden_is ∙ ap (λ (x : CaseData). cycles x) same))
