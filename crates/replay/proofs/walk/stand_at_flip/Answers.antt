use Rattle.std.proofs.Common.{ap, ◌∙◌}
use Rattle.fs_model.specs.Cell.{flip}
use Rattle.fs_model.specs.Machine.{Core}
use Rattle.fs_model.specs.Run.{flipped}
use Rattle.rv_machine.specs.Machines.{MachineData}
use Rattle.replay.proofs.walk.stand_at_flip.Goals as goal

pub returns-clause-core : goal.returns-clause-core
unfolding flipped
returns-clause-core c = ap (λ (m : MachineData). m.core) c.flip.ensures ∙ ap (λ (x : Core). flip x c.args.site.now.cell c.args.site.now.bit) c.stand_before.ensures.core
