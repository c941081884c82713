use Rattle.std.proofs.Common.{◌*◌, Bool, ap, ◌∙◌}
use Rattle.fs_model.specs.Map.{MapData}
use Rattle.fs_model.specs.Laws.{bits_of_all}
use Rattle.phases.proofs.Reported.{sites_is}
use Rattle.phases.proofs.baseline.sites_of_case.Goals as goal

pub returns : goal.returns
returns c =
    sites_is c.args.case.now c.args.golden.now c.count.result c.map.result.ram_size c.space_size.result c.requires c.count.ensures.value (ap (λ (m : MapData). m.ram_size) c.map.ensures)
    (c.space_size.ensures ∙ ap (λ (pc : Bool). c.count.result * bits_of_all c.map.result.ram_size pc) c.pc_cell.ensures)
