use Rattle.std.proofs.Common.{ap, ◌∙◌}
use Rattle.std.proofs.lemmas.Option.{slice_get_within}
use Rattle.access_log.specs.LogData.{LogData}
use Rattle.fs_model.specs.Map.{MapData}
use Rattle.fs_model.specs.AccessLog.{log}
use Rattle.access_log.specs.LogData.{log_in}
use Rattle.debugger.proofs.Debugging.{of_space}
use Rattle.debugger.proofs.Weights.{log_same, weight_dead, weight_live}
use Rattle.debugger.proofs.facts.weight_of.Goals as goal

pub job_of-requires-clause-site : goal.job_of-requires-clause-site
job_of-requires-clause-site c =
    let log = c.without_index-log.ensures in
    of_space c.args.case.now c.args.golden.now c.args.site.now c.without_index-log.result c.requires.golden c.requires.site
    (ap (λ (l : LogData). l.touches) log ∙ c.touches.ensures.value) (ap (λ (l : LogData). l.ram) log ∙ ap (λ (m : MapData). m.ram_size) c.map.ensures) (ap (λ (l : LogData). l.pc) log ∙ c.pc_cell.ensures)

pub get-requires : goal.get-requires
get-requires c =
    let is = c.in-Some.ensures in
    slice_get_within c.in_ok-list.list.list c.in-Some.number is.0 is.1

pub returns-in-Some : goal.returns-in-Some
returns-in-Some c =
    let l = c.without_index-log.result in
    let is = c.without_index-log.ensures in
    let touches = ap (λ (x : LogData). x.touches) is ∙ c.touches.ensures.value in
    let ram = ap (λ (x : LogData). x.ram) is ∙ ap (λ (m : MapData). m.ram_size) c.map.ensures in
    let pc = ap (λ (x : LogData). x.pc) is ∙ c.pc_cell.ensures in
    let space = of_space c.args.case.now c.args.golden.now c.args.site.now l c.requires.golden c.requires.site touches ram pc in
    let same = log_same c.args.case.now c.args.golden.now l c.requires.golden touches ram pc in
    weight_live (log_in l) (log c.args.case.now) c.args.site.now same space c.in_ok-list.list c.in-Some.number c.get.result c.in_ok-list.ensures c.in-Some.ensures c.get.ensures

pub returns : goal.returns
returns c =
    let l = c.without_index-log.result in
    let is = c.without_index-log.ensures in
    let touches = ap (λ (x : LogData). x.touches) is ∙ c.touches.ensures.value in
    let ram = ap (λ (x : LogData). x.ram) is ∙ ap (λ (m : MapData). m.ram_size) c.map.ensures in
    let pc = ap (λ (x : LogData). x.pc) is ∙ c.pc_cell.ensures in
    let space = of_space c.args.case.now c.args.golden.now c.args.site.now l c.requires.golden c.requires.site touches ram pc in
    let same = log_same c.args.case.now c.args.golden.now l c.requires.golden touches ram pc in
    weight_dead (log_in l) (log c.args.case.now) c.args.site.now same space c.in_ok-list.list.list c.in-None.ensures
