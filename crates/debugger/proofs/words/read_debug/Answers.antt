use Rattle.std.proofs.Common.{◌≡◌, ap}
use Rattle.std.specs.Prelude.{Some, None, Err}
use Rattle.command_line.specs.Replay.{replay_data}
use Rattle.command_line.specs.declared.line.LineRefusal.{LineRefusal}
use Rattle.debugger.proofs.Debugging.{line_of, no_line}
use Rattle.debugger.proofs.words.read_debug.Goals as goal

pub returns-in-Some-clause-ok : goal.returns-in-Some-clause-ok
returns-in-Some-clause-ok c =
    let site = c.in-Some.ensures in
    line_of _ (replay_data c.in-Ok.asked) (Some c.in-Some.site) c.in-Ok.ensures.ok (rw c.as_slice.ensures.value at site)

pub returns-clause-usage : goal.returns-clause-usage
returns-clause-usage c = λ usage.
    let site = c.in-None.ensures in
    line_of _ (replay_data c.in-Ok.asked) None c.in-Ok.ensures.ok (rw c.as_slice.ensures.value at site)

pub returns-in-Err-clause-usage : goal.returns-in-Err-clause-usage
returns-in-Err-clause-usage c = λ usage.
    let same : c.in-Err.refusal ≡ LineRefusal.Usage = cc in
    no_line _ (c.in-Err.ensures.usage (ap Err same))
