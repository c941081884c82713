use Rattle.std.proofs.Common.{rules, ◌≡◌}
use Rattle.fs_model.specs.Word.{shift_left}
use Rattle.counting_loops.proofs.Wrapping.{moved_shift}
use Rattle.counting_loops.proofs.paces.shifted.Goals as goal

pub returns-in-By : goal.returns-in-By
returns-in-By c =
    let by : c.wrapping_shl.result ≡ shift_left c.in-By.d c.args.count = search rules in
    λ i p x f. rw by (moved_shift c.args.a c.in-By.d i p x c.args.count c.in-By.is f)
