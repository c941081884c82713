use Rattle.std.proofs.Common.{◌≡◌, ◌+◌, ◌-◌, ◌++◌}
use Rattle.hex.specs.Hex.{encode_lower}
use Rattle.debug_session.specs.Texts.{readable}
use Rattle.debug_session.proofs.replies.put_readable.Given as goal

abbrev pub invariant-loop-place : goal.invariant-loop-place
invariant-loop-place l = l.text.items ++ encode_lower (readable l.case l.ram (l.at + l.place) (l.count - l.place)) ≡ l.fn.text.items ++ encode_lower (readable l.case l.ram l.at l.count)
