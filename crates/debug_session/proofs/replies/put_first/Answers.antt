use Rattle.std.proofs.Common.{append_assoc}
use Rattle.std.specs.Prelude.{codes, decimal}
use Rattle.hex.specs.Hex.{encode_lower}
use Rattle.debug_session.proofs.replies.put_first.Goals as goal

pub returns-in_ok-push_hex-in-Some-2 : goal.returns-in_ok-push_hex-in-Some-2
returns-in_ok-push_hex-in-Some-2 c =
    let told = c.push_hex-in-Some-2.ensures in
    rw c.in-Some.is (rw (
      c.in_ok-push_hex-in-Some-2.ensures,
      c.in_ok-push_hex-in-Some.ensures,
      c.requires,
      c.as_bytes.ensures.value,
      c.format.ensures.text,
      append_assoc (encode_lower (codes "the runs differ after ")) (encode_lower (decimal c.in-Some.place)) (encode_lower (codes " instructions\n")),
    ) at told)

pub returns-in-None : goal.returns-in-None
returns-in-None c = let told = c.push_hex-in-None.ensures in rw c.in-None.is (rw c.requires at told)
