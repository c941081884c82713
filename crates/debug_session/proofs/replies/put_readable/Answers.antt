use Rattle.std.proofs.Common.{◌≡◌, ◌+◌, ◌-◌, arith, refl}
use Rattle.debug_session.proofs.Reading.{read_more, read_last, read_all}
use Rattle.debug_session.proofs.replies.put_readable.Goals as goal

pub loop-place-init : goal.loop-place-init
loop-place-init c =
    let at : c.args.at + 0 ≡ c.args.at = omega arith in
    let count : c.args.count - 0 ≡ c.args.count = omega arith in
    rw (at, count) refl

pub loop-place-preserved : goal.loop-place-preserved
loop-place-preserved c =
    read_more c.args.case.now c.args.ram.now c.loop-place.text.items c.push_hex.new.out.items _ (c.args.at + c.loop-place.place) (c.args.at + (c.loop-place.place + 1))
    (c.args.count - c.loop-place.place) (c.args.count - (c.loop-place.place + 1)) c.in-Some.byte (omega arith) (omega arith) (omega arith) c.in-Some.ensures c.in_ok-push_hex-in-Some.ensures c.loop-place.invariant

pub returns-in-None : goal.returns-in-None
returns-in-None c =
    read_last c.args.case.now c.args.ram.now c.loop-place.text.items _ (c.args.at + c.loop-place.place) (c.args.count - c.loop-place.place) c.in-None.ensures (omega arith) c.loop-place.invariant

pub returns : goal.returns
returns c =
    read_all c.args.case.now c.args.ram.now c.loop-place.text.items _ (c.args.at + c.loop-place.place) (c.args.count - c.loop-place.place) (omega arith) c.loop-place.invariant
