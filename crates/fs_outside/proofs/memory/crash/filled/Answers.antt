use Rattle.std.proofs.Common.{◌≡◌, ◌<◌, List, ℕ, length, get_or, subst, ap, ◌∙◌, rules}
use Rattle.fs_outside.specs.declared.memory.tape.Call.{Call}
use Rattle.fs_outside.specs.Past.{Made, content}
use Rattle.fs_outside.specs.Memory.{tape_past}
use Rattle.fs_outside.specs.Replay.{IsFilled}
use Rattle.fs_outside.proofs.Elsewhere.{step_on}
use Rattle.fs_outside.proofs.memory.crash.filled.Goals as goal

pub loop-call-preserved : goal.loop-call-preserved
loop-call-preserved c =
    let calls = c.args.tape.now.calls.items in
    let k = c.loop-call.call-index in
    let lt : k < length calls = search rules in
    let read : c.call-item.result ≡ get_or calls k c.call-item.result =
    c.call-item.is ∙ ap (λ (l : List Call). get_or l k c.call-item.result) c.calls-call-items.ensures in
    let filled = subst (λ (b : List ℕ). IsFilled b c.args.byte c.loop-call.image.items c.call-item.result c.after_call.new.image.items) c.bytes-in-loop-call.ensures c.in_ok-after_call.ensures in
    let now = step_on (Made c.args.tape.now.made.items) calls k c.call-item.result c.args.byte
    (content (tape_past c.args.tape.now)) c.loop-call.image.items c.after_call.new.image.items lt read
    (record { size = c.loop-call.invariant.size; filled = c.loop-call.invariant.filled; same = c.loop-call.invariant.same }) filled in
    record { size = now.size; filled = now.filled; same = now.same }
