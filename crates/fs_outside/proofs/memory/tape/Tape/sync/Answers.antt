use Rattle.std.proofs.Common.{◌≡◌, ◌∙◌, ap, rules}
use Rattle.fs_outside.specs.declared.memory.tape.Call.TheVariants.{Sync}
use Rattle.fs_outside.specs.Past.{Made}
use Rattle.fs_outside.specs.Replay.{replayed}
use Rattle.fs_outside.proofs.Replays.{replayed-push}
use Rattle.fs_outside.proofs.Tapes.{after_sync_call}
use Rattle.fs_outside.proofs.memory.tape.Tape.sync.Goals as goal

pub invariant_of-self-2 : goal.invariant_of-self-2
invariant_of-self-2 c =
    let same : c.in_ok-synced.synced.items ≡ c.args.self.now.bytes.items = search rules in
    let now = after_sync_call (Made c.args.self.now.made.items) c.args.self.now.calls.items _
    c.args.self.now.bytes.items c.in_ok-synced.synced.items c.in_ok-push.ensures.items same c.args.self.now.reads in
    record { settled = now.settled; reads = now.reads; image = now.image }

pub returns-clause-ok : goal.returns-clause-ok
returns-clause-ok c =
    ap (replayed (Made c.args.self.now.made.items)) c.in_ok-push.ensures.items
    ∙ replayed-push (Made c.args.self.now.made.items) c.args.self.now.calls.items Sync
