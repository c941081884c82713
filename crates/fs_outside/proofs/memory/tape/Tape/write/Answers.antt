use Rattle.std.proofs.Common.{◌≡◌, ◌≤◌, ℕ, List, length, ◌∙◌, ap, sym, subst, rules}
use Rattle.fs_outside.specs.declared.memory.tape.Call.TheVariants.{Write}
use Rattle.fs_outside.specs.Past.{Made, Wrote, overwritten}
use Rattle.fs_outside.specs.Replay.{replayed}
use Rattle.fs_outside.proofs.Replays.{replayed-push}
use Rattle.fs_outside.proofs.Tapes.{after_write_call}
use Rattle.fs_outside.proofs.memory.tape.Tape.write.Goals as goal

pub invariant_of-self-2 : goal.invariant_of-self-2
invariant_of-self-2 c =
    let same : c.in_ok-taken.taken.items ≡ c.args.taken.now = search rules in
    let over : c.in_ok-next.next.items ≡ overwritten c.args.self.now.bytes.items c.args.at c.in_ok-taken.taken.items =
    c.in_ok-next.ensures
    ∙ ap (λ (b : List ℕ). overwritten b c.args.at c.args.taken.now) c.deref.ensures.value
    ∙ ap (overwritten c.args.self.now.bytes.items c.args.at) (sym same) in
    let fits : length c.in_ok-taken.taken.items ≤ c.args.count =
    subst (λ (t : List ℕ). length t ≤ c.args.count) (sym same) c.requires.fits in
    let now = after_write_call (Made c.args.self.now.made.items) c.args.self.now.calls.items _
    c.args.self.now.bytes.items _ c.args.self.now.synced.items c.args.at c.args.count c.in_ok-taken.taken
    c.in_ok-push.ensures.items over c.requires.within fits
    c.args.self.now.settled c.args.self.now.reads c.args.self.now.image in
    record { settled = now.settled; reads = now.reads; image = now.image }

pub returns-clause-ok : goal.returns-clause-ok
returns-clause-ok c =
    let same : c.in_ok-taken.taken.items ≡ c.args.taken.now = search rules in
    ap (replayed (Made c.args.self.now.made.items)) c.in_ok-push.ensures.items
    ∙ replayed-push (Made c.args.self.now.made.items) c.args.self.now.calls.items (Write c.args.at c.args.count c.in_ok-taken.taken)
    ∙ ap (λ t. Wrote (replayed (Made c.args.self.now.made.items) c.args.self.now.calls.items) c.args.at c.args.count t) same
