use Rattle.std.proofs.Common.{◌≡◌, ◌<◌, ℕ, length, take, get_or}
use Rattle.fs_outside.specs.Past.{Made, IsWritten, content}
use Rattle.fs_outside.specs.Memory.{tape_past}
use Rattle.fs_outside.specs.Replay.{replayed}
use Rattle.fs_outside.proofs.memory.crash.filled.Given as goal

abbrev pub invariant-loop-call : goal.invariant-loop-call
invariant-loop-call l = record {
  size : length l.image.items ≡ length (content (tape_past l.tape));
  filled : (i : ℕ) → i < length l.image.items
      → IsWritten (replayed (Made l.tape.made.items) (take l.call-index l.tape.calls.items)) i
      → get_or l.image.items i 0 ≡ l.byte;
  same : (i : ℕ) → (IsWritten (replayed (Made l.tape.made.items) (take l.call-index l.tape.calls.items)) i → ⊥)
      → get_or l.image.items i 0 ≡ get_or (content (tape_past l.tape)) i 0;
}
