-- A call more in a record.
use Rattle.std.proofs.Common.{◌≡◌, List, [], ◌∷◌, ◌++◌, refl}
use Rattle.fs_outside.specs.declared.memory.tape.Call.{Call}
use Rattle.fs_outside.specs.Past.{Past}
use Rattle.fs_outside.specs.Replay.{next, replayed}

pub replayed-push : (past : Past) (calls : List Call) (call : Call)
    → replayed past (calls ++ call ∷ []) ≡ next (replayed past calls) call
replayed-push past [] call = refl
replayed-push past (c ∷ calls) call = replayed-push (next past c) calls call
