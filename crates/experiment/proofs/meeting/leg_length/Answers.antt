use Rattle.std.proofs.Common.{inl, ◌%◌, ◌<◌, ◌≤◌, arith}
use Rattle.std.proofs.Math.Nat.{mod-lt}
use Rattle.experiment.proofs.meeting.leg_length.Goals as goal

pub returns-then-at-from-clause-short : goal.returns-then-at-from-clause-short
returns-then-at-from-clause-short c =
    let k = c.args.reference.now.snaps.now.spacing in
    let some : 1 ≤ k = omega (arith, c.spacing-spacing.ensures.some, c.spacing-spacing.ensures.value) in
    let rest : c.args.at % k < k = mod-lt c.args.at {m = k} (omega (arith, some)) in
    inl (omega (arith, rest, some))
