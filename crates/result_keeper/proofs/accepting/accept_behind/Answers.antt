use Rattle.std.proofs.Common.{refl, sym, subst}
use Rattle.keep_format.specs.KeepFile.{kept_from}
use Rattle.keep_format.specs.Reading.{IsRefusal}
use Rattle.result_keeper.specs.BoardRefusals.{IsNoBoard}
use Rattle.result_keeper.proofs.Once.{once_of}
use Rattle.result_keeper.proofs.Headers.{some_if}
use Rattle.result_keeper.proofs.Opened.{refused_batches, ends_refused, ends_accepted}
use Rattle.result_keeper.proofs.accepting.accept_behind.Goals as goal

pub returns-in-Err-Fault-clause-refused : goal.returns-in-Err-Fault-clause-refused
returns-in-Err-Fault-clause-refused c =
    λ known. subst (IsNoBoard c.args.file.now c.args.case.now) (sym c.refused.ensures)
    (refused_batches c.args.file.now c.args.case.now (some_if c.args.file.now c.args.header known.is) c.args.header known.is known.same c.in-Err-Fault.fault
    (subst (IsRefusal (kept_from c.args.file.now c.args.header.gate)) c.in-Err-Fault.field-0-is c.in-Err-Fault.ensures.refused))

pub file_kept-requires-clause-once : goal.file_kept-requires-clause-once
file_kept-requires-clause-once c = once_of c.args.case.now c.args.list.now.list c.requires.jobs

pub returns-in-Some-clause-refused : goal.returns-in-Some-clause-refused
returns-in-Some-clause-refused c =
    λ known. subst (IsNoBoard c.args.file.now c.args.case.now) (sym c.refused-in-Some.ensures)
    (ends_refused c.args.file.now c.args.case.now (some_if c.args.file.now c.args.header known.is) c.args.header known.is known.same c.in-Ok.kept c.in-Ok.ensures.kept
    c.args.list.now.list c.requires.jobs c.iter.result c.iter.ensures c.in-Some.at c.in-Some.ensures.stranger)

pub returns-in-None-clause-accepted : goal.returns-in-None-clause-accepted
returns-in-None-clause-accepted c =
    λ known. ends_accepted c.args.file.now c.args.case.now (some_if c.args.file.now c.args.header known.is) c.args.header known.is known.same c.in-Ok.kept c.in-Ok.ensures.kept
    c.args.list.now.list c.requires.jobs c.iter.result c.iter.ensures c.args.blank c.file_kept.new.board c.gate-gate.result
    c.in-None.ensures.stranger c.requires.blank (c.in-None.ensures.board refl) c.gate-gate.ensures
