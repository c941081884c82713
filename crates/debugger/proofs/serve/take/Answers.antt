use Rattle.std.proofs.Common.{rules, arith, ◌<◌, length, take, drop, suc}
use Rattle.std.proofs.lemmas.List.{take_more}
use Rattle.std.proofs.Math.Seq.{split_at}
use Rattle.std.proofs.lemmas.Result.{err_from_is_err_and}
use Rattle.debugger.proofs.Breaking.{broken_in}
use Rattle.debugger.proofs.Serving.{served_more, served_none}
use Rattle.debugger.proofs.serve.take.Goals as goal

pub loop-byte-init : goal.loop-byte-init
loop-byte-init g c = record { faults = search rules; so_far = λ told. served_none _ _ }

pub loop-byte-preserved : goal.loop-byte-preserved
loop-byte-preserved g c =
    let lt : c.loop-byte.byte-index < length c.args.bytes.now = omega arith in
    record {
      faults = search rules;
      so_far = λ told. rw (take_more c.args.bytes.now c.loop-byte.byte-index 0 lt)
          (served_more _ _ _ _ _ _ _ _ (c.loop-byte.invariant.so_far told) (c.in_ok-take_byte.ensures.talk told));
    }

pub returns-in_err-take_byte-clause-broken : goal.returns-in_err-take_byte-clause-broken
returns-in_err-take_byte-clause-broken g c =
    let p = err_from_is_err_and c.from_residual.result c.from_residual.ensures.1 in
    let lt : c.loop-byte.byte-index < length c.args.bytes.now = omega arith in
    λ told. rw (p.1, p.2) (broken_in _ _ _ c.args.bytes.now (take c.loop-byte.byte-index c.args.bytes.now) (drop (suc c.loop-byte.byte-index) c.args.bytes.now) _ _ _ _ c.in_err-take_byte.ensures.input
    (split_at c.args.bytes.now c.loop-byte.byte-index 0 lt) (c.loop-byte.invariant.so_far told) (c.in_err-take_byte.ensures.broken told))
