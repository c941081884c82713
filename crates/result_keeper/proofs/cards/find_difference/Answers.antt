use Rattle.result_keeper.proofs.Differences.{differ_more, differ_here, differ_past, differ_short, differ_not}
use Rattle.std.proofs.Common.{ℕ, ◌<◌, ◌≤◌, ◌≡◌, length, arith, sym, ◌∙◌, ap, Some}
use Rattle.fs_model.specs.Card.{card}
use Rattle.result_keeper.proofs.cards.find_difference.Goals as goal

pub loop-i-preserved : goal.loop-i-preserved
loop-i-preserved c = differ_more c.args.bytes.now (card c.args.case.now) c.loop-i.i _ c.loop-i.invariant c.card_at.result c.loop-i-test.true c.card_at.ensures c.if-byte-card_at.false

pub returns-then-i-len : goal.returns-then-i-len
returns-then-i-len c =
    let past : length (card c.args.case.now) ≤ c.loop-i.i = omega (arith, c.card_len-len.ensures, c.if-i-len.true) in
    differ_past c.args.bytes.now (card c.args.case.now) c.loop-i.i _ c.loop-i.invariant c.loop-i-test.true past

pub returns-then-byte-card_at : goal.returns-then-byte-card_at
returns-then-byte-card_at c = differ_here c.args.bytes.now (card c.args.case.now) c.loop-i.i _ c.loop-i.invariant c.card_at.result c.loop-i-test.true c.card_at.ensures c.if-byte-card_at.true

pub returns-then-bytes-len : goal.returns-then-bytes-len
returns-then-bytes-len c =
    let end : c.loop-i.i ≡ length c.args.bytes.now = omega arith in
    let short : c.loop-i.i < length (card c.args.case.now) = omega (arith, c.card_len-len.ensures, c.if-bytes-len.true, end) in
    ap (λ (n : ℕ). Some n) (sym end) ∙ differ_short c.args.bytes.now (card c.args.case.now) c.loop-i.i _ c.loop-i.invariant (omega (arith, end)) short

pub returns : goal.returns
returns c =
    let end : c.loop-i.i ≡ length c.args.bytes.now = omega arith in
    differ_not c.args.bytes.now (card c.args.case.now) c.loop-i.i _ c.loop-i.invariant (omega (arith, end)) (omega (arith, c.card_len-len.ensures, c.if-bytes-len.false, end))
