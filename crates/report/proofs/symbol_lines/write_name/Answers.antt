use Rattle.std.proofs.Common.{◌≡◌, ℕ, ◌+◌, ◌-◌, ◌≤◌, ◌&&◌, Bool, true, false, cond, List, length, sym, ap, ◌∙◌, ⊎_elim, arith}
use Rattle.std.specs.Prelude.{map, nat_le, slice_index, take, drop}
use Rattle.std.proofs.lemmas.Bool.{cases_eq}
use Rattle.fs_outside.proofs.Writes.{writes_part}
use Rattle.report.specs.Symbols.{shown}
use Rattle.report.proofs.Behind.{behind}
use Rattle.report.proofs.SymbolTexts.{ArePlain, name_more, name_part, name_rest}
use Rattle.report.proofs.symbol_lines.write_name.Goals as goal
use Rattle.report.proofs.symbol_lines.write_name.Goals.{then-not-is_visible+in_ok-write_pieces, else-not-is_visible}

-- a byte that is visible, or not
visible : (byte : ℕ) (b : Bool) → b ≡ (nat_le 0x21 byte && nat_le byte 0x7E) → b ≡ true → shown byte ≡ byte
visible byte b is yes' = ap (λ v. cond v byte 63) (sym is ∙ yes')

marked : (byte : ℕ) (b : Bool) → b ≡ (nat_le 0x21 byte && nat_le byte 0x7E) → b ≡ false → shown byte ≡ 63
marked byte b is no' = ap (λ v. cond v byte 63) (sym is ∙ no')

one_plain : (name : List ℕ) (from at : ℕ) → ArePlain name from at → shown (slice_index name at) ≡ slice_index name at → ArePlain name from (at + 1)
one_plain name from at before here i low high =
    ⊎_elim (λ (e : i ≡ at). rw e here) (λ (ne : i ≡ at → ⊥). before i low (omega arith)) (cases_eq i at)

pub returns-in_err-write_pieces-clause-bytes : goal.returns-in_err-write_pieces-clause-bytes
returns-in_err-write_pieces-clause-bytes g c =
    λ told. writes_part _ _ _ _ c.from_residual.ensures.0
    (name_part _ _ _ c.args.name.now c.loop-at.from c.loop-at.at c.loop-at.invariant.order c.loop-at-test.true c.loop-at.invariant.plain
    (marked (slice_index c.args.name.now c.loop-at.at) c.is_visible.result c.is_visible.ensures c.if-not-is_visible.true) (c.loop-at.invariant.so_far told) (c.in_err-write_pieces.ensures.bytes told))

pub loop-at-preserved : goal.loop-at-preserved
loop-at-preserved g c =
    elim c.if-not-is_visible.branch [
      | then-not-is_visible+in_ok-write_pieces w ↦
          rw (w.out-is, w.from-is) (record {
            order = omega arith;
            plain = λ i low high. absurd (omega arith);
            faults = w.in_ok-write_pieces.ensures.cause ∙ c.loop-at.invariant.faults;
            so_far = λ told.
                name_more _ _ _ c.args.name.now c.loop-at.from c.loop-at.at c.loop-at.invariant.order c.loop-at-test.true c.loop-at.invariant.plain
                (marked (slice_index c.args.name.now c.loop-at.at) c.is_visible.result c.is_visible.ensures w.if-not-is_visible.true) (c.loop-at.invariant.so_far told) (w.in_ok-write_pieces.ensures.bytes told);
          })
      | else-not-is_visible w ↦
          rw (w.out-is, w.from-is) (record {
            order = omega (arith, c.loop-at.invariant.order);
            plain = one_plain c.args.name.now c.loop-at.from c.loop-at.at c.loop-at.invariant.plain
                (visible (slice_index c.args.name.now c.loop-at.at) c.is_visible.result c.is_visible.ensures w.if-not-is_visible.false);
            faults = c.loop-at.invariant.faults;
            so_far = c.loop-at.invariant.so_far;
          })
    ]

pub returns-clause-bytes : goal.returns-clause-bytes
returns-clause-bytes g c =
    let end : length c.args.name.now ≡ c.loop-at.at = omega arith in
    let low : c.loop-at.from ≤ length c.args.name.now = omega (arith, c.loop-at.invariant.order) in
    rw (name_rest c.args.name.now c.loop-at.from low (λ i a b. c.loop-at.invariant.plain i a (omega arith)))
    (behind g.O.Sink.tells _ _ _ (map shown (take c.loop-at.from c.args.name.now)) (take (length c.args.name.now - c.loop-at.from) (drop c.loop-at.from c.args.name.now)) c.write_whole.result c.loop-at.invariant.so_far c.write_whole.ensures.bytes)
