use Rattle.std.proofs.Common.{◌≡◌, ℕ, ◌+◌, ◌<◌, List, ◌++◌, get_or, length, take, sym, ap, ◌∙◌, arith, subst}
use Rattle.std.specs.List.{flat_map, range_with_len}
use Rattle.std.proofs.lemmas.List.{flat_map_more, take_all, take_more}
use Rattle.std.proofs.lemmas.List.FromFn.{get_or-range_with_len, length-range_with_len}
use Rattle.fs_outside.specs.Writing.{TookPart}
use Rattle.fs_outside.proofs.Writes.{each_part, writes_part}
use Rattle.report.specs.SymbolLines.{counts_in, one_text}
use Rattle.report.proofs.symbol_lines.write_those.Goals as goal

-- the number at a place
number : (n k : ℕ) → k < n → k ≡ get_or (range_with_len 0 n) k 0
number n k low = let e = get_or-range_with_len 0 n k 0 low in omega arith

one_more : (f : ℕ → List ℕ) (n k : ℕ) (old mid new : List ℕ) → k < n → mid ≡ old ++ flat_map f (take k (range_with_len 0 n)) → new ≡ mid ++ f k → new ≡ old ++ flat_map f (take (k + 1) (range_with_len 0 n))
one_more f n k old mid new low so_far line =
    let within : k < length (range_with_len 0 n) = omega (arith, length-range_with_len 0 n) in
    line ∙ ap (λ (m : List ℕ). m ++ f k) so_far ∙ ap (λ i. (old ++ flat_map f (take k (range_with_len 0 n))) ++ f i) (number n k low) ∙ flat_map_more f old (take k (range_with_len 0 n)) (get_or (range_with_len 0 n) k 0)
    ∙ ap (λ (list : List ℕ). old ++ flat_map f list) (sym (take_more (range_with_len 0 n) k 0 within))

one_failed : (f : ℕ → List ℕ) (n k : ℕ) (old mid new : List ℕ) → k < n → mid ≡ old ++ flat_map f (take k (range_with_len 0 n)) → TookPart mid new (f k) → TookPart old new (flat_map f (range_with_len 0 n))
one_failed f n k old mid new low so_far part =
    let within : k < length (range_with_len 0 n) = omega (arith, length-range_with_len 0 n) in
    each_part f old mid new (range_with_len 0 n) k 0 within so_far (subst (λ i. TookPart mid new (f i)) (number n k low) part)

all_done : (f : ℕ → List ℕ) (n k : ℕ) (old new : List ℕ) → ◌≡◌ {A = ℕ} n k → new ≡ old ++ flat_map f (take k (range_with_len 0 n)) → new ≡ old ++ flat_map f (range_with_len 0 n)
all_done f n k old new end so_far =
    so_far ∙ ap (λ list. old ++ flat_map f list) (take_all k (range_with_len 0 n) (omega (arith, length-range_with_len 0 n)))

pub loop-k-preserved : goal.loop-k-preserved
loop-k-preserved g c = record {
  faults = c.in_ok-write_one.ensures.cause ∙ c.loop-k.invariant.faults;
  so_far = λ told.
      one_more (one_text c.args.function c.args.word.now c.args.symbols.now (counts_in c.args.totals.now)) (length c.args.symbols.now) c.loop-k.k _ _ _ c.loop-k-test.true (c.loop-k.invariant.so_far told) (c.in_ok-write_one.ensures.bytes told);
}

pub returns-in_err-write_one-clause-bytes : goal.returns-in_err-write_one-clause-bytes
returns-in_err-write_one-clause-bytes g c =
    λ told. writes_part _ _ _ _ c.from_residual.ensures.0
    (one_failed (one_text c.args.function c.args.word.now c.args.symbols.now (counts_in c.args.totals.now)) (length c.args.symbols.now) c.loop-k.k _ _ _ c.loop-k-test.true (c.loop-k.invariant.so_far told) (c.in_err-write_one.ensures.bytes told))

pub returns-clause-bytes : goal.returns-clause-bytes
returns-clause-bytes g c =
    λ told. all_done (one_text c.args.function c.args.word.now c.args.symbols.now (counts_in c.args.totals.now)) (length c.args.symbols.now) c.loop-k.k _ _ (omega arith) (c.loop-k.invariant.so_far told)
