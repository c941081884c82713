use Rattle.std.proofs.Common.{◌≡◌, ℕ, ◌+◌, ◌<◌, List, ◌++◌, get_or, length, take, sym, ap, ◌∙◌, arith, subst}
use Rattle.std.proofs.lemmas.List.{flat_map_more, take_more}
use Rattle.fs_model.specs.declared.outcomes.Outcome.{Outcome}
use Rattle.fs_model.specs.declared.outcomes.Outcome.TheVariants.{NoEffect}
use Rattle.fs_model.specs.Outcome.{all_outcomes, total_at}
use Rattle.fs_outside.specs.Writing.{TookPart}
use Rattle.fs_outside.proofs.Writes.{each_part, writes_part}
use Rattle.report.specs.SymbolLines.{number_text, numbers_text}
use Rattle.report.proofs.symbol_lines.write_numbers.Goals as goal

-- one number more, of whichever outcomes
one_more : (counts : Outcome → ℕ) (outcomes : List Outcome) (i : ℕ) (o : Outcome) (old mid new : List ℕ) → i < length outcomes → mid ≡ old ++ numbers_text (take i outcomes) counts
    → new ≡ mid ++ number_text (counts (get_or outcomes i o)) → new ≡ old ++ numbers_text (take (i + 1) outcomes) counts
one_more counts outcomes i o old mid new within so_far line =
    let one : Outcome → List ℕ = λ o. number_text (counts o) in
    line ∙ ap (λ (m : List ℕ). m ++ one (get_or outcomes i o)) so_far ∙ flat_map_more one old (take i outcomes) (get_or outcomes i o)
    ∙ ap (λ (list : List Outcome). old ++ numbers_text list counts) (sym (take_more outcomes i o within))

pub loop-outcome-preserved : goal.loop-outcome-preserved
loop-outcome-preserved g c = record {
  faults = c.in_ok-write_number.ensures.cause ∙ c.loop-outcome.invariant.faults;
  so_far = λ told.
      one_more (total_at c.args.totals.now) all_outcomes c.loop-outcome.outcome-index NoEffect _ _ _ (omega arith) (c.loop-outcome.invariant.so_far told)
      (c.in_ok-write_number.ensures.bytes told ∙ ap (λ n. g.O.Sink.taken c.loop-outcome.out ++ number_text n) c.get.ensures);
}

pub returns-in_err-write_number-clause-bytes : goal.returns-in_err-write_number-clause-bytes
returns-in_err-write_number-clause-bytes g c =
    λ told. writes_part _ _ _ _ c.from_residual.ensures.0
    (each_part (λ (o : Outcome). number_text (total_at c.args.totals.now o)) _ _ _ all_outcomes c.loop-outcome.outcome-index NoEffect (omega arith) (c.loop-outcome.invariant.so_far told)
    (subst (λ n. TookPart (g.O.Sink.taken c.loop-outcome.out) (g.O.Sink.taken c.write_number.new.out) (number_text n)) c.get.ensures (c.in_err-write_number.ensures.bytes told)))
