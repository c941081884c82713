use Rattle.std.proofs.Common.{◌≡◌, ℕ, ◌+◌, ◌<◌, List, ◌++◌, get_or, length, take, sym, ap, ◌∙◌, arith, subst}
use Rattle.std.proofs.lemmas.List.{flat_map_more, take_more}
use Rattle.fs_model.specs.declared.outcomes.Outcome.{Outcome}
use Rattle.fs_model.specs.declared.outcomes.Outcome.TheVariants.{NoEffect}
use Rattle.fs_model.specs.Outcome.{all_outcomes, outcome_word, total_at}
use Rattle.fs_outside.specs.Writing.{TookPart}
use Rattle.report.specs.Text.{line_text, outcomes_text}
use Rattle.fs_outside.proofs.Writes.{each_part, writes_part}
use Rattle.report.proofs.lines.write_totals.Goals as goal

-- one line more, of whichever outcomes
one_more : (counts : Outcome → ℕ) (outcomes : List Outcome) (i : ℕ) (o : Outcome) (old mid new : List ℕ) → i < length outcomes → mid ≡ old ++ outcomes_text (take i outcomes) counts
    → new ≡ mid ++ line_text (outcome_word (get_or outcomes i o)) (counts (get_or outcomes i o)) → new ≡ old ++ outcomes_text (take (i + 1) outcomes) counts
one_more counts outcomes i o old mid new within so_far line =
    let one : Outcome → List ℕ = λ o. line_text (outcome_word o) (counts o) in
    line ∙ ap (λ (m : List ℕ). m ++ one (get_or outcomes i o)) so_far ∙ flat_map_more one old (take i outcomes) (get_or outcomes i o)
    ∙ ap (λ (list : List Outcome). old ++ outcomes_text list counts) (sym (take_more outcomes i o within))

pub loop-outcome-preserved : goal.loop-outcome-preserved
loop-outcome-preserved g c =
    let o = get_or all_outcomes c.loop-outcome.outcome-index NoEffect in
    let line : line_text c.word.result.now c.get.result ≡ line_text (outcome_word o) (total_at c.args.totals.now o) =
    ap (λ (word : List ℕ). line_text word c.get.result) c.word.ensures ∙ ap (line_text (outcome_word o)) c.get.ensures in
    record {
      faults = c.in_ok-write_line.ensures.cause ∙ c.loop-outcome.invariant.faults;
      so_far = λ told.
          one_more (total_at c.args.totals.now) all_outcomes c.loop-outcome.outcome-index NoEffect _ _ _ (omega arith) (c.loop-outcome.invariant.so_far told)
          (c.in_ok-write_line.ensures.bytes told ∙ ap (λ (l : List ℕ). g.O.Sink.taken c.loop-outcome.out ++ l) line);
    }

pub returns-in_err-write_line-clause-bytes : goal.returns-in_err-write_line-clause-bytes
returns-in_err-write_line-clause-bytes g c =
    λ told.
    let o = get_or all_outcomes c.loop-outcome.outcome-index NoEffect in
    let line : line_text c.word.result.now c.get.result ≡ line_text (outcome_word o) (total_at c.args.totals.now o) =
    ap (λ (word : List ℕ). line_text word c.get.result) c.word.ensures ∙ ap (line_text (outcome_word o)) c.get.ensures in
    writes_part _ _ _ _ c.from_residual.ensures.0
    (each_part (λ (o : Outcome). line_text (outcome_word o) (total_at c.args.totals.now o)) _ _ _ all_outcomes c.loop-outcome.outcome-index NoEffect (omega arith) (c.loop-outcome.invariant.so_far told)
    (subst (TookPart (g.O.Sink.taken c.loop-outcome.out) (g.O.Sink.taken c.write_line.new.out)) line (c.in_err-write_line.ensures.bytes told)))
