use Rattle.std.proofs.Common.{◌≡◌, List, ℕ, ◌++◌, sym, ap, ◌∙◌, append-nil, rules}
use Rattle.fs_outside.proofs.Writes.{writes_part}
use Rattle.audit.proofs.Right.{other_text, other_wrong, right_no_text, right_not_wrong}
use Rattle.audit.proofs.auditing.audit_place.Goals as goal

pub returns-then-eq-clause-wrong : goal.returns-then-eq-clause-wrong
returns-then-eq-clause-wrong g c =
    let same : c.in-Some.kept ≡ c.outcome_of-true_one.result = search rules in
    right_not_wrong c.args.reruns.now c.args.job.now c.args.place c.in-Some.kept c.outcome_of-true_one.result c.in-Some.is c.outcome_of-true_one.ensures.outcome same

pub returns-then-eq-clause-bytes : goal.returns-then-eq-clause-bytes
returns-then-eq-clause-bytes g c = λ told.
    let same : c.in-Some.kept ≡ c.outcome_of-true_one.result = search rules in
    let none = right_no_text c.args.reruns.now c.args.job.now c.args.place c.in-Some.kept c.outcome_of-true_one.result c.in-Some.is c.outcome_of-true_one.ensures.outcome same in
    sym (append-nil (g.O.Sink.taken c.args.out.now)) ∙ ap (λ (s : List ℕ). g.O.Sink.taken c.args.out.now ++ s) (sym none)

pub returns-in_err-write_wrong-clause-bytes : goal.returns-in_err-write_wrong-clause-bytes
returns-in_err-write_wrong-clause-bytes g c = λ told.
    let other : c.in-Some.kept ≡ c.outcome_of-true_one.result → ⊥ = search rules in
    let line = other_text c.args.reruns.now c.args.job.now c.args.place c.in-Some.kept c.outcome_of-true_one.result c.in-Some.is c.outcome_of-true_one.ensures.outcome other in
    let part = c.in_err-write_wrong.ensures.bytes told in
    rw line (writes_part _ _ _ c.from_residual.result c.from_residual.ensures.0 part)

pub returns-clause-wrong : goal.returns-clause-wrong
returns-clause-wrong g c =
    let other : c.in-Some.kept ≡ c.outcome_of-true_one.result → ⊥ = search rules in
    other_wrong c.args.reruns.now c.args.job.now c.args.place c.in-Some.kept c.outcome_of-true_one.result c.in-Some.is c.outcome_of-true_one.ensures.outcome other

pub returns-clause-bytes : goal.returns-clause-bytes
returns-clause-bytes g c = λ told.
    let other : c.in-Some.kept ≡ c.outcome_of-true_one.result → ⊥ = search rules in
    let line = other_text c.args.reruns.now c.args.job.now c.args.place c.in-Some.kept c.outcome_of-true_one.result c.in-Some.is c.outcome_of-true_one.ensures.outcome other in
    c.in_ok-write_wrong.ensures.bytes told ∙ ap (λ (s : List ℕ). g.O.Sink.taken c.args.out.now ++ s) (sym line)
