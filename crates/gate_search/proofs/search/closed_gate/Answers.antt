use Rattle.std.proofs.Common.{rules, ◌≡◌, ◌-◌, ◌*◌, ◌+◌, ◌<◌, length, slice_get, Some, arith, sym, ◌∙◌, ap, subst}
use Rattle.fs_outside.specs.Past.{content}
use Rattle.gate_search.specs.Windows.{IsCount, IsOf}
use Rattle.gate_search.proofs.Steps.{closed_here, cut_here, end_here, step_here}
use Rattle.gate_search.proofs.search.closed_gate.Goals as goal

pub returns-then-byte-clause-place : goal.returns-then-byte-clause-place
returns-then-byte-clause-place g c = λ told.
    let here = subst (λ p. slice_get (content p) c.gates.place ≡ Some c.in-Some.byte) (c.gates.invariant.same told) (sym (c.in_ok-byte.ensures.byte told) ∙ c.in-Some.is) in
    sym (closed_here (content (g.D.Disk.past c.args.disk.now)) c.gates.place c.in-Some.byte here c.if-byte.true) ∙ c.gates.invariant.gate told

pub returns-then-left-clause-place : goal.returns-then-left-clause-place
returns-then-left-clause-place g c = λ told.
    let here = subst (λ p. slice_get (content p) c.gates.place ≡ Some c.in-Some.byte) (c.gates.invariant.same told) (sym (c.in_ok-byte.ensures.byte told) ∙ c.in-Some.is) in
    let len = c.gates.invariant.len told in
    sym (end_here (content (g.D.Disk.past c.args.disk.now)) c.gates.place c.in-Some.byte here c.if-byte.false (omega (arith, len))) ∙ c.gates.invariant.gate told

pub returns-then-left-batch-clause-place : goal.returns-then-left-batch-clause-place
returns-then-left-batch-clause-place g c = λ told.
    let file = content (g.D.Disk.past c.args.disk.now) in
    let here = subst (λ p. slice_get (content p) c.gates.place ≡ Some c.in-Some.byte) (c.gates.invariant.same told) (sym (c.in_ok-byte.ensures.byte told) ∙ c.in-Some.is) in
    let len = c.gates.invariant.len told in
    let count = subst (λ p. IsCount (content p) c.gates.place (Some c.in-Some-2.rows)) (c.in_ok-byte.ensures.same told ∙ c.gates.invariant.same told)
    (subst (IsCount (content (g.D.Disk.past c.byte.new.disk)) c.gates.place) c.in-Some-2.is (c.in_ok-rows.ensures.rows told)) in
    sym (cut_here file c.gates.place c.in-Some.byte here c.if-byte.false c.in-Some-2.rows count.1 (omega (arith, len)) (omega (arith, len))) ∙ c.gates.invariant.gate told

pub gates-preserved : goal.gates-preserved
gates-preserved g c =
    let file = content (g.D.Disk.past c.args.disk.now) in
    let same = λ (told : g.D.Disk.tells). c.in_ok-byte.ensures.same told ∙ c.gates.invariant.same told in
    record {
      window = λ told. subst (λ p. IsOf (content p) c.rows_at.new.window) (same told) (c.in_ok-rows.ensures.window told);
      same = λ told. c.in_ok-rows.ensures.same told ∙ same told;
      faults = search rules;
      len = c.gates.invariant.len;
      gate = λ told.
          let here = subst (λ p. slice_get (content p) c.gates.place ≡ Some c.in-Some.byte) (c.gates.invariant.same told) (sym (c.in_ok-byte.ensures.byte told) ∙ c.in-Some.is) in
          let count = subst (λ p. IsCount (content p) c.gates.place (Some c.in-Some-2.rows)) (same told)
          (subst (IsCount (content (g.D.Disk.past c.byte.new.disk)) c.gates.place) c.in-Some-2.is (c.in_ok-rows.ensures.rows told)) in
          step_here file c.gates.place c.in-Some.byte here c.if-byte.false c.in-Some-2.rows count.1 ∙ c.gates.invariant.gate told;
    }
