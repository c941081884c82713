use Rattle.std.proofs.Common.{◌≡◌, ℕ, ◌+◌, List, length, ap, sym, subst, ◌∙◌, rules}
use Rattle.std.specs.Prelude.{All}
use Rattle.std.proofs.lemmas.List.{length_push}
use Rattle.std.proofs.lemmas.List.Elements.{All-push}
use Rattle.rv_machine.specs.Machines.{MachineData}
use Rattle.run_answers.specs.Kept.{IsKeptState}
use Rattle.run_answers.specs.declared.kept.KeptState.{KeptState}
use Rattle.run_answers.proofs.kept.add_places.Goals as goal

pub loop-preserved : goal.loop-preserved
loop-preserved c =
    let case = c.args.machine.now.case in
    let i = c.loop.invariant in
    let e = c.in_ok-push.ensures in
    record {
      count = ap length e.items ∙ length_push c.loop.states.items _ ∙ ap (λ (n : ℕ). n + 1) i.count;
      each = subst (λ (l : List KeptState). All (λ s. IsKeptState case s) l) (sym e.items)
          (All-push (λ s. IsKeptState case s) c.loop.states.items _ i.each (record {
            machine = ap (λ (m : MachineData). m.case) c.in_ok-machine.ensures;
            rest = search rules;
          }));
    }
