use Rattle.std.proofs.Common.{◌≡◌, refl, ℕ, List, length, ap, sym, ◌∙◌, arith}
use Rattle.fs_model.specs.Case.{CaseData}
use Rattle.known_states.proofs.Changed.{changed_none, changed_all}
use Rattle.known_states.proofs.differing.changes_since.Goals as goal

pub loop-at-init : goal.loop-at-init
loop-at-init c = record {
  within = omega arith;
  start = λ some. refl;
  changed = changed_none c.args.base.now.core.ram c.args.machine.now.core.ram c.clear.new.self.items c.clear.ensures.items;
}

pub returns : goal.returns
returns c = λ yes.
    let machine = c.ram-size.ensures in
    let base = c.ram.ensures in
    let same : length c.args.base.now.core.ram ≡ length c.args.machine.now.core.ram =
    ap (λ (l : List ℕ). length l) (sym base.value) ∙ base.length ∙ ap (λ (x : CaseData). length x.ram) (sym c.requires) ∙ sym machine.length ∙ ap (λ (l : List ℕ). length l) machine.value in
    changed_all c.args.base.now.core.ram c.args.machine.now.core.ram c.loop-at.changes.items c.loop-at.at c.loop-at.invariant.changed (let size : length c.ram-size.result.now ≡ length c.args.machine.now.core.ram = ap (λ (l : List ℕ). length l) machine.value in omega (arith, c.loop-at-test.false, size)) same
