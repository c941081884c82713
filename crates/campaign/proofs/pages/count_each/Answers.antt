use Rattle.std.proofs.Common.{◌≡◌, ℕ, ◌+◌, List, length, sym, ap, ◌∙◌, arith}
use Rattle.std.specs.Prelude.{filter}
use Rattle.fs_model.specs.Job.{JobTable}
use Rattle.campaign.specs.Portions.{in_portion, missing_behind}
use Rattle.campaign.proofs.Missing.{next_found, next_none}
use Rattle.campaign.proofs.Due.{taken_in, left_out}
use Rattle.campaign.proofs.pages.count_each.Goals.{then-has, else-has}
use Rattle.campaign.proofs.pages.count_each.Goals as goal

pub counting-preserved : goal.counting-preserved
counting-preserved c =
    let n = c.in-Some.number in
    let p = in_portion c.args.portion.now c.args.list.now.list in
    let others = missing_behind (n + 1) c.args.board.now in
    let found = ap (λ (l : List ℕ). length (filter p l)) (next_found c.args.board.now c.counting.from n c.in-Some.ensures) in
    let low = c.in-Some.ensures.0 in
    let says : p n ≡ c.has.result = sym (ap (λ (t : JobTable). in_portion c.args.portion.now t.list n) c.counting.invariant.walk) ∙ sym c.has.ensures.value in
    let walk = c.has.ensures.same ∙ c.counting.invariant.walk in
    elim c.if-has.branch [
      | then-has w ↦
          let one = ap (λ (l : List ℕ). length l) (taken_in p n others (says ∙ w.if-has.true)) in
          let more = w.count-is in
          record { all = omega (arith, found, one, more, c.counting.invariant.all); walk = walk; few = omega (arith, low, more, c.counting.invariant.few) }
      | else-has w ↦
          let none = ap (λ (l : List ℕ). length l) (left_out p n others (says ∙ w.if-has.false)) in
          let same = w.count-is in
          record { all = omega (arith, found, none, same, c.counting.invariant.all); walk = walk; few = omega (arith, low, same, c.counting.invariant.few) }
    ]

pub returns : goal.returns
returns c =
    let none = ap (λ (l : List ℕ). length (filter (in_portion c.args.portion.now c.args.list.now.list) l)) (next_none c.args.board.now c.counting.from c.in_default.ensures) in
    omega (arith, none, c.counting.invariant.all)
