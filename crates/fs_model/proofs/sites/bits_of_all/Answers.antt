use Rattle.std.proofs.Common.{◌≡◌, ℕ, ◌+◌, ◌-◌, ◌*◌, ◌≤◌, Bool, true, false, arith, refl}
use Rattle.fs_model.specs.Cell.{first_cell}
use Rattle.fs_model.specs.Laws.{bits_of_all}
use Rattle.fs_model.proofs.sites.bits_of_all.Goals as goal

few : (pc : Bool) → first_cell pc ≤ 1
few true = omega arith
few false = omega arith

whole : (pc : Bool) (ram first : ℕ) → first ≡ first_cell pc → 32 * (32 - first) + 8 * ram ≡ bits_of_all ram pc
whole true ram first e = rw e refl
whole false ram first e = rw e refl

pub overflow_sub-words : goal.overflow_sub-words
overflow_sub-words c = omega (arith, few c.args.pc_cell, c.first_cell-words.ensures)

pub returns-clause-value : goal.returns-clause-value
returns-clause-value c = whole c.args.pc_cell c.args.ram c.first_cell-words.result c.first_cell-words.ensures

pub returns-clause-bound : goal.returns-clause-bound
returns-clause-bound c = omega (arith, c.requires)
