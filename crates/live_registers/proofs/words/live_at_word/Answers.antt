use Rattle.std.proofs.Common.{◌≡◌, ◌*◌, Some, rules}
use Rattle.fs_model.specs.declared.instructions.Size.TheVariants.{Word}
use Rattle.fs_model.specs.Memory.{number_at}
use Rattle.fs_model.specs.Decode.{decode}
use Rattle.live_registers.proofs.words.live_at_word.Goals as goal

pub returns-then-word-eq0 : goal.returns-then-word-eq0
returns-then-word-eq0 c =
    let zero : number_at Word c.args.case.now.rom (4 * c.args.j) ≡ 0 = search rules in
    record { each = λ i is. let none : decode 0 ≡ Some i = rw zero at is in absurd cc }
