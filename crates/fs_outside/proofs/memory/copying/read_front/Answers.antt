use Rattle.std.proofs.Common.{List, ℕ, length, min, take, ◌∙◌, ap}
use Rattle.std.proofs.lemmas.List.{take_rest}
use Rattle.fs_outside.proofs.FrontReads.{reads_front}
use Rattle.fs_outside.proofs.memory.copying.read_front.Goals as goal

pub returns-clause-reads : goal.returns-clause-reads
returns-clause-reads c =
    let rest = take_rest c.args.bytes.now c.args.at.now in
    let n = c.copy_front-n.result in
    reads_front c.args.bytes.now c.args.buf.now c.copy_front-n.new.buf c.args.at.now n
    (c.copy_front-n.ensures.count ∙ ap (λ (l : List ℕ). min (length l) (length c.args.buf.now)) rest)
    (c.copy_front-n.ensures.these ∙ ap (λ (l : List ℕ). take n l) rest)
    c.copy_front-n.ensures.others
