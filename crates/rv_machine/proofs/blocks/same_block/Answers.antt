use Rattle.std.proofs.Common.{List, ℕ, ap}
use Rattle.std.specs.List.{between}
use Rattle.std.proofs.lemmas.Bool.Decides.{Decides-eqb}
use Rattle.std.proofs.lemmas.Slice.Eq.{slice_eq-Decides}
use Rattle.rv_machine.proofs.Marks.{same_places}
use Rattle.rv_machine.proofs.blocks.same_block.Goals as goal

pub returns : goal.returns
returns c =
    let decides = slice_eq-Decides Decides-eqb _ _ _ c.eq.ensures in
    record {
      yes = λ yes p low high. same_places c.args.ram.now c.args.other.now c.args.at c.args.end (decides.0 yes) p low high;
      no = λ no same. let yes = decides.1 (ap (λ (l : List ℕ). between c.args.at c.args.end l) same) in absurd cc;
    }
