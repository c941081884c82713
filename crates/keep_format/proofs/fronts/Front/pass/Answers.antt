use Rattle.std.proofs.Common.{◌≡◌, true, List, sym, ap, subst, ◌∙◌}
use Rattle.keep_format.specs.declared.rows.KeptRow.{KeptRow}
use Rattle.keep_format.specs.KeepFile.{apart}
use Rattle.keep_format.specs.Runs.{Ascends, starts_before}
use Rattle.keep_format.proofs.Ascending.{tail_ascends, passed}
use Rattle.keep_format.proofs.fronts.Front.pass.Goals as goal

pub passed-preserved : goal.passed-preserved
passed-preserved c =
    let starts : starts_before c.passed.self c.args.name ≡ true = cc in
    record {
      ascends = subst Ascends (sym c.advance.ensures) (tail_ascends c.passed.self c.passed.invariant.ascends);
      later = λ row up.
          ap (λ (l : List KeptRow). apart l row) c.advance.ensures
          ∙ passed c.passed.self c.args.name row starts up
          ∙ c.passed.invariant.later row up;
    }
