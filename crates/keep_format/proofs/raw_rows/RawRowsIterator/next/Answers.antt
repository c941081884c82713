use Rattle.std.proofs.Common.{◌≡◌, ℕ, ◌+◌, ◌-◌, ◌∷◌, length, take, drop, sym, ◌∙◌, ap, arith, rules}
use Rattle.keep_format.specs.declared.raw_rows.RawRow.{RawRow}
use Rattle.keep_format.specs.RawRows.{rows_left}
use Rattle.keep_format.specs.KeepFile.{raw_row}
use Rattle.keep_format.proofs.Spots.{first_row}
use Rattle.keep_format.proofs.raw_rows.RawRowsIterator.next.Goals as goal

pub returns-clause-steps : goal.returns-clause-steps
returns-clause-steps c =
    let file = c.self.inside.file.now in
    let at = c.in_ok-at.field-0.at in
    let left = c.in_ok-at.field-0.left in
    let ten : at + 10 - at ≡ 10 = omega arith in
    let found = c.in_ok-at.ensures in
    let row : raw_row at (take 10 (drop at file)) ≡ c.raw_row.result = ap (λ (n : ℕ). raw_row at (take n (drop at file))) (sym ten) ∙ sym c.raw_row.ensures in
    let here : rows_left c.self.inside.left c.self.inside.at file ≡ c.raw_row.result ∷ rows_left (left - 1) (at + 10) file =
    found.0 ∙ first_row file at left found.1 ∙ ap (λ (r : RawRow). r ∷ rows_left (left - 1) (at + 10) file) row in
    sym c.self.view_is ∙ here

pub returns-clause-goes : goal.returns-clause-goes
returns-clause-goes c =
    let steps = returns-clause-steps c in
    let longer = ap length steps in
    search rules
