use Rattle.std.proofs.Common.{◌≡◌, Bool, true, false, if◌then◌else◌, Option, Some, None, List, sym, ap, subst, ◌∙◌}
use Rattle.std.specs.Prelude.{IfSome}
use Rattle.keep_format.specs.declared.rows.KeptRow.{KeptRow}
use Rattle.keep_format.specs.declared.order.Name.{Name}
use Rattle.keep_format.specs.KeepFile.{apart}
use Rattle.keep_format.specs.Order.{is_before}
use Rattle.keep_format.specs.Runs.{Ascends, first_row_of, name_in}
use Rattle.keep_format.proofs.Ascending.{tells, told, not_itself, not_back}
use Rattle.keep_format.proofs.fronts.Front.apart.Goals as goal

-- rows that were passed up to a row's name
module _ (old new : List KeptRow) (row : KeptRow) (name : Name) (is : name ≡ name_in row)
    (ascends : Ascends new) (later : (r : KeptRow) → is_before (name_in r) name ≡ false → apart new r ≡ apart old r)
    (first : IfSome (first_row_of new) (λ r. is_before (name_in r) name ≡ false)) where
  apart_told : apart old row ≡ told (first_row_of new) row
  apart_told =
      sym (later row (ap (λ (n : Name). is_before (name_in row) n) is ∙ not_itself (name_in row)))
      ∙ tells new row ascends (subst (λ (n : Name). IfSome (first_row_of new) (λ r. is_before (name_in r) n ≡ false)) is first)

  later_same : (r : KeptRow) → is_before (name_in row) (name_in r) ≡ true → apart new r ≡ apart old r
  later_same r less = later r (ap (λ (n : Name). is_before (name_in r) n) is ∙ not_back (name_in row) (name_in r) less)

pub returns-else-disagree-clause-apart : goal.returns-else-disagree-clause-apart
returns-else-disagree-clause-apart c =
    sym (
    apart_told c.args.self.now c.pass.new.self c.args.row c.name_of.result c.name_of.ensures c.pass.ensures.ascends c.pass.ensures.later c.pass.ensures.first
    ∙ ap (λ (o : Option KeptRow). told o c.args.row) (sym c.in_ok-first.ensures)
    ∙ ap (λ (t : Bool). if t then Some c.in_ok-first.first.at else None) (sym c.disagree.ensures ∙ c.if-disagree.false)
    )

pub returns-else-disagree-clause-later : goal.returns-else-disagree-clause-later
returns-else-disagree-clause-later c =
    later_same c.args.self.now c.pass.new.self c.args.row c.name_of.result c.name_of.ensures c.pass.ensures.ascends c.pass.ensures.later c.pass.ensures.first
