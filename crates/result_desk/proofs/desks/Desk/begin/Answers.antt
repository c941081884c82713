use Rattle.std.proofs.Common.{List, length, Option, ap, ◌∙◌, sym, arith}
use Rattle.fs_model.specs.declared.outcomes.Outcome.{Outcome}
use Rattle.def_use.specs.Board.{kept_of}
use Rattle.def_use.proofs.Places.{kept_of-replicate}
use Rattle.result_desk.specs.Desk.{DeskData}
use Rattle.result_desk.proofs.Rows.{begun}
use Rattle.result_desk.proofs.desks.Desk.begin.Goals as goal

pub returns-clause-len : goal.returns-clause-len
returns-clause-len g c = ap (λ (l : List (Option Outcome)). kept_of l) c.clear_rows.ensures.rows ∙ kept_of-replicate (length c.args.numbers.now)

pub invariant_of-self : goal.invariant_of-self
invariant_of-self g c =
    let i = c.self.inside in
    let page = ap (λ (x : DeskData). x.page) c.self.view_is in
    let d : DeskData = record { case = i.case.now; page = c.fill.new.self.most; sites = c.fill.new.self.sites; rows = c.clear_rows.new.rows.items; number = i.number } in
    let none = ap (λ (l : List (Option Outcome)). kept_of l) c.clear_rows.ensures.rows ∙ kept_of-replicate (length c.args.numbers.now) in (
      begun d (length c.args.numbers.now) c.clear_rows.ensures.rows c.fill.ensures.sites.long (omega (arith, c.requires.page, page, c.fill.ensures.most)) (omega (arith, c.self.invariant.0.small, c.fill.ensures.most)),
      sym none,
      c.self.invariant.2,
      omega (arith, c.self.invariant.3, c.fill.ensures.most, c.clear_rows.ensures.room),
    )
