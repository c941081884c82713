use Rattle.std.proofs.Common.{◌≡◌, ◌+◌, ◌<◌, length, Some, sym, ap, ◌∙◌, arith}
use Rattle.std.specs.Prelude.{slice_get}
use Rattle.fs_model.specs.declared.sites.Site.{Site}
use Rattle.fs_model.specs.Case.{CaseData}
use Rattle.fs_model.specs.Outcome.{outcome}
use Rattle.fs_model.specs.Verdict.{site_of_row}
use Rattle.def_use.specs.Board.{kept_of}
use Rattle.def_use.proofs.Places.{kept_of-set, kept_of-missing, blank, filled}
use Rattle.result_desk.specs.Page.{place_of}
use Rattle.result_desk.specs.Desk.{DeskData}
use Rattle.result_desk.proofs.Rows.{empty, place_below, filed}
use Rattle.result_desk.proofs.desks.Desk.file_at.Goals as goal

pub returns-then-is_some-clause-answer : goal.returns-then-is_some-clause-answer
returns-then-is_some-clause-answer g c =
    let i = c.self.inside in
    let d : DeskData = record { case = i.case.now; page = i.page.most; sites = i.page.sites; rows = i.rows.items; number = i.number } in
    let site : Site = site_of_row c.args.verdict.now.row in
    let is : place_of d.sites site ≡ Some c.args.place = ap (λ (x : DeskData). place_of x.sites site) c.self.view_is ∙ c.requires.place in
    let below : c.args.place < length i.rows.items = place_below d site c.args.place c.self.invariant.0 is in
    let has = filled i.rows.items c.args.place c.index.result.now below c.index.ensures (sym c.if-is_some.ensures) in
    (c.requires.takes, (has.0, record { place = c.args.place; is = c.requires.place; here = ap (λ (x : DeskData). slice_get x.rows c.args.place) (sym c.self.view_is) ∙ has.1 }))

pub returns-clause-answer : goal.returns-clause-answer
returns-clause-answer g c =
    let i = c.self.inside in
    let d : DeskData = record { case = i.case.now; page = i.page.most; sites = i.page.sites; rows = i.rows.items; number = i.number } in
    let site : Site = site_of_row c.args.verdict.now.row in
    let is : place_of d.sites site ≡ Some c.args.place = ap (λ (x : DeskData). place_of x.sites site) c.self.view_is ∙ c.requires.place in
    let below : c.args.place < length i.rows.items = place_below d site c.args.place c.self.invariant.0 is in
    let none = blank i.rows.items c.args.place c.index.result.now below c.index.ensures (empty c.index.result.now (sym c.if-is_some.ensures)) in
    (c.requires.takes, record { place = c.args.place; is = c.requires.place; here = ap (λ (x : DeskData). slice_get x.rows c.args.place) (sym c.self.view_is) ∙ none })

pub overflow_add-self : goal.overflow_add-self
overflow_add-self g c =
    let i = c.self.inside in
    let d : DeskData = record { case = i.case.now; page = i.page.most; sites = i.page.sites; rows = i.rows.items; number = i.number } in
    let site : Site = site_of_row c.args.verdict.now.row in
    let is : place_of d.sites site ≡ Some c.args.place = ap (λ (x : DeskData). place_of x.sites site) c.self.view_is ∙ c.requires.place in
    let below : c.args.place < length i.rows.items = place_below d site c.args.place c.self.invariant.0 is in
    let none = blank i.rows.items c.args.place c.index.result.now below c.index.ensures (empty c.index.result.now (sym c.if-is_some.ensures)) in
    let room = kept_of-missing i.rows.items c.args.place none in
    record { fits = omega (arith, room, c.self.invariant.0.whole, c.self.invariant.0.few, c.self.invariant.0.small, c.self.invariant.1) }

pub returns-clause-len : goal.returns-clause-len
returns-clause-len g c =
    let i = c.self.inside in
    let d : DeskData = record { case = i.case.now; page = i.page.most; sites = i.page.sites; rows = i.rows.items; number = i.number } in
    let site : Site = site_of_row c.args.verdict.now.row in
    let is : place_of d.sites site ≡ Some c.args.place = ap (λ (x : DeskData). place_of x.sites site) c.self.view_is ∙ c.requires.place in
    let below : c.args.place < length i.rows.items = place_below d site c.args.place c.self.invariant.0 is in
    let none = blank i.rows.items c.args.place c.index.result.now below c.index.ensures (empty c.index.result.now (sym c.if-is_some.ensures)) in
    let old = ap (λ (x : DeskData). kept_of x.rows) c.self.view_is in
    kept_of-set i.rows.items c.args.place c.row-row.result.outcome none ∙ omega (arith, old)

pub invariant_of-self : goal.invariant_of-self
invariant_of-self g c =
    let i = c.self.inside in
    let d : DeskData = record { case = i.case.now; page = i.page.most; sites = i.page.sites; rows = i.rows.items; number = i.number } in
    let site : Site = site_of_row c.args.verdict.now.row in
    let is : place_of d.sites site ≡ Some c.args.place = ap (λ (x : DeskData). place_of x.sites site) c.self.view_is ∙ c.requires.place in
    let below : c.args.place < length i.rows.items = place_below d site c.args.place c.self.invariant.0 is in
    let none = blank i.rows.items c.args.place c.index.result.now below c.index.ensures (empty c.index.result.now (sym c.if-is_some.ensures)) in
    let more = kept_of-set i.rows.items c.args.place c.row-row.result.outcome none in
    let here : site_of_row c.row-row.result ≡ site = ap site_of_row c.row-row.ensures.value in
    let case : c.args.verdict.now.case ≡ d.case = sym c.requires.takes.1 ∙ sym (ap (λ (x : DeskData). x.case) c.self.view_is) in
    let right : c.row-row.result.outcome ≡ outcome d.case site =
    c.row-row.ensures.right ∙ (ap (λ (k : CaseData). outcome k (site_of_row c.row-row.result)) case ∙ ap (λ (s : Site). outcome d.case s) here) in (
      filed d site c.args.place c.row-row.result.outcome (i.number + 1) c.self.invariant.0 is right,
      omega (arith, more, c.self.invariant.1),
      omega (arith, c.count.ensures.book, c.self.invariant.2),
      c.self.invariant.3,
    )
