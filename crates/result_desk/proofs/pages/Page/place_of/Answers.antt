use Rattle.std.proofs.Common.{ap, ◌∙◌, sym, arith}
use Rattle.std.proofs.lemmas.Option.{slice_get_read}
use Rattle.result_desk.specs.Page.{PageData, place_of}
use Rattle.result_desk.proofs.Search.{found, not_found, past_all}
use Rattle.result_desk.proofs.pages.Page.place_of.Goals as goal

pub returns-then-at-len-clause-place : goal.returns-then-at-len-clause-place
returns-then-at-len-clause-place c =
    let page = c.self.inside in
    let low = rw (c.as_slice.ensures.value, c.with_place.ensures) at c.before-at.ensures.low in
    past_all page.sites.items page.index.items c.args.site.now c.before-at.result c.self.invariant.found low (omega (arith, c.if-at-len.true, c.len.ensures, page.index.ok.0))
    ∙ ap (λ (p : PageData). place_of p.sites c.args.site.now) c.self.view_is

pub returns-clause-place : goal.returns-clause-place
returns-clause-place c =
    let page = c.self.inside in
    let low = rw (c.as_slice.ensures.value, c.with_place.ensures) at c.before-at.ensures.low in
    let here = slice_get_read page.index.items c.len.result c.before-at.result c.index.result.now (omega (arith, c.len.ensures, page.index.ok.0)) (omega (arith, c.if-at-len.false, c.before-at.ensures.bound, c.as_slice.ensures.len, c.len.ensures)) c.index.ensures in
    found page.sites.items page.index.items c.args.site.now c.before-at.result c.index.result.now c.self.invariant.found low here (sym c.if-not-is_of.ensures)
    ∙ ap (λ (p : PageData). place_of p.sites c.args.site.now) c.self.view_is

pub returns-then-not-is_of-clause-place : goal.returns-then-not-is_of-clause-place
returns-then-not-is_of-clause-place c =
    let page = c.self.inside in
    let low = rw (c.as_slice.ensures.value, c.with_place.ensures) at c.before-at.ensures.low in
    let high = rw (c.as_slice.ensures.value, c.with_place.ensures) at c.before-at.ensures.high in
    let here = slice_get_read page.index.items c.len.result c.before-at.result c.index.result.now (omega (arith, c.len.ensures, page.index.ok.0)) (omega (arith, c.if-at-len.false, c.before-at.ensures.bound, c.as_slice.ensures.len, c.len.ensures)) c.index.ensures in
    not_found page.sites.items page.index.items c.args.site.now c.before-at.result c.index.result.now c.self.invariant.found low here (high c.before-at.result _ (omega arith) here) (sym c.if-not-is_of.ensures)
    ∙ ap (λ (p : PageData). place_of p.sites c.args.site.now) c.self.view_is
