use Rattle.std.proofs.Common.{◌≤◌, ◌∙◌, ap, arith}
use Rattle.timeline.specs.declared.watches.Hit.TheVariants.{Watchpoint}
use Rattle.timeline.specs.Timelines.{TimelineData}
use Rattle.debug_session.specs.Session.{SessionData}
use Rattle.debug_session.proofs.Stops.{back_early, back_within}
use Rattle.debug_session.proofs.session.Session.go_back.Goals as goal

pub after_touch-requires-clause-within : goal.after_touch-requires-clause-within
after_touch-requires-clause-within c =
    let t = c.self.inside.here in
    let is = ap (λ (s : SessionData). s.place) c.self.view_is in
    let low : c.floor-floor.result ≤ t.place = omega (arith, is, c.floor-floor.ensures.within) in
    let at = c.place.ensures.value ∙ ap (λ (x : TimelineData). x.place) c.go_back_to-hit.ensures.place in
    let within = back_within t.case t.flip c.as_slice.result.now c.as_slice-2.result.now c.floor-floor.result t.place low in
    omega (arith, at, within, c.place-place.ensures.value)

pub after_touch-requires-clause-early : goal.after_touch-requires-clause-early
after_touch-requires-clause-early c = λ watch found.
    let t = c.self.inside.here in
    let is = ap (λ (s : SessionData). s.place) c.self.view_is in
    let low : c.floor-floor.result ≤ t.place = omega (arith, is, c.floor-floor.ensures.within) in
    let at = c.place.ensures.value ∙ ap (λ (x : TimelineData). x.place) c.go_back_to-hit.ensures.place in
    let early = back_early t.case t.flip c.as_slice.result.now c.as_slice-2.result.now c.floor-floor.result t.place low c.go_back_to-hit.result (Watchpoint watch) c.go_back_to-hit.ensures.hit found in
    omega (arith, at, early, c.place-place.ensures.value)
