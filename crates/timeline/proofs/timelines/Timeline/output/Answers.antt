use Rattle.std.proofs.Common.{◌∙◌, sym, ap}
use Rattle.std.proofs.lemmas.List.{length-take-le}
use Rattle.timeline.specs.Places.{state_at}
use Rattle.timeline.specs.Timelines.{TimelineData}
use Rattle.timeline.proofs.Outputs.{sent_front}
use Rattle.timeline.proofs.timelines.Timeline.output.Goals as goal

pub slice_bounds-result-end : goal.slice_bounds-result-end
slice_bounds-result-end c =
    let i = c.self.invariant in
    let fronts = sent_front _ _ _ _ _ _ _ _ _ _ i in
    sym (rw c.deref.ensures.value (length-take-le c.self.inside.sent c.self.inside.output.items fronts.0))

pub returns : goal.returns
returns c =
    let i = c.self.invariant in
    let fronts = sent_front _ _ _ _ _ _ _ _ _ _ i in
    rw c.deref.ensures.value (fronts.1 ∙ ap (λ (x : TimelineData). (state_at x.case x.flip x.place).output) c.self.view_is)
