use Rattle.std.proofs.Common.{◌∙◌}
use Rattle.std.proofs.lemmas.Result.{IfOk-weaker}
use Rattle.report.proofs.json.window_object.Goals as goal

pub returns : goal.returns
returns c = IfOk-weaker c.to_string.result _ _
    (λ s h. h c.in_ok-window_value.ensures.plain ∙ c.in_ok-window_value.ensures.text) c.to_string.ensures.text
