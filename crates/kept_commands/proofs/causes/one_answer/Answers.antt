use Rattle.kept_commands.proofs.OneAnswer.{own_once}
use Rattle.kept_commands.proofs.causes.one_answer.Goals as goal

pub returns : goal.returns
returns c = λ call a b own_a own_b cause_a cause_b.
    own_once (Unit {0}) (Unit {0}) call ((λ _. tt), (λ _. tt)) a b own_a own_b cause_a cause_b
