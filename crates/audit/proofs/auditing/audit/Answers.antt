use Rattle.std.proofs.Common.{◌≡◌, ap, sym, ◌∙◌}
use Rattle.fs_model.specs.Case.{CaseData}
use Rattle.fs_model.specs.Job.{jobs_in}
use Rattle.fs_model.proofs.Tables.{list_of}
use Rattle.audit.specs.Text.{wrong_of}
use Rattle.audit.proofs.Right.{none_wrong, right_counted}
use Rattle.audit.proofs.auditing.audit.Goals as goal

pub audit_board-audited-requires-clause-list : goal.audit_board-audited-requires-clause-list
audit_board-audited-requires-clause-list g c = list_of c.args.case.now c.args.list.now c.requires.list ∙ ap (λ (d : CaseData). jobs_in d) (sym c.in-Ok.ensures)

pub returns-in-Ok-audited-clause-right : goal.returns-in-Ok-audited-clause-right
returns-in-Ok-audited-clause-right g c =
    let case = c.args.case.now in
    let board = c.args.board.now in
    let wrong : c.in-Ok-audited.audited.wrong ≡ wrong_of case board = c.in-Ok-audited.ensures.wrong ∙ ap (λ (d : CaseData). wrong_of d board) c.in-Ok.ensures in
    (λ none. none_wrong case board (sym wrong ∙ none), λ right. wrong ∙ right_counted case board right)
