use Rattle.std.proofs.Common.{◌∙◌, ℕ, List, length, ap, sym}
use Rattle.campaign.specs.Portions.{PortionData, due, in_portion}
use Rattle.campaign.proofs.Missing.{few_kept, missing_count}
use Rattle.campaign.proofs.Due.{due_all}
use Rattle.campaign.proofs.pages.count_due.Goals as goal

pub overflow_sub-result : goal.overflow_sub-result
overflow_sub-result c = few_kept c.args.board.now c.len.result c.kept.result c.len.ensures c.kept.ensures

pub returns-then-has_all : goal.returns-then-has_all
returns-then-has_all c =
    missing_count c.args.board.now c.len.result c.kept.result c.len.ensures c.kept.ensures
    ∙ ap (λ (l : List ℕ). length l) (sym (due_all c.args.board.now))
    ∙ ap (λ (p : PortionData). length (due (in_portion p c.args.list.now.list) c.args.board.now)) (sym (c.has_all.ensures.0 c.if-has_all.true))
