use Rattle.std.proofs.Common.{ℕ, List, [], ◌∷◌, ◌++◌, ap, ◌∙◌}
use Rattle.window_counts.proofs.Tables.{none_before, no_window}
use Rattle.window_counts.proofs.windows.empty.Goals as goal

pub returns-clause-table : goal.returns-clause-table
returns-clause-table c = none_before c.push.new.self.items (c.in_ok-push.ensures.items ∙ ap (λ (l : List ℕ). l ++ 0 ∷ []) c.in_ok-before.ensures.items)

pub returns-clause-window : goal.returns-clause-window
returns-clause-window c = no_window c.push.new.self.items (c.in_ok-push.ensures.items ∙ ap (λ (l : List ℕ). l ++ 0 ∷ []) c.in_ok-before.ensures.items)
