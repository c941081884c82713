use Rattle.window_counts.proofs.Due.{due_weight}
use Rattle.window_counts.proofs.InWindow.{pruned_window}
use Rattle.window_counts.proofs.SitesInside.{each_inside}
use Rattle.window_counts.proofs.Size.{window_whole, window_size}
use Rattle.window_counts.proofs.laws.pruned_window.Goals as goal

pub returns-clause-counts : goal.returns-clause-counts
returns-clause-counts c = pruned_window

pub returns-clause-due : goal.returns-clause-due
returns-clause-due c = due_weight

pub returns-clause-whole : goal.returns-clause-whole
returns-clause-whole c = window_whole

pub returns-clause-size : goal.returns-clause-size
returns-clause-size c = window_size

pub returns-clause-inside : goal.returns-clause-inside
returns-clause-inside c = each_inside
