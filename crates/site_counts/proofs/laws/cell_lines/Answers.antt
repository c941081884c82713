use Rattle.site_counts.proofs.ByCell.{cell_line, cell_whole}
use Rattle.site_counts.proofs.laws.cell_lines.Goals as goal

pub returns-clause-line : goal.returns-clause-line
returns-clause-line c = cell_line

pub returns-clause-whole : goal.returns-clause-whole
returns-clause-whole c = cell_whole
