use Rattle.site_counts.proofs.TableLines.{line_low, line_by_cell}
use Rattle.site_counts.proofs.tables.Table.facts.Goals as goal

pub returns-clause-low : goal.returns-clause-low
returns-clause-low c = line_low c.args.self.now

pub returns-clause-by_cell : goal.returns-clause-by_cell
returns-clause-by_cell c = line_by_cell c.args.self.now
