use Rattle.dead_cells.proofs.Live.{live_end, rom_liveness}
use Rattle.dead_cells.proofs.laws.live_registers.Goals as goal

pub returns-clause-end : goal.returns-clause-end
returns-clause-end c = live_end

pub returns-clause-rom : goal.returns-clause-rom
returns-clause-rom c = rom_liveness
