use Rattle.command_line.proofs.Spelled.{spelled_out, spelled_whole}
use Rattle.command_line.proofs.laws.spelled_out.Goals as goal

pub returns : goal.returns
returns c = record { options = spelled_out; whole = spelled_whole }
