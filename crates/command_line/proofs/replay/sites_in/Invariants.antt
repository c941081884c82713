use Rattle.std.proofs.Common.{◌≡◌, length, map, string_bytes}
use Rattle.command_line.specs.Replay.{sites_in}
use Rattle.command_line.proofs.ReplayLemmas.{behind}
use Rattle.command_line.proofs.replay.sites_in.Given as goal

abbrev pub invariant-sites : goal.invariant-sites
invariant-sites l = sites_in (map string_bytes l.fn.words) ≡ behind l.sites.items (sites_in (map string_bytes l.rest))

abbrev pub decreases-sites : goal.decreases-sites
decreases-sites l = length l.rest
