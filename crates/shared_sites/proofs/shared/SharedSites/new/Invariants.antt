use Rattle.std.proofs.Common.{◌≡◌, length}
use Rattle.shared_sites.proofs.shared.SharedSites.new.Given as goal

abbrev pub invariant-loop : goal.invariant-loop
invariant-loop g l = length l.list.items ≡ l.counter
