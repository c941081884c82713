use Rattle.std.proofs.Common.{◌≡◌, length}
use Rattle.std.specs.Prelude.{All}
use Rattle.shared_sites.specs.Known.{IsKnownSite}
use Rattle.shared_sites.proofs.parts.Part.new.Given as goal

abbrev pub invariant-loop : goal.invariant-loop
invariant-loop g l = record {
  count : length l.list.items ≡ l.counter;
  each : All (λ p. IsKnownSite g.K.KnownCase.case p) l.list.items;
}
