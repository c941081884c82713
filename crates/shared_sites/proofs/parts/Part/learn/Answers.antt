use Rattle.std.proofs.lemmas.List.{length-set}
use Rattle.std.proofs.lemmas.List.Elements.{All-set}
use Rattle.shared_sites.specs.Known.{IsKnownSite}
use Rattle.shared_sites.proofs.parts.Part.learn.Goals as goal

pub invariant_of-self : goal.invariant_of-self
invariant_of-self g c = record {
  some = simp length-set c.self.invariant.some;
  each = All-set (λ p. IsKnownSite g.K.KnownCase.case p) c.self.inside.places.items _ _ c.requires c.self.invariant.each;
}
