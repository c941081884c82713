use Rattle.std.proofs.Common.{◌≡◌, ◌-◌, take, drop}
use Rattle.std.specs.List.{filter_map}
use Rattle.fs_model.specs.Outcome.{sum_of}
use Rattle.sampling.specs.Draws.{indices, seeded}
use Rattle.campaign.specs.Sampled.{population, site_of_index}
use Rattle.campaign.proofs.Sampling.{IsSampled}
use Rattle.campaign.proofs.samples.sample.Given as goal

abbrev pub invariant-loop-i : goal.invariant-loop-i
invariant-loop-i l = record {
  drawn : drop l._i (indices l.count (population l.case l.live) (seeded l.seed)) ≡ indices (l.count - l._i) (population l.case l.live) l.sampler;
  sampled : IsSampled l.case l.snaps.spacing (filter_map (site_of_index l.case l.live) (take l._i (indices l.count (population l.case l.live) (seeded l.seed)))) l.board l.totals l.fn.machine.taken l.machine.taken;
  sum : sum_of l.totals ≡ l._i;
  case : l.machine.case ≡ l.case;
}
