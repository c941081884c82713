use Rattle.std.proofs.Common.{◌≡◌, ℕ, ◌+◌, ◌-◌, ◌<◌, ◌^◌, List, [], ◌++◌, take, drop, length, refl, sym, ap, ◌∙◌, arith}
use Rattle.std.specs.Prelude.{Bool, ◌≤◌}
use Rattle.std.specs.List.{filter_map}
use Rattle.std.proofs.lemmas.List.{take-append-drop, append-nil}
use Rattle.fs_model.specs.declared.sites.Job.{Job}
use Rattle.fs_model.specs.declared.sites.Site.{Site}
use Rattle.fs_model.specs.Case.{CaseData}
use Rattle.fs_model.specs.Run.{Halt, cycles}
use Rattle.fs_model.specs.Outcome.{TotalsData, sum_of, total_at}
use Rattle.fs_model.proofs.EachOutcome.{sum_of-totals_of, total_at-totals_of}
use Rattle.golden_trace.specs.Goldens.{GoldenData, IsGolden}
use Rattle.experiment.proofs.Halts.{within}
use Rattle.experiment.proofs.JobSites.{count_is, list_of}
use Rattle.sampling.specs.Draws.{indices, seeded}
use Rattle.campaign.specs.Sampled.{population, site_of_index, drawn_sites, count_in, steps_of_drawn}
use Rattle.campaign.proofs.Drawing.{next_drawn, sites_more, population_low, nothing_drawn}
use Rattle.campaign.proofs.DrawnJobs.{right_of}
use Rattle.campaign.proofs.Sampling.{sampled_none, sampled_more, none_counted, no_steps, most_steps}
use Rattle.campaign.proofs.samples.sample.Goals as goal

in_limit : (c : CaseData) (g : GoldenData) (n : ℕ) → IsGolden c g → n ≡ c.limit → cycles c ≤ n
in_limit c g n h is = let most = within c (Halt g.exit) (length g.touches) g.output h.ends in let count = count_is c g h in omega (arith, most, count, is)

pub loop-i-init : goal.loop-i-init
loop-i-init c =
    let lists = list_of c.args.case.now c.args.list.now c.requires.ready.list_is in
    let none : c.args.count - 0 ≡ c.args.count = omega arith in
    let small : c.args.machine.now.taken < 2 ^ 64 = omega (arith, c.taken.ensures) in
    record {
      drawn = rw none (ap (indices c.args.count (population c.args.case.now c.args.live)) (sym c.new-sampler.ensures));
      sampled = sampled_none c.args.case.now c.args.snaps.now.spacing c.in_ok-board.board c.len.result c.zero-totals.result c.args.machine.now.taken c.in_ok-board.ensures (c.len.ensures ∙ ap (λ (l : List Job). length l) lists) c.zero-totals.ensures small;
      sum = ap sum_of c.zero-totals.ensures ∙ sum_of-totals_of (λ o. 0);
      case = c.requires.ready.machine_case;
    }

pub next_index-index-requires-clause-room : goal.next_index-index-requires-clause-room
next_index-index-requires-clause-room c =
    let low = population_low c.args.case.now c.args.live c.facts.ensures (in_limit c.args.case.now c.args.golden.now c.args.case.now.limit c.requires.ready.golden_is refl) in
    omega (arith, c.count-sites.ensures c.args.case.now c.requires.ready.list_is, low)

pub job_number-number-requires-clause-limit : goal.job_number-number-requires-clause-limit
job_number-number-requires-clause-limit c = in_limit c.args.case.now c.args.golden.now c.args.case.now.limit c.requires.ready.golden_is refl

pub outcome_of-outcome-requires-clause-long : goal.outcome_of-outcome-requires-clause-long
outcome_of-outcome-requires-clause-long c =
    c.loop-i.invariant.sampled.long ∙ ap (λ (l : List Job). length l) (sym (list_of c.args.case.now c.args.list.now c.requires.ready.list_is))

pub outcome_of-outcome-requires-clause-right : goal.outcome_of-outcome-requires-clause-right
outcome_of-outcome-requires-clause-right c =
    let has = right_of c.args.case.now _ c.loop-i.board c.loop-i.invariant.sampled.remembers in
    rw (list_of c.args.case.now c.args.list.now c.requires.ready.list_is) has

pub loop-i-preserved : goal.loop-i-preserved
loop-i-preserved c =
    let case = c.args.case.now in
    let live = c.args.live in
    let all = indices c.args.count (population case live) (seeded c.args.seed) in
    let i = c.loop-i._i in
    let old = c.loop-i.invariant in
    let is : c.count-sites.result ≡ population case live = c.count-sites.ensures case c.requires.ready.list_is in
    let first = rw is at c.next_index-index.ensures.first in
    let next = next_drawn all i c.args.count c.next_index-index.result (λ n. indices n (population case live) c.loop-i.sampler) (λ n. indices n (population case live) c.next_index-index.new.self) c.loop-i-test.true old.drawn first in
    let site = c.job_number-number.ensures.site in
    let more = ap (filter_map (site_of_index case live)) next.0 ∙ sites_more (site_of_index case live) (take i all) c.next_index-index.result site.0 site.1 in
    record {
      drawn = next.1;
      sampled = rw more (sampled_more case c.args.snaps.now.spacing (filter_map (site_of_index case live) (take i all)) site.0 c.loop-i.board c.outcome_of-outcome.new.board c.loop-i.totals c.add.new.self c.args.machine.now.taken c.loop-i.machine.taken c.outcome_of-outcome.new.machine.taken c.outcome_of-outcome.result
          c.job_number-number.result old.sampled site.2 c.outcome_of-outcome.ensures.drawn c.add.ensures.value);
      sum = c.add.ensures.sum ∙ ap (λ n. n + 1) old.sum;
      case = c.outcome_of-outcome.ensures.case ∙ old.case;
    }

-- all of them, at the end
all_taken : (all rest : List ℕ) (i : ℕ) → drop i all ≡ rest → rest ≡ [] → take i all ≡ all
all_taken all rest i e none = sym (append-nil (take i all)) ∙ ap (λ r. take i all ++ r) (sym (e ∙ none)) ∙ take-append-drop i all

whole : (c : CaseData) (live : Bool) (seed count i n : ℕ) (rest : ℕ → List ℕ) → n ≡ 0 → rest 0 ≡ [] → drop i (indices count (population c live) (seeded seed)) ≡ rest n →
    filter_map (site_of_index c live) (take i (indices count (population c live) (seeded seed))) ≡ drawn_sites c live seed count
unfolding drawn_sites
whole c live seed count i n rest zero_left none e = ap (filter_map (site_of_index c live)) (all_taken (indices count (population c live) (seeded seed)) (rest n) i e (ap rest zero_left ∙ none))

pub returns-clause-totals : goal.returns-clause-totals
unfolding indices
returns-clause-totals c = λ o.
    let sites = whole c.args.case.now c.args.live c.args.seed c.args.count c.loop-i._i (c.args.count - c.loop-i._i) (λ n. indices n (population c.args.case.now c.args.live) c.loop-i.sampler) (omega arith) refl c.loop-i.invariant.drawn in
    c.loop-i.invariant.sampled.counts o ∙ ap (λ (s : List Site). count_in c.args.case.now s o) sites

pub returns-clause-taken : goal.returns-clause-taken
unfolding indices
returns-clause-taken c =
    let sites = whole c.args.case.now c.args.live c.args.seed c.args.count c.loop-i._i (c.args.count - c.loop-i._i) (λ n. indices n (population c.args.case.now c.args.live) c.loop-i.sampler) (omega arith) refl c.loop-i.invariant.drawn in
    omega (arith, c.loop-i.invariant.sampled.taken, ap (steps_of_drawn c.args.case.now c.args.snaps.now.spacing) sites)

-- where there is nothing to draw from

pub returns-then-sites-eq0-clause-totals : goal.returns-then-sites-eq0-clause-totals
returns-then-sites-eq0-clause-totals c = λ o.
    let empty = nothing_drawn c.args.case.now c.args.live c.args.seed c.args.count (sym (c.count-sites.ensures c.args.case.now c.requires.ready.list_is) ∙ c.if-sites-eq0.true) in
    ap (λ (t : TotalsData). total_at t o) c.zero-totals.ensures ∙ total_at-totals_of (λ p. 0) o ∙ sym (ap (λ (s : List Site). count_in c.args.case.now s o) empty ∙ none_counted c.args.case.now o)

pub returns-then-sites-eq0-clause-taken : goal.returns-then-sites-eq0-clause-taken
returns-then-sites-eq0-clause-taken c =
    let empty = nothing_drawn c.args.case.now c.args.live c.args.seed c.args.count (sym (c.count-sites.ensures c.args.case.now c.requires.ready.list_is) ∙ c.if-sites-eq0.true) in
    let none = ap (steps_of_drawn c.args.case.now c.args.snaps.now.spacing) empty ∙ no_steps c.args.case.now c.args.snaps.now.spacing in
    omega (arith, none, c.taken.ensures)

-- ---- how many steps at most

pub returns-in_err-board-clause-most : goal.returns-in_err-board-clause-most
returns-in_err-board-clause-most c = most_steps c.args.case.now c.args.snaps.now.spacing _ (in_limit c.args.case.now c.args.golden.now c.args.case.now.limit c.requires.ready.golden_is refl)

pub returns-then-sites-eq0-clause-most : goal.returns-then-sites-eq0-clause-most
returns-then-sites-eq0-clause-most c = most_steps c.args.case.now c.args.snaps.now.spacing _ (in_limit c.args.case.now c.args.golden.now c.args.case.now.limit c.requires.ready.golden_is refl)

pub returns-clause-most : goal.returns-clause-most
returns-clause-most c = most_steps c.args.case.now c.args.snaps.now.spacing _ (in_limit c.args.case.now c.args.golden.now c.args.case.now.limit c.requires.ready.golden_is refl)
