use Rattle.std.proofs.Common.{◌≡◌, ◌∙◌, ℕ, ◌+◌, arith, rules, drop, take, sym, true, false}
use Rattle.std.proofs.lemmas.List.{take_all}
use Rattle.fs_model.specs.declared.sites.Site.{Site}
use Rattle.fs_model.specs.Case.{CaseData}
use Rattle.fs_model.specs.Run.{cycles}
use Rattle.fs_model.specs.Site.{HasSite}
use Rattle.phases.specs.Sites.{IsSite}
use Rattle.phases.proofs.Places.{at_place, one_more}
use Rattle.phases.proofs.Reported.{cycles_is}
use Rattle.phases.proofs.sites.first_missing.Goals as goal

-- a run of all cycles has the sites of the case, and no others
one_of : (c : CaseData) (n : ℕ) (site : Site) → n ≡ cycles c → HasSite c n site → IsSite c site
one_of c n site count h = let early = h.0 in record { early = omega (arith, count, early); cell = h.1; bit = h.2 }

none_of : (c : CaseData) (n : ℕ) (site : Site) → n ≡ cycles c → (HasSite c n site → ⊥) → IsSite c site → ⊥
none_of c n site count none is = let early = is.early in none (omega (arith, count, early), is.cell, is.bit)

pub returns-then-not-is_site-clause-some : goal.returns-then-not-is_site-clause-some
returns-then-not-is_site-clause-some c =
    let off : c.is_site.result ≡ false = search rules in
    let count = c.count.ensures.value ∙ sym (cycles_is c.args.case.now c.args.golden.now c.requires) in
    record {
      before = take c.loop-site.site-index c.args.sites.now;
      behind = drop (c.loop-site.site-index + 1) c.args.sites.now;
      sites_are = at_place c.args.sites.now c.loop-site.site-index _ (omega arith);
      all_before = c.loop-site.invariant;
      none = none_of c.args.case.now c.count.result _ count (c.is_site.ensures.no off);
    }

pub loop-site-preserved : goal.loop-site-preserved
loop-site-preserved c =
    let on : c.is_site.result ≡ true = search rules in
    let count = c.count.ensures.value ∙ sym (cycles_is c.args.case.now c.args.golden.now c.requires) in
    one_more (IsSite c.args.case.now) c.args.sites.now c.loop-site.site-index _ (omega arith) c.loop-site.invariant
    (one_of c.args.case.now c.count.result _ count (c.is_site.ensures.yes on))

pub returns-clause-none : goal.returns-clause-none
returns-clause-none c =
    let all = c.loop-site.invariant in
    rw (take_all c.loop-site.site-index c.args.sites.now (omega arith)) at all
