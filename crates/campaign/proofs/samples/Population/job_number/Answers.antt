use Rattle.std.proofs.Common.{◌<◌, true, sym, ◌∙◌, arith, length}
use Rattle.fs_model.specs.Site.{sites_of}
use Rattle.fs_model.specs.Run.{cycles}
use Rattle.fs_model.specs.AccessLog.{log}
use Rattle.fs_model.proofs.Tables.{list_of}
use Rattle.access_log.specs.LogData.{log_in}
use Rattle.def_use.proofs.SameLog.{same_table}
use Rattle.campaign.specs.Sampled.{population}
use Rattle.campaign.proofs.Drawing.{live_draw, cycle_low, site_in_space, space_of, number_in, number_low}
use Rattle.campaign.proofs.samples.Population.job_number.Goals as goal

pub job_at-requires : goal.job_at-requires
job_at-requires c =
    let lists = list_of c.args.self.now.case.now c.args.self.now.list.now c.requires.list in
    let low : c.args.index < population c.args.self.now.case.now true = rw c.if-self.true at c.requires.index in
    rw lists low

pub site_at-site-requires : goal.site_at-site-requires
site_at-site-requires c =
    let low : c.args.index < length (sites_of c.args.self.now.case.now) = rw c.if-self.false at c.requires.index in
    omega (arith, cycle_low c.args.self.now.case.now c.args.index low, c.requires.limit)

pub job_of-requires-clause-list : goal.job_of-requires-clause-list
job_of-requires-clause-list c = c.requires.list ∙ sym (same_table (log_in c.args.self.now.log.now) (log c.args.self.now.case.now) c.requires.log)

pub job_of-requires-clause-site : goal.job_of-requires-clause-site
job_of-requires-clause-site c =
    let low : c.args.index < length (sites_of c.args.self.now.case.now) = rw c.if-self.false at c.requires.index in
    let site = c.site_at-site.ensures in
    space_of (log_in c.args.self.now.log.now) (log c.args.self.now.case.now) c.site_at-site.result c.requires.log (site_in_space c.args.self.now.case.now c.args.index low c.site_at-site.result site.cycle site.cell site.bit)

pub returns-then-self-clause-site : goal.returns-then-self-clause-site
returns-then-self-clause-site c =
    let draw = live_draw c.args.self.now.case.now c.args.self.now.list.now.list c.args.index c.job_at.result (list_of c.args.self.now.case.now c.args.self.now.list.now c.requires.list) c.job_at.ensures in
    rw c.if-self.true draw

pub returns-else-self-clause-site : goal.returns-else-self-clause-site
returns-else-self-clause-site c =
    let low : c.args.index < length (sites_of c.args.self.now.case.now) = rw c.if-self.false at c.requires.index in
    let site = c.site_at-site.ensures in
    let space = site_in_space c.args.self.now.case.now c.args.index low c.site_at-site.result site.cycle site.cell site.bit in
    rw c.if-self.false (
      c.site_at-site.result,
      site.listed (cycles c.args.self.now.case.now) low,
      record {
        space = space;
        number_is = number_in c.args.self.now.case.now (log_in c.args.self.now.log.now) c.args.self.now.list.now.list c.site_at-site.result c.job_of.result c.requires.log (list_of c.args.self.now.case.now c.args.self.now.list.now c.requires.list) space c.job_of.ensures;
      },
    )

pub returns-else-self-clause-known : goal.returns-else-self-clause-known
returns-else-self-clause-known c = number_low (log_in c.args.self.now.log.now) c.args.self.now.list.now.list c.site_at-site.result c.job_of.result c.job_of.ensures
