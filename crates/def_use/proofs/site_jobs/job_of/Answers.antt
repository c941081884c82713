use Rattle.access_log.specs.LogData.{log_in}
use Rattle.def_use.proofs.SiteJobs.{by_read, by_write, by_nothing}
use Rattle.def_use.proofs.site_jobs.job_of.Goals as goal

pub returns-then-reads : goal.returns-then-reads
returns-then-reads c =
    by_read (log_in c.args.log.now) c.args.list.now c.args.site.now c.next_touch.result c.in-Some.cycle c.in-Some.reads c.find.result c.requires.list c.requires.site c.next_touch.ensures c.in-Some.is c.if-reads.true c.find.ensures

pub returns-else-reads : goal.returns-else-reads
returns-else-reads c =
    by_write (log_in c.args.log.now) c.args.list.now.list c.args.site.now c.next_touch.result c.in-Some.cycle c.in-Some.reads c.next_touch.ensures c.in-Some.is c.if-reads.false

pub returns-in-None : goal.returns-in-None
returns-in-None c = by_nothing (log_in c.args.log.now) c.args.list.now.list c.args.site.now c.next_touch.result c.next_touch.ensures c.in-None.is
