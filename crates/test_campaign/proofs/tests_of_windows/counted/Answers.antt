use Rattle.std.proofs.Common.{◌≡◌, length, sym, ◌∙◌, arith}
use Rattle.std.proofs.lemmas.Bool.Decides.{nat_tests}
use Rattle.fs_model.specs.AccessLog.{log}
use Rattle.fs_model.specs.Job.{log_of}
use Rattle.fs_model.specs.Run.{cycles}
use Rattle.test_campaign.proofs.tests_of_windows.counted.Goals as goal

pub sites_in-sites-requires : goal.sites_in-sites-requires
unfolding log_of log
sites_in-sites-requires c =
    let same : c.cycles.result ≡ c.count.result = grind (arith, nat_tests) in
    sym c.cycles.ensures ∙ same ∙ c.count.ensures.value ∙ c.requires.golden.log.cycles

pub counts_in-requires-clause-cycles : goal.counts_in-requires-clause-cycles
unfolding log_of log
counts_in-requires-clause-cycles c =
    let same : c.cycles.result ≡ c.count.result = grind (arith, nat_tests) in
    sym c.cycles.ensures ∙ same ∙ c.count.ensures.value ∙ c.requires.golden.log.cycles
