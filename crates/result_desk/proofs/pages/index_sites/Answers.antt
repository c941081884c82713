use Rattle.result_desk.proofs.Search.{indexed}
use Rattle.result_desk.proofs.pages.index_sites.Goals as goal

pub returns-clause-index : goal.returns-clause-index
returns-clause-index c = indexed c.args.sites.now _ _ c.list_names.ensures.index c.sort_unstable.ensures.permutation c.sort_unstable.ensures.sorted
