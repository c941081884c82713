use Rattle.std.proofs.Common.{length, refl, ap, sym, ◌∙◌}
use Rattle.result_keeper.specs.Keep.{KeeperData}
use Rattle.campaign.specs.Ready.{ReadyData}
use Rattle.fs_model.specs.Pages.{missing}
use Rattle.campaign.proofs.Missing.{none_is_blank}
use Rattle.experiment.proofs.JobSites.{list_of}
use Rattle.campaign.proofs.Counted.{counts_in, sums_in}
use Rattle.campaign.proofs.performing.whole_totals.Goals as goal

pub totals_of-requires : goal.totals_of-requires
totals_of-requires g c = record { same = ap length c.board.ensures.value ∙ c.board.ensures.long ∙ ap length (c.board.ensures.jobs ∙ sym (list_of c.pages.inside.keeper.case c.pages.inside.list.now c.pages.invariant.0)) }

pub unreachable-requires : goal.unreachable-requires
unreachable-requires g c =
    let keeper = ap (λ (r : ReadyData). r.keeper) c.pages.view_is in
    let whole = ap (λ (k : KeeperData). missing k.board) keeper ∙ c.requires in
    let blank = c.in-Err.ensures.unfinished in
    let board = c.board.ensures.value in
    none_is_blank c.pages.inside.keeper.board c.in-Err.field-0.first (rw board at blank) whole

pub returns-clause-counts : goal.returns-clause-counts
returns-clause-counts g c = λ has o.
    counts_in c.pages.inside.keeper.case c.pages.inside.list.now c.pages.inside.keeper c.args.pages.now.keeper c.board.result.now c.in-Ok.totals
    c.pages.invariant.0 refl (ap (λ (r : ReadyData). r.keeper) c.pages.view_is) c.board.ensures.value c.in-Ok.ensures.counts has o

pub returns-clause-sums : goal.returns-clause-sums
returns-clause-sums g c = λ o.
    c.in-Ok.ensures.sums o
    ∙ sums_in c.pages.inside.keeper.case c.pages.inside.list.now c.pages.inside.keeper c.args.pages.now.keeper c.board.result.now o
    c.pages.invariant.0 refl (ap (λ (r : ReadyData). r.keeper) c.pages.view_is) c.board.ensures.value
