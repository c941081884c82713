use Rattle.std.proofs.Common.{List, ℕ, sym, subst}
use Rattle.std.proofs.lemmas.List.{take_rest}
use Rattle.fs_model.specs.Card.{card}
use Rattle.fs_outside.specs.Past.{content}
use Rattle.result_keeper.specs.Begin.{IsHeaded}
use Rattle.result_keeper.proofs.Begun.{begin_leaves, begin_done}
use Rattle.result_keeper.proofs.CardsTell.{card_short}
use Rattle.result_keeper.proofs.opening.begin.Goals as goal

pub returns-in_err-write_behind-clause-any_moment : goal.returns-in_err-write_behind-clause-any_moment
returns-in_err-write_behind-clause-any_moment g c =
    λ told. begin_leaves (card c.args.case.now) c.args.head.now _ (card_short c.args.case.now c.requires.case) c.requires.head (take_rest c.args.head.now 1)
    (g.D.Disk.past c.args.disk.now) (g.D.Disk.past c.close.new.disk) (g.D.Disk.past c.write_behind.new.disk) (c.requires.synced told) (g.met.D.Disk.reads_image c.args.disk.now told)
    (c.in_ok-close.ensures.closed told) (c.close.ensures.any_moment told) (c.write_behind.ensures.any_moment told)

pub returns-clause-begun : goal.returns-clause-begun
returns-clause-begun g c =
    λ told. subst (λ (f : List ℕ). IsHeaded (card c.args.case.now) f) (sym (c.in_ok-write_behind.ensures.written told))
    (begin_done (card c.args.case.now) c.args.head.now _ (card_short c.args.case.now c.requires.case) c.requires.head (take_rest c.args.head.now 1) (content (g.D.Disk.past c.close.new.disk)) (c.in_ok-close.ensures.closed told))

pub returns-clause-any_moment : goal.returns-clause-any_moment
returns-clause-any_moment g c =
    λ told. begin_leaves (card c.args.case.now) c.args.head.now _ (card_short c.args.case.now c.requires.case) c.requires.head (take_rest c.args.head.now 1)
    (g.D.Disk.past c.args.disk.now) (g.D.Disk.past c.close.new.disk) (g.D.Disk.past c.write_behind.new.disk) (c.requires.synced told) (g.met.D.Disk.reads_image c.args.disk.now told)
    (c.in_ok-close.ensures.closed told) (c.close.ensures.any_moment told) (c.write_behind.ensures.any_moment told)
