use Rattle.std.proofs.Common.{rules, ◌≡◌, [], length, ap, ◌∙◌}
use Rattle.std.proofs.lemmas.List.{nil_from_length}
use Rattle.fs_outside.specs.Past.{content}
use Rattle.fs_model.specs.Card.{card}
use Rattle.result_keeper.proofs.Filing.{length-board_of}
use Rattle.result_keeper.proofs.FileFronts.{none_by_front, first_is}
use Rattle.result_keeper.proofs.Settled.{empty_gives}
use Rattle.result_keeper.proofs.looking.board_on.Goals as goal

pub returns-then-is_empty-clause-board : goal.returns-then-is_empty-clause-board
returns-then-is_empty-clause-board g c =
    λ told.
    let file = content (g.D.Disk.past c.args.disk.now) in
    let long : length c.args.front.bytes.items ≡ 0 = search rules in
    empty_gives c.args.case.now c.args.list.now.list c.args.blank file c.requires.jobs c.requires.blank
    (none_by_front c.args.front.bytes.items file (first_is (card c.args.case.now) file c.args.front.bytes.items c.args.front.len (c.requires.front told)) (nil_from_length c.args.front.bytes.items long))

pub returns-then-is_empty-clause-long : goal.returns-then-is_empty-clause-long
returns-then-is_empty-clause-long g c = ap length c.requires.blank ∙ length-board_of c.args.list.now.list []
