use Rattle.std.proofs.Common.{sym, ◌∙◌, arith}
use Rattle.result_keeper.proofs.Once.{once_of}
use Rattle.fs_outside.specs.Past.{content}
use Rattle.shard_merge.proofs.PageRows.{as_page, behind_kept, page_added, page_fileable, page_leaves, page_long, page_right}
use Rattle.shard_merge.proofs.paging.append_page.Goals as goal

pub next_rows-next-requires-clause-once : goal.next_rows-next-requires-clause-once
next_rows-next-requires-clause-once g c = once_of c.args.keeper.now.case c.args.list.now.list (sym c.requires.jobs ∙ c.board.ensures.jobs)

pub append-requires-clause-some : goal.append-requires-clause-some
append-requires-clause-some g c =
    let page =
    as_page c.args.list.now.list c.args.keeper.now c.args.other.now c.args.from c.args.count c.next_rows-next.result c.board.result.now c.next_rows-next.new.rows.items c.deref.result.now c.board.ensures.value
    c.board.ensures.long c.board.ensures.jobs c.requires.jobs c.requires.there c.next_rows-next.ensures.rows c.next_rows-next.ensures.behind c.next_rows-next.ensures.below c.deref.ensures.value in
    let long = page_long c.args.list.now.list c.args.keeper.now c.args.other.now c.args.from c.args.count c.next_rows-next.result c.deref.result.now page in omega (arith, long, c.requires.some)

pub append-requires-clause-few : goal.append-requires-clause-few
append-requires-clause-few g c =
    let page =
    as_page c.args.list.now.list c.args.keeper.now c.args.other.now c.args.from c.args.count c.next_rows-next.result c.board.result.now c.next_rows-next.new.rows.items c.deref.result.now c.board.ensures.value
    c.board.ensures.long c.board.ensures.jobs c.requires.jobs c.requires.there c.next_rows-next.ensures.rows c.next_rows-next.ensures.behind c.next_rows-next.ensures.below c.deref.ensures.value in
    let long = page_long c.args.list.now.list c.args.keeper.now c.args.other.now c.args.from c.args.count c.next_rows-next.result c.deref.result.now page in omega (arith, long, c.requires.few)

pub append-requires-clause-blank : goal.append-requires-clause-blank
append-requires-clause-blank g c =
    let page =
    as_page c.args.list.now.list c.args.keeper.now c.args.other.now c.args.from c.args.count c.next_rows-next.result c.board.result.now c.next_rows-next.new.rows.items c.deref.result.now c.board.ensures.value
    c.board.ensures.long c.board.ensures.jobs c.requires.jobs c.requires.there c.next_rows-next.ensures.rows c.next_rows-next.ensures.behind c.next_rows-next.ensures.below c.deref.ensures.value in
    page_fileable c.args.list.now.list c.args.keeper.now c.args.other.now c.args.from c.args.count c.next_rows-next.result c.deref.result.now page

pub returns-in_err-append-clause-any_moment : goal.returns-in_err-append-clause-any_moment
returns-in_err-append-clause-any_moment g c =
    let page =
    as_page c.args.list.now.list c.args.keeper.now c.args.other.now c.args.from c.args.count c.next_rows-next.result c.board.result.now c.next_rows-next.new.rows.items c.deref.result.now c.board.ensures.value
    c.board.ensures.long c.board.ensures.jobs c.requires.jobs c.requires.there c.next_rows-next.ensures.rows c.next_rows-next.ensures.behind c.next_rows-next.ensures.below c.deref.ensures.value in
    λ told. page_leaves c.args.list.now.list c.args.keeper.now c.args.other.now c.args.from c.args.count c.next_rows-next.result c.deref.result.now page (g.D.Disk.past c.args.disk.now) (g.D.Disk.past c.append.new.disk) (c.append.ensures.any_moment told)

pub returns-in_err-append-clause-sound : goal.returns-in_err-append-clause-sound
returns-in_err-append-clause-sound g c =
    let page =
    as_page c.args.list.now.list c.args.keeper.now c.args.other.now c.args.from c.args.count c.next_rows-next.result c.board.result.now c.next_rows-next.new.rows.items c.deref.result.now c.board.ensures.value
    c.board.ensures.long c.board.ensures.jobs c.requires.jobs c.requires.there c.next_rows-next.ensures.rows c.next_rows-next.ensures.behind c.next_rows-next.ensures.below c.deref.ensures.value in
    λ told right. c.append.ensures.sound told (page_right c.args.list.now.list c.args.keeper.now c.args.other.now c.args.from c.args.count c.next_rows-next.result c.deref.result.now page right)

pub returns-in_err-append-clause-old_rows : goal.returns-in_err-append-clause-old_rows
returns-in_err-append-clause-old_rows g c =
    let page =
    as_page c.args.list.now.list c.args.keeper.now c.args.other.now c.args.from c.args.count c.next_rows-next.result c.board.result.now c.next_rows-next.new.rows.items c.deref.result.now c.board.ensures.value
    c.board.ensures.long c.board.ensures.jobs c.requires.jobs c.requires.there c.next_rows-next.ensures.rows c.next_rows-next.ensures.behind c.next_rows-next.ensures.below c.deref.ensures.value in
    λ told right. c.append.ensures.old_rows told (page_right c.args.list.now.list c.args.keeper.now c.args.other.now c.args.from c.args.count c.next_rows-next.result c.deref.result.now page right)

pub returns-in_err-append-clause-rows_stay : goal.returns-in_err-append-clause-rows_stay
returns-in_err-append-clause-rows_stay g c =
    let page =
    as_page c.args.list.now.list c.args.keeper.now c.args.other.now c.args.from c.args.count c.next_rows-next.result c.board.result.now c.next_rows-next.new.rows.items c.deref.result.now c.board.ensures.value
    c.board.ensures.long c.board.ensures.jobs c.requires.jobs c.requires.there c.next_rows-next.ensures.rows c.next_rows-next.ensures.behind c.next_rows-next.ensures.below c.deref.ensures.value in
    λ told right. c.append.ensures.rows_stay told (page_right c.args.list.now.list c.args.keeper.now c.args.other.now c.args.from c.args.count c.next_rows-next.result c.deref.result.now page right)

pub returns-clause-behind : goal.returns-clause-behind
returns-clause-behind g c =
    let page =
    as_page c.args.list.now.list c.args.keeper.now c.args.other.now c.args.from c.args.count c.next_rows-next.result c.board.result.now c.next_rows-next.new.rows.items c.deref.result.now c.board.ensures.value
    c.board.ensures.long c.board.ensures.jobs c.requires.jobs c.requires.there c.next_rows-next.ensures.rows c.next_rows-next.ensures.behind c.next_rows-next.ensures.below c.deref.ensures.value in
    behind_kept c.args.list.now.list c.args.keeper.now c.args.other.now c.args.from c.args.count c.next_rows-next.result c.deref.result.now page c.append.new.self c.in_ok-append.ensures.keeper

pub returns-clause-added : goal.returns-clause-added
returns-clause-added g c =
    let page =
    as_page c.args.list.now.list c.args.keeper.now c.args.other.now c.args.from c.args.count c.next_rows-next.result c.board.result.now c.next_rows-next.new.rows.items c.deref.result.now c.board.ensures.value
    c.board.ensures.long c.board.ensures.jobs c.requires.jobs c.requires.there c.next_rows-next.ensures.rows c.next_rows-next.ensures.behind c.next_rows-next.ensures.below c.deref.ensures.value in
    λ told. page_added c.args.list.now.list c.args.keeper.now c.args.other.now c.args.from c.args.count c.next_rows-next.result c.deref.result.now page (g.D.Disk.past c.args.disk.now) (content (g.D.Disk.past c.append.new.disk)) (c.in_ok-append.ensures.added told)

pub returns-clause-any_moment : goal.returns-clause-any_moment
returns-clause-any_moment g c =
    let page =
    as_page c.args.list.now.list c.args.keeper.now c.args.other.now c.args.from c.args.count c.next_rows-next.result c.board.result.now c.next_rows-next.new.rows.items c.deref.result.now c.board.ensures.value
    c.board.ensures.long c.board.ensures.jobs c.requires.jobs c.requires.there c.next_rows-next.ensures.rows c.next_rows-next.ensures.behind c.next_rows-next.ensures.below c.deref.ensures.value in
    λ told. page_leaves c.args.list.now.list c.args.keeper.now c.args.other.now c.args.from c.args.count c.next_rows-next.result c.deref.result.now page (g.D.Disk.past c.args.disk.now) (g.D.Disk.past c.append.new.disk) (c.append.ensures.any_moment told)

pub returns-clause-sound : goal.returns-clause-sound
returns-clause-sound g c =
    let page =
    as_page c.args.list.now.list c.args.keeper.now c.args.other.now c.args.from c.args.count c.next_rows-next.result c.board.result.now c.next_rows-next.new.rows.items c.deref.result.now c.board.ensures.value
    c.board.ensures.long c.board.ensures.jobs c.requires.jobs c.requires.there c.next_rows-next.ensures.rows c.next_rows-next.ensures.behind c.next_rows-next.ensures.below c.deref.ensures.value in
    λ told right. c.append.ensures.sound told (page_right c.args.list.now.list c.args.keeper.now c.args.other.now c.args.from c.args.count c.next_rows-next.result c.deref.result.now page right)

pub returns-clause-old_rows : goal.returns-clause-old_rows
returns-clause-old_rows g c =
    let page =
    as_page c.args.list.now.list c.args.keeper.now c.args.other.now c.args.from c.args.count c.next_rows-next.result c.board.result.now c.next_rows-next.new.rows.items c.deref.result.now c.board.ensures.value
    c.board.ensures.long c.board.ensures.jobs c.requires.jobs c.requires.there c.next_rows-next.ensures.rows c.next_rows-next.ensures.behind c.next_rows-next.ensures.below c.deref.ensures.value in
    λ told right. c.append.ensures.old_rows told (page_right c.args.list.now.list c.args.keeper.now c.args.other.now c.args.from c.args.count c.next_rows-next.result c.deref.result.now page right)

pub returns-clause-rows_stay : goal.returns-clause-rows_stay
returns-clause-rows_stay g c =
    let page =
    as_page c.args.list.now.list c.args.keeper.now c.args.other.now c.args.from c.args.count c.next_rows-next.result c.board.result.now c.next_rows-next.new.rows.items c.deref.result.now c.board.ensures.value
    c.board.ensures.long c.board.ensures.jobs c.requires.jobs c.requires.there c.next_rows-next.ensures.rows c.next_rows-next.ensures.behind c.next_rows-next.ensures.below c.deref.ensures.value in
    λ told right. c.append.ensures.rows_stay told (page_right c.args.list.now.list c.args.keeper.now c.args.other.now c.args.from c.args.count c.next_rows-next.result c.deref.result.now page right)
