use Rattle.std.proofs.Common.{◌≡◌, ◌<◌, ℕ, length, Result, ap, sym, subst, ◌∙◌, arith}
use Rattle.shard_merge.specs.Gained.{gained}
use Rattle.shard_merge.specs.Merged.{IsMerged}
use Rattle.shard_merge.specs.Union.{Agree, BoardData, IsFirstApart}
use Rattle.shard_merge.specs.declared.merging.MergeRefusal.{MergeRefusal}
use Rattle.shard_merge.proofs.Ends.{IsGiven, disagreed, failed, whole}
use Rattle.shard_merge.proofs.OnWay.{IsLeft}
use Rattle.shard_merge.proofs.merging.Merger.merge.Goals as goal
use Rattle.shard_merge.proofs.merging.Merger.merge.Goals.{in-Ok, in-Err}

pub returns-in-Some-clause-merged : goal.returns-in-Some-clause-merged
returns-in-Some-clause-merged g c =
    let pages : c.self.inside.page ≡ c.args.keeper.now.page = c.self.view_is ∙ sym c.requires.page in
    let some : 0 < c.args.keeper.now.page = omega (arith, pages, c.self.invariant.0) in
    let given : IsGiven g.D.Disk.tells c.args.keeper.now c.args.other.now (g.D.Disk.past c.args.disk.now) =
    record { jobs = c.board.ensures.jobs; long = c.board.ensures.long; other_long = c.requires.other ∙ ap length (sym c.requires.jobs); some = some; healthy = c.requires.healthy; file = c.requires.file } in
    disagreed g.D.Disk.tells c.args.keeper.now c.args.other.now (g.D.Disk.past c.args.disk.now) given (g.D.Disk.faults c.args.disk.now) c.in-Some.found.job c.in-Some.found.kept c.in-Some.found.other
    (subst (λ (b : BoardData). IsFirstApart b c.args.other.now c.in-Some.found.job c.in-Some.found.kept c.in-Some.found.other) c.board.ensures.value c.in-Some.ensures)

pub returns-clause-merged : goal.returns-clause-merged
returns-clause-merged g c =
    let pages : c.self.inside.page ≡ c.args.keeper.now.page = c.self.view_is ∙ sym c.requires.page in
    let some : 0 < c.args.keeper.now.page = omega (arith, pages, c.self.invariant.0) in
    let tells = g.D.Disk.tells in
    let old = c.args.keeper.now in
    let new = c.append_pages.new.keeper in
    let other = c.args.other.now in
    let before = g.D.Disk.past c.args.disk.now in
    let now = g.D.Disk.past c.append_pages.new.disk in
    let faults = g.D.Disk.faults c.args.disk.now in
    let faults' = g.D.Disk.faults c.append_pages.new.disk in
    let given : IsGiven tells old other before =
    record { jobs = c.board.ensures.jobs; long = c.board.ensures.long; other_long = c.requires.other ∙ ap length (sym c.requires.jobs); some = some; healthy = c.requires.healthy; file = c.requires.file } in
    let agreed : Agree old.board other = subst (λ (b : BoardData). Agree b other) c.board.ensures.value c.in_default.ensures in
    let e = c.append_pages.ensures in
    let went : IsLeft tells old other before now = record { any_moment = e.any_moment; any_moment_kept = e.any_moment_kept; sound = e.sound; old_rows = e.old_rows; rows_stay = e.rows_stay } in
    let number : c.count_gained-gained.result ≡ length (gained old.board other) = c.count_gained-gained.ensures ∙ ap (λ (b : BoardData). length (gained b other)) c.board-2.ensures.value in
    let P : Result ℕ MergeRefusal → Type 0 = λ answer. IsMerged tells old new other before now faults faults' answer in
    elim c.match-append_pages.branch [
      | in-Ok w ↦
          subst P (sym w.result-is)
          (whole tells old new other before now given agreed went faults faults' c.count_gained-gained.result w.in-Ok.ensures.keeper number w.in-Ok.ensures.cause w.in-Ok.ensures.file w.in-Ok.ensures.bytes w.in-Ok.ensures.gives)
      | in-Err w ↦ subst P (sym w.result-is) (failed tells old new other before now given agreed went faults faults' w.in-Err.ensures.cut_short w.in-Err.ensures.keeper w.in-Err.ensures.cause)
    ]
