use Rattle.std.proofs.Common.{◌≡◌, ◌<◌, min, ap, sym, subst, ◌∙◌, arith}
use Rattle.std.proofs.lemmas.Result.{MatchResult-from_err}
use Rattle.result_keeper.specs.Batches.{after_batches, IsBroken}
use Rattle.experiment.specs.Jobs.{RoseAs}
use Rattle.campaign.specs.Turn.{first_batches, page_of, steps_of_page}
use Rattle.campaign.specs.Ready.{ReadyData, portion_of}
use Rattle.campaign.proofs.UpTo.{IsUpTo, at_start, first_page_of, others_of, one_more, end_gives, end_taken}
use Rattle.result_keeper.proofs.PartWay.{next_leaves, next_old, next_sound, next_stays, next_broken}
use Rattle.campaign.proofs.paging.keep_pages.Goals as goal

pub loop-left-init : goal.loop-left-init
loop-left-init g c =
    at_start (g.W.Way.ends_early c.args.pages.now.shortcuts) g.D.Disk.tells (g.D.Disk.past c.args.disk.now) (g.D.Disk.faults c.args.disk.now) c.args.pages.now c.args.most c.requires.long c.requires.healthy c.requires.there (omega (arith, c.taken.ensures)) c.requires.file

pub loop-left-preserved : goal.loop-left-preserved
loop-left-preserved g c =
    let count : c.min-count.result ≡ min c.loop-left.left c.loop-left.pages.keeper.page = c.min-count.ensures ∙ ap (min c.loop-left.left) (sym c.pages-in-loop-left.invariant.2 ∙ ap (λ (r : ReadyData). r.keeper.page) c.pages-in-loop-left.view_is) in
    let some : 0 < c.loop-left.pages.keeper.page = let e = sym c.pages-in-loop-left.invariant.2 ∙ ap (λ (r : ReadyData). r.keeper.page) c.pages-in-loop-left.view_is in omega (arith, e, c.pages-in-loop-left.invariant.4) in
    let e = c.in_ok-from.ensures in
    one_more (g.W.Way.ends_early c.args.pages.now.shortcuts) g.D.Disk.tells (g.D.Disk.past c.args.disk.now) (g.D.Disk.past c.loop-left.disk) (g.D.Disk.past c.keep_page.new.disk) (g.D.Disk.faults c.args.disk.now) (g.D.Disk.faults c.loop-left.disk) (g.D.Disk.faults c.keep_page.new.disk) c.args.pages.now c.loop-left.pages c.keep_page.new.pages c.args.most c.loop-left.left c.loop-left.from c.min-count.result c.in_ok-from.from c.loop-left.invariant
    some (omega (arith, c.loop-left-test.true)) count e.cause
    (record { append = record { keeper = e.keeper; file = e.file; bytes = e.bytes; added = e.added; any_moment = e.any_moment; sound = e.sound; old_rows = e.old_rows; rows_stay = e.rows_stay }; behind = e.behind; left = e.left; counted = e.counted; taken = subst (λ b. RoseAs (g.W.Way.ends_early b) c.min-count.result c.loop-left.pages.taken (steps_of_page c.loop-left.pages c.min-count.result) c.keep_page.new.pages.taken) c.loop-left.invariant.shortcuts e.taken; spacing = e.spacing; shortcuts = e.shortcuts; budget = e.budget; shard = e.shard; window = e.window })

pub returns-in_err-from-clause-keeper : goal.returns-in_err-from-clause-keeper
returns-in_err-from-clause-keeper g c =
    let count : c.min-count.result ≡ min c.loop-left.left c.loop-left.pages.keeper.page = c.min-count.ensures ∙ ap (min c.loop-left.left) (sym c.pages-in-loop-left.invariant.2 ∙ ap (λ (r : ReadyData). r.keeper.page) c.pages-in-loop-left.view_is) in
    let some : 0 < c.loop-left.pages.keeper.page = let e = sym c.pages-in-loop-left.invariant.2 ∙ ap (λ (r : ReadyData). r.keeper.page) c.pages-in-loop-left.view_is in omega (arith, e, c.pages-in-loop-left.invariant.4) in
    MatchResult-from_err c.from_residual.result (λ _. c.keep_page.new.pages.keeper ≡ after_batches c.args.pages.now.keeper (first_batches (portion_of c.args.pages.now) c.args.pages.now.keeper c.args.most))
    (λ _. IsBroken g.D.Disk.tells (g.D.Disk.past c.args.disk.now) (g.D.Disk.past c.keep_page.new.disk) c.args.pages.now.keeper (first_batches (portion_of c.args.pages.now) c.args.pages.now.keeper c.args.most) c.keep_page.new.pages.keeper) c.from_residual.ensures.0
    (λ _. next_broken g.D.Disk.tells (g.D.Disk.past c.args.disk.now) (g.D.Disk.past c.loop-left.disk) (g.D.Disk.past c.keep_page.new.disk) c.args.pages.now.keeper c.loop-left.pages.keeper (first_batches (portion_of c.args.pages.now) c.args.pages.now.keeper c.args.most) (first_batches (portion_of c.loop-left.pages) c.loop-left.pages.keeper c.loop-left.left) (others_of c.loop-left.pages c.loop-left.left c.min-count.result) (page_of (portion_of c.loop-left.pages) c.loop-left.pages.keeper c.min-count.result) c.loop-left.invariant.way (first_page_of c.loop-left.pages c.loop-left.left c.min-count.result some (omega (arith, c.loop-left-test.true)) c.loop-left.invariant.there count) c.keep_page.new.pages.keeper c.in_err-from.ensures.keeper c.keep_page.ensures.any_moment)

pub returns-in_err-from-clause-any_moment : goal.returns-in_err-from-clause-any_moment
returns-in_err-from-clause-any_moment g c =
    let count : c.min-count.result ≡ min c.loop-left.left c.loop-left.pages.keeper.page = c.min-count.ensures ∙ ap (min c.loop-left.left) (sym c.pages-in-loop-left.invariant.2 ∙ ap (λ (r : ReadyData). r.keeper.page) c.pages-in-loop-left.view_is) in
    let some : 0 < c.loop-left.pages.keeper.page = let e = sym c.pages-in-loop-left.invariant.2 ∙ ap (λ (r : ReadyData). r.keeper.page) c.pages-in-loop-left.view_is in omega (arith, e, c.pages-in-loop-left.invariant.4) in
    next_leaves g.D.Disk.tells (g.D.Disk.past c.args.disk.now) (g.D.Disk.past c.loop-left.disk) (g.D.Disk.past c.keep_page.new.disk) c.args.pages.now.keeper c.loop-left.pages.keeper (first_batches (portion_of c.args.pages.now) c.args.pages.now.keeper c.args.most) (first_batches (portion_of c.loop-left.pages) c.loop-left.pages.keeper c.loop-left.left) (others_of c.loop-left.pages c.loop-left.left c.min-count.result) (page_of (portion_of c.loop-left.pages) c.loop-left.pages.keeper c.min-count.result) c.loop-left.invariant.way (first_page_of c.loop-left.pages c.loop-left.left c.min-count.result some (omega (arith, c.loop-left-test.true)) c.loop-left.invariant.there count) c.keep_page.ensures.any_moment

pub returns-in_err-from-clause-sound : goal.returns-in_err-from-clause-sound
returns-in_err-from-clause-sound g c =
    let count : c.min-count.result ≡ min c.loop-left.left c.loop-left.pages.keeper.page = c.min-count.ensures ∙ ap (min c.loop-left.left) (sym c.pages-in-loop-left.invariant.2 ∙ ap (λ (r : ReadyData). r.keeper.page) c.pages-in-loop-left.view_is) in
    let some : 0 < c.loop-left.pages.keeper.page = let e = sym c.pages-in-loop-left.invariant.2 ∙ ap (λ (r : ReadyData). r.keeper.page) c.pages-in-loop-left.view_is in omega (arith, e, c.pages-in-loop-left.invariant.4) in
    next_sound g.D.Disk.tells (g.D.Disk.past c.args.disk.now) (g.D.Disk.past c.loop-left.disk) (g.D.Disk.past c.keep_page.new.disk) c.args.pages.now.keeper c.loop-left.pages.keeper (first_batches (portion_of c.args.pages.now) c.args.pages.now.keeper c.args.most) (first_batches (portion_of c.loop-left.pages) c.loop-left.pages.keeper c.loop-left.left) (others_of c.loop-left.pages c.loop-left.left c.min-count.result) (page_of (portion_of c.loop-left.pages) c.loop-left.pages.keeper c.min-count.result) c.loop-left.invariant.way (first_page_of c.loop-left.pages c.loop-left.left c.min-count.result some (omega (arith, c.loop-left-test.true)) c.loop-left.invariant.there count) c.keep_page.ensures.sound

pub returns-in_err-from-clause-old_rows : goal.returns-in_err-from-clause-old_rows
returns-in_err-from-clause-old_rows g c =
    let count : c.min-count.result ≡ min c.loop-left.left c.loop-left.pages.keeper.page = c.min-count.ensures ∙ ap (min c.loop-left.left) (sym c.pages-in-loop-left.invariant.2 ∙ ap (λ (r : ReadyData). r.keeper.page) c.pages-in-loop-left.view_is) in
    let some : 0 < c.loop-left.pages.keeper.page = let e = sym c.pages-in-loop-left.invariant.2 ∙ ap (λ (r : ReadyData). r.keeper.page) c.pages-in-loop-left.view_is in omega (arith, e, c.pages-in-loop-left.invariant.4) in
    next_old g.D.Disk.tells (g.D.Disk.past c.args.disk.now) (g.D.Disk.past c.loop-left.disk) (g.D.Disk.past c.keep_page.new.disk) c.args.pages.now.keeper c.loop-left.pages.keeper (first_batches (portion_of c.args.pages.now) c.args.pages.now.keeper c.args.most) (first_batches (portion_of c.loop-left.pages) c.loop-left.pages.keeper c.loop-left.left) (others_of c.loop-left.pages c.loop-left.left c.min-count.result) (page_of (portion_of c.loop-left.pages) c.loop-left.pages.keeper c.min-count.result) c.loop-left.invariant.way (first_page_of c.loop-left.pages c.loop-left.left c.min-count.result some (omega (arith, c.loop-left-test.true)) c.loop-left.invariant.there count) c.keep_page.ensures.old_rows

pub returns-in_err-from-clause-rows_stay : goal.returns-in_err-from-clause-rows_stay
returns-in_err-from-clause-rows_stay g c =
    let count : c.min-count.result ≡ min c.loop-left.left c.loop-left.pages.keeper.page = c.min-count.ensures ∙ ap (min c.loop-left.left) (sym c.pages-in-loop-left.invariant.2 ∙ ap (λ (r : ReadyData). r.keeper.page) c.pages-in-loop-left.view_is) in
    let some : 0 < c.loop-left.pages.keeper.page = let e = sym c.pages-in-loop-left.invariant.2 ∙ ap (λ (r : ReadyData). r.keeper.page) c.pages-in-loop-left.view_is in omega (arith, e, c.pages-in-loop-left.invariant.4) in
    next_stays g.D.Disk.tells (g.D.Disk.past c.args.disk.now) (g.D.Disk.past c.loop-left.disk) (g.D.Disk.past c.keep_page.new.disk) c.args.pages.now.keeper c.loop-left.pages.keeper (first_batches (portion_of c.args.pages.now) c.args.pages.now.keeper c.args.most) (first_batches (portion_of c.loop-left.pages) c.loop-left.pages.keeper c.loop-left.left) (others_of c.loop-left.pages c.loop-left.left c.min-count.result) (page_of (portion_of c.loop-left.pages) c.loop-left.pages.keeper c.min-count.result) c.loop-left.invariant.way (first_page_of c.loop-left.pages c.loop-left.left c.min-count.result some (omega (arith, c.loop-left-test.true)) c.loop-left.invariant.there count) c.keep_page.ensures.rows_stay

pub returns-clause-gives : goal.returns-clause-gives
returns-clause-gives g c =
    let none : c.loop-left.left ≡ 0 = omega (arith, c.loop-left-test.false) in
    λ told sound gives. end_gives (g.W.Way.ends_early c.args.pages.now.shortcuts) g.D.Disk.tells (g.D.Disk.past c.args.disk.now) (g.D.Disk.past c.loop-left.disk) (g.D.Disk.faults c.args.disk.now) (g.D.Disk.faults c.loop-left.disk) c.args.pages.now c.loop-left.pages c.args.most c.loop-left.from
    (subst (λ n. IsUpTo (g.W.Way.ends_early c.args.pages.now.shortcuts) g.D.Disk.tells (g.D.Disk.past c.args.disk.now) (g.D.Disk.past c.loop-left.disk) (g.D.Disk.faults c.args.disk.now) (g.D.Disk.faults c.loop-left.disk) c.args.pages.now c.loop-left.pages c.args.most n c.loop-left.from) none c.loop-left.invariant)
    told sound (c.requires.file told) gives

pub returns-clause-taken : goal.returns-clause-taken
returns-clause-taken g c =
    let none : c.loop-left.left ≡ 0 = omega (arith, c.loop-left-test.false) in
    end_taken (g.W.Way.ends_early c.args.pages.now.shortcuts) g.D.Disk.tells (g.D.Disk.past c.args.disk.now) (g.D.Disk.past c.loop-left.disk) (g.D.Disk.faults c.args.disk.now) (g.D.Disk.faults c.loop-left.disk) c.args.pages.now c.loop-left.pages c.args.most c.loop-left.from
    (subst (λ n. IsUpTo (g.W.Way.ends_early c.args.pages.now.shortcuts) g.D.Disk.tells (g.D.Disk.past c.args.disk.now) (g.D.Disk.past c.loop-left.disk) (g.D.Disk.faults c.args.disk.now) (g.D.Disk.faults c.loop-left.disk) c.args.pages.now c.loop-left.pages c.args.most n c.loop-left.from) none c.loop-left.invariant)
