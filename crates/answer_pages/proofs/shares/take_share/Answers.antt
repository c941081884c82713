use Rattle.std.proofs.Common.{◌≡◌, ℕ, ◌+◌, ◌<◌, ◌≤◌, ◌++◌, List, Some, length, vec_len, ap, sym, subst, ◌∙◌, arith}
use Rattle.std.specs.Prelude.{All, slice_get, Vec}
use Rattle.std.specs.declared.alloc.Global.{Global}
use Rattle.std.proofs.lemmas.List.Elements.{All-push}
use Rattle.fs_model.specs.declared.sites.Job.{Job}
use Rattle.fs_model.specs.Job.{JobTable, jobs_in}
use Rattle.fs_model.proofs.Tables.{list_of}
use Rattle.def_use.specs.Board.{place_at}
use Rattle.run_answers.specs.Reference.{IsJobIn}
use Rattle.answer_pages.specs.declared.worker.Claim.{Claim}
use Rattle.answer_pages.specs.Ready.{lines_asked_behind}
use Rattle.answer_pages.specs.Workers.{share_text}
use Rattle.answer_pages.proofs.Rows.{place_is, some_at, text_end, text_passed, text_taken}
use Rattle.answer_pages.proofs.shares.take_share.Goals as goal
use Rattle.answer_pages.proofs.shares.take_share.Goals.{then-is_due+in_ok-push, else-is_due}

pub loop-number-preserved : goal.loop-number-preserved
loop-number-preserved c =
    let a = c.args.answers.now in
    let case = a.case.now in
    let i = c.loop-number.number in
    let inv = c.loop-number.invariant in
    let low : i < length a.board.now = omega (arith, c.loop-number-test.true, c.len-end.ensures) in
    let list : a.list.now.list ≡ jobs_in case = list_of case a.list.now c.requires.case.list in
    let on = place_is a.board.now i low in
    elim c.if-is_due.branch [
      | then-is_due+in_ok-push w ↦
          let walk : c.loop-number.walk.list ≡ jobs_in case = ap (λ (t : JobTable). t.list) (inv.walk ∙ c.requires.walk) ∙ list in
          let at : slice_get (jobs_in case) i ≡ Some w.get-job.result = subst (λ (l : List Job). slice_get l i ≡ Some w.get-job.result) walk w.get-job.ensures.job in
          let items = ap (λ (v : Vec Claim Global). v.items) w.claims-is ∙ w.in_ok-push.ensures.items in
          let len : vec_len c.if-is_due.claims ≡ vec_len c.loop-number.claims + 1 = ap (λ (v : Vec Claim Global). vec_len v) w.claims-is ∙ w.in_ok-push.ensures.len in
          let few = inv.few in
          let job : IsJobIn case w.get-job.result = record { number = i; at = at } in
          record {
            walk = w.walk-is ∙ w.get-job.ensures.same ∙ inv.walk;
            few = omega (arith, len, few);
            jobs = subst (λ l. All (λ (claim : Claim). IsJobIn case claim.job) l) (sym items)
                (All-push (λ (claim : Claim). IsJobIn case claim.job) c.loop-number.claims.items (record { number = i; job = w.get-job.result }) inv.jobs job);
            text = text_taken case a.board.now a.chosen.now c.loop-number.claims.items c.args.from i i w.get-job.result (place_at a.board.now i) at on (sym c.is_due.ensures ∙ w.if-is_due.true) inv.text
                ∙ ap (λ (l : List Claim). share_text case l ++ lines_asked_behind a (i + 1)) (sym items);
          }
      | else-is_due w ↦
          let some = some_at (jobs_in case) i (omega (arith, low, c.requires.case.board, ap length list)) in
          let len : vec_len c.if-is_due.claims ≡ vec_len c.loop-number.claims = ap (λ (v : Vec Claim Global). vec_len v) w.claims-is in
          let few = inv.few in
          record {
            walk = w.walk-is ∙ inv.walk;
            few = omega (arith, len, few);
            jobs = subst (λ (v : Vec Claim Global). All (λ (claim : Claim). IsJobIn case claim.job) v.items) (sym w.claims-is) inv.jobs;
            text = text_passed case a.board.now a.chosen.now (share_text case c.loop-number.claims.items) c.args.from i some.0 (place_at a.board.now i) some.1 on (sym c.is_due.ensures ∙ w.if-is_due.false) inv.text
                ∙ ap (λ (v : Vec Claim Global). share_text case v.items ++ lines_asked_behind a (i + 1)) (sym w.claims-is);
          }
    ]

pub returns-clause-text : goal.returns-clause-text
returns-clause-text c =
    let a = c.args.answers.now in
    let over : length a.board.now ≤ c.loop-number.number = omega (arith, c.loop-number-test.false, c.len-end.ensures) in
    let most : length a.board.now ≤ c.max.result = omega (arith, c.max.ensures, c.len-end.ensures) in
    c.loop-number.invariant.text
    ∙ ap (λ (x : List ℕ). share_text a.case.now c.loop-number.claims.items ++ x)
    (text_end a.case.now a.board.now a.chosen.now c.loop-number.number over ∙ sym (text_end a.case.now a.board.now a.chosen.now c.max.result most))
