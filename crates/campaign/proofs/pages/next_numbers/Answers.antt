use Rattle.std.proofs.Common.{All, ◌≡◌, ◌<◌, ℕ, suc, List, [], ◌∷◌, ◌++◌, ◌+◌, length, take, drop, sym, ap, subst, ◌∙◌, arith}
use Rattle.std.proofs.lemmas.List.Elements.{All-push, All-same, All-weaker}
use Rattle.job_queue.specs.Pages.{AreDistinct}
use Rattle.fs_model.specs.Job.{JobTable}
use Rattle.campaign.specs.Portions.{due_behind, in_portion}
use Rattle.campaign.proofs.Apart.{apart_push}
use Rattle.campaign.proofs.Missing.{front_at, rest_at}
use Rattle.campaign.proofs.pages.next_numbers.Goals as goal

pub loop-i-preserved : goal.loop-i-preserved
loop-i-preserved c =
    let all = due_behind (in_portion c.args.portion.now c.args.list.now.list) c.args.from c.args.board.now in
    let i = c.loop-i._i in
    let n = c.next_number-number.result in
    let lt = c.loop-i-test.true in
    let one : i + 1 ≡ suc i = omega arith in
    let walk = c.loop-i.invariant.walk in
    let first : due_behind (in_portion c.args.portion.now c.args.list.now.list) c.loop-i.next c.args.board.now ≡ n ∷ due_behind (in_portion c.args.portion.now c.args.list.now.list) (n + 1) c.args.board.now =
    subst (λ (t : JobTable). due_behind (in_portion c.args.portion.now t.list) c.loop-i.next c.args.board.now ≡ n ∷ due_behind (in_portion c.args.portion.now t.list) (n + 1) c.args.board.now) walk c.next_number-number.ensures.number in
    let found : drop i all ≡ n ∷ due_behind (in_portion c.args.portion.now c.args.list.now.list) (n + 1) c.args.board.now = sym c.loop-i.invariant.behind ∙ first in
    let older : All (λ (k : ℕ). k < n) c.loop-i.numbers.items = All-weaker (λ (k : ℕ). k < c.loop-i.next) (λ (k : ℕ). k < n) (λ k lt. omega (arith, lt, c.next_number-number.ensures.low)) c.loop-i.numbers.items c.loop-i.invariant.below in
    record {
      numbers = c.push_reserved.ensures.items ∙ ap (λ (l : List ℕ). l ++ n ∷ []) c.loop-i.invariant.numbers ∙ sym (ap (λ (k : ℕ). take k all) one ∙ front_at all i n (due_behind (in_portion c.args.portion.now c.args.list.now.list) (n + 1) c.args.board.now) found);
      behind = sym (ap (λ (k : ℕ). drop k all) one ∙ rest_at all i n (due_behind (in_portion c.args.portion.now c.args.list.now.list) (n + 1) c.args.board.now) found);
      jobs = All-same (λ (k : ℕ). k < length c.args.board.now) _ (c.loop-i.numbers.items ++ n ∷ []) c.push_reserved.ensures.items (All-push (λ (k : ℕ). k < length c.args.board.now) c.loop-i.numbers.items n c.loop-i.invariant.jobs c.next_number-number.ensures.within);
      apart = subst AreDistinct (sym c.push_reserved.ensures.items) (apart_push n c.loop-i.numbers.items c.loop-i.invariant.apart older);
      below = All-same (λ (k : ℕ). k < n + 1) _ (c.loop-i.numbers.items ++ n ∷ []) c.push_reserved.ensures.items
          (All-push (λ (k : ℕ). k < n + 1) c.loop-i.numbers.items n (All-weaker (λ (k : ℕ). k < n) (λ (k : ℕ). k < n + 1) (λ k lt. omega (arith, lt)) c.loop-i.numbers.items older) (omega arith));
      long = omega (arith, c.push_reserved.ensures.len, c.loop-i.invariant.long);
      walk = c.next_number-number.ensures.walk ∙ walk;
      room = c.push_reserved.ensures.capacity ∙ c.loop-i.invariant.room;
    }
