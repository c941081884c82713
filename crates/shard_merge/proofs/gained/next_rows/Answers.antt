use Rattle.std.proofs.Common.{◌≡◌, ℕ, ◌+◌, ◌<◌, List, [], ◌∷◌, length, take, drop, get_or, Some, refl, sym, ap, ◌∙◌, arith}
use Rattle.std.specs.Prelude.{slice_get}
use Rattle.std.proofs.lemmas.List.{drop_more}
use Rattle.std.proofs.lemmas.List.Elements.{All-more, All-nil, All-weaker}
use Rattle.fs_model.specs.Job.{JobTable}
use Rattle.def_use.specs.Rows.{rows_of}
use Rattle.def_use.proofs.RowLists.{rows_next, rows_none}
use Rattle.shard_merge.specs.Gained.{gained_behind, outcome_on}
use Rattle.shard_merge.proofs.Rows.{row_there}
use Rattle.shard_merge.proofs.gained.next_rows.Goals as goal

pub loop-i-init : goal.loop-i-init
loop-i-init c = record {
  rows = c.clear.ensures.items ∙ rows_none (outcome_on c.args.list.now.list c.args.other.now) c.args.list.now.list;
  behind = refl;
  below = All-nil (λ n. n < c.args.from);
  walk = c.walk-walk.ensures;
  long = c.clear.ensures.len;
  room = c.clear.ensures.capacity;
}

first_is : (n m : ℕ) (a b : List ℕ) → n ∷ a ≡ m ∷ b → (n ≡ m) × (a ≡ b)
first_is n m a b same = (cc, cc)

pub loop-i-preserved : goal.loop-i-preserved
loop-i-preserved c =
    let list = c.args.list.now.list in
    let other = c.args.other.now in
    let all = gained_behind c.args.from c.args.board.now other in
    let i = c.loop-i._i in
    let found = c.next_gained-found in
    let n = found.result.number in
    let job = c.get-job.result in
    let row = c.row_with.result in
    let lt : i < length all = omega (arith, c.loop-i-test.true, c.requires.there) in
    let more : n ∷ gained_behind (n + 1) c.args.board.now other ≡ get_or all i 0 ∷ drop (i + 1) all = sym found.ensures.number ∙ c.loop-i.invariant.behind ∙ drop_more all i 0 lt in
    let parts = first_is n (get_or all i 0) (gained_behind (n + 1) c.args.board.now other) (drop (i + 1) all) more in
    let there : slice_get list n ≡ Some job = ap (λ (t : JobTable). slice_get t.list n) (sym c.loop-i.invariant.walk) ∙ c.get-job.ensures.job in
    let one = row_there list other n job found.result.outcome row c.requires.once there found.ensures.outcome c.row_with.ensures in
    record {
      rows = rows_next (outcome_on list other) list all i 0 c.loop-i.rows.items c.push_reserved.new.self.items row lt c.loop-i.invariant.rows (ap (λ (m : ℕ). rows_of (outcome_on list other) list (m ∷ [])) (sym parts.0) ∙ one) c.push_reserved.ensures.items;
      behind = parts.1;
      below = All-more (λ k. k < n + 1) all i 0 lt (All-weaker (λ k. k < c.loop-i.next) (λ k. k < n + 1) (λ k less. omega (arith, less, found.ensures.low)) (take i all) c.loop-i.invariant.below) (let e = parts.0 in omega (arith, e));
      walk = c.get-job.ensures.same ∙ c.loop-i.invariant.walk;
      long = omega (arith, c.push_reserved.ensures.len, c.loop-i.invariant.long);
      room = c.push_reserved.ensures.capacity ∙ c.loop-i.invariant.room;
    }
