use Rattle.std.proofs.Common.{ℕ, ◌+◌, List, length, sym, ap, ◌∙◌, arith}
use Rattle.std.proofs.lemmas.Option.{slice_get_within}
use Rattle.std.specs.Prelude.{filter}
use Rattle.fs_model.specs.Job.{JobTable}
use Rattle.campaign.specs.Portions.{in_portion, missing_behind}
use Rattle.campaign.proofs.Missing.{next_found, next_none}
use Rattle.campaign.proofs.Due.{taken_in, left_out}
use Rattle.campaign.proofs.pages.next_number.Goals as goal

pub unreachable-requires : goal.unreachable-requires
unreachable-requires c =
    let none = ap (λ (l : List ℕ). length (filter (in_portion c.args.portion.now c.args.walk.now.list) l)) (next_none c.args.board.now c.search.at c.in-None.ensures) in
    let same = ap (λ (l : List ℕ). length l) c.search.invariant.same in
    omega (arith, none, same, c.requires.there)

pub returns-then-has-clause-number : goal.returns-then-has-clause-number
returns-then-has-clause-number c =
    let n = c.in-Some.number in
    let p = in_portion c.args.portion.now c.args.walk.now.list in
    sym c.search.invariant.same
    ∙ ap (filter p) (next_found c.args.board.now c.search.at n c.in-Some.ensures)
    ∙ taken_in p n (missing_behind (n + 1) c.args.board.now) (sym (ap (λ (t : JobTable). in_portion c.args.portion.now t.list n) c.search.invariant.walk) ∙ sym c.has.ensures.value ∙ c.if-has.true)

pub returns-then-has-clause-within : goal.returns-then-has-clause-within
returns-then-has-clause-within c = slice_get_within c.args.board.now c.in-Some.number _ c.in-Some.ensures.1

pub returns-then-has-clause-low : goal.returns-then-has-clause-low
returns-then-has-clause-low c = let h = c.in-Some.ensures.0 in omega (arith, h, c.search.invariant.low)

pub overflow_add-at : goal.overflow_add-at
overflow_add-at c = let lt = slice_get_within c.args.board.now c.in-Some.number _ c.in-Some.ensures.1 in let fits = c.len.ensures in omega (arith, lt, fits)

pub search-preserved : goal.search-preserved
search-preserved c =
    let n = c.in-Some.number in
    let p = in_portion c.args.portion.now c.args.walk.now.list in
    let h = c.in-Some.ensures.0 in
    record {
      low = omega (arith, h, c.search.invariant.low);
      walk = c.has.ensures.same ∙ c.search.invariant.walk;
      same =
          sym (left_out p n (missing_behind (n + 1) c.args.board.now) (sym (ap (λ (t : JobTable). in_portion c.args.portion.now t.list n) c.search.invariant.walk) ∙ sym c.has.ensures.value ∙ c.if-has.false))
          ∙ sym (ap (filter p) (next_found c.args.board.now c.search.at n c.in-Some.ensures))
          ∙ c.search.invariant.same;
    }

pub search-smaller : goal.search-smaller
search-smaller c = let h = c.in-Some.ensures.0 in let lt = slice_get_within c.args.board.now c.in-Some.number _ c.in-Some.ensures.1 in omega (arith, h, lt)
