use Rattle.std.proofs.Common.{◌≡◌, List, [], ◌∷◌, ◌++◌, ◌+◌, take, get_or, refl, sym, ap, ◌∙◌, arith}
use Rattle.std.proofs.lemmas.List.{take_more}
use Rattle.fs_model.specs.declared.outcomes.Row.{Row}
use Rattle.fs_model.specs.Outcome.{outcome}
use Rattle.def_use.specs.Rows.{rows_of}
use Rattle.worker_pool.specs.Steps.{steps_of_numbers}
use Rattle.def_use.proofs.RowLists.{rows_none, rows-append}
use Rattle.worker_pool.proofs.StepLists.{steps_none, steps-append}
use Rattle.campaign.proofs.Steps.{rose_on}
use Rattle.campaign.proofs.jobs.run_numbers.Goals as goal

pub loop-number-init : goal.loop-number-init
loop-number-init c =
    let none = steps_none c.args.of.now.case.now c.args.snaps.now.spacing c.args.of.now.list.now.list in
    record {
      rows = c.clear.ensures.items ∙ (rows_none (outcome c.args.of.now.case.now) c.args.of.now.list.now.list);
      taken = rw none (omega arith);
      case = refl;
      long = c.clear.ensures.len;
      room = c.clear.ensures.capacity;
    }

pub push_reserved-requires : goal.push_reserved-requires
push_reserved-requires c = omega (arith, c.loop-number.invariant.long, c.loop-number.invariant.room, c.requires.room, c.loop-number-test.true)

pub loop-number-preserved : goal.loop-number-preserved
loop-number-preserved c =
    let old = c.loop-number.invariant in
    let numbers = c.args.numbers.now in
    let i = c.loop-number.number-index in
    let n = get_or numbers i 0 in
    let more : take (i + 1) numbers ≡ take i numbers ++ n ∷ [] = take_more numbers i 0 c.loop-number-test.true in
    let rows : rows_of (outcome c.args.of.now.case.now) c.args.of.now.list.now.list (take (i + 1) numbers) ≡ rows_of (outcome c.args.of.now.case.now) c.args.of.now.list.now.list (take i numbers) ++ c.run_one-row.result ∷ [] =
    ap (rows_of (outcome c.args.of.now.case.now) c.args.of.now.list.now.list) more
    ∙ rows-append (outcome c.args.of.now.case.now) c.args.of.now.list.now.list (take i numbers) (n ∷ [])
    ∙ ap (λ (l : List Row). rows_of (outcome c.args.of.now.case.now) c.args.of.now.list.now.list (take i numbers) ++ l) c.run_one-row.ensures.row in
    let steps : steps_of_numbers c.args.of.now.case.now c.args.snaps.now.spacing c.args.of.now.list.now.list (take (i + 1) numbers)
    ≡ steps_of_numbers c.args.of.now.case.now c.args.snaps.now.spacing c.args.of.now.list.now.list (take i numbers) + steps_of_numbers c.args.of.now.case.now c.args.snaps.now.spacing c.args.of.now.list.now.list (n ∷ []) =
    ap (steps_of_numbers c.args.of.now.case.now c.args.snaps.now.spacing c.args.of.now.list.now.list) more
    ∙ steps-append c.args.of.now.case.now c.args.snaps.now.spacing c.args.of.now.list.now.list (take i numbers) (n ∷ []) in
    record {
      rows = c.push_reserved.ensures.items ∙ ap (λ (l : List Row). l ++ c.run_one-row.result ∷ []) old.rows ∙ sym rows;
      taken = rose_on _ _ _ _ _ _ old.taken c.run_one-row.ensures.taken steps;
      case = c.run_one-row.ensures.case ∙ old.case;
      long = omega (arith, c.push_reserved.ensures.len, old.long);
      room = c.push_reserved.ensures.capacity ∙ old.room;
    }
