use Rattle.std.proofs.Common.{◌≡◌, ℕ, ◌+◌, ◌-◌, ◌<◌, cond, get_or, Some, refl, sym, ap, ◌∙◌, arith}
use Rattle.std.proofs.lemmas.Bool.Decides.{nat_tests}
use Rattle.fs_model.specs.declared.outcomes.Outcome.{Outcome}
use Rattle.fs_model.specs.declared.outcomes.Outcome.TheVariants.{NoEffect}
use Rattle.fs_model.specs.Outcome.{TotalsData, total_at, same_outcome, added}
use Rattle.fs_model.specs.AccessLog.{log}
use Rattle.fs_model.specs.Filling.{board_total}
use Rattle.fs_model.proofs.EachOutcome.{total_at-added}
use Rattle.fault_space.proofs.Numbered.{no_read, numbers, job_of, all_read}
use Rattle.window_counts.specs.Windows.{window_dead, clipped_jobs, cycles_inside}
use Rattle.window_counts.proofs.Summed.{none_summed, one_more, all_past, job_due, within_weights, all_sum, all_totals, case_whole, counts_right}
use Rattle.window_counts.proofs.counts.counts_in.Goals as goal

-- the total with a weight more
more : (t u : TotalsData) (x o : Outcome) (w : ℕ) → u ≡ added t x w → total_at u o ≡ total_at t o + cond (same_outcome x o) w 0
more t u x o w e = ap (λ (v : TotalsData). total_at v o) e ∙ total_at-added t x o w

pub loop-read-init : goal.loop-read-init
loop-read-init c = record { first = refl; summed = none_summed c.args.window.now c.args.list.now.list c.args.board.now c.zero-totals.result c.zero-totals.ensures }

pub overflow_add-end : goal.overflow_add-end
overflow_add-end c =
    let n = numbers c.args.list.now.list c.reads-reads.result.now c.loop-read.read-index c.loop-read.first c.bits.result c.reads-reads.ensures.jobs (omega arith) c.loop-read.invariant.first c.bits.ensures.value in
    record { fits = omega (arith, n.1, c.reads-reads.ensures.few) }

pub loop-read-preserved-then-weight-eq0 : goal.loop-read-preserved-then-weight-eq0
loop-read-preserved-then-weight-eq0 c =
    let list = c.args.list.now.list in
    let n = numbers list c.reads-reads.result.now c.loop-read.read-index c.loop-read.first c.bits.result c.reads-reads.ensures.jobs (omega arith) c.loop-read.invariant.first c.bits.ensures.value in
    let read = get_or c.reads-reads.result.now c.loop-read.read-index no_read in
    let zero_weight : c.weight_at-weight.result ≡ 0 = grind (arith, nat_tests) in
    let none : cycles_inside c.args.window.now (read.cycle + 1 - read.weight) read.cycle ≡ 0 = sym c.weight_at-weight.ensures ∙ zero_weight in
    record {
      first = n.0;
      summed = all_past c.args.window.now list c.args.board.now c.loop-read.first c.bits.result read c.loop-read.totals
          (λ number low high. job_of list c.reads-reads.result.now c.loop-read.read-index c.loop-read.first c.bits.result number c.reads-reads.ensures.jobs (omega arith) c.loop-read.invariant.first c.bits.ensures.value low high)
          c.requires.same none c.loop-read.invariant.summed c.bits.result (omega arith);
    }

pub get-requires : goal.get-requires
get-requires c =
    let n = numbers c.args.list.now.list c.reads-reads.result.now c.loop-read.read-index c.loop-read.first c.bits.result c.reads-reads.ensures.jobs (omega arith) c.loop-read.invariant.first c.bits.ensures.value in
    omega (arith, n.1, c.requires.same)

pub returns-in-None-clause-due : goal.returns-in-None-clause-due
returns-in-None-clause-due c =
    let list = c.args.list.now.list in
    let is = job_of list c.reads-reads.result.now c.loop-read.read-index c.loop-read.first c.bits.result c.loop-number.number c.reads-reads.ensures.jobs (omega arith) c.loop-read.invariant.first c.bits.ensures.value (omega arith) (omega arith) in
    let read = get_or c.reads-reads.result.now c.loop-read.read-index no_read in
    let some : 0 < c.weight_at-weight.result = grind (arith, nat_tests) in
    (is.job, is.there, job_due c.args.window.now list c.loop-number.number read is (omega (arith, c.weight_at-weight.ensures, some)))

pub add-requires : goal.add-requires
add-requires c =
    let list = c.args.list.now.list in
    let is = job_of list c.reads-reads.result.now c.loop-read.read-index c.loop-read.first c.bits.result c.loop-number.number c.reads-reads.ensures.jobs (omega arith) c.loop-read.invariant.first c.bits.ensures.value (omega arith) (omega arith) in
    let read = get_or c.reads-reads.result.now c.loop-read.read-index no_read in
    omega (arith, c.loop-number.invariant.sum, within_weights c.args.window.now list c.args.board.now c.loop-number.number read is, c.weight_at-weight.ensures, c.dead_weight.ensures.small)

pub loop-number-preserved : goal.loop-number-preserved
loop-number-preserved c =
    let list = c.args.list.now.list in
    let is = job_of list c.reads-reads.result.now c.loop-read.read-index c.loop-read.first c.bits.result c.loop-number.number c.reads-reads.ensures.jobs (omega arith) c.loop-read.invariant.first c.bits.ensures.value (omega arith) (omega arith) in
    let read = get_or c.reads-reads.result.now c.loop-read.read-index no_read in
    one_more c.args.window.now list c.args.board.now c.loop-number.number read c.weight_at-weight.result c.in-Some.outcome c.loop-number.totals c.add.new.self is c.weight_at-weight.ensures (c.get.ensures ∙ ap Some c.in-Some.is) c.add.ensures.value c.add.ensures.sum c.loop-number.invariant

pub loop-read-preserved : goal.loop-read-preserved
loop-read-preserved c =
    let n = numbers c.args.list.now.list c.reads-reads.result.now c.loop-read.read-index c.loop-read.first c.bits.result c.reads-reads.ensures.jobs (omega arith) c.loop-read.invariant.first c.bits.ensures.value in
    let end : c.loop-number.number ≡ c.loop-read.first + c.bits.result = omega arith in
    record { first = n.0; summed = rw end at c.loop-number.invariant }

pub overflow_sub-dead : goal.overflow_sub-dead
overflow_sub-dead c =
    let list = c.args.list.now in
    let w = c.args.window.now in
    let end = all_read list.list c.reads-reads.result.now c.loop-read.read-index c.loop-read.first c.reads-reads.ensures.jobs (omega arith) c.loop-read.invariant.first in
    let all = all_sum w list.list c.args.board.now c.loop-read.first c.loop-read.totals c.loop-read.invariant.summed end c.requires.same in
    let whole = case_whole w c.args.case.now list c.requires.list c.requires.cycles in
    omega (arith, c.sum.ensures.value, c.sites_in.ensures)

-- the dead sites of the window
gap : (c : goal.After-add-2) → c.sites_in.result - c.sum.result ≡ window_dead (log c.args.case.now) c.args.window.now
gap c =
    let list = c.args.list.now in
    let w = c.args.window.now in
    let end = all_read list.list c.reads-reads.result.now c.loop-read.read-index c.loop-read.first c.reads-reads.ensures.jobs (omega arith) c.loop-read.invariant.first in
    let all = all_sum w list.list c.args.board.now c.loop-read.first c.loop-read.totals c.loop-read.invariant.summed end c.requires.same in
    let whole = case_whole w c.args.case.now list c.requires.list c.requires.cycles in
    omega (arith, c.sum.ensures.value, c.sites_in.ensures)

summed : (c : goal.After-add-2) (o : Outcome) → total_at c.add-2.new.self o ≡ board_total (clipped_jobs c.args.window.now c.args.list.now.list) c.args.board.now o + cond (same_outcome NoEffect o) (window_dead (log c.args.case.now) c.args.window.now) 0
summed c o =
    let list = c.args.list.now.list in
    let w = c.args.window.now in
    let end = all_read list c.reads-reads.result.now c.loop-read.read-index c.loop-read.first c.reads-reads.ensures.jobs (omega arith) c.loop-read.invariant.first in
    more _ _ NoEffect o _ c.add-2.ensures.value
    ∙ ap (λ d. total_at c.loop-read.totals o + cond (same_outcome NoEffect o) d 0) (gap c)
    ∙ ap (λ m. m + cond (same_outcome NoEffect o) (window_dead (log c.args.case.now) w) 0) (all_totals w list c.args.board.now c.loop-read.first c.loop-read.totals c.loop-read.invariant.summed end c.requires.same o)

pub returns-clause-sums : goal.returns-clause-sums
returns-clause-sums c = summed c

pub returns-clause-counts : goal.returns-clause-counts
returns-clause-counts c = λ has o.
    let list = c.args.list.now in
    let end = all_read list.list c.reads-reads.result.now c.loop-read.read-index c.loop-read.first c.reads-reads.ensures.jobs (omega arith) c.loop-read.invariant.first in
    counts_right c.args.window.now c.args.case.now list c.args.board.now _ o c.requires.list c.requires.same (λ i job low. c.loop-read.invariant.summed.whole i job (omega arith)) has (summed c o)

pub returns-clause-size : goal.returns-clause-size
returns-clause-size c =
    let list = c.args.list.now in
    let w = c.args.window.now in
    let end = all_read list.list c.reads-reads.result.now c.loop-read.read-index c.loop-read.first c.reads-reads.ensures.jobs (omega arith) c.loop-read.invariant.first in
    let all = all_sum w list.list c.args.board.now c.loop-read.first c.loop-read.totals c.loop-read.invariant.summed end c.requires.same in
    let whole = case_whole w c.args.case.now list c.requires.list c.requires.cycles in
    omega (arith, c.sum.ensures.value, c.sites_in.ensures, c.add-2.ensures.sum)

pub returns-clause-whole : goal.returns-clause-whole
returns-clause-whole c = λ i job low.
    let end = all_read c.args.list.now.list c.reads-reads.result.now c.loop-read.read-index c.loop-read.first c.reads-reads.ensures.jobs (omega arith) c.loop-read.invariant.first in
    c.loop-read.invariant.summed.whole i job (omega arith)
