use Rattle.std.proofs.Common.{◌≡◌, ◌+◌, ◌∙◌, Some, get_or, refl, ap, arith}
use Rattle.std.specs.Prelude.{slice_get}
use Rattle.def_use.specs.declared.pass.Read.{Read}
use Rattle.fault_space.proofs.Numbered.{numbers, job_of, all_read, no_read}
use Rattle.site_counts.proofs.Summed.{all_totals, all_weight, counts_right, not_blank}
use Rattle.site_counts.specs.Lines.{totals_at}
use Rattle.site_counts.proofs.LineTotals.{on_line, lines_begin, line_room, line_more, lines_whole}
use Rattle.site_counts.proofs.lines.counts_by.Goals as goal

pub loop-read-init : goal.loop-read-init
loop-read-init g c = record { first = refl; summed = lines_begin (g.L.Lines.line c.args.lines.now) (g.L.Lines.count c.args.lines.now) c.args.list.now.list c.args.board.now c.args.totals.now c.requires.count c.requires.zeros }

pub overflow_add-end : goal.overflow_add-end
overflow_add-end g c =
    let n = numbers c.args.list.now.list c.reads-reads.result.now c.loop-read.read-index c.loop-read.first c.bits.result c.reads-reads.ensures.jobs (omega arith) c.loop-read.invariant.first c.bits.ensures.value in
    record { fits = omega (arith, n.1, c.reads-reads.ensures.few) }

pub get-requires : goal.get-requires
get-requires g c =
    let n = numbers c.args.list.now.list c.reads-reads.result.now c.loop-read.read-index c.loop-read.first c.bits.result c.reads-reads.ensures.jobs (omega arith) c.loop-read.invariant.first c.bits.ensures.value in
    omega (arith, n.1, c.requires.same)

pub unreachable-requires : goal.unreachable-requires
unreachable-requires g c =
    let n = numbers c.args.list.now.list c.reads-reads.result.now c.loop-read.read-index c.loop-read.first c.bits.result c.reads-reads.ensures.jobs (omega arith) c.loop-read.invariant.first c.bits.ensures.value in
    not_blank c.args.board.now c.loop-number.number c.get.result c.requires.whole (omega (arith, n.1, c.requires.same)) c.get.ensures c.in-None.is

pub add_at-requires-clause-line : goal.add_at-requires-clause-line
add_at-requires-clause-line g c =
    let low = c.requires.low (get_or c.reads-reads.result.now c.loop-read.read-index no_read).cycle (get_or c.reads-reads.result.now c.loop-read.read-index no_read).cell in
    omega (arith, low, c.line_of-line.ensures, c.loop-number.invariant.long)

pub add_at-requires-clause-room : goal.add_at-requires-clause-room
add_at-requires-clause-room g c =
    let read : Read = get_or c.reads-reads.result.now c.loop-read.read-index no_read in
    let is = job_of c.args.list.now.list c.reads-reads.result.now c.loop-read.read-index c.loop-read.first c.bits.result c.loop-number.number c.reads-reads.ensures.jobs (omega arith) c.loop-read.invariant.first c.bits.ensures.value (omega arith) (omega arith) in
    let room = line_room (g.L.Lines.line c.args.lines.now) (g.L.Lines.count c.args.lines.now) c.args.list.now.list c.args.board.now c.loop-number.number c.line_of-line.result read c.loop-number.totals is c.line_of-line.ensures (c.requires.low read.cycle read.cell) c.loop-number.invariant in
    omega (arith, room.1, c.dead_weight.ensures.small)

pub loop-number-preserved : goal.loop-number-preserved
loop-number-preserved g c =
    let read : Read = get_or c.reads-reads.result.now c.loop-read.read-index no_read in
    let is = job_of c.args.list.now.list c.reads-reads.result.now c.loop-read.read-index c.loop-read.first c.bits.result c.loop-number.number c.reads-reads.ensures.jobs (omega arith) c.loop-read.invariant.first c.bits.ensures.value (omega arith) (omega arith) in
    let at : slice_get c.args.board.now c.loop-number.number ≡ Some (Some c.in-Some.outcome) = c.get.ensures ∙ ap Some c.in-Some.is in
    line_more (g.L.Lines.line c.args.lines.now) (g.L.Lines.count c.args.lines.now) c.args.list.now.list c.args.board.now c.loop-number.number c.line_of-line.result read c.in-Some.outcome c.loop-number.totals c.add_at.new.totals is at c.line_of-line.ensures c.add_at.ensures c.loop-number.invariant

pub loop-read-preserved : goal.loop-read-preserved
loop-read-preserved g c =
    let n = numbers c.args.list.now.list c.reads-reads.result.now c.loop-read.read-index c.loop-read.first c.bits.result c.reads-reads.ensures.jobs (omega arith) c.loop-read.invariant.first c.bits.ensures.value in
    let end : c.loop-number.number ≡ c.loop-read.first + c.bits.result = omega arith in
    record { first = n.0; summed = rw end at c.loop-number.invariant }

pub returns-clause-sum : goal.returns-clause-sum
returns-clause-sum g c = λ k low.
    let end = all_read c.args.list.now.list c.reads-reads.result.now c.loop-read.read-index c.loop-read.first c.reads-reads.ensures.jobs (omega arith) c.loop-read.invariant.first in
    all_weight (on_line (g.L.Lines.line c.args.lines.now) k) c.args.list.now.list c.args.board.now c.loop-read.first (totals_at c.loop-read.totals k) (c.loop-read.invariant.summed.each k low) end

pub returns-clause-counts : goal.returns-clause-counts
returns-clause-counts g c = λ l outcomes is has k low still o.
    let end = all_read c.args.list.now.list c.reads-reads.result.now c.loop-read.read-index c.loop-read.first c.reads-reads.ensures.jobs (omega arith) c.loop-read.invariant.first in
    counts_right (on_line (g.L.Lines.line c.args.lines.now) k) l outcomes c.args.list.now c.args.board.now (totals_at c.loop-read.totals k) is has c.requires.same c.requires.whole
    (all_totals (on_line (g.L.Lines.line c.args.lines.now) k) c.args.list.now.list c.args.board.now c.loop-read.first (totals_at c.loop-read.totals k) (c.loop-read.invariant.summed.each k low) end c.requires.same) still o

pub returns-clause-whole : goal.returns-clause-whole
returns-clause-whole g c = λ o.
    let end = all_read c.args.list.now.list c.reads-reads.result.now c.loop-read.read-index c.loop-read.first c.reads-reads.ensures.jobs (omega arith) c.loop-read.invariant.first in
    lines_whole (g.L.Lines.line c.args.lines.now) (g.L.Lines.count c.args.lines.now) c.args.list.now.list c.args.board.now c.loop-read.first c.loop-read.totals o c.requires.low c.loop-read.invariant.summed end c.requires.same
