use Rattle.std.proofs.Common.{◌≡◌, IfOk, Ok, Result, sym, subst}
use Rattle.fs_outside.specs.Past.{content, LeavesOnly}
use Rattle.fs_model.specs.Card.{card}
use Rattle.result_keeper.specs.declared.accepting.Accepted.{Accepted}
use Rattle.result_keeper.specs.declared.refusals.AdoptRefusal.{AdoptRefusal}
use Rattle.result_keeper.specs.Acceptance.{accept}
use Rattle.result_keeper.specs.Accept.{IsBegun}
use Rattle.result_keeper.specs.Begin.{IsOneOfThree}
use Rattle.result_keeper.specs.Keep.{IsSettled}
use Rattle.result_keeper.proofs.Begun.{stays_one}
use Rattle.result_keeper.proofs.FileFronts.{begun_by_front, first_is}
use Rattle.result_keeper.proofs.Settled.{accepted_gives, begun_gives, settled_begun, settled_accepted, opened_begun}
use Rattle.result_keeper.proofs.opening.begin_or_accept.Goals as goal
use Rattle.result_keeper.proofs.opening.begin_or_accept.Goals.{in-Ok, in-Err}

pub returns-then-is_begun-clause-settled : goal.returns-then-is_begun-clause-settled
returns-then-is_begun-clause-settled g c =
    λ told. elim c.match-begin.branch [
      | in-Ok w ↦ subst (λ (r : Result Accepted AdoptRefusal). IfOk r (λ opened. IsSettled c.args.case.now opened.board opened.gate (g.D.Disk.past c.begin.new.disk))) (sym w.result-is)
          (settled_begun c.args.case.now c.args.list.now.list c.args.blank w.card_len.result (g.D.Disk.past c.begin.new.disk) c.requires.case c.requires.jobs c.requires.blank w.card_len.ensures (w.in-Ok.ensures.synced told) (w.in-Ok.ensures.begun told))
      | in-Err w ↦ subst (λ (r : Result Accepted AdoptRefusal). IfOk r (λ opened. IsSettled c.args.case.now opened.board opened.gate (g.D.Disk.past c.begin.new.disk))) (sym w.result-is) tt
    ]

pub returns-then-is_begun-clause-opened : goal.returns-then-is_begun-clause-opened
returns-then-is_begun-clause-opened g c =
    λ told stale.
    let file = content (g.D.Disk.past c.args.disk.now) in
    let begun : IsBegun c.args.fresh file =
    begun_by_front c.args.front.bytes.items file (first_is (card c.args.case.now) file c.args.front.bytes.items c.args.front.len (c.requires.front told)) c.args.fresh
    (subst (IsBegun c.args.fresh) c.deref.ensures.value c.if-is_begun.ensures) in
    elim c.match-begin.branch [
      | in-Ok w ↦ subst (λ (r : Result Accepted AdoptRefusal). IfOk r (λ opened. accept file c.args.case.now ≡ Ok opened.board)) (sym w.result-is)
          (opened_begun c.args.case.now c.args.list.now.list c.args.blank c.args.fresh file c.requires.jobs c.requires.blank begun stale)
      | in-Err w ↦ subst (λ (r : Result Accepted AdoptRefusal). IfOk r (λ opened. accept file c.args.case.now ≡ Ok opened.board)) (sym w.result-is) tt
    ]

pub returns-then-is_begun-clause-gives : goal.returns-then-is_begun-clause-gives
returns-then-is_begun-clause-gives g c =
    λ told. elim c.match-begin.branch [
      | in-Ok w ↦ subst (λ (r : Result Accepted AdoptRefusal). IfOk r (λ opened. accept (content (g.D.Disk.past c.begin.new.disk)) c.args.case.now ≡ Ok opened.board)) (sym w.result-is)
          (begun_gives c.args.case.now c.args.list.now.list c.args.blank (content (g.D.Disk.past c.begin.new.disk)) c.requires.case c.requires.jobs c.requires.blank (w.in-Ok.ensures.begun told))
      | in-Err w ↦ subst (λ (r : Result Accepted AdoptRefusal). IfOk r (λ opened. accept (content (g.D.Disk.past c.begin.new.disk)) c.args.case.now ≡ Ok opened.board)) (sym w.result-is) tt
    ]

pub returns-clause-gives : goal.returns-clause-gives
returns-clause-gives g c =
    λ told. accepted_gives c.args.case.now (g.D.Disk.past c.args.disk.now) (g.D.Disk.past c.accept_disk.new.disk) c.accept_disk.result (c.accept_disk.ensures.same told) (c.accept_disk.ensures.accepted told)

pub returns-clause-any_moment : goal.returns-clause-any_moment
returns-clause-any_moment g c =
    let old = g.D.Disk.past c.args.disk.now in
    λ told. subst (λ p. LeavesOnly old p (IsOneOfThree old (card c.args.case.now))) (sym (c.accept_disk.ensures.same told)) (stays_one old (card c.args.case.now))

pub returns-clause-settled : goal.returns-clause-settled
returns-clause-settled g c =
    λ told. settled_accepted c.args.case.now (g.D.Disk.past c.args.disk.now) (g.D.Disk.past c.accept_disk.new.disk) c.accept_disk.result (c.requires.synced told) (c.accept_disk.ensures.same told) (c.accept_disk.ensures.accepted told)
