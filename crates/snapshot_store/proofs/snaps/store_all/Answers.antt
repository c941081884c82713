use Rattle.std.proofs.Common.{◌≡◌, ◌+◌, length, ap, ◌∙◌, arith}
use Rattle.std.proofs.lemmas.List.{length_push}
use Rattle.snapshot_store.proofs.AlongLegs.{at_first, at_case}
use Rattle.snapshot_store.proofs.Places.{no_snaps, more_snaps, snap_case}
use Rattle.snapshot_store.proofs.snaps.store_all.Goals as goal

pub loop-next-init : goal.loop-next-init
loop-next-init c = record {
  stands = at_first c.args.case.now c.args.machine.now c.requires.machine;
  order = omega arith;
  place = let none = ap length c.requires.empty in rw none (omega arith);
  snaps = no_snaps c.args.case.now c.args.spacing c.args.list.now.items c.requires.empty;
}

pub loop-next-preserved : goal.loop-next-preserved
loop-next-preserved c =
    let case = c.args.case.now in
    let len : length c.push.new.self.items ≡ length c.loop-next.list.items + 1 = ap length c.in_ok-push.ensures.items ∙ length_push c.loop-next.list.items c.in_ok-of.field-0 in
    let stands = at_case case c.loop-next.machine.case c.loop-next.next c.advance-sent.result c.advance-sent.new.machine c.loop-next.invariant.stands.same_case c.advance-sent.ensures.at in
    let snap = snap_case case c.advance-sent.new.machine.case c.loop-next.next c.in_ok-of.field-0 stands.same_case c.in_ok-of.ensures in
    record {
      stands = stands;
      order = omega arith;
      place = rw len (grind (arith, c.loop-next.invariant.place));
      snaps = more_snaps case c.args.spacing c.loop-next.next c.loop-next.list.items c.push.new.self.items c.in_ok-of.field-0 c.in_ok-push.ensures.items c.loop-next.invariant.place snap c.loop-next.invariant.snaps;
    }
