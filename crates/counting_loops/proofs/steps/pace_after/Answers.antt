use Rattle.std.proofs.Common.{rules, ◌≡◌}
use Rattle.counting_loops.specs.declared.kinds.Kind.TheVariants.{SignedOrder, Load, Test, SignedTest, TestImmediate, SignedTestImmediate, Mask}
use Rattle.fs_model.specs.Word.{plus}
use Rattle.counting_loops.specs.Kinds.{op_kind}
use Rattle.counting_loops.proofs.Effects.{signed_alike, load_alike, test_alike, signed_test_alike, immediate_alike, signed_immediate_alike, mask_alike, if_fixed, of_unknown, if_some}
use Rattle.counting_loops.proofs.steps.pace_after.Goals as goal

pub returns-in-SignedOrder : goal.returns-in-SignedOrder
returns-in-SignedOrder c =
    let instr = c.args.instr.now in
    let kind : op_kind instr.op ≡ SignedOrder = search rules in
    of_unknown c.unknown_if-in-SignedOrder.result c.signed_order_stays.result _ c.unknown_if-in-SignedOrder.ensures
    (λ stays pc i x y low f g. signed_alike c.args.case.now c.args.held.now instr.op instr.imm pc i c.args.a.first c.args.b.first x y kind (c.signed_order_stays.ensures stays i x y low f g))

pub returns-in-Load : goal.returns-in-Load
returns-in-Load c =
    let instr = c.args.instr.now in
    let kind : op_kind instr.op ≡ Load c.in-Load.size = search rules in
    if_some c.pace_of_load.result _ _ c.pace_of_load.ensures
    (λ pace stays pc i x y low f g. load_alike c.args.case.now c.args.held.now instr.op instr.imm pc i c.args.a.first c.args.b.first x y c.in-Load.size pace kind
    (rw c.plus.ensures.first at (stays i (plus x instr.imm) low (c.plus.ensures.each i x f))))

pub returns-in-Test : goal.returns-in-Test
returns-in-Test c =
    let instr = c.args.instr.now in
    let kind : op_kind instr.op ≡ Test = search rules in
    λ pc i x y low f g. test_alike c.args.case.now c.args.held.now instr.imm pc i c.args.a.first c.args.b.first x y c.fixed_if.result instr.op kind
    (if_fixed _ _ _ (λ stays. c.order_stays-in-Test.ensures stays i x y low f g) c.fixed_if.ensures)

pub returns-in-SignedTest : goal.returns-in-SignedTest
returns-in-SignedTest c =
    let instr = c.args.instr.now in
    let kind : op_kind instr.op ≡ SignedTest = search rules in
    λ pc i x y low f g. signed_test_alike c.args.case.now c.args.held.now instr.imm pc i c.args.a.first c.args.b.first x y c.fixed_if-in-SignedTest.result instr.op kind
    (if_fixed _ _ _ (λ stays. c.signed_order_stays-in-SignedTest.ensures stays i x y low f g) c.fixed_if-in-SignedTest.ensures)

pub returns-in-TestImmediate : goal.returns-in-TestImmediate
returns-in-TestImmediate c =
    let instr = c.args.instr.now in
    let kind : op_kind instr.op ≡ TestImmediate = search rules in
    λ pc i x y low f g. immediate_alike c.args.case.now c.args.held.now instr.imm pc i c.args.a.first c.args.b.first x y c.fixed_if-in-TestImmediate.result instr.op kind
    (if_fixed _ _ _ (λ stays. rw c.fixed.ensures.first at (c.order_stays-in-TestImmediate.ensures stays i x instr.imm low f (c.fixed.ensures.each i))) c.fixed_if-in-TestImmediate.ensures)

pub returns-in-SignedTestImmediate : goal.returns-in-SignedTestImmediate
returns-in-SignedTestImmediate c =
    let instr = c.args.instr.now in
    let kind : op_kind instr.op ≡ SignedTestImmediate = search rules in
    λ pc i x y low f g. signed_immediate_alike c.args.case.now c.args.held.now instr.imm pc i c.args.a.first c.args.b.first x y c.fixed_if-in-SignedTestImmediate.result instr.op kind
    (if_fixed _ _ _ (λ stays. rw c.fixed-in-SignedTestImmediate.ensures.first at (c.signed_order_stays-in-SignedTestImmediate.ensures stays i x instr.imm low f (c.fixed-in-SignedTestImmediate.ensures.each i))) c.fixed_if-in-SignedTestImmediate.ensures)

pub returns-in-Mask : goal.returns-in-Mask
returns-in-Mask c =
    let instr = c.args.instr.now in
    let kind : op_kind instr.op ≡ Mask = search rules in
    λ pc i x y low f g. mask_alike c.args.case.now c.args.held.now instr.imm pc i c.args.a.first c.args.b.first x y c.masked.result instr.op kind
    (if_fixed _ _ _ (λ all. all i x f) c.masked.ensures)
