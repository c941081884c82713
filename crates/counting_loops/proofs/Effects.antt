-- Effects in a later round and in the first one.
use Rattle.std.proofs.Common.{◌≡◌, ℕ, List, Bool, true, false, not, Option, Some, None, IfSome, ◌*◌, ◌⊎◌, ⊎_elim, inl, inr, bit_and, refl, sym, ap, subst, arith}
use Rattle.fs_model.specs.declared.instructions.Op.{Op}
use Rattle.fs_model.specs.declared.instructions.Op.TheVariants.{Blt, Bge, Lb, Lbu, Lh, Lhu, Lw, Slt, Sltu, Slti, Sltiu, Andi}
use Rattle.fs_model.specs.declared.instructions.Size.{Size}
use Rattle.fs_model.specs.declared.instructions.Size.TheVariants.{Byte, Half, Word}
use Rattle.fs_model.specs.Case.{CaseData}
use Rattle.fs_model.specs.Effect.{effect_by, branch_if}
use Rattle.fs_model.specs.declared.instructions.Effect.TheVariants.{Set}
use Rattle.fs_model.specs.Word.{plus, less, less_signed, one_if}
use Rattle.counting_loops.specs.declared.paces.Pace.{Pace}
use Rattle.counting_loops.specs.declared.paces.Pace.TheVariants.{By, Unknown}
use Rattle.counting_loops.specs.declared.kinds.Kind.TheVariants.{SignedOrder, Load, Test, SignedTest, TestImmediate, SignedTestImmediate, Mask}
use Rattle.counting_loops.specs.Kinds.{op_kind}
use Rattle.counting_loops.specs.declared.words.Held.{Held}
use Rattle.counting_loops.specs.Steps.{FixedIf, Alike, LoadStays}

branch_alike : (c : CaseData) (held : List Held) (i target : ℕ) (t u : Bool) → u ≡ t → Alike c held Unknown i (branch_if t target) (branch_if u target)
branch_alike c held i target true true e = (refl, λ _. tt)
branch_alike c held i target false false e = (refl, refl)
branch_alike c held i target true false e = cc
branch_alike c held i target false true e = cc

pub signed_alike : (c : CaseData) (held : List Held) (op : Op) (imm pc i p q x y : ℕ) → op_kind op ≡ SignedOrder → less_signed x y ≡ less_signed p q → Alike c held Unknown i (effect_by op imm pc p q) (effect_by op imm pc x y)
signed_alike c held Blt imm pc i p q x y k e = branch_alike c held i (plus pc imm) (less_signed p q) (less_signed x y) e
signed_alike c held Bge imm pc i p q x y k e = branch_alike c held i (plus pc imm) (not (less_signed p q)) (not (less_signed x y)) (ap not e)
signed_alike c held op imm pc i p q x y k e = absurd cc

pub load_alike : (c : CaseData) (held : List Held) (op : Op) (imm pc i p q x y : ℕ) (size : Size) (pace : Pace) → op_kind op ≡ Load size → LoadStays c held size (plus p imm) (plus x imm) pace
    → Alike c held pace i (effect_by op imm pc p q) (effect_by op imm pc x y)
load_alike c held Lb imm pc i p q x y size pace k stays = let e : size ≡ Byte = cc in let s = rw e at stays in (plus x imm, (refl, s))
load_alike c held Lbu imm pc i p q x y size pace k stays = let e : size ≡ Byte = cc in let s = rw e at stays in (plus x imm, (refl, s))
load_alike c held Lh imm pc i p q x y size pace k stays = let e : size ≡ Half = cc in let s = rw e at stays in (plus x imm, (refl, s))
load_alike c held Lhu imm pc i p q x y size pace k stays = let e : size ≡ Half = cc in let s = rw e at stays in (plus x imm, (refl, s))
load_alike c held Lw imm pc i p q x y size pace k stays = let e : size ≡ Word = cc in let s = rw e at stays in (plus x imm, (refl, s))
load_alike c held op imm pc i p q x y size pace k stays = absurd cc

-- what is the same in all rounds
set_alike : (c : CaseData) (held : List Held) (i v w : ℕ) (pace : Pace) → FixedIf (w ≡ v) pace → Alike c held pace i (Set v) (Set w)
set_alike c held i v w pace fixed = (w, (refl, λ low. ⊎_elim (λ (u : pace ≡ Unknown). rw u tt) (λ (h : (pace ≡ By 0) × (w ≡ v)). let none : i * 0 ≡ 0 = omega arith in rw (h.0, h.1, none) (omega arith)) fixed))

pub if_fixed : (P Q : Type 0) (pace : Pace) → (P → Q) → FixedIf P pace → FixedIf Q pace
if_fixed P Q pace f h = ⊎_elim (λ (u : pace ≡ Unknown). inl u) (λ (k : (pace ≡ By 0) × P). inr (k.0, f k.1)) h

module _ (c : CaseData) (held : List Held) (imm pc i p q x y : ℕ) (pace : Pace) where
  pub test_alike : (op : Op) → op_kind op ≡ Test → FixedIf (less x y ≡ less p q) pace → Alike c held pace i (effect_by op imm pc p q) (effect_by op imm pc x y)
  test_alike Sltu k f = set_alike c held i (one_if (less p q)) (one_if (less x y)) pace (if_fixed _ _ pace (ap one_if) f)
  test_alike op k f = absurd cc

  pub signed_test_alike : (op : Op) → op_kind op ≡ SignedTest → FixedIf (less_signed x y ≡ less_signed p q) pace → Alike c held pace i (effect_by op imm pc p q) (effect_by op imm pc x y)
  signed_test_alike Slt k f = set_alike c held i (one_if (less_signed p q)) (one_if (less_signed x y)) pace (if_fixed _ _ pace (ap one_if) f)
  signed_test_alike op k f = absurd cc

  pub immediate_alike : (op : Op) → op_kind op ≡ TestImmediate → FixedIf (less x imm ≡ less p imm) pace → Alike c held pace i (effect_by op imm pc p q) (effect_by op imm pc x y)
  immediate_alike Sltiu k f = set_alike c held i (one_if (less p imm)) (one_if (less x imm)) pace (if_fixed _ _ pace (ap one_if) f)
  immediate_alike op k f = absurd cc

  pub signed_immediate_alike : (op : Op) → op_kind op ≡ SignedTestImmediate → FixedIf (less_signed x imm ≡ less_signed p imm) pace → Alike c held pace i (effect_by op imm pc p q) (effect_by op imm pc x y)
  signed_immediate_alike Slti k f = set_alike c held i (one_if (less_signed p imm)) (one_if (less_signed x imm)) pace (if_fixed _ _ pace (ap one_if) f)
  signed_immediate_alike op k f = absurd cc

  pub mask_alike : (op : Op) → op_kind op ≡ Mask → FixedIf (bit_and x imm ≡ bit_and p imm) pace → Alike c held pace i (effect_by op imm pc p q) (effect_by op imm pc x y)
  mask_alike Andi k f = set_alike c held i (bit_and p imm) (bit_and x imm) pace f
  mask_alike op k f = absurd cc

pub of_unknown : (r : Option Pace) (b : Bool) (P : Pace → Type 0) → IfSome r (λ p. (b ≡ true) × (p ≡ Unknown)) → (b ≡ true → P Unknown) → IfSome r P
of_unknown (Some p) b P h all = subst P (sym h.1) (all h.0)
of_unknown None b P h all = tt

pub if_some : (r : Option Pace) (P Q : Pace → Type 0) → IfSome r P → ((p : Pace) → P p → Q p) → IfSome r Q
if_some (Some p) P Q h all = all p h
if_some None P Q h all = tt
