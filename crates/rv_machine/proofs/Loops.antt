-- A loop of steps, step by step.
use Rattle.std.proofs.Common.{ℕ, ◌≡◌, ◌+◌, ◌-◌, ◌<◌, ◌≤◌, Bool, List, true, false, Option, Some, None, IfSome, arith, refl, ap, sym, ◌∙◌}
use Rattle.std.specs.Prelude.{OnSome, IfNone}
use Rattle.fs_model.specs.declared.events.Event.{Event}
use Rattle.fs_model.specs.declared.events.Event.TheVariants.{Went}
use Rattle.fs_model.specs.Case.{CaseData}
use Rattle.fs_model.specs.Machine.{Core, turn}
use Rattle.fs_model.specs.Leg.{Leg, is_went, leg}
use Rattle.fs_model.proofs.Legs.{leg_more, leg_last}
use Rattle.rv_machine.specs.Blocks.{HasMarks}
use Rattle.rv_machine.specs.Codes.{core_at, word_count}
use Rattle.rv_machine.specs.Loops.{IsEnd, IsRest, is_plain}

-- a loop over slots of ROM, with some steps left, stands at the k-th word
pub record IsInRom (c : CaseData) (s : Core) (most k : ℕ) (regs ram : List ℕ) (marks : List Bool) (left : ℕ) : Type 0 where
  pub some : 0 < left
  pub inside : k ≤ word_count c
  pub kept : HasMarks c.ram ram marks
  pub rest : IsRest c s most (core_at c k regs ram) left

-- a loop over words of RAM, with some steps left, has come to t
pub record IsInRam (c : CaseData) (s : Core) (most : ℕ) (t : Core) (marks : List Bool) (left : ℕ) : Type 0 where
  pub some : 0 < left
  pub kept : HasMarks c.ram t.ram marks
  pub rest : IsRest c s most t left

module _ (c : CaseData) (s : Core) (most : ℕ) where
  pub rest_first : IsRest c s most s most
  rest_first = record { left_below = omega arith; same_event = refl; same_core = refl; same_steps = refl }

  -- a step that tells no more
  pub rest_more : (t : Core) (left : ℕ) → IsRest c s most t left → 0 < left → is_went (turn c t).event ≡ true → IsRest c s most (turn c t).core (left - 1)
  rest_more t left h some went =
      let more = leg_more c t left some went in record {
        left_below = omega arith;
        same_event = sym more.0 ∙ h.same_event;
        same_core = sym more.1 ∙ h.same_core;
        same_steps = (let was = h.same_steps in let now = more.2 in omega arith);
      }

  -- one that tells more
  pub end_told : (t : Core) (left : ℕ) → IsRest c s most t left → 0 < left → is_went (turn c t).event ≡ false → IsEnd c s most (turn c t).event (turn c t).core (left - 1)
  end_told t left h some tells =
      let last = leg_last c t left some tells in
      let steps : (leg c t left).steps ≡ 1 = ap (λ (l : Leg). l.steps) last in record {
        event_is = sym (ap (λ (l : Leg). l.event) last) ∙ h.same_event;
        core_is = sym (ap (λ (l : Leg). l.core) last) ∙ h.same_core;
        left_is = (let was = h.same_steps in omega arith);
      }

  -- all steps were taken
  pub end_all : (t : Core) → IsRest c s most t 0 → IsEnd c s most Went t 0
  unfolding leg
  end_all t h = record { event_is = h.same_event; core_is = h.same_core; left_is = (let was = h.same_steps in omega arith) }

  -- one loop in another
  pub rest_rest : (t u : Core) (left less : ℕ) → IsRest c s most t left → IsRest c t left u less → IsRest c s most u less
  rest_rest t u left less h k = record {
    left_below = (let a = h.left_below in let b = k.left_below in omega arith);
    same_event = k.same_event ∙ h.same_event;
    same_core = k.same_core ∙ h.same_core;
    same_steps = (let a = h.same_steps in let b = k.same_steps in omega arith);
  }

  pub rest_end : (t u : Core) (left less : ℕ) (event : Event) → IsRest c s most t left → IsEnd c t left event u less → IsEnd c s most event u less
  rest_end t u left less event h k = record {
    event_is = k.event_is ∙ h.same_event;
    core_is = k.core_is ∙ h.same_core;
    left_is = (let a = h.same_steps in let b = k.left_is in omega arith);
  }

  -- a step that may not have been taken: it ended the loop
  pub plain_ends : (t u : Core) (left : ℕ) (told : Option Event) → IsRest c s most t left → 0 < left → is_plain told ≡ false
      → IfSome told (λ event. event ≡ (turn c t).event) → OnSome told (u ≡ (turn c t).core) → IfSome told (λ event. IsEnd c s most event u (left - 1))
  plain_ends t u left (Some event) h some tells is core =
      let told : is_went (turn c t).event ≡ false = sym (ap is_went is) ∙ tells in
      rw (is, core) (end_told t left h some told)
  plain_ends t u left None h some tells is core = tt

  -- or it was not
  pub plain_rest : (t u : Core) (left : ℕ) (told : Option Event) → IsRest c s most t left → 0 < left → IfNone told (u ≡ t) → IfNone told (IsRest c s most u (left - 1 + 1))
  plain_rest t u left (Some event) h some same = tt
  plain_rest t u left None h some same = let all : left - 1 + 1 ≡ left = omega arith in rw (same, all) h

  -- or it went on
  pub plain_more : (t u : Core) (left : ℕ) (told : Option Event) → IsRest c s most t left → 0 < left → is_plain told ≡ true
      → IfSome told (λ event. event ≡ (turn c t).event) → OnSome told (u ≡ (turn c t).core) → IsRest c s most u (left - 1)
  plain_more t u left (Some event) h some went is core =
      let told : is_went (turn c t).event ≡ true = sym (ap is_went is) ∙ went in
      rw core (rest_more t left h some told)
  plain_more t u left None h some went is core = cc
