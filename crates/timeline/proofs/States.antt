-- The states of a run with a flip: before it, at it, after it.
use Rattle.std.proofs.Common.{◌≡◌, ℕ, ◌+◌, ◌-◌, ◌<◌, ◌≤◌, ◌==◌, true, false, length, Option, Some, None, refl, sym, ap, ◌∙◌, ⊎_elim, arith, add-one}
use Rattle.std.proofs.lemmas.Bool.{lt-ltb, le-ltb, cases_lt, cases_eq}
use Rattle.std.proofs.lemmas.Bool.Decides.{nat_tests}
use Rattle.fs_model.specs.declared.sites.Site.{Site}
use Rattle.fs_model.specs.Case.{CaseData}
use Rattle.fs_model.specs.Cell.{flip}
use Rattle.fs_model.specs.Machine.{Core}
use Rattle.fs_model.specs.Run.{State, start, step, go_on, run, flipped, after}
use Rattle.rv_machine.specs.Machines.{MachineData}
use Rattle.snapshot_store.specs.Along.{IsAt}
use Rattle.timeline.specs.Places.{from_flip, state_at, with_flip, IsHere, IsOn}

pub state_before : (c : CaseData) (site : Site) (n : ℕ) → n < site.cycle → state_at c (Some site) n ≡ after c n
unfolding state_at
state_before c site n h = rw (lt-ltb n site.cycle h) refl

pub state_after : (c : CaseData) (site : Site) (n : ℕ) → site.cycle ≤ n → state_at c (Some site) n ≡ run c (n - site.cycle) (from_flip c site)
unfolding state_at
state_after c site n h = rw (le-ltb n site.cycle h) refl

-- ---- the next state

run_more : (c : CaseData) (s : State) (k : ℕ) → run c (k + 1) s ≡ go_on (step c (run c k s)) (run c k s)
unfolding run
run_more c s k = rw add-one refl

after_more : (c : CaseData) (n : ℕ) → after c (n + 1) ≡ go_on (step c (after c n)) (after c n)
unfolding after
after_more c n = run_more c (start c) n

not_due : (site : Site) (n : ℕ) (s : State) → (n ≡ site.cycle → ⊥) → with_flip (Some site) n s ≡ s
not_due site n s h = let no : (n == site.cycle) ≡ false = grind (arith, nat_tests) in rw no refl

is_due : (site : Site) (n : ℕ) (s : State) → n ≡ site.cycle → with_flip (Some site) n s ≡ flipped s site.cell site.bit
is_due site n s h = let yes : (n == site.cycle) ≡ true = grind (arith, nat_tests) in rw yes refl

module _ (c : CaseData) (site : Site) (n : ℕ) where
  Next : Type 0
  Next = state_at c (Some site) (n + 1) ≡ with_flip (Some site) (n + 1) (go_on (step c (state_at c (Some site) n)) (state_at c (Some site) n))

  next_before : n + 1 < site.cycle → Next
  unfolding Next
  next_before h =
      let here : state_at c (Some site) n ≡ after c n = state_before c site n (omega arith) in
      rw (state_before c site (n + 1) h, not_due site (n + 1) _ (λ e. omega arith), here) (after_more c n)

  next_flip : n + 1 ≡ site.cycle → Next
  unfolding Next run
  next_flip h =
      let here : state_at c (Some site) n ≡ after c n = state_before c site n (omega arith) in
      let none : n + 1 - site.cycle ≡ 0 = omega arith in
      rw (state_after c site (n + 1) (omega arith), none, is_due site (n + 1) _ h, here) (ap (λ (s : State). flipped s site.cell site.bit) (ap (after c) (sym h) ∙ after_more c n))

  next_after : site.cycle ≤ n → Next
  unfolding Next
  next_after h =
      let here : state_at c (Some site) n ≡ run c (n - site.cycle) (from_flip c site) = state_after c site n h in
      let more : n + 1 - site.cycle ≡ n - site.cycle + 1 = omega arith in
      rw (state_after c site (n + 1) (omega arith), more, not_due site (n + 1) _ (λ e. omega arith), here) (run_more c (from_flip c site) (n - site.cycle))

-- one instruction more, and the flip if it is due
pub state_next : (c : CaseData) (flips : Option Site) (n : ℕ) → state_at c flips (n + 1) ≡ with_flip flips (n + 1) (go_on (step c (state_at c flips n)) (state_at c flips n))
unfolding state_at Next
state_next c None n = after_more c n
state_next c (Some site) n =
    ⊎_elim (λ (low : n < site.cycle). ⊎_elim (λ (due : n + 1 ≡ site.cycle). next_flip c site n due) (λ (no : n + 1 ≡ site.cycle → ⊥). next_before c site n (omega arith)) (cases_eq (n + 1) site.cycle))
    (λ (high : site.cycle ≤ n). next_after c site n high) (cases_lt n site.cycle)

-- the state before the first instruction
pub state_first : (c : CaseData) (flips : Option Site) → state_at c flips 0 ≡ with_flip flips 0 (start c)
unfolding state_at after run
state_first c None = refl
state_first c (Some site) =
    ⊎_elim (λ (due : 0 ≡ site.cycle). let none : 0 - site.cycle ≡ 0 = omega arith in rw (state_after c site 0 (omega arith), none, is_due site 0 _ due) (ap (λ (k : ℕ). flipped (after c k) site.cell site.bit) (sym due)))
    (λ (no : 0 ≡ site.cycle → ⊥). rw (state_before c site 0 (omega arith), not_due site 0 _ no) refl) (cases_eq 0 site.cycle)

-- ---- machines

pub here_golden : (c : CaseData) (n sent : ℕ) (m : MachineData) → IsHere c None n m sent → IsAt c n m sent
unfolding state_at
here_golden c n sent m h = record { same_case = h.same_case; same_core = h.same_core; sent_is = h.sent_is }

pub golden_here : (c : CaseData) (n sent : ℕ) (m : MachineData) → IsAt c n m sent → IsHere c None n m sent
unfolding state_at
golden_here c n sent m h = record { same_case = h.same_case; same_core = h.same_core; sent_is = h.sent_is }

pub here_before : (c : CaseData) (site : Site) (n sent : ℕ) (m : MachineData) → n < site.cycle → IsHere c (Some site) n m sent → IsAt c n m sent
here_before c site n sent m low h =
    let e = state_before c site n low in
    record { same_case = h.same_case; same_core = h.same_core ∙ ap (λ (s : State). s.core) e; sent_is = h.sent_is ∙ ap (λ (s : State). length s.output) e }

pub before_here : (c : CaseData) (site : Site) (n sent : ℕ) (m : MachineData) → n < site.cycle → IsAt c n m sent → IsHere c (Some site) n m sent
before_here c site n sent m low h =
    let e = sym (state_before c site n low) in
    record { same_case = h.same_case; same_core = h.same_core ∙ ap (λ (s : State). s.core) e; sent_is = h.sent_is ∙ ap (λ (s : State). length s.output) e }

pub here_after : (c : CaseData) (site : Site) (n sent : ℕ) (m : MachineData) → site.cycle ≤ n → IsHere c (Some site) n m sent → IsOn c site (n - site.cycle) m sent
here_after c site n sent m high h =
    let e = state_after c site n high in
    record { same_case = h.same_case; same_core = h.same_core ∙ ap (λ (s : State). s.core) e; sent_is = h.sent_is ∙ ap (λ (s : State). length s.output) e }

pub after_here : (c : CaseData) (site : Site) (n sent : ℕ) (m : MachineData) → site.cycle ≤ n → IsOn c site (n - site.cycle) m sent → IsHere c (Some site) n m sent
after_here c site n sent m high h =
    let e = sym (state_after c site n high) in
    record { same_case = h.same_case; same_core = h.same_core ∙ ap (λ (s : State). s.core) e; sent_is = h.sent_is ∙ ap (λ (s : State). length s.output) e }

-- the bit is flipped
pub on_flip : (c c' : CaseData) (site : Site) (k sent : ℕ) (m m' : MachineData) → c' ≡ c → k ≡ 0 → IsAt c site.cycle m sent → m' ≡ record m { core = flip m.core site.cell site.bit } → IsOn c' site k m' sent
unfolding run flipped
on_flip c c' site k sent m m' same none h e = rw (same, none, e) (record {
  same_case = h.same_case;
  same_core = ap (λ (s : Core). flip s site.cell site.bit) h.same_core;
  sent_is = h.sent_is;
})
