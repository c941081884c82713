-- A run through rounds that are known goes on.
use Rattle.std.proofs.Common.{ℕ, zero, suc, ◌≡◌, ◌+◌, ◌-◌, ◌*◌, ◌<◌, ◌≤◌, arith, refl, sym, ap, ◌∙◌, ⊎_elim}
use Rattle.std.proofs.lemmas.Bool.{cases_lt}
use Rattle.fs_model.specs.Case.{CaseData}
use Rattle.fs_model.specs.Run.{State, Next, step, run}
use Rattle.fs_model.specs.Leg.{GoesFor}
use Rattle.fs_model.proofs.Legs.{run_add}
use Rattle.fs_model.proofs.Stepwise.{run_is_long}
use Rattle.dead_cells.specs.Rounds.{AreRounds, RoundsGoOn}

shifted : (c : CaseData) (s : State) (a i j : ℕ) → i ≡ a + j → step c (run c j (run c a s)) ≡ Next (run c (j + 1) (run c a s)) → step c (run c i s) ≡ Next (run c (i + 1) s)
shifted c s a i j e h =
    let f : i + 1 ≡ a + (j + 1) = omega arith in
    let on : step c (run c (a + j) s) ≡ Next (run c (a + (j + 1)) s) = rw (run_add c a j s, run_add c a (j + 1) s) h in
    ap (λ n. step c (run c n s)) e ∙ on ∙ ap (λ n. Next (run c n s)) (sym f)

-- steps that go on, and then more of them
goes_both : (c : CaseData) (s : State) (a b : ℕ) → GoesFor c s a → GoesFor c (run c a s) b → GoesFor c s (a + b)
goes_both c s a b first second = λ i low. ⊎_elim
    (λ (h : i < a). first i h)
    (λ (h : a ≤ i). shifted c s a i (i - a) (omega arith) (second (i - a) (omega arith)))
    (cases_lt i a)

record Through (c : CaseData) (at : ℕ → State) (m n : ℕ) : Type 0 where
  goes : GoesFor c (at 0) (n * m)
  comes : run c (n * m) (at 0) ≡ at n

through : (c : CaseData) (at : ℕ → State) (m rounds : ℕ) → AreRounds c at m rounds → (n : ℕ) → n ≤ rounds → Through c at m n
unfolding run
through c at m rounds all zero low = let e : 0 * m ≡ 0 = omega arith in record { goes = λ i h. absurd (omega arith); comes = rw e refl }
through c at m rounds all (suc n) low =
    let before = through c at m rounds all n (omega arith) in
    let e : suc n * m ≡ n * m + m = omega arith in
    let f : n + 1 ≡ suc n = omega arith in
    record {
      goes = rw e (goes_both c (at 0) (n * m) m before.goes (rw before.comes (all.goes n (omega arith))));
      comes = rw (e, run_add c (n * m) m (at 0), before.comes) (all.comes n (omega arith) ∙ ap at f);
    }

pub rounds_go_on : RoundsGoOn
rounds_go_on c at m rounds k all low = run_is_long c (at 0) k (λ i h. (through c at m rounds all rounds (omega arith)).goes i (omega arith))
