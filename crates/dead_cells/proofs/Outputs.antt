-- What a run sends does not depend on what was sent before.
use Rattle.std.proofs.Common.{ℕ, zero, suc, ◌≡◌, List, [], ◌∷◌, ◌++◌, append_assoc, refl, sym, ap, ◌∙◌}
use Rattle.std.proofs.lemmas.List.{append-nil}
use Rattle.fs_model.specs.declared.events.Event.{Event}
use Rattle.fs_model.specs.declared.events.Event.TheVariants.{Went, Out, Halted, Detected, Trapped}
use Rattle.fs_model.specs.Case.{CaseData}
use Rattle.fs_model.specs.Machine.{Core, turn}
use Rattle.fs_model.specs.Run.{State, step_by, step, End, Ending, Ended, Over, one_step_more, follow, ending}

-- the ending with this before its output
unfoldable pub behind : List ℕ → Ending → Ending
behind o (Ended end steps output) = Ended end steps (o ++ output)
behind o Over = Over

abbrev state : Core → List ℕ → State
state s output = record { core = s; output = output }

more_behind : (o : List ℕ) (e : Ending) → one_step_more (behind o e) ≡ behind o (one_step_more e)
unfolding one_step_more behind
more_behind o (Ended end steps output) = refl
more_behind o Over = refl

follow_behind : (c : CaseData) (k : ℕ) (o p : List ℕ) (e : Event) (x : Core) → ((q : List ℕ) → ending c k (state x (o ++ q)) ≡ behind o (ending c k (state x q))) →
    follow (step_by (o ++ p) e x) (o ++ p) (ending c k) ≡ behind o (follow (step_by p e x) p (ending c k))
unfolding follow step_by behind
follow_behind c k o p Went x h = ap one_step_more (h p) ∙ more_behind o _
follow_behind c k o p (Out byte) x h = ap (λ q. one_step_more (ending c k (state x q))) (append_assoc o p (byte ∷ [])) ∙ ap one_step_more (h (p ++ byte ∷ [])) ∙ more_behind o _
follow_behind c k o p (Halted value) x h = refl
follow_behind c k o p Detected x h = refl
follow_behind c k o p (Trapped kind) x h = refl

pub ending_behind : (c : CaseData) (k : ℕ) (x : Core) (o p : List ℕ) → ending c k (record { core = x; output = o ++ p }) ≡ behind o (ending c k (record { core = x; output = p }))
unfolding ending behind step
ending_behind c zero x o p = refl
ending_behind c (suc k) x o p = follow_behind c k o p (turn c x).event (turn c x).core (λ q. ending_behind c k (turn c x).core o q)

-- from nothing sent
pub ending_fresh : (c : CaseData) (k : ℕ) (x : Core) (o : List ℕ) → ending c k (record { core = x; output = o }) ≡ behind o (ending c k (record { core = x; output = [] }))
ending_fresh c k x o = ap (λ q. ending c k (record { core = x; output = q })) (sym (append-nil o)) ∙ ending_behind c k x o []

pub record IsBehind (o : List ℕ) (e : Ending) (end : End) (steps : ℕ) (out : List ℕ) : Type 0 where
  pub rest : List ℕ
  pub is : e ≡ Ended end steps rest
  pub whole : o ++ rest ≡ out

pub behind_is : (o : List ℕ) (e : Ending) (end : End) (steps : ℕ) (out : List ℕ) → behind o e ≡ Ended end steps out → IsBehind o e end steps out
unfolding behind
behind_is o (Ended end' steps' rest) end steps out h =
    let a : end' ≡ end = cc in
    let b : steps' ≡ steps = cc in
    record { rest = rest; is = rw (a, b) refl; whole = cc }
behind_is o Over end steps out h = absurd cc
