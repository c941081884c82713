-- The rest of the golden run does not see what dead cells hold.
use Rattle.std.proofs.Common.{ℕ, zero, suc, ◌≡◌, ◌+◌, ◌≤◌, Bool, true, false, if◌then◌else◌, Option, Some, None, List, [], ◌∷◌, ◌++◌, refl, ap, ◌∙◌}
use Rattle.fs_model.specs.declared.events.Event.{Event}
use Rattle.fs_model.specs.declared.events.Event.TheVariants.{Went, Out, Halted, Detected, Trapped}
use Rattle.fs_model.specs.Event.{GoesOn}
use Rattle.fs_model.specs.Case.{CaseData}
use Rattle.fs_model.specs.Machine.{Core, turn}
use Rattle.fs_model.specs.Touch.{reads, writes, touch}
use Rattle.fs_model.specs.Run.{State, Step, Next, step_by, step, End, Ended, one_step_more, follow, ending, after}
use Rattle.fs_model.specs.AccessLog.{AccessLog, first_of, touch_within, log}
use Rattle.fs_model.proofs.Fate.{no_end, not_over, one_more_is, after_next}
use Rattle.dead_cells.specs.Differs.{Patch, patched, unwritten, AllUnread}
use Rattle.dead_cells.specs.DeadCells.{unread}
use Rattle.dead_cells.proofs.OneStep.{unread_cells}

-- the cells are dead, as far as n cycles from t on tell
unfoldable pub AllDead : AccessLog → ℕ → ℕ → List Patch → Type 0
AllDead l n t [] = Unit {0}
AllDead l n t (p ∷ ps) = (1 ≤ p.cell) × (unread (touch_within l p.cell n t) ≡ true) × AllDead l n t ps

-- ---- a cycle

first_unread : (c : CaseData) (s : Core) (cell t : ℕ) (rest : Option (ℕ × Bool)) → unread (first_of (touch c s cell) t rest) ≡ true → (reads c s cell ≡ false) × (writes c s cell ≡ false → unread rest ≡ true)
unfolding touch first_of
first_unread c s cell t rest h = by (reads c s cell) (writes c s cell) h
  where
    by : (r w : Bool) → unread (first_of (if r then Some true else if w then Some false else None) t rest) ≡ true → (r ≡ false) × (w ≡ false → unread rest ≡ true)
    by true w h = absurd cc
    by false true h = (refl, λ e. absurd cc)
    by false false h = (refl, λ e. h)

at_cycle : (c : CaseData) (n t cell : ℕ) → unread (touch_within (log c) cell (suc n) t) ≡ true → (reads c (after c t).core cell ≡ false) × (writes c (after c t).core cell ≡ false → unread (touch_within (log c) cell n (t + 1)) ≡ true)
unfolding touch_within log
at_cycle c n t cell h = first_unread c (after c t).core cell t (touch_within (log c) cell n (t + 1)) h

none_read : (c : CaseData) (n t : ℕ) (ps : List Patch) → AllDead (log c) (suc n) t ps → AllUnread c (after c t).core ps
unfolding AllDead AllUnread
none_read c n t [] h = tt
none_read c n t (p ∷ ps) h = (h.0, (at_cycle c n t p.cell h.1).0, none_read c n t ps h.2)

still_dead : (c : CaseData) (n t : ℕ) (ps : List Patch) → AllDead (log c) (suc n) t ps → AllDead (log c) n (t + 1) (unwritten c (after c t).core ps)
unfolding AllDead unwritten
still_dead c n t [] h = tt
still_dead c n t (p ∷ ps) h = by (writes c (after c t).core p.cell) (at_cycle c n t p.cell h.1).1 (still_dead c n t ps h.2)
  where
    by : (w : Bool) → (w ≡ false → unread (touch_within (log c) p.cell n (t + 1)) ≡ true) → AllDead (log c) n (t + 1) (unwritten c (after c t).core ps) →
        AllDead (log c) n (t + 1) (if w then unwritten c (after c t).core ps else p ∷ unwritten c (after c t).core ps)
    by true later rest = rest
    by false later rest = (h.0, later refl, rest)

-- ---- runs

abbrev pub state : Core → List ℕ → State
state s output = record { core = s; output = output }

-- steps that tell the same, and come to states from which runs end alike
pub follow_alike : (c : CaseData) (k : ℕ) (e : Event) (x y : Core) (o : List ℕ) → (GoesOn e → (o' : List ℕ) → ending c k (state x o') ≡ ending c k (state y o')) → follow (step_by o e x) o (ending c k) ≡ follow (step_by o e y) o (ending c k)
unfolding follow step_by
follow_alike c k Went x y o h = ap one_step_more (h tt o)
follow_alike c k (Out byte) x y o h = ap one_step_more (h tt (o ++ byte ∷ []))
follow_alike c k (Halted value) x y o h = refl
follow_alike c k Detected x y o h = refl
follow_alike c k (Trapped kind) x y o h = refl

record Onward (t : Step) (x : Core) : Type 0 where
  to : State
  is : t ≡ Next to
  core : to.core ≡ x

onward : (o : List ℕ) (e : Event) (x : Core) → GoesOn e → Onward (step_by o e x) x
unfolding step_by
onward o Went x g = record { to = record { core = x; output = o }; is = refl; core = refl }
onward o (Out byte) x g = record { to = record { core = x; output = o ++ byte ∷ [] }; is = refl; core = refl }
onward o (Halted value) x g = absurd g
onward o Detected x g = absurd g
onward o (Trapped kind) x g = absurd g

follow_next : (c : CaseData) (k : ℕ) (s s' : State) → step c s ≡ Next s' → ending c (suc k) s ≡ one_step_more (ending c k s')
unfolding ending follow
follow_next c k s s' e = rw e refl

-- a run from the golden state at t with other values in dead cells ends as the one from that state
pub same_rest : (c : CaseData) (end : End) (out : List ℕ) (n t k : ℕ) → ending c k (after c t) ≡ Ended end n out → (ps : List Patch) → AllDead (log c) n t ps → (o : List ℕ) →
    ending c k (record { core = patched (after c t).core ps; output = o }) ≡ ending c k (record { core = (after c t).core; output = o })
unfolding ending step
same_rest c end out zero t k h ps dead o = absurd (no_end c k (after c t) end out h)
same_rest c end out (suc n) t zero h ps dead o = absurd (not_over c (after c t) end (suc n) out h)
same_rest c end out (suc n) t (suc k) h ps dead o =
    ap (λ e. follow (step_by o e (turn c (patched s ps)).core) o (ending c k)) law.0
    ∙ follow_alike c k (turn c s).event (turn c (patched s ps)).core (turn c s).core o (go (λ run us d o'. same_rest c end out n (t + 1) k run us d o'))
  where
    s : Core
    s = (after c t).core

    law : ((turn c (patched s ps)).event ≡ (turn c s).event) × (GoesOn (turn c s).event → (turn c (patched s ps)).core ≡ patched (turn c s).core (unwritten c s ps))
    law = unread_cells c s ps (none_read c n t ps dead)

    go : (ending c k (after c (t + 1)) ≡ Ended end n out → (us : List Patch) → AllDead (log c) n (t + 1) us → (o' : List ℕ) → ending c k (state (patched (after c (t + 1)).core us) o') ≡ ending c k (state (after c (t + 1)).core o')) →
        GoesOn (turn c s).event → (o' : List ℕ) → ending c k (state (turn c (patched s ps)).core o') ≡ ending c k (state (turn c s).core o')
    go ih g o' =
        let next = onward (after c t).output (turn c s).event (turn c s).core g in
        let later : after c (t + 1) ≡ next.to = after_next c t next.to next.is in
        let more : one_step_more (ending c k next.to) ≡ Ended end (suc n) out = (rw (follow_next c k (after c t) next.to next.is) at h) in
        let left : ending c k (after c (t + 1)) ≡ Ended end n out = rw later (one_more_is (ending c k next.to) end n out more) in
        let core : (after c (t + 1)).core ≡ (turn c s).core = ap (λ (x : State). x.core) later ∙ next.core in
        let rest : ending c k (state (patched (turn c s).core (unwritten c s ps)) o') ≡ ending c k (state (turn c s).core o') = rw core at (ih left (unwritten c s ps) (still_dead c n t ps dead) o') in
        ap (λ (x : Core). ending c k (state x o')) (law.1 g) ∙ rest
