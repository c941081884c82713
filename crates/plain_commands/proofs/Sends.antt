-- What a run sends, as it is put.
use Rattle.std.proofs.Common.{◌≡◌, ℕ, zero, suc, ◌+◌, ◌-◌, ◌≤◌, Bool, true, false, ◌||◌, List, [], ◌∷◌, ◌++◌, refl, sym, ap, ◌∙◌, arith, append_assoc, append-nil}
use Rattle.hex.specs.Hex.{encode_with, encode_lower, lower_digits}
use Rattle.fs_model.specs.declared.events.Event.{Event}
use Rattle.fs_model.specs.declared.events.Event.TheVariants.{Went, Out, Halted, Detected, Trapped}
use Rattle.fs_model.specs.Case.{CaseData}
use Rattle.fs_model.specs.Machine.{Core, reset, turn}
use Rattle.fs_model.specs.Run.{State, step_by, step, go_on, run, start, after}
use Rattle.fs_model.specs.Leg.{Leg, leg, sent, left_by}
use Rattle.fs_model.proofs.Legs.{run_add, run_leg}
use Rattle.rv_machine.specs.Machines.{MachineData}
use Rattle.fs_outside.specs.Writing.{TookPart}
use Rattle.report.specs.Buffer.{Moved}
use Rattle.plain_commands.specs.Sent.{begins, sent_from}
use Rattle.plain_commands.specs.Walk.{sends, is_some_byte}
use Rattle.report.proofs.Buffered.{moved_none, moved_on, moved_part, part_goes_on}

pub digits_more : (t a b : List ℕ) → encode_with t (a ++ b) ≡ encode_with t a ++ encode_with t b
unfolding encode_with
digits_more t [] b = refl
digits_more t (x ∷ a) b = rw (digits_more t a b) refl

-- where a leg leads to
after_leg : (c : CaseData) (s : State) (t most : ℕ) → run c (t + (leg c (run c t s).core most).steps) s ≡ left_by (run c t s) (leg c (run c t s).core most)
after_leg c s t most = run_add c t (leg c (run c t s).core most).steps s ∙ run_leg c (run c t s) most

pub digits_none : encode_lower [] ≡ []
unfolding encode_with
digits_none = refl

-- what an event sends stands behind what was sent before
digits_sent : (output : List ℕ) (event : Event) → encode_lower (sent output event) ≡ encode_lower output ++ encode_lower (sent [] event)
digits_sent output Went = rw (digits_none, append-nil) refl
digits_sent output (Out byte) = digits_more lower_digits output (byte ∷ [])
digits_sent output (Halted value) = rw (digits_none, append-nil) refl
digits_sent output Detected = rw (digits_none, append-nil) refl
digits_sent output (Trapped kind) = rw (digits_none, append-nil) refl

some_more : (output : List ℕ) (byte : ℕ) → is_some_byte (output ++ byte ∷ []) ≡ true
some_more [] byte = refl
some_more (x ∷ output) byte = refl

or_false : (b : Bool) → b ≡ (b || false)
or_false true = refl
or_false false = refl

or_true : (b : Bool) → true ≡ (b || true)
or_true true = refl
or_true false = refl

some_sent : (output : List ℕ) (event : Event) → is_some_byte (sent output event) ≡ (is_some_byte output || sends event)
some_sent output Went = or_false (is_some_byte output)
some_sent output (Out byte) = some_more output byte ∙ or_true (is_some_byte output)
some_sent output (Halted value) = or_false (is_some_byte output)
some_sent output Detected = or_false (is_some_byte output)
some_sent output (Trapped kind) = or_false (is_some_byte output)

-- nothing is sent
pub moved_quiet : (event : Event) (t w : List ℕ) → sends event ≡ false → Moved t w t w (encode_lower (sent [] event))
moved_quiet Went t w quiet = rw digits_none (moved_none t w)
moved_quiet (Out byte) t w quiet = absurd cc
moved_quiet (Halted value) t w quiet = rw digits_none (moved_none t w)
moved_quiet Detected t w quiet = rw digits_none (moved_none t w)
moved_quiet (Trapped kind) t w quiet = rw digits_none (moved_none t w)

-- a machine of the case that holds what the run from s holds after k steps, beside what was put of its output
pub record Sends (c : CaseData) (s : State) (k : ℕ) (m : MachineData) (any : Bool) : Type 0 where
  pub same_case : m.case ≡ c
  pub same_core : m.core ≡ (run c k s).core
  pub any_is : any ≡ is_some_byte (run c k s).output

pub sends_first : (m : MachineData) (k : ℕ) → k ≡ 0 → Sends m.case (begins m.core) k m false
unfolding run
sends_first m k none = rw none (record { same_case = refl; same_core = refl; any_is = refl })

pub digits_first : (c : CaseData) (core : Core) (k : ℕ) (t w : List ℕ) → k ≡ 0 → Moved t w t w (encode_lower (sent_from c core k))
unfolding run
digits_first c core k t w none = rw (none, digits_none) (moved_none t w)

-- the event of the next leg, which has so many steps, and what the machine holds then
pub record IsLeg (m : MachineData) (most : ℕ) (event : Event) (n : ℕ) (m' : MachineData) : Type 0 where
  pub event_is : event ≡ (leg m.case m.core most).event
  pub steps_is : n ≡ (leg m.case m.core most).steps
  pub core_is : m'.core ≡ (leg m.case m.core most).core
  pub case_is : m'.case ≡ m.case

there : (c : CaseData) (s : State) (k most n : ℕ) (m m' : MachineData) (any : Bool) (event : Event) → Sends c s k m any → IsLeg m most event n m'
    → run c (k + n) s ≡ record { core = m'.core; output = sent (run c k s).output event }
there c s k most n m m' any event h l =
    let same : leg m.case m.core most ≡ leg c (run c k s).core most = ap (λ (x : CaseData). leg x m.core most) h.same_case ∙ ap (λ (x : Core). leg c x most) h.same_core in
    let steps : n ≡ (leg c (run c k s).core most).steps = l.steps_is ∙ ap (λ (x : Leg). x.steps) same in
    let core : m'.core ≡ (leg c (run c k s).core most).core = l.core_is ∙ ap (λ (x : Leg). x.core) same in
    let event_is : event ≡ (leg c (run c k s).core most).event = l.event_is ∙ ap (λ (x : Leg). x.event) same in
    rw (steps, core, event_is) (after_leg c s k most)

pub sends_on : (c : CaseData) (s : State) (k k' most n : ℕ) (m m' : MachineData) (any some : Bool) (event : Event) → k + n ≡ k' → Sends c s k m any → IsLeg m most event n m' → some ≡ sends event
    → Sends c s k' m' (any || some)
sends_on c s k k' most n m m' any some event e h l told =
    let at = there c s k most n m m' any event h l in
    rw (← e) (record {
      same_case = l.case_is ∙ h.same_case;
      same_core = ap (λ (x : State). x.core) (sym at);
      any_is = ap (λ (x : Bool). x || some) h.any_is ∙ ap (λ (x : Bool). is_some_byte (run c k s).output || x) told
          ∙ sym (some_sent (run c k s).output event) ∙ ap (λ (x : State). is_some_byte x.output) (sym at);
    })

digits_is : (c : CaseData) (s : State) (k k' most n : ℕ) (m m' : MachineData) (any : Bool) (event : Event) → k + n ≡ k' → Sends c s k m any → IsLeg m most event n m'
    → encode_lower (run c k' s).output ≡ encode_lower (run c k s).output ++ encode_lower (sent [] event)
digits_is c s k k' most n m m' any event e h l =
    rw (← e) (ap (λ (x : State). encode_lower x.output) (there c s k most n m m' any event h l) ∙ digits_sent (run c k s).output event)

pub digits_on : (c : CaseData) (s : State) (k k' most n : ℕ) (m m' : MachineData) (any : Bool) (event : Event) (t w t' w' t'' w'' : List ℕ) → k + n ≡ k' → Sends c s k m any → IsLeg m most event n m'
    → Moved t w t' w' (encode_lower (run c k s).output) → Moved t' w' t'' w'' (encode_lower (sent [] event)) → Moved t w t'' w'' (encode_lower (run c k' s).output)
digits_on c s k k' most n m m' any event t w t' w' t'' w'' e h l moved more =
    rw (digits_is c s k k' most n m m' any event e h l) (moved_on t w t' w' t'' w'' (encode_lower (run c k s).output) (encode_lower (sent [] event)) moved more)

-- the output only grows
step_grows : (output : List ℕ) (event : Event) (core : Core) (s : State) → s.output ≡ output → (rest : List ℕ) × ((go_on (step_by output event core) s).output ≡ output ++ rest)
unfolding step_by go_on
step_grows output Went core s e = ([], sym (append-nil output))
step_grows output (Out byte) core s e = (byte ∷ [], refl)
step_grows output (Halted value) core s e = ([], e ∙ sym (append-nil output))
step_grows output Detected core s e = ([], e ∙ sym (append-nil output))
step_grows output (Trapped kind) core s e = ([], e ∙ sym (append-nil output))

grows : (c : CaseData) (s : State) (k d : ℕ) → (rest : List ℕ) × ((run c (k + d) s).output ≡ (run c k s).output ++ rest)
unfolding run step
grows c s k zero = let e : k + 0 ≡ k = omega arith in ([], rw e (sym (append-nil (run c k s).output)))
grows c s k (suc d) =
    let e : k + suc d ≡ suc (k + d) = omega arith in
    let before = grows c s k d in
    let at : State = run c (k + d) s in
    let more = step_grows at.output (turn c at.core).event (turn c at.core).core at refl in
    (before.0 ++ more.0, rw e (more.1 ∙ ap (λ (x : List ℕ). x ++ more.0) before.1 ∙ append_assoc (run c k s).output before.0 more.0))

-- a part of the digits of the output so far is one of the digits of the whole output
pub digits_fail : (c : CaseData) (s : State) (k k' steps most n : ℕ) (m m' : MachineData) (any : Bool) (event : Event) (t w t' w' t'' : List ℕ) → k + n ≡ k' → k' ≤ steps → Sends c s k m any → IsLeg m most event n m'
    → Moved t w t' w' (encode_lower (run c k s).output) → TookPart t' t'' (w' ++ encode_lower (sent [] event)) → TookPart t t'' (w ++ encode_lower (run c steps s).output)
digits_fail c s k k' steps most n m m' any event t w t' w' t'' e low h l moved part =
    let more = grows c s k' (steps - k') in
    let all : k' + (steps - k') ≡ steps = omega arith in
    let whole : encode_lower (run c steps s).output ≡ encode_lower (run c k' s).output ++ encode_lower more.0 =
    ap (λ (x : ℕ). encode_lower (run c x s).output) (sym all) ∙ ap encode_lower more.1 ∙ digits_more lower_digits (run c k' s).output more.0 in
    rw (whole, digits_is c s k k' most n m m' any event e h l)
    (part_goes_on t t'' w (encode_lower (run c k s).output ++ encode_lower (sent [] event)) (encode_lower more.0)
    (moved_part t w t' w' t'' (encode_lower (run c k s).output) (encode_lower (sent [] event)) moved part))

-- the run without a flip begins with nothing sent
pub of_golden : (c : CaseData) (core : Core) (k : ℕ) → core ≡ reset c → (after c k).output ≡ sent_from c core k
unfolding after start
of_golden c core k e = rw e refl
