-- The rest of the golden run after a cycle, for a run that has sent other bytes before.
use Rattle.std.proofs.Common.{◌≡◌, ℕ, zero, suc, ◌+◌, ◌-◌, ◌<◌, ◌≤◌, nat_lt, ◌%◌, ◌==◌, true, List, [], ◌∷◌, ◌++◌, length, take, drop, refl, sym, ◌∙◌, ap, arith, append_assoc, append-nil, length-append}
use Rattle.std.proofs.lemmas.Bool.{and_parts}
use Rattle.std.proofs.lemmas.Bool.Decides.{Decides-ltb}
use Rattle.fs_model.specs.declared.events.Event.{Event}
use Rattle.fs_model.specs.declared.events.Event.TheVariants.{Went, Out, Halted, Detected, Trapped}
use Rattle.fs_model.specs.Case.{CaseData}
use Rattle.fs_model.specs.Machine.{Core, turn}
use Rattle.fs_model.specs.Run.{State, End, Halt, Ending, Ended, Over, step_by, step, one_step_more, follow, after, ending, golden, start}
use Rattle.fs_model.proofs.Fate.{golden_at}
use Rattle.golden_trace.specs.Goldens.{GoldenData, IsGolden}
use Rattle.snapshot_store.specs.Stored.{is_kept}
use Rattle.run_answers.specs.Answers.{answer_from, answer_with}
use Rattle.run_answers.proofs.Fronts.{drop_front, same_end, with_front}

-- an ending that has bytes before its output
front_of : (front : List ℕ) (e : Ending) (end : End) (n : ℕ) (out : List ℕ) → with_front front e ≡ Ended end n out
    → (rest : List ℕ) × (out ≡ front ++ rest) × (e ≡ Ended end n rest)
unfolding with_front
front_of front (Ended end' m rest) end n out h =
    let a : end' ≡ end = cc in
    let b : m ≡ n = cc in
    let d : front ++ rest ≡ out = cc in
    (rest, sym d, rw (a, b) refl)
front_of front Over end n out h = absurd cc

-- what is left of the golden run after t steps
rest_of : (c : CaseData) (end : End) (n t : ℕ) (out : List ℕ) → golden c ≡ Ended end n out → t < n → ending c (c.limit - t) (after c t) ≡ Ended end (n - t) out
rest_of c end n t out h low =
    let e : n - t ≡ suc (n - t - 1) = omega arith in
    rw e (golden_at c end n out h t (n - t - 1) (omega arith))

-- the bytes that the golden run sends after t steps: a run that holds the same sends them too
pub record IsRestOf (c : CaseData) (g : GoldenData) (t : ℕ) : Type 0 where
  pub rest : List ℕ
  pub bytes : g.output ≡ (after c t).output ++ rest
  pub ends : (output : List ℕ) → ending c (c.limit - t) (record { core = (after c t).core; output = output }) ≡ Ended (Halt g.exit) (length g.touches - t) (output ++ rest)

pub golden_rests : (c : CaseData) (g : GoldenData) (t : ℕ) → IsGolden c g → t < length g.touches → IsRestOf c g t
unfolding with_front
golden_rests c g t h low =
    let core = (after c t).core in
    let old = (after c t).output in
    let none : List ℕ = [] in
    let begun : ending c (c.limit - t) (record { core = core; output = old ++ none }) ≡ Ended (Halt g.exit) (length g.touches - t) g.output =
    ap (λ (o : List ℕ). ending c (c.limit - t) (record { core = core; output = o })) (append-nil old)
    ∙ rest_of c (Halt g.exit) (length g.touches) t g.output h.ends low in
    let split = front_of old (ending c (c.limit - t) (record { core = core; output = none })) (Halt g.exit) (length g.touches - t) g.output
    (sym (same_end c (c.limit - t) core old none) ∙ begun) in
    record {
      rest = split.0;
      bytes = split.1;
      ends = λ output.
          ap (λ (o : List ℕ). ending c (c.limit - t) (record { core = core; output = o })) (sym (append-nil output))
          ∙ same_end c (c.limit - t) core output none
          ∙ ap (with_front output) split.2;
    }

take_front : (a b : List ℕ) → take (length a) (a ++ b) ≡ a
take_front [] [] = refl
take_front [] (x ∷ b) = refl
take_front (x ∷ a) b = ap (λ (t : List ℕ). x ∷ t) (take_front a b)

-- the bytes that were sent by then are no more than all
pub sent_few : (c : CaseData) (g : GoldenData) (t sent : ℕ) → IsGolden c g → t < length g.touches → sent ≡ length (after c t).output → sent ≤ length g.output
sent_few c g t sent h low is =
    let r = golden_rests c g t h low in
    let long : length g.output ≡ length (after c t).output + length r.rest = ap length r.bytes ∙ length-append (after c t).output r.rest in
    omega (arith, long, is)

-- and they are the first of them
pub sent_are : (c : CaseData) (g : GoldenData) (t sent : ℕ) → IsGolden c g → t < length g.touches → sent ≡ length (after c t).output → take sent g.output ≡ (after c t).output
sent_are c g t sent h low is =
    let r = golden_rests c g t h low in
    ap (λ (n : ℕ). take n g.output) is ∙ ap (take (length (after c t).output)) r.bytes ∙ take_front (after c t).output r.rest

-- the bytes after them are the rest
rest_bytes : (c : CaseData) (g : GoldenData) (t sent : ℕ) (r : IsRestOf c g t) → sent ≡ length (after c t).output → drop sent g.output ≡ r.rest
rest_bytes c g t sent r is =
    ap (λ (n : ℕ). drop n g.output) is ∙ ap (drop (length (after c t).output)) r.bytes ∙ drop_front (after c t).output r.rest

-- the answer of a run that is in the golden run's state, but may have sent other bytes
pub golden_answer : (c : CaseData) (g : GoldenData) (t sent exit : ℕ) (core : Core) → IsGolden c g → t < length g.touches → sent ≡ length (after c t).output → core ≡ (after c t).core → exit ≡ g.exit
    → (output : List ℕ) → answer_from c (c.limit - t) (record { core = core; output = output }) ≡ answer_with (output ++ drop sent g.output) (Halted exit)
unfolding answer_from
golden_answer c g t sent exit core h low is same value output =
    let r = golden_rests c g t h low in
    let end : ending c (c.limit - t) (record { core = core; output = output }) ≡ Ended (Halt g.exit) (length g.touches - t) (output ++ r.rest) =
    ap (λ (k : Core). ending c (c.limit - t) (record { core = k; output = output })) same ∙ r.ends output in
    rw (end, rest_bytes c g t sent r is, value) refl

-- a kept cycle is one of the golden run
pub kept_low : (k n t : ℕ) → is_kept k n t ≡ true → t < n
kept_low k n t kept = (Decides-ltb t n).0 (and_parts (nat_lt t n) (t % k == 0) kept).0

-- ---- the golden run ends within the limit

few_more : (e : Ending) (end : End) (n k : ℕ) (out : List ℕ) → one_step_more e ≡ Ended end n out → ((m : ℕ) → e ≡ Ended end m out → m ≤ k) → n ≤ suc k
unfolding one_step_more
few_more (Ended end' m out') end n k out h few =
    let a : end' ≡ end = cc in
    let b : m + 1 ≡ n = cc in
    let d : out' ≡ out = cc in
    let low : m ≤ k = few m (rw (a, d) refl) in
    omega (arith, b, low)
few_more Over end n k out h few = absurd cc

within : (c : CaseData) (k : ℕ) (s : State) (end : End) (n : ℕ) (out : List ℕ) → ending c k s ≡ Ended end n out → n ≤ k
unfolding ending step step_by follow
within c zero s end n out h = absurd cc
within c (suc k) s end n out h = by (λ t m is. within c k t end m out is) (turn c s.core).event (turn c s.core).core h
  where
    by : ((t : State) (m : ℕ) → ending c k t ≡ Ended end m out → m ≤ k) → (e : Event) (core : Core) → follow (step_by s.output e core) s.output (ending c k) ≡ Ended end n out → n ≤ suc k
    by rest Went core h = few_more (ending c k (record { core = core; output = s.output })) end n k out h (rest (record { core = core; output = s.output }))
    by rest (Out byte) core h =
        few_more (ending c k (record { core = core; output = s.output ++ byte ∷ [] })) end n k out h (rest (record { core = core; output = s.output ++ byte ∷ [] }))
    by rest (Halted value) core h = let e : 1 ≡ n = cc in omega (arith, e)
    by rest Detected core h = let e : 1 ≡ n = cc in omega (arith, e)
    by rest (Trapped kind) core h = let e : 1 ≡ n = cc in omega (arith, e)

pub in_limit : (c : CaseData) (g : GoldenData) (t : ℕ) → IsGolden c g → t < length g.touches → t ≤ c.limit
unfolding golden
in_limit c g t h low = let few = within c c.limit (start c) (Halt g.exit) (length g.touches) g.output h.ends in omega (arith, few, low)
