-- The run without a flip, as a trace walks along it.
use Rattle.std.proofs.Common.{◌≡◌, ℕ, zero, suc, ◌+◌, ◌-◌, ◌<◌, ◌≤◌, Bool, true, false, List, [], ◌∷◌, ◌++◌, refl, sym, ap, ◌∙◌, subst, arith, ⊎_elim, append_assoc, append-nil, add-one, Option}
use Rattle.std.specs.Prelude.{codes}
use Rattle.std.proofs.lemmas.Bool.{cases_eq, cases_lt}
use Rattle.hex.specs.Hex.{encode_lower}
use Rattle.fs_model.specs.declared.events.Event.{Event}
use Rattle.fs_model.specs.declared.events.Event.TheVariants.{Went, Out, Halted, Detected, Trapped}
use Rattle.fs_model.specs.Case.{CaseData}
use Rattle.fs_model.specs.Event.{goes_on}
use Rattle.fs_model.specs.Machine.{Core, reset, turn, fetch}
use Rattle.fs_model.specs.Run.{State, Next, End, Halt, Detect, Fault, Ending, Ended, Over, step_by, step, start, one_step_more, follow, ending, run, after, golden}
use Rattle.fs_model.specs.Leg.{GoesFor, sent}
use Rattle.fs_model.proofs.Stepwise.{golden_ends, golden_long}
use Rattle.fs_model.proofs.Fate.{no_end, golden_at, after_next}
use Rattle.rv_machine.specs.Machines.{MachineData}
use Rattle.plain_commands.specs.Trace.{instruction_text, instruction_line, instruction_lines, output_line, end_line, trace_by, trace_text}
use Rattle.experiment.proofs.Follows.{next_after}
use Rattle.experiment.proofs.Halts.{one_less}
use Rattle.fs_outside.specs.Writing.{TookPart}
use Rattle.report.specs.Buffer.{Moved}
use Rattle.report.proofs.Buffered.{moved_on, moved_part, part_goes_on}
use Rattle.plain_commands.specs.Walk.{ending_by, steps_by, IsLimit, IsWalked, end_text, is_some_byte, output_end}
use Rattle.plain_commands.proofs.Sends.{digits_none}

-- ---- one step after another

-- a machine of the case that holds what the run holds after k steps, all of which went on
pub record Walks (c : CaseData) (k : ℕ) (m : MachineData) : Type 0 where
  pub same_case : m.case ≡ c
  pub same_core : m.core ≡ (after c k).core
  pub goes : GoesFor c (start c) k

pub walks_first : (c : CaseData) (m : MachineData) → m.case ≡ c → m.core ≡ reset c → Walks c 0 m
unfolding after run start
walks_first c m e f = record { same_case = e; same_core = f; goes = λ i low. absurd (omega arith) }

-- the event and what the machine holds are those of the run's next step
turned : (c : CaseData) (k : ℕ) (m m' : MachineData) (event : Event) → Walks c k m → event ≡ (turn m.case m.core).event → m'.core ≡ (turn m.case m.core).core
    → step c (after c k) ≡ step_by (after c k).output event m'.core
unfolding step
turned c k m m' event h e f =
    let same : turn m.case m.core ≡ turn c (after c k).core = ap (λ (x : CaseData). turn x m.core) h.same_case ∙ ap (turn c) h.same_core in
    let event_is : event ≡ (turn c (after c k).core).event = e ∙ ap (λ t. t.event) same in
    let core_is : m'.core ≡ (turn c (after c k).core).core = f ∙ ap (λ t. t.core) same in
    rw (event_is, core_is) refl

pub walks_on : (c : CaseData) (k : ℕ) (m m' : MachineData) (event : Event) → Walks c k m → event ≡ (turn m.case m.core).event → m'.core ≡ (turn m.case m.core).core
    → m'.case ≡ m.case → goes_on event ≡ true → Walks c (k + 1) m'
unfolding after
walks_on c k m m' event h e f same on =
    let next = turned c k m m' event h e f ∙ next_after (after c k).output event m'.core on in
    let there = after_next c k (record { core = m'.core; output = sent (after c k).output event }) next in
    record {
      same_case = same ∙ h.same_case;
      same_core = ap (λ (s : State). s.core) (sym there);
      goes = λ i low. ⊎_elim (λ (is : i ≡ k). rw (is, there) next) (λ (other : i ≡ k → ⊥). h.goes i (omega arith)) (cases_eq i k);
    }

-- ---- the end of the run

goes_after : (c : CaseData) (k : ℕ) → GoesFor c (start c) k → (i : ℕ) → i < k → step c (after c i) ≡ Next (after c (i + 1))
unfolding after
goes_after c k goes i low = goes i low

ends_by : (c : CaseData) (k : ℕ) (event : Event) (core : Core) → GoesFor c (start c) k → k < c.limit → step c (after c k) ≡ step_by (after c k).output event core
    → goes_on event ≡ false → golden c ≡ ending_by c k event
unfolding step_by
ends_by c k Went core goes low e off = absurd cc
ends_by c k (Out byte) core goes low e off = absurd cc
ends_by c k (Halted value) core goes low e off = golden_ends c k (Halt value) low (goes_after c k goes) e
ends_by c k Detected core goes low e off = golden_ends c k Detect low (goes_after c k goes) e
ends_by c k (Trapped kind) core goes low e off = golden_ends c k (Fault kind) low (goes_after c k goes) e

no_limit : (c : CaseData) (k : ℕ) (event : Event) → goes_on event ≡ false → IsLimit c k event
no_limit c k Went off = absurd cc
no_limit c k (Out byte) off = absurd cc
no_limit c k (Halted value) off = tt
no_limit c k Detected off = tt
no_limit c k (Trapped kind) off = tt

pub walked : (c : CaseData) (k : ℕ) (m m' : MachineData) (event : Event) → Walks c k m → event ≡ (turn m.case m.core).event → m'.core ≡ (turn m.case m.core).core
    → k < c.limit → goes_on event ≡ false → IsWalked c k event
walked c k m m' event h e f low off = record {
  goes = h.goes;
  ends = ends_by c k event m'.core h.goes low (turned c k m m' event h e f) off;
  limit = no_limit c k event off;
}

pub walked_all : (c : CaseData) (k : ℕ) (m : MachineData) → Walks c k m → k ≡ c.limit → IsWalked c k Went
walked_all c k m h e = record {
  goes = h.goes;
  ends = golden_long c (λ i low. goes_after c k h.goes i (omega arith));
  limit = e;
}

-- ---- lines

pub line_here : (c : CaseData) (k : ℕ) (m : MachineData) → Walks c k m → instruction_text k m.core.pc (fetch m.case m.core) ≡ instruction_line c k
unfolding instruction_line
line_here c k m h = rw (h.same_case, h.same_core) refl

pub lines_more : (c : CaseData) (k : ℕ) → instruction_lines c (k + 1) ≡ instruction_lines c k ++ instruction_line c k
unfolding instruction_lines
lines_more c k = rw add-one refl

pub lines_none : (c : CaseData) → instruction_lines c 0 ≡ []
unfolding instruction_lines
lines_none c = refl

-- the lines begin with fewer lines
lines_front : (c : CaseData) (n d : ℕ) → (rest : List ℕ) × (instruction_lines c (n + d) ≡ instruction_lines c n ++ rest)
unfolding instruction_lines
lines_front c n zero = let e : n + 0 ≡ n = omega arith in ([], rw e (sym (append-nil (instruction_lines c n))))
lines_front c n (suc d) =
    let e : n + suc d ≡ suc (n + d) = omega arith in
    let front = lines_front c n d in
    (front.0 ++ instruction_line c (n + d), rw (e, front.1) (append_assoc (instruction_lines c n) front.0 (instruction_line c (n + d))))

not_before : (c : CaseData) (k : ℕ) (s t : State) (end : End) (out : List ℕ) → ending c (suc k) s ≡ Ended end 1 out → step c s ≡ Next t → ⊥
unfolding ending follow
not_before c k s t end out h e =
    let on : one_step_more (ending c k t) ≡ Ended end 1 out = rw e at h in
    let less = one_less (ending c k t) end 1 out on in
    let none : less.0 ≡ 0 = omega (arith, less.2) in
    no_end c k t end out (less.1 ∙ ap (λ n. Ended end n out) none)

-- a run whose first k steps go on has not ended by then
later_end : (c : CaseData) (k : ℕ) → GoesFor c (start c) k → k < c.limit → (end : End) (steps : ℕ) (out : List ℕ) → golden c ≡ Ended end steps out → k < steps
unfolding golden
later_end c k goes low end zero out h = absurd (no_end c c.limit (start c) end out h)
later_end c k goes low end (suc t) out h =
    ⊎_elim (λ (early : t < k).
    let one : t + 1 ≡ suc t = omega arith in
    let last : ending c (c.limit - t) (after c t) ≡ Ended end 1 out = golden_at c end (suc t) out h t 0 one in
    let some : c.limit - t ≡ suc (c.limit - t - 1) = omega arith in
    absurd (not_before c (c.limit - t - 1) (after c t) (after c (t + 1)) end out (rw some at last) (goes_after c k goes t early)))
    (λ (late : k ≤ t). omega arith)
    (cases_lt t k)

-- the trace begins with the line of each step that is taken
pub trace_front : (c : CaseData) (k : ℕ) → GoesFor c (start c) k → k < c.limit → (rest : List ℕ) × (trace_text c ≡ instruction_lines c (k + 1) ++ rest)
unfolding trace_by
trace_front c k goes low = by (golden c) refl
  where
    by : (e : Ending) → golden c ≡ e → (rest : List ℕ) × (trace_by c e ≡ instruction_lines c (k + 1) ++ rest)
    by (Ended end steps output) is =
        let late : k < steps = later_end c k goes low end steps output is in
        let e : steps ≡ k + 1 + (steps - (k + 1)) = omega arith in
        let front = lines_front c (k + 1) (steps - (k + 1)) in
        let tail : List ℕ = output_line output ++ end_line end in
        (front.0 ++ tail, ap (λ (n : ℕ). instruction_lines c n ++ tail) e ∙ ap (λ (s : List ℕ). s ++ tail) front.1 ∙ append_assoc (instruction_lines c (k + 1)) front.0 tail)
    by Over is =
        let e : c.limit ≡ k + 1 + (c.limit - (k + 1)) = omega arith in
        let front = lines_front c (k + 1) (c.limit - (k + 1)) in
        let tail : List ℕ = output_line (after c c.limit).output ++ end_text Went in
        (front.0 ++ tail, ap (λ (n : ℕ). instruction_lines c n ++ tail) e ∙ ap (λ (s : List ℕ). s ++ tail) front.1 ∙ append_assoc (instruction_lines c (k + 1)) front.0 tail)

-- the trace of a run that was walked along
pub trace_is : (c : CaseData) (went : ℕ) (last : Event) → IsWalked c went last
    → trace_text c ≡ instruction_lines c (steps_by went last) ++ (output_line (after c went).output ++ end_text last)
unfolding trace_by
trace_is c went last h = ap (trace_by c) h.ends ∙ by last h.limit
  where
    by : (last : Event) → IsLimit c went last → trace_by c (ending_by c went last) ≡ instruction_lines c (steps_by went last) ++ (output_line (after c went).output ++ end_text last)
    by Went e = rw e refl
    by (Out byte) e = rw e refl
    by (Halted value) e = refl
    by Detected e = refl
    by (Trapped kind) e = refl

-- ---- lines through a buffer

pub moved_line : (c : CaseData) (k : ℕ) (m : MachineData) (pc : ℕ) (word : Option ℕ) (t w t' w' : List ℕ) → Walks c k m → pc ≡ m.core.pc → word ≡ fetch m.case m.core
    → Moved t w t' w' (instruction_text k pc word) → Moved t w t' w' (instruction_line c k)
moved_line c k m pc word t w t' w' h p q moved =
    let e : instruction_text k pc word ≡ instruction_line c k = ap (λ (x : ℕ). instruction_text k x word) p ∙ ap (instruction_text k m.core.pc) q ∙ line_here c k m h in
    rw e at moved

pub part_line : (c : CaseData) (k : ℕ) (m : MachineData) (pc : ℕ) (word : Option ℕ) (t w t' : List ℕ) → Walks c k m → pc ≡ m.core.pc → word ≡ fetch m.case m.core
    → TookPart t t' (w ++ instruction_text k pc word) → TookPart t t' (w ++ instruction_line c k)
part_line c k m pc word t w t' h p q part =
    let e : instruction_text k pc word ≡ instruction_line c k = ap (λ (x : ℕ). instruction_text k x word) p ∙ ap (instruction_text k m.core.pc) q ∙ line_here c k m h in
    rw e at part

pub lines_on : (c : CaseData) (k : ℕ) (t w t' w' t'' w'' : List ℕ) → Moved t w t' w' (instruction_lines c k) → Moved t' w' t'' w'' (instruction_line c k)
    → Moved t w t'' w'' (instruction_lines c (k + 1))
lines_on c k t w t' w' t'' w'' m n = rw lines_more (moved_on t w t' w' t'' w'' (instruction_lines c k) (instruction_line c k) m n)

pub lines_fail : (c : CaseData) (k : ℕ) (m : MachineData) (t w t' w' t'' : List ℕ) → Walks c k m → k < c.limit → Moved t w t' w' (instruction_lines c k)
    → TookPart t' t'' (w' ++ instruction_line c k) → TookPart t t'' (w ++ trace_text c)
lines_fail c k m t w t' w' t'' h low moved part =
    let front = trace_front c k h.goes low in
    let lines : instruction_lines c k ++ instruction_line c k ≡ instruction_lines c (k + 1) = sym (lines_more c k) in
    let some : TookPart t t'' (w ++ (instruction_lines c k ++ instruction_line c k)) = moved_part t w t' w' t'' (instruction_lines c k) (instruction_line c k) moved part in
    rw front.1 (part_goes_on t t'' w (instruction_lines c (k + 1)) front.0 (rw lines at some))

pub steps_stopped : (k : ℕ) (event : Event) → goes_on event ≡ false → steps_by k event ≡ k + 1
steps_stopped k Went off = absurd cc
steps_stopped k (Out byte) off = absurd cc
steps_stopped k (Halted value) off = refl
steps_stopped k Detected off = refl
steps_stopped k (Trapped kind) off = refl

pub lines_stopped : (c : CaseData) (k : ℕ) (event : Event) (t w t' w' : List ℕ) → goes_on event ≡ false → Moved t w t' w' (instruction_lines c (k + 1))
    → Moved t w t' w' (instruction_lines c (steps_by k event))
lines_stopped c k event t w t' w' off moved = let e : k + 1 ≡ steps_by k event = sym (steps_stopped k event off) in rw e at moved

-- ---- the line of the output

pub line_is : (output : List ℕ) → output_line output ≡ codes "output " ++ (encode_lower output ++ output_end (is_some_byte output))
line_is [] = rw digits_none refl
line_is (byte ∷ output) = refl

line_as : (output text : List ℕ) (any : Bool) → any ≡ is_some_byte output → text ≡ output_end any → codes "output " ++ (encode_lower output ++ text) ≡ output_line output
line_as output text any e f =
    ap (λ (x : List ℕ). codes "output " ++ (encode_lower output ++ x)) (f ∙ ap output_end e) ∙ sym (line_is output)

-- the line is put: its first word, its digits and its end
module _ (output : List ℕ) (t w t1 w1 : List ℕ) where
  pub word_fails : TookPart t t1 (w ++ codes "output ") → TookPart t t1 (w ++ output_line output)
  word_fails part =
      subst (λ (x : List ℕ). TookPart t t1 (w ++ x)) (sym (line_is output))
      (part_goes_on t t1 w (codes "output ") (encode_lower output ++ output_end (is_some_byte output)) part)

  pub digits_fails : (t2 : List ℕ) → Moved t w t1 w1 (codes "output ") → TookPart t1 t2 (w1 ++ encode_lower output) → TookPart t t2 (w ++ output_line output)
  digits_fails t2 moved part =
      subst (λ (x : List ℕ). TookPart t t2 (w ++ x)) (sym (line_is output))
      (moved_part t w t1 w1 t2 (codes "output ") (encode_lower output ++ output_end (is_some_byte output)) moved
      (part_goes_on t1 t2 w1 (encode_lower output) (output_end (is_some_byte output)) part))

  pub end_fails : (t2 w2 t3 text : List ℕ) (any : Bool) → any ≡ is_some_byte output → text ≡ output_end any → Moved t w t1 w1 (codes "output ") → Moved t1 w1 t2 w2 (encode_lower output)
      → TookPart t2 t3 (w2 ++ text) → TookPart t t3 (w ++ output_line output)
  end_fails t2 w2 t3 text any e f moved digits part =
      subst (λ (x : List ℕ). TookPart t t3 (w ++ x)) (line_as output text any e f)
      (moved_part t w t1 w1 t3 (codes "output ") (encode_lower output ++ text) moved (moved_part t1 w1 t2 w2 t3 (encode_lower output) text digits part))

  pub line_moved : (t2 w2 t3 w3 text : List ℕ) (any : Bool) → any ≡ is_some_byte output → text ≡ output_end any → Moved t w t1 w1 (codes "output ") → Moved t1 w1 t2 w2 (encode_lower output)
      → Moved t2 w2 t3 w3 text → Moved t w t3 w3 (output_line output)
  line_moved t2 w2 t3 w3 text any e f moved digits end =
      subst (λ (x : List ℕ). Moved t w t3 w3 x) (line_as output text any e f)
      (moved_on t w t1 w1 t3 w3 (codes "output ") (encode_lower output ++ text) moved (moved_on t1 w1 t2 w2 t3 w3 (encode_lower output) text digits end))

-- ---- the whole trace

-- what stands behind the lines of the instructions
abbrev pub tail_of : CaseData → ℕ → Event → List ℕ
tail_of c went last = output_line (after c went).output ++ end_text last

module _ (c : CaseData) (went : ℕ) (last : Event) (h : IsWalked c went last) where
  as_part : (t t' w : List ℕ) → w ≡ [] → TookPart t t' (w ++ (instruction_lines c (steps_by went last) ++ tail_of c went last)) → TookPart t t' (trace_text c)
  as_part t t' w none part =
      subst (λ (x : List ℕ). TookPart t t' x) (ap (λ (x : List ℕ). x ++ (instruction_lines c (steps_by went last) ++ tail_of c went last)) none ∙ sym (trace_is c went last h)) part

  pub output_fails : (t w t1 w1 t2 : List ℕ) → w ≡ [] → Moved t w t1 w1 (instruction_lines c (steps_by went last)) → TookPart t1 t2 (w1 ++ output_line (after c went).output) → TookPart t t2 (trace_text c)
  output_fails t w t1 w1 t2 none moved part =
      as_part t t2 w none (moved_part t w t1 w1 t2 (instruction_lines c (steps_by went last)) (tail_of c went last) moved
      (part_goes_on t1 t2 w1 (output_line (after c went).output) (end_text last) part))

  pub last_fails : (t w t1 w1 t2 w2 t3 : List ℕ) → w ≡ [] → Moved t w t1 w1 (instruction_lines c (steps_by went last)) → Moved t1 w1 t2 w2 (output_line (after c went).output)
      → TookPart t2 t3 (w2 ++ end_text last) → TookPart t t3 (trace_text c)
  last_fails t w t1 w1 t2 w2 t3 none moved output part =
      as_part t t3 w none (moved_part t w t1 w1 t3 (instruction_lines c (steps_by went last)) (tail_of c went last) moved
      (moved_part t1 w1 t2 w2 t3 (output_line (after c went).output) (end_text last) output part))

  pub all_moved : (t w t1 w1 t2 w2 t3 w3 : List ℕ) → w ≡ [] → Moved t w t1 w1 (instruction_lines c (steps_by went last)) → Moved t1 w1 t2 w2 (output_line (after c went).output)
      → Moved t2 w2 t3 w3 (end_text last) → Moved t [] t3 w3 (trace_text c)
  all_moved t w t1 w1 t2 w2 t3 w3 none moved output end =
      let whole = moved_on t w t1 w1 t3 w3 (instruction_lines c (steps_by went last)) (tail_of c went last) moved
      (moved_on t1 w1 t2 w2 t3 w3 (output_line (after c went).output) (end_text last) output end) in
      subst (λ (x : List ℕ). Moved t [] t3 w3 x) (sym (trace_is c went last h)) (subst (λ (x : List ℕ). Moved t x t3 w3 (instruction_lines c (steps_by went last) ++ tail_of c went last)) none whole)
