-- The lines of instructions, as they are put.
use Rattle.std.proofs.Common.{◌≡◌, ℕ, zero, suc, ◌+◌, ◌-◌, ◌<◌, ◌≤◌, Bool, ◌||◌, List, [], ◌∷◌, ◌++◌, length, refl, sym, ap, ◌∙◌, arith, add-one, append_assoc, append-nil}
use Rattle.std.specs.Prelude.{Option, Result, codes}
use Rattle.std.proofs.lemmas.Result.{MatchResult-weaker}
use Rattle.hex.specs.Hex.{encode_lower, lower_digits}
use Rattle.fs_model.specs.declared.sites.Site.{Site}
use Rattle.fs_model.specs.Case.{CaseData}
use Rattle.fs_model.specs.Leg.{sent}
use Rattle.fs_model.specs.Machine.{Core, fetch, reset, turn}
use Rattle.fs_model.specs.Outcome.{outcome}
use Rattle.fs_model.specs.Run.{State, run, after, flipped, injected, Halt}
use Rattle.golden_trace.specs.Goldens.{GoldenData, IsGolden}
use Rattle.experiment.proofs.Halts.{within, steps_few}
use Rattle.experiment.proofs.JobSites.{count_is}
use Rattle.command_line.specs.declared.replay.View.{View}
use Rattle.fs_outside.specs.Writing.{TookPart}
use Rattle.plain_commands.specs.Sent.{begins, sent_from}
use Rattle.plain_commands.specs.Trace.{instruction_text, output_line}
use Rattle.plain_commands.specs.Walk.{steps_by, end_text, is_some_byte, output_end}
use Rattle.plain_commands.proofs.Sends.{digits_more, digits_none, of_golden}
use Rattle.plain_commands.proofs.Traced.{line_is}
use Rattle.report.specs.Buffer.{Moved, Puts}
use Rattle.report.proofs.Buffered.{moved_on, moved_part, part_goes_on}
use Rattle.replay.specs.declared.differences.Differences.{Differences}
use Rattle.replay.specs.declared.walk.Walk.{Walk}
use Rattle.replay.specs.Differences.{differences}
use Rattle.phases.specs.Sites.{IsSite}
use Rattle.replay.specs.Injected.{injected_at, steps_from}
use Rattle.timeline.specs.Places.{from_flip}
use Rattle.replay.specs.Text.{differences_line, ending_lines, line_before, lines_from, outcome_line, site_line, site_text, view_lines}
use Rattle.replay.specs.Walk.{IsWalk}
use Rattle.replay.proofs.Apart.{sent_behind}
use Rattle.replay.proofs.Stepped.{state_next}

pub lines_none : (c : CaseData) (number : ℕ) (s : State) → lines_from c number s 0 ≡ []
unfolding lines_from
lines_none c number s = refl

pub lines_more : (c : CaseData) (number : ℕ) (s : State) (k : ℕ) → lines_from c number s (k + 1) ≡ lines_from c number s k ++ line_before c (number + k) (run c k s)
unfolding lines_from
lines_more c number s k = rw add-one refl

lines_front : (c : CaseData) (number : ℕ) (s : State) (n d : ℕ) → (rest : List ℕ) × (lines_from c number s (n + d) ≡ lines_from c number s n ++ rest)
unfolding lines_from
lines_front c number s n zero = let e : n + 0 ≡ n = omega arith in ([], rw e (sym (append-nil (lines_from c number s n))))
lines_front c number s n (suc d) =
    let e : n + suc d ≡ suc (n + d) = omega arith in
    let front = lines_front c number s n d in
    let line = line_before c (number + (n + d)) (run c (n + d) s) in
    (front.0 ++ line, rw (e, front.1) (append_assoc (lines_from c number s n) front.0 line))

-- the line of the next instruction, by what the machine holds
module _ (c case : CaseData) (number k : ℕ) (s : State) (core : Core) (pc : ℕ) (word : Option ℕ) (same : case ≡ c) (here : core ≡ (run c k s).core) (p : pc ≡ core.pc) (q : word ≡ fetch case core) where
  same_line : instruction_text (number + k) pc word ≡ line_before c (number + k) (run c k s)
  same_line =
      ap (λ (x : ℕ). instruction_text (number + k) x word) p ∙ ap (instruction_text (number + k) core.pc) q
      ∙ ap (λ (x : CaseData). instruction_text (number + k) core.pc (fetch x core)) same
      ∙ ap (λ (x : Core). instruction_text (number + k) x.pc (fetch c x)) here

  pub line_on : (t w t' w' t'' w'' : List ℕ) → Moved t w t' w' (lines_from c number s k) → Moved t' w' t'' w'' (instruction_text (number + k) pc word)
      → Moved t w t'' w'' (lines_from c number s (k + 1))
  line_on t w t' w' t'' w'' moved more =
      rw lines_more (moved_on t w t' w' t'' w'' (lines_from c number s k) (line_before c (number + k) (run c k s)) moved (rw same_line at more))

  pub line_fails : (n : ℕ) (t w t' w' t'' : List ℕ) → k < n → Moved t w t' w' (lines_from c number s k) → TookPart t' t'' (w' ++ instruction_text (number + k) pc word)
      → TookPart t t'' (w ++ lines_from c number s n)
  line_fails n t w t' w' t'' low moved part =
      let all : k + 1 + (n - (k + 1)) ≡ n = omega arith in
      let front = lines_front c number s (k + 1) (n - (k + 1)) in
      let whole : lines_from c number s n ≡ lines_from c number s k ++ (line_before c (number + k) (run c k s) ++ front.0) =
      ap (lines_from c number s) (sym all) ∙ front.1 ∙ ap (λ (x : List ℕ). x ++ front.0) (lines_more c number s k)
      ∙ append_assoc (lines_from c number s k) (line_before c (number + k) (run c k s)) front.0 in
      rw whole (moved_part t w t' w' t'' (lines_from c number s k) (line_before c (number + k) (run c k s) ++ front.0) moved
      (part_goes_on t' t'' w' (line_before c (number + k) (run c k s)) front.0 (rw same_line at part)))

-- ---- one text behind another

-- a text that was put, and then the answer for what stands behind it
pub puts_behind : {T E : Type 0} (t w t' w' t'' w'' a b : List ℕ) (result : Result T E) → Moved t w t' w' a → Puts t' w' t'' w'' b result → Puts t w t'' w'' (a ++ b) result
puts_behind t w t' w' t'' w'' a b result moved puts =
    MatchResult-weaker result puts (λ _ more. moved_on t w t' w' t'' w'' a b moved more) (λ _ part. moved_part t w t' w' t'' a b moved part)

-- ---- what was sent before a state and behind it

pub sent_in_all : (c : CaseData) (s : State) (k : ℕ) → run c k s ≡ record { core = (run c k (begins s.core)).core; output = s.output ++ sent_from c s.core k }
unfolding run
sent_in_all c s zero = ap (λ (o : List ℕ). record { core = s.core; output = o }) (sym (append-nil s.output))
sent_in_all c s (suc k) =
    let b : State = run c k (begins s.core) in
    state_next c (run c k s)
    ∙ ap (λ (x : State). record { core = (turn c x.core).core; output = sent x.output (turn c x.core).event }) (sent_in_all c s k)
    ∙ ap (λ (o : List ℕ). record { core = (turn c b.core).core; output = o })
    (sent_behind (s.output ++ b.output) (turn c b.core).event ∙ append_assoc s.output b.output (sent [] (turn c b.core).event)
    ∙ ap (λ (o : List ℕ). s.output ++ o) (sym (sent_behind b.output (turn c b.core).event)))
    ∙ sym (ap (λ (x : State). record { core = x.core; output = s.output ++ x.output }) (state_next c b))

pub output_in_all : (c : CaseData) (site : Site) (core : Core) (k : ℕ) → core ≡ (from_flip c site).core → (injected_at c site k).output ≡ (after c site.cycle).output ++ sent_from c core k
unfolding flipped
output_in_all c site core k e = rw e (ap (λ (s : State). s.output) (sent_in_all c (from_flip c site) k))

any_in_all : (a b : List ℕ) → is_some_byte (a ++ b) ≡ (is_some_byte a || is_some_byte b)
any_in_all [] b = refl
any_in_all (x ∷ a) b = refl

-- what was sent, by a machine at the start and one at the flip
pub all_sent : (c c1 c2 : CaseData) (site : Site) (core1 core2 : Core) (k : ℕ) → c1 ≡ c → core1 ≡ reset c → c2 ≡ c → core2 ≡ (from_flip c site).core
    → (injected_at c site k).output ≡ sent_from c1 core1 site.cycle ++ sent_from c2 core2 k
all_sent c c1 c2 site core1 core2 k e f g h =
    output_in_all c site core2 k h ∙ ap (λ (x : List ℕ). x ++ sent_from c core2 k) (of_golden c core1 site.cycle f)
    ∙ ap (λ (x : CaseData). sent_from x core1 site.cycle ++ sent_from c core2 k) (sym e) ∙ ap (λ (x : CaseData). sent_from c1 core1 site.cycle ++ sent_from x core2 k) (sym g)

-- the line of the output in four parts
pub output_parts : (whole a b : List ℕ) (any some more : Bool) → whole ≡ a ++ b → some ≡ is_some_byte a → more ≡ is_some_byte b → any ≡ (some || more)
    → output_line whole ≡ codes "output " ++ (encode_lower a ++ (encode_lower b ++ output_end any))
output_parts whole a b any some more e f g h =
    let all : is_some_byte (a ++ b) ≡ any = any_in_all a b ∙ ap (λ (x : Bool). x || is_some_byte b) (sym f) ∙ ap (λ (x : Bool). some || x) (sym g) ∙ sym h in
    ap output_line e ∙ line_is (a ++ b)
    ∙ ap (λ (x : List ℕ). codes "output " ++ (x ++ output_end (is_some_byte (a ++ b)))) (digits_more lower_digits a b)
    ∙ ap (λ (x : Bool). codes "output " ++ ((encode_lower a ++ encode_lower b) ++ output_end x)) all
    ∙ ap (λ (x : List ℕ). codes "output " ++ x) (append_assoc (encode_lower a) (encode_lower b) (output_end any))

pub output_whole : (all : List ℕ) → output_line all ≡ codes "output " ++ (encode_lower all ++ (encode_lower [] ++ output_end (is_some_byte all)))
output_whole all = rw digits_none (line_is all)

-- ---- the text of a site

pub site_parts : (c : CaseData) (view : View) (site : Site) (w : Walk) → IsWalk c site w
    → site_text c view site ≡ site_line site ++ (view_lines c site (steps_by w.went w.last) view
    ++ (differences_line w.differences ++ (output_line (injected_at c site w.went).output ++ (end_text w.last ++ outcome_line (outcome c site)))))
site_parts c view site w h =
    let tail : List ℕ = outcome_line (outcome c site) in
    let ending : ending_lines c site (injected c site) ++ tail ≡ output_line (injected_at c site w.went).output ++ (end_text w.last ++ tail) =
    ap (λ (x : List ℕ). x ++ tail) h.lines ∙ append_assoc (output_line (injected_at c site w.went).output) (end_text w.last) tail in
    ap (λ (x : List ℕ). site_line site ++ (view_lines c site (steps_from c site) view ++ (differences_line (differences c site (steps_from c site)) ++ x))) ending
    ∙ ap (λ (x : Differences). site_line site ++ (view_lines c site (steps_from c site) view ++ (differences_line x ++ (output_line (injected_at c site w.went).output ++ (end_text w.last ++ tail))))) (sym h.differences)
    ∙ ap (λ (n : ℕ). site_line site ++ (view_lines c site n view ++ (differences_line w.differences ++ (output_line (injected_at c site w.went).output ++ (end_text w.last ++ tail))))) (sym h.steps)

-- ---- which sites there are

-- a site's instruction is one of the run without a flip, and so below the limit
pub site_early : (c : CaseData) (g : GoldenData) (site : Site) → IsGolden c g → IsSite c site → site.cycle < length g.touches
site_early c g site h is = let count = count_is c g h in let early = is.early in omega (arith, count, early)

pub site_within : (c : CaseData) (g : GoldenData) (site : Site) → IsGolden c g → IsSite c site → site.cycle ≤ c.limit
site_within c g site h is = let most = within c (Halt g.exit) (length g.touches) g.output h.ends in let early = site_early c g site h is in omega (arith, most, early)

-- and no more steps are taken than the limit leaves
pub steps_within : (c : CaseData) (site : Site) → steps_from c site ≤ c.limit - site.cycle
unfolding injected
steps_within c site = steps_few c (c.limit - site.cycle) (from_flip c site)
