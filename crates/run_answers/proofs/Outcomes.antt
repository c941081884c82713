-- The outcome of an answer.
use Rattle.std.proofs.Common.{◌≡◌, ℕ, ◌-◌, List, Some, None, refl, sym, ◌∙◌, ap, length}
use Rattle.fs_model.specs.declared.events.Event.{Event}
use Rattle.fs_model.specs.declared.events.Event.TheVariants.{Went, Out, Halted, Detected, Trapped}
use Rattle.std.specs.Prelude.{Result, Ok, Err, IfOk}
use Rattle.fs_model.specs.declared.outcomes.Outcome.{Outcome}
use Rattle.fs_model.specs.declared.sites.Job.{Job}
use Rattle.fs_model.specs.declared.sites.Site.{Site}
use Rattle.fs_model.specs.Job.{site_of}
use Rattle.run_answers.specs.Line.{answer_line, line_with}
use Rattle.fs_model.specs.Case.{CaseData}
use Rattle.fs_model.specs.Outcome.{agrees, compare, outcome}
use Rattle.fs_model.specs.Run.{State, End, Halt, Detect, Fault, Ending, Ended, Over, flipped, after, ending, injected, run}
use Rattle.golden_trace.specs.Goldens.{GoldenData, IsGolden}
use Rattle.run_answers.specs.Answers.{Answer, answer_by, answer_from, answer_of, answer_with, end_by, outcome_with}

ended : (v n steps : ℕ) (gold o : List ℕ) (end : End) (last : Event) → Some end ≡ end_by last → compare (Ended (Halt v) n gold) (Ended end steps o) ≡ outcome_with v gold o last
unfolding compare agrees
ended v n steps gold o end Went h = absurd cc
ended v n steps gold o end (Out byte) h = absurd cc
ended v n steps gold o end (Halted value) h = let e : end ≡ Halt value = cc in rw e refl
ended v n steps gold o end Detected h = let e : end ≡ Detect = cc in rw e refl
ended v n steps gold o end (Trapped kind) h = let e : end ≡ Fault kind = cc in rw e refl

limited : (v : ℕ) (n : ℕ) (gold o : List ℕ) (last : Event) → None ≡ end_by last → compare (Ended (Halt v) n gold) Over ≡ outcome_with v gold o last
unfolding compare
limited v n gold o Went h = refl
limited v n gold o (Out byte) h = refl
limited v n gold o (Halted value) h = absurd cc
limited v n gold o Detected h = absurd cc
limited v n gold o (Trapped kind) h = absurd cc

compared : (v n : ℕ) (gold at out : List ℕ) (e : Ending) (last : Event) → answer_by at e ≡ answer_with out last → compare (Ended (Halt v) n gold) e ≡ outcome_with v gold out last
compared v n gold at out (Ended end steps o) last h =
    let same : o ≡ out = ap (λ (a : Answer). a.output) h in
    let is : Some end ≡ end_by last = ap (λ (a : Answer). a.end) h in
    rw (← same) (ended v n steps gold o end last is)
compared v n gold at out Over last h =
    let is : None ≡ end_by last = ap (λ (a : Answer). a.end) h in
    limited v n gold out last is

-- the outcome of a site by the answer of its run
pub outcome_is : (c : CaseData) (g : GoldenData) (site : Site) (out : List ℕ) (last : Event) → IsGolden c g → answer_of c site ≡ answer_with out last → outcome_with g.exit g.output out last ≡ outcome c site
unfolding outcome answer_of
outcome_is c g site out last h is =
    sym (ap (λ (e : Ending). compare e (injected c site)) h.ends
    ∙ compared g.exit (length g.touches) g.output (run c (c.limit - site.cycle) (flipped (after c site.cycle) site.cell site.bit)).output out (injected c site) last is)

-- the answer of a site is that of the run from the flip on
pub answer_is : (c : CaseData) (site : Site) (s : State) (a : Answer) → s ≡ flipped (after c site.cycle) site.cell site.bit → answer_from c (c.limit - site.cycle) s ≡ a → answer_of c site ≡ a
unfolding answer_of answer_from injected
answer_is c site s a e h = ap (λ (x : State). answer_by (run c (c.limit - site.cycle) x).output (ending c (c.limit - site.cycle) x)) (sym e) ∙ h

pub IfOk_map : {T E : Type 0} (P Q : T → Type 0) (r : Result T E) → ((x : T) → P x → Q x) → IfOk r P → IfOk r Q
IfOk_map P Q (Ok x) on h = on x h
IfOk_map P Q (Err e) on h = h

-- the line of a job by the answer of its run
pub line_is : (c : CaseData) (g : GoldenData) (job : Job) (out : List ℕ) (last : Event) (o : Outcome) → IsGolden c g → answer_of c (site_of job) ≡ answer_with out last → o ≡ outcome_with g.exit g.output out last
    → line_with job o (answer_with out last) ≡ answer_line c job
unfolding answer_line
line_is c g job out last o h is e =
    ap (λ (x : Outcome). line_with job x (answer_with out last)) (e ∙ outcome_is c g (site_of job) out last h is)
    ∙ ap (line_with job (outcome c (site_of job))) (sym is)
