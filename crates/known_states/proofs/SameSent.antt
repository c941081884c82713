-- What is left of a run turns on the machine and on how many golden bytes were sent.
use Rattle.std.proofs.Common.{◌≡◌, ℕ, zero, suc, ◌==◌, ◌&&◌, Bool, if◌then◌else◌, List, [], ◌∷◌, ◌++◌, Option, refl, sym, ◌∙◌, ap}
use Rattle.std.specs.Prelude.{bytes_eq}
use Rattle.fs_model.specs.declared.outcomes.Outcome.TheVariants.{NoEffect, Silent}
use Rattle.fs_model.specs.declared.events.Event.{Event}
use Rattle.fs_model.specs.declared.events.Event.TheVariants.{Went, Out, Halted, Detected, Trapped}
use Rattle.fs_model.specs.Case.{CaseData}
use Rattle.fs_model.specs.Machine.{Core, turn}
use Rattle.fs_model.specs.Run.{Halt, Detect, Fault, Ending, Ended, Over, step_by, step, one_step_more, follow, ending}
use Rattle.fs_model.specs.Leg.{later}
use Rattle.fs_model.specs.Outcome.{compare, agrees}
use Rattle.outcome_class.specs.Seen.{sent_of, next_sent, is_whole}
use Rattle.outcome_class.proofs.Watching.{sent_more, whole}

-- the number of steps is not looked at
pub compare_later : (gold : Ending) (j : ℕ) (e : Ending) → compare gold (later j e) ≡ compare gold e
unfolding compare later
compare_later gold j (Ended (Halt value) steps output) = refl
compare_later gold j (Ended Detect steps output) = refl
compare_later gold j (Ended (Fault kind) steps output) = refl
compare_later gold j Over = refl

compare_more : (gold e : Ending) → compare gold (one_step_more e) ≡ compare gold e
unfolding compare one_step_more
compare_more gold (Ended (Halt value) steps output) = refl
compare_more gold (Ended Detect steps output) = refl
compare_more gold (Ended (Fault kind) steps output) = refl
compare_more gold Over = refl

-- a halt with the one output is compared as one with the other
same_halt : (exit n value : ℕ) (golden a b : List ℕ) → sent_of golden a ≡ sent_of golden b
    → compare (Ended (Halt exit) n golden) (Ended (Halt value) 1 a) ≡ compare (Ended (Halt exit) n golden) (Ended (Halt value) 1 b)
unfolding compare agrees
same_halt exit n value golden a b same =
    let e : bytes_eq golden a ≡ bytes_eq golden b = sym (whole golden a) ∙ ap (is_whole golden) same ∙ whole golden b in
    ap (λ (t : Bool). if (exit == value) && t then NoEffect else Silent) e

pub same_sent : (c : CaseData) (exit n : ℕ) (golden : List ℕ) (k : ℕ) (core : Core) (a b : List ℕ) → sent_of golden a ≡ sent_of golden b
    → compare (Ended (Halt exit) n golden) (ending c k (record { core = core; output = a })) ≡ compare (Ended (Halt exit) n golden) (ending c k (record { core = core; output = b }))
unfolding ending step step_by follow compare
same_sent c exit n golden zero core a b same = refl
same_sent c exit n golden (suc k) core a b same = by (λ next x y e. same_sent c exit n golden k next x y e) (turn c core).event (turn c core).core
  where
    by : ((next : Core) (x y : List ℕ) → sent_of golden x ≡ sent_of golden y → compare (Ended (Halt exit) n golden) (ending c k (record { core = next; output = x })) ≡ compare (Ended (Halt exit) n golden) (ending c k (record { core = next; output = y })))
        → (event : Event) (next : Core) → compare (Ended (Halt exit) n golden) (follow (step_by a event next) a (ending c k)) ≡ compare (Ended (Halt exit) n golden) (follow (step_by b event next) b (ending c k))
    by rest Went next =
        compare_more (Ended (Halt exit) n golden) (ending c k (record { core = next; output = a })) ∙ rest next a b same
        ∙ sym (compare_more (Ended (Halt exit) n golden) (ending c k (record { core = next; output = b })))
    by rest (Out byte) next =
        let grown : sent_of golden (a ++ byte ∷ []) ≡ sent_of golden (b ++ byte ∷ []) =
        sym (sent_more golden a byte) ∙ ap (λ (o : Option ℕ). next_sent golden o byte) same ∙ sent_more golden b byte in
        compare_more (Ended (Halt exit) n golden) (ending c k (record { core = next; output = a ++ byte ∷ [] })) ∙ rest next (a ++ byte ∷ []) (b ++ byte ∷ []) grown
        ∙ sym (compare_more (Ended (Halt exit) n golden) (ending c k (record { core = next; output = b ++ byte ∷ [] })))
    by rest (Halted value) next = same_halt exit n value golden a b same
    by rest Detected next = refl
    by rest (Trapped kind) next = refl
