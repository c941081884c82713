-- How a command ends by its campaign file, and what crashes leave of it.
use Rattle.std.proofs.Common.{◌≡◌, ℕ, ◌<◌, Bool, true, false, List, [], ◌∷◌, length, Option, Some, None, Ok, Err, refl, ap, sym, subst, arith}
use Rattle.std.specs.Prelude.{slice_get}
use Rattle.fs_outside.specs.Past.{Past, EachImage, LeavesOnly}
use Rattle.fs_outside.proofs.Moments.{started, joined, ended}
use Rattle.result_keeper.specs.declared.refusals.KeepRefusal.{KeepRefusal}
use Rattle.fs_model.specs.declared.outcomes.Outcome.{Outcome}
use Rattle.fs_model.specs.Job.{jobs_in}
use Rattle.result_keeper.specs.Acceptance.{accept, board_of}
use Rattle.fs_model.specs.Case.{CaseData}
use Rattle.fs_model.specs.Pages.{missing}
use Rattle.def_use.specs.Board.{kept_of, HasOutcomeBelow}
use Rattle.campaign.proofs.Due.{due_all}
use Rattle.campaign.specs.Perform.{IsShort, IsStopped}
use Rattle.campaign.specs.Shards.{in_shard}
use Rattle.campaign.proofs.Missing.{none_blank, none_is_blank}
use Rattle.command_line.specs.declared.commands.Command.TheVariants as command
use Rattle.phases.specs.declared.status.Status.{Status}
use Rattle.phases.specs.declared.status.Status.TheVariants as status
use Rattle.phases.specs.Baselines.{Halts, HasNoBaseline}
use Rattle.phases.specs.Commands.{IsCaseCause}
use Rattle.phases.specs.Opening.{IsUnopened}
use Rattle.phases.specs.Output.{OutputStory}
use Rattle.phases.specs.Status.{IsWriting, is_keep_fault}
use Rattle.phases.specs.Totals.{IsUnfinished}
use Rattle.phases.proofs.Outputs.{IsSilent}
use Rattle.kept_commands.specs.Run.{Portion, each_job, no_job}
use Rattle.kept_commands.specs.Keep.{EndsFrom, IsKeepCause, LeavesKeep, as_memory, opening}

-- ---- an opening

pub opening_is : (fresh : Bool) (file : List ℕ) (c : CaseData) (board : List (Option Outcome)) → (fresh ≡ false → accept file c ≡ Ok board) → (fresh ≡ true → board ≡ board_of (jobs_in c) []) → opening fresh file c ≡ Ok board
opening_is true file c board kept begun = ap Ok (sym (begun refl))
opening_is false file c board kept begun = kept refl

pub refused_is : (fresh : Bool) (file : List ℕ) (c : CaseData) (refusal : KeepRefusal) → (fresh ≡ false) × (accept file c ≡ Err refusal) → opening fresh file c ≡ Err refusal
refused_is fresh file c refusal (goes_on, refused) = subst (λ (f : Bool). opening f file c ≡ Err refusal) (sym goes_on) refused

-- the work from its board on
pub keep_cause : (tells : Type 0) (fresh : Bool) (portion : Portion) (file : List ℕ) (c : CaseData) (board : List (Option Outcome)) (answer : Status) → Halts c → (tells → opening fresh file c ≡ Ok board)
    → EndsFrom portion board answer → IsKeepCause tells fresh portion file c answer
keep_cause tells fresh portion file c board status.KeepFault halts opened ends = (halts, λ told. tt)
keep_cause tells fresh portion file c board (status.Stopped kept jobs) halts opened ends = (halts, λ told. record { board = board; opened = opened told; stopped = ends })
keep_cause tells fresh portion file c board status.Done halts opened ends = (halts, λ told. record { board = board; opened = opened told; within = ends })
keep_cause tells fresh portion file c board status.WriteFault halts opened ends = (halts, λ told. record { board = board; opened = opened told; within = ends })
keep_cause tells fresh portion file c board status.NoMemory halts opened ends = tt
keep_cause tells fresh portion file c board answer halts opened ends = absurd ends

-- no baseline
pub no_baseline_cause : (tells : Type 0) (fresh : Bool) (portion : Portion) (file : List ℕ) (c : CaseData) (answer : Status) → HasNoBaseline c answer → IsKeepCause tells fresh portion file c answer
no_baseline_cause tells fresh portion file c (status.BadGolden fault) why = why
no_baseline_cause tells fresh portion file c status.NoMemory why = tt
no_baseline_cause tells fresh portion file c answer why = absurd why

-- a file that is not opened
pub unopened_cause : (tells : Type 0) (portion : Portion) (file : List ℕ) (c : CaseData) (answer : Status) → IsUnopened tells file c answer → IsKeepCause tells false portion file c answer
unopened_cause tells portion file c (status.BadGolden fault) why = why
unopened_cause tells portion file c status.KeepFault why = (why, λ told. tt)
unopened_cause tells portion file c (status.BadKeep refusal) why = why
unopened_cause tells portion file c status.NoMemory why = tt
unopened_cause tells portion file c answer why = absurd why

pub unopened_silent : (tells : Type 0) (file : List ℕ) (c : CaseData) (answer : Status) → IsUnopened tells file c answer → IsSilent answer
unopened_silent tells file c (status.BadGolden fault) why = tt
unopened_silent tells file c status.KeepFault why = tt
unopened_silent tells file c (status.BadKeep refusal) why = tt
unopened_silent tells file c status.NoMemory why = tt
unopened_silent tells file c answer why = absurd why

-- all jobs within the portion were run, and what is left is to write
pub done_ends : (portion : Portion) (board : List (Option Outcome)) (answer : Status) → (IsShort portion.budget portion.jobs board → ⊥) → IsWriting answer → EndsFrom portion board answer
done_ends portion board status.Done within writing = within
done_ends portion board status.WriteFault within writing = within
done_ends portion board status.NoMemory within writing = tt
done_ends portion board answer within writing = absurd writing

-- work from a board on is no refusal
pub ends_writes : (portion : Portion) (board : List (Option Outcome)) (answer : Status) → EndsFrom portion board answer → LeavesKeep answer → ⊥
ends_writes portion board status.KeepFault ends leaves = leaves
ends_writes portion board (status.Stopped kept jobs) ends leaves = leaves
ends_writes portion board status.Done ends leaves = leaves
ends_writes portion board status.WriteFault ends leaves = leaves
ends_writes portion board status.NoMemory ends leaves = leaves
ends_writes portion board answer ends leaves = ends

-- ---- a board that is looked at

pub within_none : (board : List (Option Outcome)) → missing board ≡ [] → IsShort (Some 0) (in_shard None) board → ⊥
within_none board none left = let l = ap length none in omega (arith, l, left)

-- a board on which each place has an outcome
pub whole_ends : (board : List (Option Outcome)) (answer : Status) → HasOutcomeBelow board (length board) → IsWriting answer → EndsFrom no_job board answer
whole_ends board answer whole = done_ends no_job board answer (within_none board (none_blank 0 board whole))

-- and one with a blank place
pub blank_ends : (board : List (Option Outcome)) (first kept jobs : ℕ) → slice_get board first ≡ Some None → kept ≡ kept_of board → jobs ≡ length board → IsStopped (Some 0) (in_shard None) board kept jobs
blank_ends board first kept jobs blank kept_is jobs_is = record {
  short = some (missing board) refl;
  kept_is = omega (arith, kept_is);
  jobs_is = jobs_is;
}
  where
    some : (ns : List ℕ) → missing board ≡ ns → 0 < length (missing board)
    some [] is = absurd (none_is_blank board first blank is)
    some (n ∷ ns) is = let l = ap length is in omega (arith, l)

pub unfinished_ends : (board : List (Option Outcome)) (answer : Status) → IsUnfinished board answer → EndsFrom no_job board answer
unfinished_ends board (status.Stopped kept jobs) why = blank_ends board why.0 kept jobs why.1 why.2 why.3
unfinished_ends board answer why = absurd why

pub unfinished_silent : (board : List (Option Outcome)) (answer : Status) → IsUnfinished board answer → IsSilent answer
unfinished_silent board (status.Stopped kept jobs) why = tt
unfinished_silent board answer why = absurd why

pub unfinished_keeps : (board : List (Option Outcome)) (answer : Status) → IsUnfinished board answer → is_keep_fault answer ≡ false
unfinished_keeps board (status.Stopped kept jobs) why = refl
unfinished_keeps board answer why = absurd why

pub unfinished_memory : {A : Type 0} (board : List (Option Outcome)) (answer : Status) → IsUnfinished board answer → answer ≡ status.NoMemory → A
unfinished_memory board (status.Stopped kept jobs) why is = absurd (cc)
unfinished_memory board answer why is = absurd why

-- without a bound and a shard no job is left out
pub all_within : (board : List (Option Outcome)) → IsShort None (in_shard None) board → ⊥
all_within board left = let l = ap length (due_all board) in omega (arith, l, left)

-- ---- a disk in memory

pub memory_cause : (tells : Type 0) (file : List ℕ) (c : CaseData) (answer : Status) → tells → IsKeepCause tells true each_job file c answer → IsCaseCause command.Demo c (as_memory answer)
memory_cause tells file c (status.BadGolden f) told k = (refl, k)
memory_cause tells file c status.KeepFault told k = tt
memory_cause tells file c (status.BadKeep r) told k = let never = k.1 told in absurd (cc)
memory_cause tells file c (status.Stopped kept jobs) told k = let stops = k.1 told in absurd (all_within stops.board stops.stopped.short)
memory_cause tells file c status.Done told k = λ need. k.0
memory_cause tells file c status.WriteFault told k = λ need. k.0
memory_cause tells file c status.NoMemory told k = tt
memory_cause tells file c answer told k = absurd k

pub memory_output : {T : Type 0} (tells : Type 0) (taken : T → List ℕ) (faults : T → ℕ) (Says : List ℕ → Type 0) (old new : T) (answer : Status) → OutputStory tells taken faults Says old new answer
    → OutputStory tells taken faults Says old new (as_memory answer)
memory_output tells taken faults Says old new status.KeepFault story = record {
  whole = λ told done. absurd (cc);
  part = λ told failed. absurd (cc);
  nothing = λ not_done not_failed. story.nothing (λ is. absurd (cc)) (λ is. absurd (cc));
  cause = story.cause;
}
memory_output tells taken faults Says old new answer story = story

-- ---- crashes

-- nothing befell the disk
pub none_befell : (old new : Past) (P : List ℕ → Type 0) → new ≡ old → EachImage old P → LeavesOnly old new P
none_befell old new P same each = subst (λ (p : Past). LeavesOnly old p P) (sym same) (started old P each)

-- one call after another
pub both_befell : (old mid new : Past) (P : List ℕ → Type 0) → LeavesOnly old mid P → (EachImage mid P → LeavesOnly mid new P) → LeavesOnly old new P
both_befell old mid new P first second = joined old mid new P first (second (ended old mid P first))
