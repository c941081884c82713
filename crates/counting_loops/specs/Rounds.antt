-- Rounds of a loop.
use Rattle.std.specs.Prelude.{ℕ, ◌≡◌, ◌<◌, ◌≤◌, List, slice_index, slice_index_or}
use Rattle.fs_model.specs.Case.{CaseData}
use Rattle.fs_model.specs.Machine.{Core}
use Rattle.fs_model.specs.Run.{State, Over, run, ending}
use Rattle.fs_model.specs.Leg.{GoesFor}
use Rattle.fs_model.specs.Word.{plus}
use Rattle.counting_loops.specs.declared.paces.Pace.{Pace}
use Rattle.counting_loops.specs.declared.paces.Pace.TheVariants.{By, Unknown}
use Rattle.counting_loops.specs.declared.words.Held.{Held}
use Rattle.counting_loops.specs.Paces.{MovedBy}
use Rattle.counting_loops.specs.Words.{ram_word, word_pace}
use Rattle.counting_loops.specs.Steps.{FitsPaces}

-- the state is m steps further on in its round
pub record Came (c : CaseData) (paces : List Pace) (held : List Held) (i : ℕ) (first : Core) (m : ℕ) (s : State) : Type 0 where
  pub goes : GoesFor c s m
  pub fits : FitsPaces c paces held i first (run c m s).core

-- in the rounds up to `last` the first m steps go on, as they do in the first one
pub record PathStays (c : CaseData) (last m : ℕ) (paces : List Pace) (held : List Held) (first : Core)
    (new_paces : List Pace) (new_held : List Held) (next : Core) : Type 0 where
  pub each : (i : ℕ) (s : State) → i ≤ last → FitsPaces c paces held i first s.core → Came c new_paces new_held i next m s

-- a number begins the second round one pace from where it began the first one, and has the same pace there
abbrev pub ComesBack : Pace → Pace → ℕ → ℕ → Type 0
ComesBack (By step) after first next = (after ≡ By step) × (next ≡ plus first step)
ComesBack Unknown after first next = Unit {0}

-- each of the first `count` registers does
abbrev pub AllComeBack : List Pace → List Pace → List ℕ → List ℕ → ℕ → Type 0
AllComeBack before after first next count = (k : ℕ) (d : Pace) → k < count
    → ComesBack (slice_index_or before k d) (slice_index_or after k d) (slice_index first k) (slice_index next k)

-- a word does, and is a word
pub record WordComesBack (before after : Pace) (first next : ℕ) : Type 0 where
  pub back : ComesBack before after first next
  pub first_is : MovedBy before 0 first first

abbrev pub EntryComesBack : List Held → List ℕ → List ℕ → Held → Type 0
EntryComesBack after first next h = WordComesBack h.pace (word_pace after h.word) (ram_word first h.word) (ram_word next h.word)

-- each word does
abbrev pub AllWordsComeBack : List Held → List Held → List ℕ → List ℕ → Type 0
AllWordsComeBack before after first next = (k : ℕ) → WordComesBack (word_pace before k) (word_pace after k) (ram_word first k) (ram_word next k)

-- a run that holds this goes on for m steps, whatever it sent, and then holds that
pub record LeadsTo (c : CaseData) (core : Core) (m : ℕ) (next : Core) : Type 0 where
  pub goes : (output : List ℕ) → GoesFor c (record { core = core; output = output }) m
  pub comes : (output : List ℕ) → (run c m (record { core = core; output = output })).core ≡ next

-- whatever was sent, a run from here is not over within these steps
abbrev pub IsLong : CaseData → Core → ℕ → Type 0
IsLong c core steps = (output : List ℕ) (k : ℕ) → k ≤ steps → ending c k (record { core = core; output = output }) ≡ Over
