-- What a command did to its output.
use Rattle.std.specs.Prelude.{◌≡◌, ◌≢◌, ℕ, List, ◌++◌}
use Rattle.fs_outside.specs.Faults.{IsCaused}
use Rattle.fs_outside.specs.Writing.{TookPart}
use Rattle.phases.specs.Status.{is_write_fault}
use Rattle.phases.specs.declared.status.Status.{Status}
use Rattle.phases.specs.declared.status.Status.TheVariants as status

-- a text that the command says follows what was taken before
pub record Wrote (Says : List ℕ → Type 0) (before after : List ℕ) : Type 0 where
  pub text : List ℕ
  pub says : Says text
  pub written : after ≡ before ++ text

-- a part of one does
pub record WrotePart (Says : List ℕ → Type 0) (before after : List ℕ) : Type 0 where
  pub text : List ℕ
  pub says : Says text
  pub written : TookPart before after text

-- The output of a command that says such a text, where the output tells its bytes: it took all of the text where the command
-- is done, a part where the output failed, and nothing with any other answer.
pub record OutputStory {T : Type 0} (tells : Type 0) (taken : T → List ℕ) (faults : T → ℕ) (Says : List ℕ → Type 0) (old new : T)
    (answer : Status) : Type 0 where
  pub whole : tells → answer ≡ status.Done → Wrote Says (taken old) (taken new)
  pub part : tells → answer ≡ status.WriteFault → WrotePart Says (taken old) (taken new)
  pub nothing : answer ≢ status.Done → answer ≢ status.WriteFault → new ≡ old
  pub cause : IsCaused (is_write_fault answer) (faults old) (faults new)

-- the command says this text
abbrev pub IsText : List ℕ → List ℕ → Type 0
IsText text said = said ≡ text
