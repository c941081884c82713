-- What a trace knows of the run once it has walked along it.
use Rattle.std.specs.Prelude.{◌≡◌, ℕ, ◌+◌, Bool, true, false, if◌then◌else◌, List, [], ◌∷◌, ◌++◌, codes, decimal}
use Rattle.fs_model.specs.declared.events.Event.{Event}
use Rattle.fs_model.specs.declared.events.Event.TheVariants.{Went, Out, Halted, Detected, Trapped}
use Rattle.fs_model.specs.Case.{CaseData}
use Rattle.fs_model.specs.Leg.{GoesFor}
use Rattle.fs_model.specs.Run.{Ending, Ended, Over, Halt, Detect, Fault, start, after, golden}

-- how the run ended, if `went` steps went on and the step after them told this; if that is no end, they were all
abbrev pub ending_by : CaseData → ℕ → Event → Ending
ending_by c went Went = Over
ending_by c went (Out byte) = Over
ending_by c went (Halted value) = Ended (Halt value) (went + 1) (after c went).output
ending_by c went Detected = Ended Detect (went + 1) (after c went).output
ending_by c went (Trapped kind) = Ended (Fault kind) (went + 1) (after c went).output

-- the number of steps that were taken
abbrev pub steps_by : ℕ → Event → ℕ
steps_by went Went = went
steps_by went (Out byte) = went
steps_by went (Halted value) = went + 1
steps_by went Detected = went + 1
steps_by went (Trapped kind) = went + 1

-- the steps that went on were all that the limit allows
abbrev pub IsLimit : CaseData → ℕ → Event → Type 0
IsLimit c went Went = went ≡ c.limit
IsLimit c went (Out byte) = went ≡ c.limit
IsLimit c went (Halted value) = Unit {0}
IsLimit c went Detected = Unit {0}
IsLimit c went (Trapped kind) = Unit {0}

pub record IsWalked (c : CaseData) (went : ℕ) (last : Event) : Type 0 where
  pub goes : GoesFor c (start c) went
  pub ends : golden c ≡ ending_by c went last
  pub limit : IsLimit c went last

-- the last line
abbrev pub end_text : Event → List ℕ
end_text Went = codes "end limit\n"
end_text (Out byte) = codes "end limit\n"
end_text (Halted value) = codes "end halted " ++ (decimal value ++ 10 ∷ [])
end_text Detected = codes "end detected\n"
end_text (Trapped kind) = codes "end trapped\n"

-- ---- the output

-- a byte is sent
abbrev pub sends : Event → Bool
sends Went = false
sends (Out byte) = true
sends (Halted value) = false
sends Detected = false
sends (Trapped kind) = false

abbrev pub is_some_byte : List ℕ → Bool
is_some_byte [] = false
is_some_byte (byte ∷ bytes) = true

-- what follows the bytes, or takes their place
abbrev pub output_end : Bool → List ℕ
output_end any = if any then codes "\n" else codes "-\n"
