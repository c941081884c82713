-- Where two runs first differ.
use Rattle.std.specs.Prelude.{ℕ, ◌==◌, ◌||◌, not, Bool, min, bytes_eq, Option}
use Rattle.fs_model.specs.declared.sites.Site.{Site}
use Rattle.fs_model.specs.Case.{CaseData}
use Rattle.fs_model.specs.Run.{State}
use Rattle.timeline.specs.Places.{state_at, last_of}

abbrev pub other_pc : State → State → Bool
other_pc a b = not (a.core.pc == b.core.pc)

abbrev pub other_output : State → State → Bool
other_output a b = not (bytes_eq a.output b.output)

abbrev pub is_apart : State → State → Bool
is_apart a b = other_pc a b || other_output a b

-- the runs with these flips differ in the pc or in what they have sent after n instructions; the second stays at its last place after its end
abbrev pub apart_at : CaseData → Option Site → Option Site → ℕ → Bool
apart_at c f g n = is_apart (state_at c f n) (state_at c g (min n (last_of c g)))
