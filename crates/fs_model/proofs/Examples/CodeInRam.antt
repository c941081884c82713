-- Code that stands in RAM, of a program that halts at once: lui x1,0xF0000; sw x0,8(x1).
use Rattle.std.proofs.Common.{◌≡◌, ◌∙◌, true, false, [], ◌∷◌, refl}
use Rattle.fs_model.specs.declared.events.TrapKind.TheVariants as kinds
use Rattle.fs_model.specs.declared.outcomes.Outcome.TheVariants.{NoEffect, Silent, Illegal, Address, Misaligned}
use Rattle.fs_model.specs.Case.{CaseData}
use Rattle.fs_model.specs.Run.{Ended, Halt, Fault, golden}
use Rattle.fs_model.proofs.Examples.Cases.{HasCounts, counts_by_jobs, bytes_of, case_of, summary}

abbrev program : CaseData
program = record (case_of 100 []) { entry = 0x80000000; ram = bytes_of (0xf00000b7 ∷ 0x0000a423 ∷ 0 ∷ 0 ∷ []); ram_code = true }

in_short : summary program ≡ record { golden = Ended (Halt 0) 2 []; sites = 2240; jobs = 96; dead = 2112 }
unfolding summary
in_short = refl

counted : HasCounts program ((NoEffect, 2122) ∷ (Silent, 2) ∷ (Illegal, 24) ∷ (Address, 86) ∷ (Misaligned, 6) ∷ [])
unfolding summary
counted = counts_by_jobs program ∙ refl

-- without the leave to stand there it traps at its first fetch
refused : golden (record program { ram_code = false }) ≡ Ended (Fault kinds.Address) 1 []
unfolding summary
refused = refl
