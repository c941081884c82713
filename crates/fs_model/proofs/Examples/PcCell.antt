-- The pc as a cell, of a program that halts at once: lui x1,0xF0000; sw x0,8(x1).
use Rattle.std.proofs.Common.{◌≡◌, ◌∙◌, true, [], ◌∷◌, refl}
use Rattle.fs_model.specs.declared.outcomes.Outcome.TheVariants.{NoEffect, Illegal, Address, Misaligned}
use Rattle.fs_model.specs.Case.{CaseData}
use Rattle.fs_model.specs.Run.{Ended, Halt}
use Rattle.fs_model.proofs.Examples.Cases.{HasCounts, counts_by_jobs, case_of, summary}

abbrev program : CaseData
program = record (case_of 100 (0xf00000b7 ∷ 0x0000a423 ∷ [])) { pc_cell = true }

in_short : summary program ≡ record { golden = Ended (Halt 0) 2 []; sites = 2304; jobs = 96; dead = 2208 }
unfolding summary
in_short = refl

counted : HasCounts program ((NoEffect, 2209) ∷ (Illegal, 6) ∷ (Address, 83) ∷ (Misaligned, 6) ∷ [])
unfolding summary
counted = counts_by_jobs program ∙ refl
