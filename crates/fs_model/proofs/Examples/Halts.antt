-- A program that halts at once: lui x1,0xF0000; sw x0,8(x1).
use Rattle.std.proofs.Common.{◌≡◌, ◌∙◌, [], ◌∷◌, refl}
use Rattle.fs_model.specs.declared.outcomes.Outcome.TheVariants.{NoEffect, Address, Misaligned}
use Rattle.fs_model.specs.Case.{CaseData}
use Rattle.fs_model.specs.Run.{Ended, Halt}
use Rattle.fs_model.proofs.Examples.Cases.{HasCounts, counts_by_jobs, case_of, summary, live, live-rest}

abbrev program : CaseData
program = case_of 100 (0xf00000b7 ∷ 0x0000a423 ∷ [])

in_short : summary program ≡ record { golden = Ended (Halt 0) 2 []; sites = 2240; jobs = 32; dead = 2208 }
unfolding summary
in_short = refl

live_weight : live program ≡ 32
unfolding summary
live_weight = live-rest program

counted : HasCounts program ((NoEffect, 2208) ∷ (Address, 30) ∷ (Misaligned, 2) ∷ [])
unfolding summary
counted = counts_by_jobs program ∙ refl
