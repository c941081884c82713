-- A program that sends one byte and halts: lui x1,0xF0000; addi x2,x0,65; sb x2,0(x1); sw x0,8(x1).
use Rattle.std.proofs.Common.{◌≡◌, ◌∙◌, [], ◌∷◌, refl}
use Rattle.fs_model.specs.declared.outcomes.Outcome.TheVariants.{NoEffect, Silent, Detected, Address, Misaligned}
use Rattle.fs_model.specs.Case.{CaseData}
use Rattle.fs_model.specs.Run.{Ended, Halt}
use Rattle.fs_model.specs.AccessLog.{log, weight}
use Rattle.fs_model.proofs.Examples.Cases.{HasCounts, counts_by_jobs, case_of, summary, live, live-rest}

abbrev program : CaseData
program = case_of 100 (0xf00000b7 ∷ 0x04100113 ∷ 0x00208023 ∷ 0x0000a423 ∷ [])

in_short : summary program ≡ record { golden = Ended (Halt 0) 4 (65 ∷ []); sites = 4480; jobs = 96; dead = 4352 }
unfolding summary
in_short = refl

live_weight : live program ≡ 128
unfolding summary
live_weight = live-rest program

counted : HasCounts program ((NoEffect, 4376) ∷ (Silent, 10) ∷ (Detected, 2) ∷ (Address, 90) ∷ (Misaligned, 2) ∷ [])
unfolding summary
counted = counts_by_jobs program ∙ refl

-- x1 is written at cycle 0 and read at cycles 2 and 3, and x2 is written at cycle 1 and read at cycle 2
x1-weight : weight (log program) (record { cycle = 2; cell = 1; bit = 2 }) ≡ 2
unfolding summary
x1-weight = refl

x1-weight-again : weight (log program) (record { cycle = 3; cell = 1; bit = 31 }) ≡ 1
unfolding summary
x1-weight-again = refl

x2-weight : weight (log program) (record { cycle = 2; cell = 2; bit = 7 }) ≡ 1
unfolding summary
x2-weight = refl
