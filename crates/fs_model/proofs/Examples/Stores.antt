-- A word is stored, one byte of it is stored again, and the word is loaded and sent: lui x3,0x80000; addi x2,x0,65; sw x2,0(x3); sb x0,1(x3); lw x4,0(x3); lui x1,0xF0000; sb x4,0(x1); sw x4,8(x1).
use Rattle.std.proofs.Common.{◌≡◌, ◌∙◌, [], ◌∷◌, refl}
use Rattle.fs_model.specs.declared.outcomes.Outcome.TheVariants.{NoEffect, Silent, Detected, Address, Misaligned}
use Rattle.fs_model.specs.Case.{CaseData}
use Rattle.fs_model.specs.Run.{Ended, Halt}
use Rattle.fs_model.specs.AccessLog.{log, weight}
use Rattle.fs_model.proofs.Examples.Cases.{HasCounts, counts_by_jobs, case_of, summary, live, live-rest}

abbrev program : CaseData
program = case_of 100 (0x800001b7 ∷ 0x04100113 ∷ 0x0021a023 ∷ 0x000180a3 ∷ 0x0001a203 ∷ 0xf00000b7 ∷ 0x00408023 ∷ 0x0040a423 ∷ [])

in_short : summary program ≡ record { golden = Ended (Halt 65) 8 (65 ∷ []); sites = 8960; jobs = 288; dead = 8584 }
unfolding summary
in_short = refl

live_weight : live program ≡ 376
unfolding summary
live_weight = live-rest program

counted : HasCounts program ((NoEffect, 8596) ∷ (Silent, 181) ∷ (Detected, 1) ∷ (Address, 172) ∷ (Misaligned, 10) ∷ [])
unfolding summary
counted = counts_by_jobs program ∙ refl

-- the byte that is stored again has the shorter interval
byte_0-weight : weight (log program) (record { cycle = 4; cell = 32; bit = 0 }) ≡ 2
unfolding summary
byte_0-weight = refl

byte_1-weight : weight (log program) (record { cycle = 4; cell = 33; bit = 0 }) ≡ 1
unfolding summary
byte_1-weight = refl
