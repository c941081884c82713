-- RAM byte 0 is 0x41: lui x3,0x80000; lb x2,0(x3); lui x1,0xF0000; sb x2,0(x1); sw x0,8(x1).
use Rattle.std.proofs.Common.{◌≡◌, ◌∙◌, [], ◌∷◌, refl}
use Rattle.fs_model.specs.declared.outcomes.Outcome.TheVariants.{NoEffect, Silent, Detected, Address, Misaligned}
use Rattle.fs_model.specs.Case.{CaseData}
use Rattle.fs_model.specs.Run.{Ended, Halt}
use Rattle.fs_model.specs.AccessLog.{log, weight}
use Rattle.fs_model.proofs.Examples.Cases.{HasCounts, counts_by_jobs, bytes_of, case_of, summary, live, live-rest}

abbrev program : CaseData
program = record (case_of 100 (0x800001b7 ∷ 0x00018103 ∷ 0xf00000b7 ∷ 0x00208023 ∷ 0x0000a423 ∷ [])) { ram = bytes_of (0x41 ∷ 0 ∷ 0 ∷ 0 ∷ []) }

in_short : summary program ≡ record { golden = Ended (Halt 0) 5 (65 ∷ []); sites = 5600; jobs = 136; dead = 5424 }
unfolding summary
in_short = refl

live_weight : live program ≡ 176
unfolding summary
live_weight = live-rest program

counted : HasCounts program ((NoEffect, 5472) ∷ (Silent, 37) ∷ (Detected, 1) ∷ (Address, 88) ∷ (Misaligned, 2) ∷ [])
unfolding summary
counted = counts_by_jobs program ∙ refl

-- the byte of RAM holds from the start to the load at cycle 1
ram-weight : weight (log program) (record { cycle = 1; cell = 32; bit = 6 }) ≡ 2
unfolding summary
ram-weight = refl
