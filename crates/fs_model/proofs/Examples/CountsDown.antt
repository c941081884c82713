-- A loop: addi x2,x0,2; loop: addi x2,x2,-1; bne x2,x0,loop; lui x1,0xF0000; sw x0,8(x1).
use Rattle.std.proofs.Common.{◌≡◌, ◌∙◌, true, false, [], ◌∷◌, refl, Some, None}
use Rattle.fs_model.specs.declared.outcomes.Outcome.TheVariants.{NoEffect, Address, Misaligned, Timeout}
use Rattle.fs_model.specs.Case.{CaseData}
use Rattle.fs_model.specs.Run.{Ended, Over, Halt}
use Rattle.fs_model.specs.AccessLog.{log, next_touch}
use Rattle.fs_model.proofs.Examples.Cases.{HasCounts, counts_by_jobs, case_of, summary, live, live-rest}

abbrev program : CaseData
program = case_of 71 (0x00200113 ∷ 0xfff10113 ∷ 0xfe011ee3 ∷ 0xf00000b7 ∷ 0x0000a423 ∷ [])

in_short : summary program ≡ record { golden = Ended (Halt 0) 7 []; sites = 7840; jobs = 160; dead = 7680 }
unfolding summary
in_short = refl

live_weight : live program ≡ 160
unfolding summary
live_weight = live-rest program

counted : HasCounts program ((NoEffect, 7702) ∷ (Address, 30) ∷ (Misaligned, 2) ∷ (Timeout, 106) ∷ [])
unfolding summary
counted = counts_by_jobs program ∙ refl

-- x2 is written at cycle 0, read and written at cycles 1 and 3, read at 2 and 4, and then not touched
x2-next : next_touch (log program) 2 0 ≡ Some (0, false)
unfolding summary
x2-next = refl

x2-next-1 : next_touch (log program) 2 1 ≡ Some (1, true)
unfolding summary
x2-next-1 = refl

x2-next-3 : next_touch (log program) 2 3 ≡ Some (3, true)
unfolding summary
x2-next-3 = refl

x2-next-5 : next_touch (log program) 2 5 ≡ None
unfolding summary
x2-next-5 = refl

x1-next : next_touch (log program) 1 0 ≡ Some (5, false)
unfolding summary
x1-next = refl

x1-next-6 : next_touch (log program) 1 6 ≡ Some (6, true)
unfolding summary
x1-next-6 = refl

abbrev shorter : CaseData
shorter = case_of 70 (0x00200113 ∷ 0xfff10113 ∷ 0xfe011ee3 ∷ 0xf00000b7 ∷ 0x0000a423 ∷ [])

-- four runs halt at instruction 71 exactly, which is one too late here
shorter-counted : HasCounts shorter ((NoEffect, 7698) ∷ (Address, 30) ∷ (Misaligned, 2) ∷ (Timeout, 110) ∷ [])
unfolding summary
shorter-counted = counts_by_jobs shorter ∙ refl

abbrev exact : CaseData
exact = case_of 7 (0x00200113 ∷ 0xfff10113 ∷ 0xfe011ee3 ∷ 0xf00000b7 ∷ 0x0000a423 ∷ [])

-- the limit is the number of instructions of the golden run
exact-counted : HasCounts exact ((NoEffect, 7681) ∷ (Address, 30) ∷ (Misaligned, 2) ∷ (Timeout, 127) ∷ [])
unfolding summary
exact-counted = counts_by_jobs exact ∙ refl

abbrev too_short : CaseData
too_short = case_of 6 (0x00200113 ∷ 0xfff10113 ∷ 0xfe011ee3 ∷ 0xf00000b7 ∷ 0x0000a423 ∷ [])

too_short-summary : summary too_short ≡ record { golden = Over; sites = 0; jobs = 0; dead = 0 }
unfolding summary
too_short-summary = refl
