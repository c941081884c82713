-- A program that halts by an address of two instructions: lui x1,0xF0000; addi x1,x1,8; sw x0,0(x1).
use Rattle.std.proofs.Common.{◌≡◌, ◌∙◌, [], ◌∷◌, refl}
use Rattle.fs_model.specs.declared.outcomes.Outcome.TheVariants.{NoEffect, Illegal, Address, Misaligned}
use Rattle.fs_model.specs.Case.{CaseData}
use Rattle.fs_model.specs.Run.{Ended, Halt}
use Rattle.fs_model.proofs.Examples.Cases.{HasCounts, counts_by_jobs, case_of, summary}

abbrev program : CaseData
program = case_of 100 (0xf00000b7 ∷ 0x00808093 ∷ 0x0000a023 ∷ [])

in_short : summary program ≡ record { golden = Ended (Halt 0) 3 []; sites = 3360; jobs = 64; dead = 3296 }
unfolding summary
in_short = refl

-- the flip of bit 3 before the store sends a byte in place of the end, and the run goes on to a word of zeros
counted : HasCounts program ((NoEffect, 3296) ∷ (Illegal, 1) ∷ (Address, 59) ∷ (Misaligned, 4) ∷ [])
unfolding summary
counted = counts_by_jobs program ∙ refl
