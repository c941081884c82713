-- How short programs end. Each begins with lui x1,0xF0000 unless it says otherwise.
use Rattle.std.proofs.Common.{◌≡◌, [], ◌∷◌, refl}
use Rattle.fs_model.specs.declared.events.TrapKind.TheVariants.{Illegal, Address, Misaligned}
use Rattle.fs_model.specs.declared.outcomes.Outcome.TheVariants as outcomes
use Rattle.fs_model.specs.Run.{Ended, Halt, Detect, Fault, golden}
use Rattle.fs_model.specs.Outcome.{outcome}
use Rattle.fs_model.proofs.Examples.Cases.{case_of, summary}

-- a division by zero, and the quotient that overflows: div x4,x2,x0 and rem x4,x2,x0 of 7, div x7,x5,x6 and rem x9,x5,x6 of -2^31 and -1
divides : golden (case_of 100 (0xf00000b7 ∷ 0x00700113 ∷ 0x02014233 ∷ 0x00408023 ∷ 0x02016233 ∷ 0x00408023 ∷ 0x800002b7 ∷ 0xfff00313 ∷ 0x0262c3b3 ∷ 0x0183d413 ∷ 0x00808023 ∷ 0x0262e4b3 ∷ 0x0090a423 ∷ [])) ≡ Ended (Halt 0) 13 (255 ∷ 7 ∷ 128 ∷ [])
unfolding summary
divides = refl

-- sw x0,4(x1)
detects : golden (case_of 100 (0xf00000b7 ∷ 0x0000a223 ∷ [])) ≡ Ended Detect 2 []
unfolding summary
detects = refl

-- sw x0,10(x1): the address of a word is a multiple of 4
misaligned : golden (case_of 100 (0xf00000b7 ∷ 0x0000a523 ∷ [])) ≡ Ended (Fault Misaligned) 2 []
unfolding summary
misaligned = refl

-- sw x0,12(x1): there is no such port
no_port : golden (case_of 100 (0xf00000b7 ∷ 0x0000a623 ∷ [])) ≡ Ended (Fault Address) 2 []
unfolding summary
no_port = refl

-- lw x4,0(x1): a port is not read
port_read : golden (case_of 100 (0xf00000b7 ∷ 0x0000a203 ∷ [])) ≡ Ended (Fault Address) 2 []
unfolding summary
port_read = refl

-- the word 0 is no instruction
illegal : golden (case_of 100 (0xf00000b7 ∷ [])) ≡ Ended (Fault Illegal) 2 []
unfolding summary
illegal = refl

-- the start is outside of ROM, or not a multiple of 4
no_rom : golden (record (case_of 100 []) { entry = 0 }) ≡ Ended (Fault Address) 1 []
unfolding summary
no_rom = refl

odd_start : golden (record (case_of 100 []) { entry = 0x20000002 }) ≡ Ended (Fault Misaligned) 1 []
unfolding summary
odd_start = refl

-- jal x0,2 traps at the jump, and jal x0,64 at the fetch after it
odd_jump : golden (case_of 100 (0x0020006f ∷ [])) ≡ Ended (Fault Misaligned) 1 []
unfolding summary
odd_jump = refl

far_jump : golden (case_of 100 (0x0400006f ∷ [])) ≡ Ended (Fault Address) 2 []
unfolding summary
far_jump = refl

-- from its start, with bit 0 of x1 flipped
pub flipped-illegal : outcomes.Illegal ≡ outcome (case_of 100 []) (record { cycle = 0; cell = 1; bit = 0 })
unfolding summary
flipped-illegal = refl
