-- The programs that `demo` makes: a chain of small instructions, chosen by a linear congruential generator.
use Rattle.std.specs.Prelude.{ℕ, zero, suc, ◌+◌, ◌*◌, ◌/◌, ◌%◌, ◌^◌, ◌==◌, if◌then◌else◌, List, [], ◌∷◌, ◌++◌}
use Rattle.std.specs.Int.{w32, to_le_bytes}
use Rattle.elf_loader.specs.Plain.{plain}

-- ---- draws

abbrev pub next_draw : ℕ → ℕ
next_draw s = (s * 6364136223846793005 + 1442695040888963407) % 2 ^ 64

-- the state after k draws, from s on
unfoldable pub state_after : ℕ → ℕ → ℕ
state_after s zero = s
state_after s (suc k) = next_draw (state_after s k)

-- a draw is the upper 32 bits of the state that it leaves
abbrev pub draw : ℕ → ℕ
draw state = state / 2 ^ 32

-- ---- instructions

-- addi x2,x2,n of a number below 256
abbrev pub add_word : ℕ → ℕ
add_word n = 0x00010113 + n * 2 ^ 20

-- sb x2,offset(x3), of an offset below 32
abbrev pub store_word : ℕ → ℕ
store_word offset = 0x00218023 + offset * 2 ^ 7

-- lbu x2,offset(x3)
abbrev pub load_word : ℕ → ℕ
load_word offset = 0x0001C103 + offset * 2 ^ 20

-- sb x2,0(x1), which sends a byte
abbrev pub send_word : ℕ
send_word = 0x00208023

-- the instruction that a draw gives
unfoldable pub block_word : ℕ → ℕ
block_word d =
    if d % 4 == 0 then add_word (d / 16 % 256) else
    if d % 4 == 1 then store_word (d / 65536 % 16) else
    if d % 4 == 2 then load_word (d / 65536 % 16) else send_word

-- ---- the program

-- the bytes of the block that leaves this state
unfoldable pub one_block : ℕ → List ℕ
one_block state = to_le_bytes w32 (block_word (draw state))

-- the bytes of the first k blocks
unfoldable pub block_bytes : ℕ → ℕ → List ℕ
block_bytes s zero = []
block_bytes s (suc k) = block_bytes s k ++ one_block (state_after s (suc k))

-- lui x1,0xF0000, the ports; lui x3,0x80000, the RAM
abbrev pub demo_head : List ℕ
demo_head = 0xB7 ∷ 0x00 ∷ 0x00 ∷ 0xF0 ∷ 0xB7 ∷ 0x01 ∷ 0x00 ∷ 0x80 ∷ []

-- sw x2,8(x1), which halts with x2
abbrev pub tail_bytes : List ℕ
tail_bytes = 0x23 ∷ 0xA4 ∷ 0x20 ∷ 0x00 ∷ []

-- the program of k blocks from the state s on
abbrev pub demo_code : ℕ → ℕ → List ℕ
demo_code s k = demo_head ++ (block_bytes s k ++ tail_bytes)

-- its image
unfoldable pub demo_image : ℕ → ℕ → List ℕ
demo_image s k = plain 0x20000000 0x20000000 (demo_code s k)
