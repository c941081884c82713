-- A packet of GDB's remote serial protocol as bytes.
use Rattle.std.specs.Prelude.{ℕ, ◌+◌, ◌*◌, ◌%◌, ◌^◌, ◌==◌, ◌&&◌, nat_lt, Bool, true, false, if◌then◌else◌, List, []}
use Rattle.std.specs.Prelude.{◌∷◌, ◌++◌, sum, bit_xor, Option, Some, None, option_and_then}
use Rattle.hex.specs.Hex.{encode_lower, hex_digit_value}

-- the sum of the bytes modulo 256
abbrev pub checksum : List ℕ → ℕ
checksum bytes = sum bytes % 256

-- `$` (36), the data, `#` (35), and two digits of the checksum
abbrev pub frame : List ℕ → List ℕ
frame bytes = 36 ∷ (bytes ++ 35 ∷ encode_lower (checksum bytes ∷ []))

-- the packet that shows a byte of the program's output: `O` (79) and two digits
abbrev pub console : ℕ → List ℕ
console b = frame (79 ∷ encode_lower (b ∷ []))

-- what received data mean: the byte after a `}` (125) is meant with bit 5 flipped
abbrev pub unescaped_from : Bool → List ℕ → List ℕ
unescaped_from escaped [] = []
unescaped_from escaped (b ∷ rest) =
    if escaped then bit_xor b 32 ∷ unescaped_from false rest
    else if b == 125 then unescaped_from true rest else b ∷ unescaped_from false rest

abbrev pub unescaped : List ℕ → List ℕ
unescaped bytes = unescaped_from false bytes

-- ---- numbers

-- one more digit, if it is one of the base and the number has 32 bits
abbrev pub with_digit : ℕ → ℕ → ℕ → Option ℕ
with_digit base n d = if nat_lt d base && nat_lt (n * base + d) (2 ^ 32) then Some (n * base + d) else None

-- the number that digits write after those of n
abbrev pub number_from : ℕ → ℕ → List ℕ → Option ℕ
number_from base n [] = Some n
number_from base n (b ∷ rest) = option_and_then (λ m. number_from base m rest) (option_and_then (with_digit base n) (hex_digit_value b))

-- the number below 2 ^ 32 that one or more digits write in the base, 10 or 16
abbrev pub number : ℕ → List ℕ → Option ℕ
number base [] = None
number base (b ∷ rest) = number_from base 0 (b ∷ rest)
