-- Regions of memory as they stand on the command line.
use Rattle.std.specs.Prelude.{ℕ, ◌==◌, Bool, List, length, Option, Some, None, if◌then◌else◌, nat_lt, option_and_then}
use Rattle.std.specs.List.{before_first, after_first, position_or_len}
use Rattle.command_line.specs.Number.{number, within}
use Rattle.command_line.specs.declared.region.Region.{Region}

abbrev pub is_colon : ℕ → Bool
is_colon byte = byte == 58

-- a number of at most 32 bits
abbrev pub word : List ℕ → Option ℕ
word text = within 0 0xffff_ffff (number text)

-- BASE:SIZE, cut at the first colon; a number has no colon, so there is no other
abbrev pub region : List ℕ → Option Region
region text =
    if nat_lt (position_or_len is_colon text) (length text) then
    option_and_then (λ base. option_and_then (λ size. Some (record { base = base; size = size }))
    (word (after_first is_colon text)))
    (word (before_first is_colon text))
    else None
