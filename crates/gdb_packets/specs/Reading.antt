-- What a reader of packets hears.
use Rattle.std.specs.Prelude.{ℕ, ◌+◌, ◌-◌, ◌==◌, ◌&&◌, ◌||◌, not, nat_le, Bool, true, false, if◌then◌else◌, List, []}
use Rattle.std.specs.Prelude.{◌∷◌, ◌++◌, length, slice_index, take, drop, Option, Some, None}
use Rattle.gdb_packets.specs.declared.reader.TheConstants.{PACKET_SIZE}
use Rattle.gdb_packets.specs.declared.reader.Heard.{Heard}
use Rattle.gdb_packets.specs.declared.reader.Heard.TheVariants.{Nothing, Packet, Broken, Interrupt, Again}
use Rattle.gdb_packets.specs.Frames.{checksum, number}

-- whether a packet is being read, and the bytes since its `$`
pub record ReaderData : Type 0 where
  pub reading : Bool
  pub raw : List ℕ

-- the most bytes after a `$` that are kept: the data, `#`, and two digits
abbrev pub most_raw : ℕ
most_raw = PACKET_SIZE + 3

-- the third byte from the end is `#` (35)
abbrev pub is_whole_packet : List ℕ → Bool
is_whole_packet raw = nat_le 3 (length raw) && (slice_index raw (length raw - 3) == 35)

-- the bytes before `#` and the two digits
abbrev pub data_in : List ℕ → List ℕ
data_in raw = take (length raw - 3) raw

abbrev pub says : Option ℕ → ℕ → Bool
says None n = false
says (Some m) n = m == n

-- the two digits, of either case, write the checksum of the data
abbrev pub is_right : List ℕ → Bool
is_right raw = says (number 16 (drop (length raw - 2) raw)) (checksum (data_in raw))

abbrev pub is_full : List ℕ → Bool
is_full raw = nat_le most_raw (length raw)

-- what bytes after a `$` tell with the last of them
abbrev pub heard_in : List ℕ → Heard
heard_in raw = if is_whole_packet raw then (if is_right raw then Packet else Broken) else if is_full raw then Broken else Nothing

-- what a byte tells between packets: 3 interrupts, and `-` (45) asks for the last packet again
abbrev pub heard_between : ℕ → Heard
heard_between byte = if byte == 3 then Interrupt else if byte == 45 then Again else Nothing

-- what a byte tells; `$` (36) begins a packet wherever it is
abbrev pub heard_byte : ReaderData → ℕ → Heard
heard_byte r byte = if byte == 36 then Nothing else if r.reading then heard_in (r.raw ++ byte ∷ []) else heard_between byte

abbrev pub needs_more : List ℕ → Bool
needs_more raw = not (is_whole_packet raw || is_full raw)

-- the reader after a byte
abbrev pub fed : ReaderData → ℕ → ReaderData
fed r byte =
    if byte == 36 then record { reading = true; raw = [] }
    else if r.reading then record { reading = needs_more (r.raw ++ byte ∷ []); raw = r.raw ++ byte ∷ [] } else r
