-- The data of the answers.
use Rattle.std.specs.Prelude.{ℕ, zero, suc, ◌+◌, ◌-◌, ◌%◌, ◌==◌, nat_le, nat_lt, if◌then◌else◌, List, [], ◌∷◌, ◌++◌}
use Rattle.std.specs.Prelude.{length, take, drop, min, slice_get, slice_index, codes, decimal, Option, Some, None}
use Rattle.std.specs.Option.{option_or}
use Rattle.std.specs.Int.{w32, to_be_bytes, to_le_bytes}
use Rattle.std.specs.List.{flat_map}
use Rattle.hex.specs.Hex.{encode_lower}
use Rattle.fs_model.specs.declared.events.TrapKind.{TrapKind}
use Rattle.fs_model.specs.declared.events.TrapKind.TheVariants.{Illegal, Address, Misaligned}
use Rattle.fs_model.specs.declared.events.Event.{Event}
use Rattle.fs_model.specs.declared.events.Event.TheVariants.{Went, Out, Halted, Detected, Trapped}
use Rattle.fs_model.specs.Case.{CaseData}
use Rattle.fs_model.specs.Machine.{Core}
use Rattle.timeline.specs.declared.watches.Watch.{Watch}
use Rattle.timeline.specs.declared.watches.WatchKind.{WatchKind}
use Rattle.timeline.specs.declared.watches.WatchKind.TheVariants as kind
use Rattle.debug_session.specs.declared.commands.Fixed.{Fixed}
use Rattle.debug_session.specs.declared.commands.Fixed.TheVariants as fixed
use Rattle.debug_session.specs.declared.replies.Stop.{Stop}
use Rattle.debug_session.specs.declared.replies.Stop.TheVariants.{Moved, AtBreakpoint, AtWatchpoint, AtBegin, AtEnd, AtWatchedEnd, Exited, Signalled}

abbrev pub fixed_text : Fixed → List ℕ
fixed_text fixed.WhyStopped = codes "T05"
fixed_text fixed.Accepted = codes "OK"
fixed_text fixed.Refused = codes "E.fail_debug shows the two runs and changes neither"
fixed_text fixed.Malformed = codes "E02"
fixed_text fixed.Supported = codes "PacketSize=1000;QStartNoAckMode+;swbreak+;ReverseStep+;ReverseContinue+;qXfer:features:read+;vContSupported+"
fixed_text fixed.Actions = codes "vCont;c;C;s;S"
fixed_text fixed.CurrentThread = codes "QC1"
fixed_text fixed.FirstThreads = codes "m1"
fixed_text fixed.OtherThreads = codes "l"
fixed_text fixed.Attached = codes "1"
fixed_text fixed.Unknown = []

-- GDB's name of a watchpoint that stops a run
abbrev pub kind_text : WatchKind → List ℕ
kind_text kind.Write = codes "watch:"
kind_text kind.Read = codes "rwatch:"
kind_text kind.Access = codes "awatch:"

abbrev pub watch_text : Watch → List ℕ
watch_text w = codes "T05" ++ (kind_text w.kind ++ (encode_lower (to_be_bytes w32 w.address) ++ codes ";"))

abbrev pub stop_text : Stop → List ℕ
stop_text Moved = codes "T05"
stop_text AtBreakpoint = codes "T05swbreak:;"
stop_text (AtWatchpoint w) = watch_text w
stop_text AtBegin = codes "T05replaylog:begin;"
stop_text AtEnd = codes "T05replaylog:end;"
stop_text (AtWatchedEnd w) = watch_text w ++ codes "replaylog:end;"
stop_text (Exited value) = codes "W" ++ encode_lower (value ∷ [])
stop_text (Signalled signal) = codes "T" ++ encode_lower (signal ∷ [])

-- GDB's numbers of SIGILL, SIGSEGV and SIGBUS
abbrev pub trap_signal : TrapKind → ℕ
trap_signal Illegal = 4
trap_signal Address = 11
trap_signal Misaligned = 10

-- how a run ends: by a halt, by SIGABRT (6), by a trap, or at the limit by SIGXCPU (24)
abbrev pub stop_at_end : Event → Stop
stop_at_end Went = Signalled 24
stop_at_end (Out byte) = Signalled 24
stop_at_end (Halted value) = Exited (value % 256)
stop_at_end Detected = Signalled 6
stop_at_end (Trapped kind) = Signalled (trap_signal kind)

-- a run that would halt stops before that first
abbrev pub arrival : Stop → Stop
arrival Moved = Moved
arrival AtBreakpoint = AtBreakpoint
arrival (AtWatchpoint w) = AtWatchpoint w
arrival AtBegin = AtBegin
arrival AtEnd = AtEnd
arrival (AtWatchedEnd w) = AtWatchedEnd w
arrival (Exited value) = AtEnd
arrival (Signalled signal) = Signalled signal

-- where the two runs differ first, in words
abbrev pub first_text : Option ℕ → List ℕ
first_text (Some n) = encode_lower (codes "the runs differ after ") ++ (encode_lower (decimal n) ++ encode_lower (codes " instructions\n"))
first_text None = encode_lower (codes "the runs do not differ in the pc or the output\n")

-- ---- the state

-- a word, its low byte first
abbrev pub word_hex : ℕ → List ℕ
word_hex n = encode_lower (to_le_bytes w32 n)

abbrev pub registers_text : Core → List ℕ
registers_text s = flat_map word_hex s.regs ++ word_hex s.pc

-- the pc has number 32
abbrev pub register_text : Core → ℕ → List ℕ
register_text s k = if nat_lt k 32 then word_hex (slice_index s.regs k) else if k == 32 then word_hex s.pc else codes "E02"

abbrev pub byte_in : ℕ → List ℕ → ℕ → Option ℕ
byte_in base bytes at = if nat_le base at then slice_get bytes (at - base) else None

-- the byte at an address of ROM or RAM
abbrev pub byte_at : CaseData → List ℕ → ℕ → Option ℕ
byte_at c ram at = option_or (byte_in c.rom_base c.rom at) (byte_in c.ram_base ram at)

abbrev pub byte_onto : Option ℕ → List ℕ → List ℕ
byte_onto None rest = []
byte_onto (Some b) rest = b ∷ rest

-- the bytes from an address on, `count` at most, up to the first that is not in memory
unfoldable pub readable : CaseData → List ℕ → ℕ → ℕ → List ℕ
readable c ram at zero = []
readable c ram at (suc k) = byte_onto (byte_at c ram at) (readable c ram (at + 1) k)

abbrev pub or_error : List ℕ → List ℕ
or_error text = if length text == 0 then codes "E02" else text

-- at most 2048 bytes, which are 4096 digits
abbrev pub memory_text : CaseData → Core → ℕ → ℕ → List ℕ
memory_text c s at count = or_error (encode_lower (readable c s.ram at (min count 2048)))

-- a part of a text: `m` (109) before one that others follow, and `l` (108) before the last
abbrev pub read_part : List ℕ → ℕ → ℕ → List ℕ
read_part all at most = if nat_lt (at + most) (length all) then 109 ∷ take most (drop at all) else 108 ∷ drop at all
