-- What a packet asks.
use Rattle.std.specs.Prelude.{ℕ, ◌+◌, ◌^◌, ◌==◌, ◌&&◌, ◌||◌, not, nat_le, nat_lt, Bool, false, if◌then◌else◌, List, [], ◌∷◌}
use Rattle.std.specs.Prelude.{length, take, drop, codes, Option, Some, None, option_and_then, option_map, Result, Ok}
use Rattle.std.specs.Prelude.{Err}
use Rattle.std.specs.List.{prefix_len}
use Rattle.std.specs.Str.{bytes_eq}
use Rattle.hex.specs.Hex.{decode_of}
use Rattle.hex.specs.declared.error.FromHexError.{FromHexError}
use Rattle.gdb_packets.specs.Frames.{number}
use Rattle.timeline.specs.declared.watches.Watch.{Watch}
use Rattle.timeline.specs.declared.watches.WatchKind.{WatchKind}
use Rattle.timeline.specs.declared.watches.WatchKind.TheVariants as kind
use Rattle.debug_session.specs.declared.commands.Shown.TheVariants.{Injected, Golden}
use Rattle.debug_session.specs.declared.commands.Fixed.TheVariants as fixed
use Rattle.debug_session.specs.declared.commands.Advice.{Advice}
use Rattle.debug_session.specs.declared.commands.Advice.TheVariants as advice
use Rattle.debug_session.specs.declared.commands.Command.{Command}
use Rattle.debug_session.specs.declared.commands.Command.TheVariants as command
use Rattle.debug_session.specs.declared.commands.Look.TheVariants as look
use Rattle.debug_session.specs.declared.commands.Go.TheVariants as go
use Rattle.debug_session.specs.declared.commands.Tell.TheVariants as tell

abbrev pub is : List ℕ → List ℕ → Bool
is bytes word = bytes_eq bytes word

abbrev pub begins_with : List ℕ → List ℕ → Bool
begins_with bytes word = nat_le (length word) (length bytes) && bytes_eq (take (length word) bytes) word

abbrev pub either : Bool → Bool → Bool
either a b = a || b

-- the bytes after the first `count`
abbrev pub text_behind : ℕ → List ℕ → List ℕ
text_behind count bytes = drop count bytes

-- ---- numbers

-- no comma (44)
abbrev pub is_plain_byte : ℕ → Bool
is_plain_byte b = not (b == 44)

-- how many bytes stand before the first one
abbrev pub comma : List ℕ → ℕ
comma bytes = prefix_len is_plain_byte bytes

abbrev pub before_comma : List ℕ → List ℕ
before_comma bytes = take (comma bytes) bytes

abbrev pub after_comma : List ℕ → List ℕ
after_comma bytes = text_behind (comma bytes + 1) bytes

abbrev pub malformed : Command
malformed = command.Look (look.Fixed fixed.Malformed)

abbrev pub unknown : Command
unknown = command.Look (look.Fixed fixed.Unknown)

abbrev pub refused : Command
refused = command.Look (look.Fixed fixed.Refused)

abbrev pub accepted : Command
accepted = command.Look (look.Fixed fixed.Accepted)

abbrev pub pair_of : Option ℕ → Option ℕ → Option (ℕ × ℕ)
pair_of first second = option_and_then (λ a. option_map (λ b. (a, b)) second) first

-- two hexadecimal numbers with a comma between them
abbrev pub two_numbers : List ℕ → Option (ℕ × ℕ)
two_numbers bytes = pair_of (number 16 (before_comma bytes)) (number 16 (after_comma bytes))

abbrev pub memory_by : Option (ℕ × ℕ) → Command
memory_by (Some (at, count)) = command.Look (look.Memory at count)
memory_by None = malformed

-- an address, and a number of bytes
abbrev pub memory : List ℕ → Command
memory bytes = memory_by (two_numbers bytes)

abbrev pub features_by : Option (ℕ × ℕ) → Command
features_by (Some (at, most)) = command.Look (look.Features at most)
features_by None = malformed

abbrev pub features : List ℕ → Command
features bytes = features_by (two_numbers bytes)

abbrev pub register_by : Option ℕ → Command
register_by (Some n) = command.Look (look.Register n)
register_by None = malformed

abbrev pub register : List ℕ → Command
register bytes = register_by (number 16 bytes)

-- ---- by the letter

-- `s` and `c`: with an address the run would go on elsewhere
abbrev pub moving : Command → List ℕ → Command
moving k rest = if length rest == 0 then k else refused

abbrev pub signalled_by : Command → Option ℕ → Command
signalled_by k (Some signal) = k
signalled_by k None = refused

-- `S` and `C`: a signal is not delivered
abbrev pub signalled : Command → List ℕ → Command
signalled k rest = signalled_by k (number 16 rest)

abbrev pub backwards : List ℕ → Command
backwards rest = if is rest (codes "s") then (command.Go go.StepBack) else if is rest (codes "c") then (command.Go go.ContinueBack) else unknown

-- the only thread has the number 1, and 0 is any thread
abbrev pub is_own_number : Option ℕ → Bool
is_own_number None = false
is_own_number (Some n) = nat_le n 1

-- a thread-id that names the only thread; -1 is all threads
abbrev pub is_thread : List ℕ → Bool
is_thread id = either (is id (codes "-1")) (is_own_number (number 16 id))

-- `T`: whether a thread is alive
abbrev pub about_thread : List ℕ → Command
about_thread id = if is_thread id then accepted else malformed

-- `Hg` and `Hc`: the thread that other packets are about
abbrev pub chosen : List ℕ → Command
chosen rest = if either (begins_with rest (codes "g")) (begins_with rest (codes "c")) then about_thread (text_behind 1 rest) else malformed

-- `Z` and `z`: types 0 and 1 are breakpoints
abbrev pub is_breakpoint : List ℕ → Bool
is_breakpoint rest = either (begins_with rest (codes "0,")) (begins_with rest (codes "1,"))

-- an address, and a kind, which does not matter
abbrev pub breakpoint : List ℕ → Option (ℕ × ℕ)
breakpoint rest = two_numbers (text_behind 2 rest)

-- `2,`, `3,` and `4,` are watchpoints for writes, for reads, and for both
abbrev pub kind_in : List ℕ → Option WatchKind
kind_in rest =
    if begins_with rest (codes "2,") then Some kind.Write else
    if begins_with rest (codes "3,") then Some kind.Read else
    if begins_with rest (codes "4,") then Some kind.Access else None

-- some bytes of the address space
abbrev pub is_range : ℕ → ℕ → Bool
is_range at length = nat_lt 0 length && nat_le (at + length) (2 ^ 32)

abbrev pub range_by : WatchKind → Option (ℕ × ℕ) → Option Watch
range_by k (Some (at, length)) = if is_range at length then Some (record { kind = k; address = at; length = length }) else None
range_by k None = None

-- the watchpoint of this kind
abbrev pub watch_in : WatchKind → List ℕ → Option Watch
watch_in k rest = range_by k (two_numbers (text_behind 2 rest))

abbrev pub watch_command : Option Watch → Command
watch_command (Some w) = command.Go (go.Watch w)
watch_command None = malformed

abbrev pub unwatching : Option Watch → Command
unwatching (Some w) = command.Go (go.Unwatch w)
unwatching None = malformed

abbrev pub watch_by : Option WatchKind → List ℕ → Command
watch_by (Some k) rest = watch_command (watch_in k rest)
watch_by None rest = unknown

abbrev pub unwatch_by : Option WatchKind → List ℕ → Command
unwatch_by (Some k) rest = unwatching (watch_in k rest)
unwatch_by None rest = unknown

abbrev pub insert_by : Option (ℕ × ℕ) → Command
insert_by (Some (at, breakpoint_kind)) = command.Go (go.Insert at)
insert_by None = malformed

abbrev pub insert : List ℕ → Command
insert rest = if is_breakpoint rest then insert_by (breakpoint rest) else watch_by (kind_in rest) rest

abbrev pub remove_by : Option (ℕ × ℕ) → Command
remove_by (Some (at, breakpoint_kind)) = command.Go (go.Remove at)
remove_by None = malformed

abbrev pub remove : List ℕ → Command
remove rest = if is_breakpoint rest then remove_by (breakpoint rest) else unwatch_by (kind_in rest) rest

-- `vRun`, `vKill` and `vCont`: a restart has no program to choose, and nothing is killed before it
abbrev pub multiletter : List ℕ → Command
multiletter p =
    if begins_with p (codes "vRun;") then command.Go go.Restart else
    if begins_with p (codes "vKill;") then accepted else
    if is p (codes "vCont?") then command.Look (look.Fixed fixed.Actions) else
    if either (begins_with p (codes "vCont;s")) (begins_with p (codes "vCont;S")) then (command.Go go.Step) else
    if either (begins_with p (codes "vCont;c")) (begins_with p (codes "vCont;C")) then (command.Go go.Continue) else unknown

-- ---- what a person asks

abbrev pub advised : Advice → Command
advised a = command.Tell (tell.Advice a)

abbrev pub go_to_by : Option ℕ → Command
go_to_by (Some n) = command.Go (go.To n)
go_to_by None = advised advice.NoNumber

abbrev pub go_to : List ℕ → Command
go_to word = go_to_by (number 10 (text_behind 5 word))

abbrev pub register_asked_by : Option ℕ → Command
register_asked_by (Some k) = if nat_lt k 32 then command.Tell (tell.LastWrite k) else advised advice.NoRegister
register_asked_by None = advised advice.NoRegister

abbrev pub register_asked : List ℕ → Command
register_asked word = register_asked_by (number 10 (text_behind 12 word))

abbrev pub plain_word : List ℕ → Command
plain_word w =
    if is w (codes "golden") then command.Go (go.Show Golden) else
    if is w (codes "injected") then command.Go (go.Show Injected) else
    if is w (codes "first") then command.Go go.First else
    if is w (codes "site") then command.Tell tell.Site else
    if is w (codes "diff") then command.Tell tell.Differences else
    if is w (codes "output") then command.Tell tell.Output else
    if is w (codes "help") then advised advice.Commands else advised advice.NoCommand

abbrev pub monitor_word : List ℕ → Command
monitor_word w =
    if begins_with w (codes "goto ") then go_to w else
    if begins_with w (codes "last-write x") then register_asked w else
    if begins_with w (codes "last-write") then advised advice.NoRegister else plain_word w

abbrev pub monitor_of : Result (List ℕ) FromHexError → Command
monitor_of (Ok word) = monitor_word word
monitor_of (Err e) = advised advice.NoCommand

-- `q` and `Q`
unfoldable pub plain_query : List ℕ → Command
plain_query p =
    if begins_with p (codes "qSupported") then command.Look (look.Fixed fixed.Supported) else
    if is p (codes "QStartNoAckMode") then command.NoAcks else
    if begins_with p (codes "qXfer:features:read:target.xml:") then features (text_behind 31 p) else
    if is p (codes "qC") then command.Look (look.Fixed fixed.CurrentThread) else
    if is p (codes "qfThreadInfo") then command.Look (look.Fixed fixed.FirstThreads) else
    if is p (codes "qsThreadInfo") then command.Look (look.Fixed fixed.OtherThreads) else
    if begins_with p (codes "qAttached") then command.Look (look.Fixed fixed.Attached) else unknown

-- `?` (63), `!` (33), `g` (103), `G` (71), `P` (80), `M` (77), `X` (88), `D` (68) and `k` (107)
unfoldable pub simple : ℕ → Command
simple b =
    if b == 63 then command.Look (look.Fixed fixed.WhyStopped) else
    if b == 33 then accepted else
    if b == 103 then command.Look look.Registers else
    if b == 71 then refused else if b == 80 then refused else if b == 77 then refused else if b == 88 then refused else
    if b == 68 then command.Detach else
    if b == 107 then command.Kill else unknown

-- by the first byte: `q` (113), `Q` (81), `v` (118), `m` (109), `p` (112), `s` (115), `c` (99), `S` (83), `C` (67), `b` (98), `H` (72), `T` (84),
-- `Z` (90) and `z` (122)
unfoldable pub lettered : ℕ → List ℕ → List ℕ → Command
lettered b rest p =
    if b == 113 then plain_query p else
    if b == 81 then plain_query p else
    if b == 118 then multiletter p else
    if b == 109 then memory rest else
    if b == 112 then register rest else
    if b == 115 then moving (command.Go go.Step) rest else
    if b == 99 then moving (command.Go go.Continue) rest else
    if b == 83 then signalled (command.Go go.Step) rest else
    if b == 67 then signalled (command.Go go.Continue) rest else
    if b == 98 then backwards rest else
    if b == 72 then chosen rest else
    if b == 84 then about_thread rest else
    if b == 90 then insert rest else
    if b == 122 then remove rest else simple b

abbrev pub first_lettered : List ℕ → Command
first_lettered [] = unknown
first_lettered (b ∷ rest) = lettered b rest (b ∷ rest)

abbrev pub command_of : List ℕ → Command
command_of p = if begins_with p (codes "qRcmd,") then monitor_of (decode_of (text_behind 6 p)) else first_lettered p
