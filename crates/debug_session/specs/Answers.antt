-- What a command makes of a session, and what is answered.
use Rattle.std.specs.Prelude.{ℕ, ◌≡◌, List, [], ◌++◌, codes}
use Rattle.std.specs.List.{flat_map}
use Rattle.hex.specs.Hex.{encode_lower}
use Rattle.gdb_packets.specs.Frames.{frame, console}
use Rattle.debug_session.specs.declared.target.TheConstants.{TARGET}
use Rattle.debug_session.specs.declared.commands.Command.{Command}
use Rattle.debug_session.specs.declared.commands.Command.TheVariants as command
use Rattle.debug_session.specs.declared.commands.Look.{Look}
use Rattle.debug_session.specs.declared.commands.Look.TheVariants as look
use Rattle.debug_session.specs.declared.commands.Go.{Go}
use Rattle.debug_session.specs.declared.commands.Go.TheVariants as go
use Rattle.debug_session.specs.declared.replies.Stop.TheVariants.{Moved}
use Rattle.debug_session.specs.declared.commands.Shown.TheVariants.{Injected, Golden}
use Rattle.debug_session.specs.declared.commands.Tell.{Tell}
use Rattle.debug_session.specs.declared.commands.Tell.TheVariants as tell
use Rattle.debug_session.specs.Session.{SessionData, state_of, at, step_place, step_stop, back_place, back_stop}
use Rattle.debug_session.specs.Session.{continue_place, continue_stop, continue_back_place, continue_back_stop, gone_to}
use Rattle.debug_session.specs.Session.{first_apart, go_to_first, restarted, show, with_stop, without_stop, with_watch}
use Rattle.debug_session.specs.Session.{without_watch, sent_to}
use Rattle.debug_session.specs.Advice.{advice_words}
use Rattle.debug_session.specs.LastWrites.{last_write_words}
use Rattle.debug_session.specs.Words.{difference_words, output_words, site_words}
use Rattle.debug_session.specs.Texts.{fixed_text, stop_text, registers_text, register_text, memory_text, read_part, first_text}

-- ---- where the session is then

abbrev pub gone : SessionData → Go → SessionData
gone s go.Step = at s (step_place s)
gone s go.Continue = at s (continue_place s)
gone s go.StepBack = at s (back_place s)
gone s go.ContinueBack = at s (continue_back_place s)
gone s go.Restart = restarted s
gone s (go.To n) = gone_to s n
gone s go.First = go_to_first s
gone s (go.Show shown) = show s shown
gone s (go.Insert address) = record s { stops = with_stop s.stops address }
gone s (go.Remove address) = record s { stops = without_stop s.stops address }
gone s (go.Watch w) = record s { watches = with_watch s.watches w }
gone s (go.Unwatch w) = record s { watches = without_watch s.watches w }

abbrev pub next_session : SessionData → Command → SessionData
next_session s (command.Go g) = gone s g
next_session s (command.Look l) = s
next_session s (command.Tell t) = s
next_session s command.NoAcks = s
next_session s command.Detach = s
next_session s command.Kill = s

-- ---- what is answered

abbrev pub look_text : SessionData → Look → List ℕ
look_text s (look.Fixed f) = fixed_text f
look_text s look.Registers = registers_text (state_of s).core
look_text s (look.Register k) = register_text (state_of s).core k
look_text s (look.Memory address count) = memory_text s.case (state_of s).core address count
look_text s (look.Features begin most) = read_part TARGET.now begin most

abbrev pub go_text : SessionData → Go → List ℕ
go_text s go.Step = stop_text (step_stop s)
go_text s go.Continue = stop_text (continue_stop s)
go_text s go.StepBack = stop_text (back_stop s)
go_text s go.ContinueBack = stop_text (continue_back_stop s)
go_text s go.Restart = stop_text Moved
go_text s (go.To n) = codes "OK"
go_text s go.First = first_text (first_apart s)
go_text s (go.Show shown) = codes "OK"
go_text s (go.Insert address) = codes "OK"
go_text s (go.Remove address) = codes "OK"
go_text s (go.Watch w) = codes "OK"
go_text s (go.Unwatch w) = codes "OK"

-- what the program sends on the way
abbrev pub go_sent : SessionData → Go → List ℕ
go_sent s go.Step = sent_to s (step_place s)
go_sent s go.Continue = sent_to s (continue_place s)
go_sent s go.StepBack = []
go_sent s go.ContinueBack = []
go_sent s go.Restart = []
go_sent s (go.To n) = []
go_sent s go.First = []
go_sent s (go.Show shown) = []
go_sent s (go.Insert address) = []
go_sent s (go.Remove address) = []
go_sent s (go.Watch w) = []
go_sent s (go.Unwatch w) = []

-- a packet for each byte that the program sends, and the packet of the answer
abbrev pub go_bytes : SessionData → Go → List ℕ
go_bytes s g = flat_map console (go_sent s g) ++ frame (go_text s g)

-- what is answered in words: the two states are those that would be shown
abbrev pub tell_words : SessionData → Tell → List ℕ
tell_words s tell.Site = site_words s.site s.facts s.place
tell_words s tell.Differences = difference_words s.case.ram_base (state_of (show s Injected)).core (state_of (show s Golden)).core
tell_words s tell.Output = output_words (state_of (show s Injected)).output (state_of (show s Golden)).output
tell_words s (tell.LastWrite k) = last_write_words s.case s.site k (show s Injected).place (show s Golden).place
tell_words s (tell.Advice a) = advice_words a

-- the bytes of the answer; words are in hexadecimal digits
abbrev pub IsAnswer : SessionData → Command → List ℕ → Type 0
IsAnswer s (command.Look l) bytes = bytes ≡ frame (look_text s l)
IsAnswer s (command.Go g) bytes = bytes ≡ go_bytes s g
IsAnswer s (command.Tell t) bytes = bytes ≡ frame (encode_lower (tell_words s t))
IsAnswer s command.NoAcks bytes = bytes ≡ frame (codes "OK")
IsAnswer s command.Detach bytes = bytes ≡ frame (codes "OK")
IsAnswer s command.Kill bytes = bytes ≡ []
