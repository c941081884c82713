-- A talk with GDB, byte by byte.
use Rattle.std.specs.Prelude.{ℕ, ◌≡◌, ◌⊎◌, ◌-◌, ◌^◌, ◌≤◌, Bool, true, false, if◌then◌else◌, List, [], ◌∷◌, ◌++◌, length}
use Rattle.fs_model.specs.declared.sites.Site.{Site}
use Rattle.fs_model.specs.Case.{CaseData}
use Rattle.fs_outside.specs.Writing.{TookPart}
use Rattle.gdb_packets.specs.declared.reader.Heard.{Heard}
use Rattle.gdb_packets.specs.declared.reader.Heard.TheVariants.{Nothing, Packet, Broken, Interrupt, Again}
use Rattle.gdb_packets.specs.Frames.{unescaped}
use Rattle.gdb_packets.specs.Reading.{ReaderData, data_in, fed, heard_byte}
use Rattle.debug_session.specs.declared.session.SiteFacts.{SiteFacts}
use Rattle.debug_session.specs.declared.commands.Command.{Command}
use Rattle.debug_session.specs.declared.commands.Command.TheVariants as command
use Rattle.debug_session.specs.Answers.{next_session, IsAnswer}
use Rattle.debug_session.specs.Parse.{command_of}
use Rattle.debug_session.specs.Session.{SessionData, gone_to}
use Rattle.debug_session.specs.declared.commands.Shown.TheVariants.{Injected}
use Rattle.debugger.specs.declared.serve.TalkFailure.{TalkFailure}
use Rattle.debugger.specs.declared.serve.TalkFailure.TheVariants.{InputFault, OutputFault, NoMemory}

-- the reader, the session, whether packets are acknowledged, whether GDB has left, and the bytes of the last answer
pub record TalkData : Type 0 where
  pub reader : ReaderData
  pub session : SessionData
  pub acks : Bool
  pub over : Bool
  pub last : List ℕ

-- a talk before its first byte, at the flip
abbrev pub talk_begun : CaseData → Site → SiteFacts → TalkData
talk_begun c site facts = record {
  reader = record { reading = false; raw = [] };
  session = gone_to (record { case = c; site = site; facts = facts; shown = Injected; place = 0; stops = []; watches = [] }) site.cycle;
  acks = true;
  over = false;
  last = [];
}

-- what the packet asks that the reader has read
abbrev pub command_asked : ReaderData → Command
command_asked r = command_of (unescaped (data_in r.raw))

abbrev pub acks_after : Command → Bool → Bool
acks_after (command.Look l) acks = acks
acks_after (command.Go g) acks = acks
acks_after (command.Tell t) acks = acks
acks_after command.NoAcks acks = false
acks_after command.Detach acks = acks
acks_after command.Kill acks = acks

abbrev pub over_after : Command → Bool → Bool
over_after (command.Look l) over = over
over_after (command.Go g) over = over
over_after (command.Tell t) over = over
over_after command.NoAcks over = over
over_after command.Detach over = true
over_after command.Kill over = true

-- the packet is acknowledged by `+` (43), if that is asked for, and answered
pub record Answers (t t' : TalkData) (k : Command) (out : List ℕ) : Type 0 where
  pub session : t'.session ≡ next_session t.session k
  pub answer : IsAnswer t.session k t'.last
  pub acks : t'.acks ≡ acks_after k t.acks
  pub over : t'.over ≡ over_after k t.over
  pub bytes : out ≡ (if t.acks then 43 ∷ t'.last else t'.last)

-- nothing but the reader changes
abbrev pub Stays : TalkData → TalkData → Type 0
Stays t t' = t' ≡ record t { reader = t'.reader }

-- what a byte leads to: a broken packet is refused by `-` (45), if packets are acknowledged
abbrev pub Told : Heard → TalkData → TalkData → List ℕ → Type 0
Told Packet t t' out = Answers t t' (command_asked t'.reader) out
Told Broken t t' out = Stays t t' × (out ≡ (if t.acks then 45 ∷ [] else []))
Told Again t t' out = Stays t t' × (out ≡ (if t.acks then t.last else []))
Told Nothing t t' out = Stays t t' × (out ≡ [])
Told Interrupt t t' out = Stays t t' × (out ≡ [])

-- what is written for a byte, and the talk after it
pub record Hears (t : TalkData) (byte : ℕ) (t' : TalkData) (out : List ℕ) : Type 0 where
  pub reader : t'.reader ≡ fed t.reader byte
  pub told : Told (heard_byte t.reader byte) t t' out

-- what is written for some bytes, one after another; once GDB has left, nothing is
pub data Talks : TalkData → List ℕ → TalkData → List ℕ → Type 0 where
  none : (t : TalkData) → Talks t [] t []
  more : (t t' t'' : TalkData) (bytes : List ℕ) (byte : ℕ) (text out : List ℕ) → Talks t bytes t' text
      → t'.over ≡ false → Hears t' byte t'' out → Talks t (bytes ++ byte ∷ []) t'' (text ++ out)
  left : (t t' : TalkData) (bytes : List ℕ) (byte : ℕ) (text : List ℕ) → Talks t bytes t' text → t'.over ≡ true → Talks t (bytes ++ byte ∷ []) t' text

-- the sink has taken what is written for the bytes
pub record Served (t t' : TalkData) (bytes before after : List ℕ) : Type 0 where
  pub text : List ℕ
  pub talks : Talks t bytes t' text
  pub written : after ≡ before ++ text

-- these bytes were taken from the front of what was left, and the sink has taken what is written for them
pub record TakesBytes (t t' : TalkData) (bytes left left' before after : List ℕ) : Type 0 where
  pub left_is : left ≡ bytes ++ left'
  pub served : Served t t' bytes before after

-- a piece was taken: at least one byte if there is more to come, and else the end is reached
pub record TakesNext (t t' : TalkData) (left left' before after : List ℕ) (more : Bool) : Type 0 where
  pub bytes : List ℕ
  pub takes : TakesBytes t t' bytes left left' before after
  pub some : more ≡ true → 1 ≤ length bytes
  pub ends : more ≡ false → left' ≡ []

-- bytes were taken to the end, unless GDB left, or they are at least 2 ^ 64 - 1
pub record IsTalk (t t' : TalkData) (left left' before after : List ℕ) : Type 0 where
  pub bytes : List ℕ
  pub takes : TakesBytes t t' bytes left left' before after
  pub ends : (left' ≡ []) ⊎ ((t'.over ≡ true) ⊎ (2 ^ 64 - 1 ≤ length bytes))

-- one byte was taken, and the sink has taken what is written for it
pub record TakesByte (t : TalkData) (byte : ℕ) (t' : TalkData) (before after : List ℕ) : Type 0 where
  pub over : t.over ≡ true → (t' ≡ t) × (after ≡ before)
  pub out : List ℕ
  pub hears : t.over ≡ false → Hears t byte t' out × (after ≡ before ++ out)

-- ---- why a talk is broken off

abbrev pub is_input : TalkFailure → Bool
is_input InputFault = true
is_input OutputFault = false
is_input NoMemory = false

abbrev pub is_output : TalkFailure → Bool
is_output InputFault = false
is_output OutputFault = true
is_output NoMemory = false

-- Of the bytes that were taken from the front of what was left the first ones were answered, and the sink has taken a part of what is written
-- for these. If it did not fail itself, it has taken the whole. If the input failed, all bytes that were taken before were answered: since any
-- read may fail, and nothing is written after that, each byte is answered before more are read.
pub record BrokenOff (why : TalkFailure) (t : TalkData) (left left' before after : List ℕ) : Type 0 where
  pub talk : TalkData
  pub answered : List ℕ
  pub rest : List ℕ
  pub text : List ℕ
  pub left_is : left ≡ answered ++ (rest ++ left')
  pub talks : Talks t answered talk text
  pub part : TookPart before after text
  pub whole : is_output why ≡ false → after ≡ before ++ text
  pub all : is_input why ≡ true → rest ≡ []
