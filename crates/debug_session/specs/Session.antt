-- A session: what a command makes of it, and what it answers.
use Rattle.std.specs.Prelude.{ℕ, ◌≡◌, ◌+◌, ◌-◌, ◌==◌, ◌&&◌, nat_lt, Bool, true, false, if◌then◌else◌, List, [], ◌∷◌}
use Rattle.std.specs.Prelude.{◌++◌, length, drop, min, position, remove, Option, Some, None, option_and_then, unwrap_or}
use Rattle.std.specs.List.{list_any}
use Rattle.fs_model.specs.declared.sites.Site.{Site}
use Rattle.fs_model.specs.Case.{CaseData}
use Rattle.fs_model.specs.Run.{State}
use Rattle.timeline.specs.declared.watches.Watch.{Watch}
use Rattle.timeline.specs.declared.watches.WatchKind.{WatchKind}
use Rattle.timeline.specs.declared.watches.WatchKind.TheVariants as kind
use Rattle.timeline.specs.declared.watches.Hit.{Hit}
use Rattle.timeline.specs.declared.watches.Hit.TheVariants.{Breakpoint, Watchpoint}
use Rattle.timeline.specs.Places.{state_at, event_at, place_from, last_of}
use Rattle.timeline.specs.Apart.{apart_at}
use Rattle.timeline.specs.Timelines.{TimelineData, hit_back, hit_forth, next_hit, previous_hit, touched_at}
use Rattle.debug_session.specs.declared.commands.Shown.{Shown}
use Rattle.debug_session.specs.declared.commands.Shown.TheVariants.{Injected, Golden}
use Rattle.debug_session.specs.declared.session.SiteFacts.{SiteFacts}
use Rattle.debug_session.specs.declared.replies.Stop.{Stop}
use Rattle.debug_session.specs.declared.replies.Stop.TheVariants.{Moved, AtBreakpoint, AtWatchpoint, AtBegin, AtEnd, AtWatchedEnd, Signalled}
use Rattle.debug_session.specs.Texts.{stop_at_end, arrival}

-- the site whose flip the injected run has, what is told of it, which of the runs is shown, how many of its instructions were executed,
-- the breakpoints, and the watchpoints
pub record SessionData : Type 0 where
  pub case : CaseData
  pub site : Site
  pub facts : SiteFacts
  pub shown : Shown
  pub place : ℕ
  pub stops : List ℕ
  pub watches : List Watch

abbrev pub flip_of : Site → Shown → Option Site
flip_of site Injected = Some site
flip_of site Golden = None

abbrev pub other : Shown → Shown
other Injected = Golden
other Golden = Injected

abbrev pub is_same : Shown → Shown → Bool
is_same Injected Injected = true
is_same Injected Golden = false
is_same Golden Injected = false
is_same Golden Golden = true

abbrev pub flips : SessionData → Option Site
flips s = flip_of s.site s.shown

-- the last place of the shown run, and the state here
abbrev pub last : SessionData → ℕ
last s = last_of s.case (flips s)

abbrev pub state_of : SessionData → State
state_of s = state_at s.case (flips s) s.place

abbrev pub at : SessionData → ℕ → SessionData
at s n = record s { place = n }

-- ---- one instruction

-- the watchpoint that the instruction after n others touches
abbrev pub touched_over : SessionData → ℕ → Option Watch
touched_over s n = touched_at s.case (flips s) s.watches n

-- how the shown run ends
abbrev pub end_stop : SessionData → Stop
end_stop s = if nat_lt (last s) s.case.limit then stop_at_end (event_at s.case (flips s) (last s)) else Signalled 24

-- the watchpoint that the instruction touches which ends the run
abbrev pub end_touched : SessionData → Option Watch
end_touched s = if nat_lt (last s) s.case.limit then touched_over s (last s) else None

-- a watchpoint that is touched, or otherwise another reason to stand still
abbrev pub touch_or : Option Watch → Stop → Stop
touch_or (Some w) stop = AtWatchpoint w
touch_or None stop = stop

-- a run that would halt tells a watchpoint together with its end, because GDB would otherwise step over the halt at once
abbrev pub watched_end : Watch → Stop → Stop
watched_end w AtEnd = AtWatchedEnd w
watched_end w stop = AtWatchpoint w

abbrev pub touch_or_end : Option Watch → Stop → Stop
touch_or_end (Some w) stop = watched_end w stop
touch_or_end None stop = stop

-- GDB takes a watchpoint of RISC-V to stop before its instruction, and then steps over that itself, in the direction of the run. So a run
-- stops on the near side of an instruction that touches one.
abbrev pub unless_touched : Option Watch → ℕ → ℕ → ℕ
unless_touched (Some w) here there = here
unless_touched None here there = there

abbrev pub step_place : SessionData → ℕ
step_place s = if nat_lt s.place (last s) then unless_touched (touched_over s s.place) s.place (s.place + 1) else s.place

abbrev pub step_stop : SessionData → Stop
step_stop s = if nat_lt s.place (last s) then touch_or (touched_over s s.place) Moved else touch_or (end_touched s) (end_stop s)

abbrev pub back_place : SessionData → ℕ
back_place s = if nat_lt 0 s.place then unless_touched (touched_over s (s.place - 1)) s.place (s.place - 1) else s.place

abbrev pub back_stop : SessionData → Stop
back_stop s = if nat_lt 0 s.place then touch_or (touched_over s (s.place - 1)) Moved else AtBegin

-- ---- to a breakpoint or a watchpoint

-- what a run stops at
abbrev pub hit_stop : Hit → Stop
hit_stop Breakpoint = AtBreakpoint
hit_stop (Watchpoint w) = AtWatchpoint w

-- what a run stops at, or `other` if it found nothing to stop at
abbrev pub stop_at : Option Hit → Stop → Stop
stop_at (Some hit) other = hit_stop hit
stop_at None other = other

-- the first later place at which the run stops
abbrev pub next_stop : SessionData → Option ℕ
next_stop s = next_hit s.case (flips s) s.stops s.watches s.place

abbrev pub next_found : SessionData → Option Hit
next_found s = option_and_then (hit_forth s.case (flips s) s.stops s.watches) (next_stop s)

-- before the instruction that led to n, if that touched a watchpoint
abbrev pub before_touch : Option Hit → ℕ → ℕ
before_touch (Some (Watchpoint w)) n = n - 1
before_touch (Some Breakpoint) n = n
before_touch None n = n

abbrev pub continue_place : SessionData → ℕ
continue_place s = before_touch (next_found s) (unwrap_or (next_stop s) (last s))

abbrev pub end_or_arrival : SessionData → Stop
end_or_arrival s = if nat_lt s.place (last s) then touch_or_end (end_touched s) (arrival (end_stop s)) else touch_or (end_touched s) (end_stop s)

abbrev pub continue_stop : SessionData → Stop
continue_stop s = stop_at (next_found s) (end_or_arrival s)

-- a run that goes back from a place after the flip stops there
abbrev pub floor_of : Shown → ℕ → ℕ → ℕ
floor_of Injected cycle place = if nat_lt cycle place then cycle else 0
floor_of Golden cycle place = 0

abbrev pub floor : SessionData → ℕ
floor s = floor_of s.shown s.site.cycle s.place

-- the last earlier place at which the run stops, not before the floor
abbrev pub previous_stop : SessionData → Option ℕ
previous_stop s = previous_hit s.case (flips s) s.stops s.watches (floor s) s.place

abbrev pub previous_found : SessionData → Option Hit
previous_found s = option_and_then (hit_back s.case (flips s) s.stops s.watches) (previous_stop s)

-- after the instruction that n others precede, if that touches a watchpoint
abbrev pub after_touch : Option Hit → ℕ → ℕ
after_touch (Some (Watchpoint w)) n = n + 1
after_touch (Some Breakpoint) n = n
after_touch None n = n

abbrev pub continue_back_place : SessionData → ℕ
continue_back_place s = after_touch (previous_found s) (unwrap_or (previous_stop s) (floor s))

abbrev pub floor_stop : ℕ → Stop
floor_stop n = if nat_lt 0 n then Moved else AtBegin

abbrev pub continue_back_stop : SessionData → Stop
continue_back_stop s = stop_at (previous_found s) (floor_stop (floor s))

-- ---- what a person asks

abbrev pub gone_to : SessionData → ℕ → SessionData
gone_to s n = at s (min n (last s))

-- where a session begins: at the flip
abbrev pub restarted : SessionData → SessionData
restarted s = gone_to s s.site.cycle

-- the other run, after as many instructions, or at its last place
abbrev pub show : SessionData → Shown → SessionData
show s shown = record s { shown = shown; place = min s.place (last_of s.case (flip_of s.site shown)) }

-- the first place from the flip on at which the two runs differ in the pc or in what they have sent
abbrev pub first_apart : SessionData → Option ℕ
first_apart s = place_from (apart_at s.case (Some s.site) None) s.site.cycle (last_of s.case (Some s.site) + 1 - s.site.cycle)

-- the shown run there, or where it is if there is no such place
abbrev pub go_to_first : SessionData → SessionData
go_to_first s = gone_to s (unwrap_or (first_apart s) s.place)

-- ---- breakpoints

abbrev pub has_byte : List ℕ → ℕ → Bool
has_byte stops address = list_any (λ stop. stop == address) stops

abbrev pub with_stop : List ℕ → ℕ → List ℕ
with_stop stops address = if has_byte stops address then stops else stops ++ address ∷ []

abbrev pub without_at : List ℕ → Option ℕ → List ℕ
without_at stops (Some n) = remove stops n
without_at stops None = stops

-- no address is twice in the list
abbrev pub without_stop : List ℕ → ℕ → List ℕ
without_stop stops address = without_at stops (position (λ stop. stop == address) stops)

-- ---- watchpoints

abbrev pub is_same_kind : WatchKind → WatchKind → Bool
is_same_kind kind.Write kind.Write = true
is_same_kind kind.Read kind.Read = true
is_same_kind kind.Access kind.Access = true
is_same_kind a b = false

abbrev pub is_same_watch : Watch → Watch → Bool
is_same_watch a b = is_same_kind a.kind b.kind && ((a.address == b.address) && (a.length == b.length))

abbrev pub has_watch : List Watch → Watch → Bool
has_watch watches w = list_any (λ v. is_same_watch v w) watches

abbrev pub with_watch : List Watch → Watch → List Watch
with_watch watches w = if has_watch watches w then watches else watches ++ w ∷ []

abbrev pub without_watch_at : List Watch → Option ℕ → List Watch
without_watch_at watches (Some n) = remove watches n
without_watch_at watches None = watches

-- no watchpoint is twice in the list
abbrev pub without_watch : List Watch → Watch → List Watch
without_watch watches w = without_watch_at watches (position (λ v. is_same_watch v w) watches)

-- the bytes that the program sends on the way to a later place
abbrev pub sent_to : SessionData → ℕ → List ℕ
sent_to s n = drop (length (state_of s).output) (state_of (at s n)).output

-- ---- what the session holds

abbrev pub place_now : TimelineData → ℕ
place_now t = t.place

pub record IsSession (c : CaseData) (site : Site) (shown : Shown) (here there : TimelineData) : Type 0 where
  pub here_case : here.case ≡ c
  pub here_flip : here.flip ≡ flip_of site shown
  pub there_case : there.case ≡ c
  pub there_flip : there.flip ≡ flip_of site (other shown)
