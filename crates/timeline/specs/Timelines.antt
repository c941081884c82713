-- What a timeline is.
use Rattle.std.specs.Prelude.{ℕ, ◌≡◌, ◌+◌, ◌-◌, ◌<◌, ◌≤◌, ◌==◌, Bool, List, length, Option, is_some}
use Rattle.std.specs.List.{list_any}
use Rattle.fs_model.specs.declared.events.Event.{Event}
use Rattle.fs_model.specs.declared.sites.Site.{Site}
use Rattle.fs_model.specs.Case.{CaseData}
use Rattle.fs_model.specs.Machine.{instr_at}
use Rattle.rv_machine.specs.Machines.{MachineData}
use Rattle.timeline.specs.Places.{state_at, event_at, place_from, last_from, last_of, IsFlip, IsHere}
use Rattle.timeline.specs.Watches.{access_of, hit_by, touched_by}
use Rattle.timeline.specs.declared.watches.Watch.{Watch}
use Rattle.timeline.specs.declared.watches.Hit.{Hit}
use Rattle.timeline.specs.Kept.{KeptData, AreKept}

-- the case, the flip if there is one, and how many instructions were executed
pub record TimelineData : Type 0 where
  pub case : CaseData
  pub flip : Option Site
  pub place : ℕ

-- how the run ended
pub record IsRunEnd (c : CaseData) (flip : Option Site) (last : ℕ) (end : Event) (output : List ℕ) : Type 0 where
  pub last_is : last ≡ last_of c flip
  pub end_is : last < c.limit → end ≡ event_at c flip last
  pub output_is : output ≡ (state_at c flip last).output
  pub in_limit : last ≤ c.limit

pub record IsTimeline (c : CaseData) (flip : Option Site) (spacing : ℕ) (kept : List KeptData)
    (m : MachineData) (place sent : ℕ) (last : ℕ) (end : Event) (output : List ℕ) : Type 0 where
  pub spaced : 1 ≤ spacing
  pub some : 1 ≤ length kept
  pub states : AreKept c flip spacing kept
  pub flips : IsFlip c flip
  pub here : IsHere c flip place m sent
  pub ends : IsRunEnd c flip last end output
  pub within : place ≤ last

-- the pc after n instructions is one of the list
abbrev pub stops_at : CaseData → Option Site → List ℕ → ℕ → Bool
stops_at c flip stops n = list_any (λ pc. pc == (state_at c flip n).core.pc) stops

-- the first of the watchpoints that the instruction after n others touches
abbrev pub touched_at : CaseData → Option Site → List Watch → ℕ → Option Watch
touched_at c flip watches n = touched_by watches (access_of (state_at c flip n).core (instr_at c (state_at c flip n).core))

-- what stops a run that comes to place n by an instruction
abbrev pub hit_forth : CaseData → Option Site → List ℕ → List Watch → ℕ → Option Hit
hit_forth c flip stops watches n = hit_by (touched_at c flip watches (n - 1)) (stops_at c flip stops n)

-- what stops a run that comes back to place n
abbrev pub hit_back : CaseData → Option Site → List ℕ → List Watch → ℕ → Option Hit
hit_back c flip stops watches n = hit_by (touched_at c flip watches n) (stops_at c flip stops n)

-- the first place after this one at which a run stops
abbrev pub next_hit : CaseData → Option Site → List ℕ → List Watch → ℕ → Option ℕ
next_hit c flip stops watches place = place_from (λ n. is_some (hit_forth c flip stops watches n)) (place + 1) (last_of c flip - place)

-- the last place from the floor on, and before this one, at which a run that goes back stops
abbrev pub previous_hit : CaseData → Option Site → List ℕ → List Watch → ℕ → ℕ → Option ℕ
previous_hit c flip stops watches floor place = last_from (λ n. is_some (hit_back c flip stops watches n)) floor (place - floor)
