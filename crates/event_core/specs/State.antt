-- What a state of the code shows, and its answers.
use Rattle.std.specs.Prelude.{ℕ, ◌≡◌, ◌<◌, ◌≤◌, IsTrue, Option, Some, None, vec_capacity}
use Rattle.event_core.specs.EventCore.{CoreState, IsPlaced, times_listed, times_in, holds_job}
use Rattle.event_core.specs.declared.states.State.TheInside.{Inside}
use Rattle.event_core.specs.declared.states.Applied.{Applied}
use Rattle.event_core.specs.declared.states.Applied.TheVariants.{Did, Nothing}
use Rattle.event_core.specs.declared.states.Place.{Place}
use Rattle.event_core.specs.declared.states.Place.TheVariants.{Nowhere, Queue, Hand, Filed, Kept}

abbrev pub inside_core : Inside → CoreState
inside_core s = record { jobs = s.jobs; running = s.running; queue = s.queue.items; hands = s.hands.items; filed = s.filed.items; kept = s.kept.items }

-- each job is in its place, and each list has room for all jobs
pub record HasRoom (s : Inside) : Type 0 where
  pub placed : IsPlaced s.jobs (inside_core s)
  pub queue_room : s.jobs ≤ vec_capacity s.queue
  pub hands_room : s.jobs ≤ vec_capacity s.hands
  pub filed_room : s.jobs ≤ vec_capacity s.filed
  pub kept_room : s.jobs ≤ vec_capacity s.kept

-- an event did something where it was possible
abbrev pub answer : Option CoreState → Applied
answer None = Nothing
answer (Some s) = Did

-- the job is in this place; nowhere, where it is in none of the four
abbrev pub StandsAt : CoreState → ℕ → Place → Type 0
StandsAt s job Nowhere = times_in s job ≡ 0
StandsAt s job Queue = 0 < times_listed job s.queue
StandsAt s job (Hand worker) = IsTrue (holds_job s.hands worker job)
StandsAt s job Filed = 0 < times_listed job s.filed
StandsAt s job Kept = 0 < times_listed job s.kept
