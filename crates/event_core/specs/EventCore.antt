-- The concurrent core of a campaign, seen from its events alone. Its jobs wait in a queue. A worker claims the one at the
-- front and files it later, and what is filed is kept from time to time. A stop leaves what is kept, and a resume begins
-- again with the jobs that are not. Jobs are named by their numbers, from 0 on.
use Rattle.std.specs.Prelude.{ℕ, zero, suc, ◌≡◌, ◌+◌, ◌<◌, ◌≤◌, ◌==◌, not, ◌&&◌, Bool, true, false, if◌then◌else◌}
use Rattle.std.specs.Prelude.{Option, Some, None, unwrap_or, List, [], ◌∷◌, ◌++◌, length, filter, count_by, sum_by}
use Rattle.std.specs.Prelude.{slice_get}
use Rattle.std.specs.List.{list_any}
use Rattle.event_core.specs.declared.events.CoreEvent.{CoreEvent}
use Rattle.event_core.specs.declared.events.CoreEvent.TheVariants.{Claim, File, Keep, Stop, Resume}
use Rattle.event_core.specs.declared.events.HeldJob.{HeldJob}
use Rattle.fs_model.specs.declared.sites.Job.{Job}
use Rattle.fs_model.specs.declared.sites.Site.{Site}
use Rattle.fs_model.specs.declared.outcomes.Outcome.{Outcome}
use Rattle.fs_model.specs.declared.outcomes.Outcome.TheVariants.{NoEffect}
use Rattle.fs_model.specs.Case.{CaseData}
use Rattle.fs_model.specs.AccessLog.{log, dead}
use Rattle.fs_model.specs.Job.{job_list, site_of}
use Rattle.fs_model.specs.Filling.{share}
use Rattle.fs_model.specs.Outcome.{outcome, same_outcome, count}

-- ---- states

pub record CoreState : Type 0 where
  pub jobs : ℕ  -- how many jobs there are
  pub running : Bool
  pub queue : List ℕ  -- the jobs that wait, the next one first
  pub hands : List HeldJob  -- what the workers hold
  pub filed : List ℕ
  pub kept : List ℕ

-- not running, and empty
abbrev pub core_start : ℕ → CoreState
core_start jobs = record { jobs = jobs; running = false; queue = []; hands = []; filed = []; kept = [] }

-- how often the job is in the list
abbrev pub times_listed : ℕ → List ℕ → ℕ
times_listed job list = count_by (λ other. other == job) list

abbrev pub times_held : ℕ → List HeldJob → ℕ
times_held job hands = count_by (λ (hand : HeldJob). hand.job == job) hands

-- how many jobs the worker holds
abbrev pub held_by : ℕ → List HeldJob → ℕ
held_by worker hands = count_by (λ (hand : HeldJob). hand.worker == worker) hands

-- ---- events

abbrev pub is_front : List ℕ → ℕ → Bool
is_front [] job = false
is_front (first ∷ others) job = first == job

abbrev pub is_empty_hand : List HeldJob → ℕ → Bool
is_empty_hand hands worker = not (list_any (λ (hand : HeldJob). hand.worker == worker) hands)

abbrev pub holds_job : List HeldJob → ℕ → ℕ → Bool
holds_job hands worker job = list_any (λ (hand : HeldJob). hand.worker == worker && hand.job == job) hands

abbrev pub behind_front : List ℕ → List ℕ
behind_front [] = []
behind_front (first ∷ others) = others

abbrev pub numbers_below : ℕ → List ℕ
numbers_below zero = []
numbers_below (suc n) = numbers_below n ++ n ∷ []

-- the jobs that are not kept, ascending
abbrev pub left_of : CoreState → List ℕ
left_of s = filter (λ job. times_listed job s.kept == 0) (numbers_below s.jobs)

-- the front of the queue moves to the worker's hand
abbrev pub with_claim : CoreState → ℕ → ℕ → CoreState
with_claim s worker job = record s { queue = behind_front s.queue; hands = s.hands ++ record { worker = worker; job = job } ∷ [] }

-- the job moves from the worker's hand to filed
abbrev pub with_filing : CoreState → ℕ → ℕ → CoreState
with_filing s worker job = record s { hands = filter (λ (hand : HeldJob). not (hand.worker == worker)) s.hands; filed = s.filed ++ job ∷ [] }

-- filed moves to kept
abbrev pub with_keep : CoreState → CoreState
with_keep s = record s { filed = []; kept = s.kept ++ s.filed }

-- not running, and nothing but what is kept
abbrev pub stopped : CoreState → CoreState
stopped s = record s { running = false; queue = []; hands = []; filed = [] }

-- running, with the jobs that are not kept in the queue
abbrev pub resumed : CoreState → CoreState
resumed s = record s { running = true; queue = left_of s }

-- the state that the event leaves; none where the event is not possible
abbrev pub next_state : CoreState → CoreEvent → Option CoreState
next_state s (Claim worker job) = if is_front s.queue job && is_empty_hand s.hands worker then Some (with_claim s worker job) else None
next_state s (File worker job) = if holds_job s.hands worker job then Some (with_filing s worker job) else None
next_state s Keep = Some (with_keep s)
next_state s (Stop whole) = Some (stopped (if whole then with_keep s else s))
next_state s Resume = if s.running then None else Some (resumed s)

-- an event that is not possible changes nothing
abbrev pub applied : CoreState → CoreEvent → CoreState
applied s event = unwrap_or (next_state s event) s

abbrev pub after_all : List CoreEvent → CoreState → CoreState
after_all [] s = s
after_all (event ∷ events) s = after_all events (applied s event)

-- from the start on
abbrev pub reached : ℕ → List CoreEvent → CoreState
reached jobs events = after_all events (core_start jobs)

-- ---- what holds after every list of events

-- how often the job is in the queue, the hands, the filed and the kept together
abbrev pub times_in : CoreState → ℕ → ℕ
times_in s job = times_listed job s.queue + times_held job s.hands + times_listed job s.filed + times_listed job s.kept

pub record IsPlaced (jobs : ℕ) (s : CoreState) : Type 0 where
  pub same_jobs : s.jobs ≡ jobs
  -- while running, each job is in exactly one of queue, one hand, filed and kept, and there once
  pub once : s.running ≡ true → (job : ℕ) → job < jobs → times_in s job ≡ 1
  -- while not running, queue, hands and filed are empty, and kept has no job twice
  pub no_queue : s.running ≡ false → s.queue ≡ []
  pub no_hands : s.running ≡ false → s.hands ≡ []
  pub no_filed : s.running ≡ false → s.filed ≡ []
  pub kept_once : (job : ℕ) → times_listed job s.kept ≤ 1
  -- every place holds only jobs, and no worker holds two
  pub no_others : (job : ℕ) → jobs ≤ job → times_in s job ≡ 0
  pub one_each : (worker : ℕ) → held_by worker s.hands ≤ 1

abbrev pub PlacedAfterAll : Type 0
PlacedAfterAll = (jobs : ℕ) (events : List CoreEvent) → IsPlaced jobs (reached jobs events)

-- no event takes a job from kept
abbrev pub KeptStays : Type 0
KeptStays = (s : CoreState) (event : CoreEvent) (job : ℕ) → times_listed job s.kept ≤ times_listed job (applied s event).kept

-- the weight of the job of this number, where its site has the outcome
abbrev pub weight_at : (Site → Outcome) → Option Job → Outcome → ℕ
weight_at outcomes None o = 0
weight_at outcomes (Some job) o = share job (Some (outcomes (site_of job))) o

-- the weights of the jobs of these numbers that have the outcome, added up
abbrev pub weights : (Site → Outcome) → List Job → List ℕ → Outcome → ℕ
weights outcomes list numbers o = sum_by (λ number. weight_at outcomes (slice_get list number) o) numbers

-- whenever each job of a case is kept, the weights of the kept jobs by their outcomes, with the dead sites, are the counts
abbrev pub KeptCounts : Type 0
KeptCounts = (c : CaseData) (events : List CoreEvent) (o : Outcome) →
    let list = job_list (log c) in
    let s = reached (length list) events in
    ((job : ℕ) → job < length list → 0 < times_listed job s.kept) →
    count c o ≡ weights (outcome c) list s.kept o + (if same_outcome NoEffect o then dead (log c) else 0)
