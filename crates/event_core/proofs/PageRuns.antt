-- A campaign's pages are a run of the core, and so is what a stop leaves of them.
use Rattle.std.proofs.Common.{ℕ, ◌≡◌, ◌+◌, ◌<◌, ◌==◌, ◌||◌, Bool, true, false, List, [], ◌∷◌, ◌++◌, length, drop, refl, sym, ap, ◌∙◌, subst, eq-eqb, append_assoc}
use Rattle.std.specs.Prelude.{Option, Some, filter, if◌then◌else◌}
use Rattle.std.specs.List.{concat}
use Rattle.std.proofs.lemmas.List.{append-nil, map-append}
use Rattle.std.proofs.lemmas.List.Folds.{concat-append}
use Rattle.event_core.specs.declared.events.CoreEvent.TheVariants.{Claim, File, Keep, Stop, Resume}
use Rattle.event_core.specs.declared.events.HeldJob.{HeldJob}
use Rattle.fs_model.specs.declared.outcomes.Outcome.{Outcome}
use Rattle.event_core.specs.EventCore.{CoreState, times_listed, numbers_below}
use Rattle.fs_model.specs.Pages.{missing}
use Rattle.event_core.specs.PageEvents.{kept_numbers, TakesAside, run_events, job_events, taken_aside, queue_behind, page_events, events_of, pages_of, hands_aside, has_outcome, is_on, PagesAreRuns}
use Rattle.event_core.specs.Stops.{IsStoppedWith, IsStoppedAt, stopped_run, pages_kept, StopsAreRuns}
use Rattle.event_core.proofs.Asides.{AreFresh, first_known, first_not_aside, fresh_run, fresh_aside, fresh_at_first, free_worker, free_aside, holds_it, others_stay}
use Rattle.event_core.proofs.Counts.{count-append}
use Rattle.event_core.proofs.Leads.{Leads, leads_nothing, leads_one, leads_more}
use Rattle.event_core.proofs.Missed.{left_missing, kept_times, pages-front, ended_times}
use Rattle.event_core.proofs.Queues.{behind-none, aside-none, behind-append, aside-append, front_is, front_is_not}

-- ---- one job, one page, all pages

module _ (worker_of aside_of : ℕ → ℕ) (test : ℕ → Bool) (jobs : ℕ) (takes : TakesAside jobs worker_of aside_of) where
  -- running, with nothing in the hands but jobs that are taken aside
  idle : List ℕ → List ℕ → List ℕ → List ℕ → CoreState
  idle queue aside filed kept = record { jobs = jobs; running = true; queue = queue; hands = hands_aside aside_of aside; filed = filed; kept = kept }

  -- running with a job in its worker's hand too
  busy : ℕ → List ℕ → List ℕ → List ℕ → List ℕ → CoreState
  unfolding idle
  busy job queue aside filed kept = record (idle queue aside filed kept) { hands = hands_aside aside_of aside ++ record { worker = worker_of job; job = job } ∷ [] }

  claimed : (job : ℕ) (queue aside filed kept : List ℕ) → job < jobs → Leads (idle (job ∷ queue) aside filed kept) (Claim (worker_of job) job ∷ []) (busy job queue aside filed kept)
  unfolding idle busy
  claimed job queue aside filed kept lt =
      let same : (job == job) ≡ true = eq-eqb job job refl in
      leads_one (idle (job ∷ queue) aside filed kept) (Claim (worker_of job) job) (busy job queue aside filed kept) (rw (same, free_worker worker_of aside_of jobs takes job aside lt) refl)

  filed_one : (job : ℕ) (queue aside filed kept : List ℕ) → job < jobs → Leads (busy job queue aside filed kept) (File (worker_of job) job ∷ []) (idle queue aside (filed ++ job ∷ []) kept)
  unfolding idle busy
  filed_one job queue aside filed kept lt =
      leads_one (busy job queue aside filed kept) (File (worker_of job) job) (idle queue aside (filed ++ job ∷ []) kept)
      (rw (holds_it worker_of aside_of jobs takes job aside, others_stay worker_of aside_of jobs takes job aside lt) refl)

  one_job : (job : ℕ) (queue aside filed kept : List ℕ) → job < jobs → Leads (idle (job ∷ queue) aside filed kept) (run_events worker_of job) (idle queue aside (filed ++ job ∷ []) kept)
  one_job job queue aside filed kept lt =
      leads_more (Claim (worker_of job) job ∷ []) (File (worker_of job) job ∷ []) (claimed job queue aside filed kept lt) (filed_one job queue aside filed kept lt)

  one_aside : (job : ℕ) (queue aside filed kept : List ℕ) → times_listed job aside ≡ 0 → Leads (idle (job ∷ queue) aside filed kept) (Claim (aside_of job) job ∷ []) (idle queue (aside ++ job ∷ []) filed kept)
  unfolding idle
  one_aside job queue aside filed kept none =
      let same : (job == job) ≡ true = eq-eqb job job refl in
      let hands : hands_aside aside_of aside ++ record { worker = aside_of job; job = job } ∷ [] ≡ hands_aside aside_of (aside ++ job ∷ []) =
      sym (map-append (λ (n : ℕ). let h : HeldJob = record { worker = aside_of n; job = n } in h) aside (job ∷ [])) in
      leads_one (idle (job ∷ queue) aside filed kept) (Claim (aside_of job) job) (idle queue (aside ++ job ∷ []) filed kept)
      (rw (same, free_aside worker_of aside_of jobs takes job aside none)
      (ap (λ (hs : List HeldJob). let t : CoreState = record { jobs = jobs; running = true; queue = queue; hands = hs; filed = filed; kept = kept } in Some t) hands))

  -- the jobs of a page are run from this queue on; the others that pass the test are left
  record HasRun (queue aside filed kept page others : List ℕ) : Type 0 where
    leads : Leads (idle queue aside filed kept) (job_events worker_of aside_of queue page) (idle (queue_behind queue page) (aside ++ taken_aside queue page) (filed ++ page) kept)
    rest : filter test (queue_behind queue page) ≡ others
    fresh : AreFresh jobs (aside ++ taken_aside queue page) (queue_behind queue page)

  leads_none : (queue aside filed kept : List ℕ) → Leads (idle queue aside filed kept) [] (idle queue (aside ++ []) (filed ++ []) kept)
  leads_none queue aside filed kept =
      subst (λ (xs : List ℕ). Leads (idle queue aside filed kept) [] (idle queue xs (filed ++ []) kept)) (sym (append-nil aside))
      (subst (λ (xs : List ℕ). Leads (idle queue aside filed kept) [] (idle queue aside xs kept)) (sym (append-nil filed)) (leads_nothing (idle queue aside filed kept)))

  fresh_none : (aside queue : List ℕ) → AreFresh jobs aside queue → AreFresh jobs (aside ++ []) queue
  fresh_none aside queue fresh = subst (λ (xs : List ℕ). AreFresh jobs xs queue) (sym (append-nil aside)) fresh

  run_front : (job : ℕ) (queue aside filed kept page others : List ℕ) → AreFresh jobs aside (job ∷ queue) → HasRun queue aside (filed ++ job ∷ []) kept page others → HasRun (job ∷ queue) aside filed kept (job ∷ page) others
  run_front job queue aside filed kept page others fresh later =
      let same : (job == job) ≡ true = eq-eqb job job refl in
      let all : Leads (idle (job ∷ queue) aside filed kept) (run_events worker_of job ++ job_events worker_of aside_of queue page) (idle (queue_behind queue page) (aside ++ taken_aside queue page) (filed ++ job ∷ page) kept) =
      subst
      (λ (xs : List ℕ). Leads (idle (job ∷ queue) aside filed kept) (run_events worker_of job ++ job_events worker_of aside_of queue page) (idle (queue_behind queue page) (aside ++ taken_aside queue page) xs kept))
      (append_assoc filed (job ∷ []) page)
      (leads_more (run_events worker_of job) (job_events worker_of aside_of queue page) (one_job job queue aside filed kept (first_known jobs aside queue job fresh)) later.leads) in
      record { leads = rw same all; rest = rw same later.rest; fresh = rw same later.fresh }

  pass_front : (first job : ℕ) (queue aside filed kept page others : List ℕ) → AreFresh jobs aside (first ∷ queue) → (first == job) ≡ false → HasRun queue (aside ++ first ∷ []) filed kept (job ∷ page) others
      → HasRun (first ∷ queue) aside filed kept (job ∷ page) others
  pass_front first job queue aside filed kept page others fresh other later =
      let jobs_then = job ∷ page in
      let assoc : (aside ++ first ∷ []) ++ taken_aside queue jobs_then ≡ aside ++ first ∷ taken_aside queue jobs_then = append_assoc aside (first ∷ []) (taken_aside queue jobs_then) in
      let all : Leads (idle (first ∷ queue) aside filed kept) (Claim (aside_of first) first ∷ job_events worker_of aside_of queue jobs_then) (idle (queue_behind queue jobs_then) (aside ++ first ∷ taken_aside queue jobs_then) (filed ++ jobs_then) kept) =
      subst (λ (xs : List ℕ). Leads (idle (first ∷ queue) aside filed kept) (Claim (aside_of first) first ∷ job_events worker_of aside_of queue jobs_then) (idle (queue_behind queue jobs_then) xs (filed ++ jobs_then) kept)) assoc
      (leads_more (Claim (aside_of first) first ∷ []) (job_events worker_of aside_of queue jobs_then) (one_aside first queue aside filed kept (first_not_aside jobs aside queue first fresh)) later.leads) in
      let still : AreFresh jobs (aside ++ first ∷ taken_aside queue jobs_then) (queue_behind queue jobs_then) = subst (λ (xs : List ℕ). AreFresh jobs xs (queue_behind queue jobs_then)) assoc later.fresh in
      record { leads = rw other all; rest = rw other later.rest; fresh = rw other still }

  -- what is at the front is run where it passes the test, since the page's jobs are the first that do
  take_front : (first job : ℕ) (queue aside filed kept page others : List ℕ) → AreFresh jobs aside (first ∷ queue) → filter test (first ∷ queue) ≡ job ∷ (page ++ others)
      → (filter test queue ≡ page ++ others → HasRun queue aside (filed ++ job ∷ []) kept page others)
      → (filter test queue ≡ job ∷ (page ++ others) → HasRun queue (aside ++ first ∷ []) filed kept (job ∷ page) others)
      → (b : Bool) → test first ≡ b → HasRun (first ∷ queue) aside filed kept (job ∷ page) others
  take_front first job queue aside filed kept page others fresh is run pass true e =
      let front = front_is test first job queue (page ++ others) is e in
      subst (λ (f : ℕ). HasRun (f ∷ queue) aside filed kept (job ∷ page) others) (sym front.0)
      (run_front job queue aside filed kept page others (subst (λ (f : ℕ). AreFresh jobs aside (f ∷ queue)) front.0 fresh) (run front.1))
  take_front first job queue aside filed kept page others fresh is run pass false e =
      let front = front_is_not test first job queue (page ++ others) is e in
      pass_front first job queue aside filed kept page others fresh front.0 (pass front.1)

  all_jobs : (queue aside filed kept page others : List ℕ) → AreFresh jobs aside queue → filter test queue ≡ page ++ others → HasRun queue aside filed kept page others
  all_jobs [] aside filed kept [] others fresh is = record { leads = leads_none [] aside filed kept; rest = is; fresh = fresh_none aside [] fresh }
  all_jobs [] aside filed kept (job ∷ page) others fresh is = absurd (cc)
  all_jobs (first ∷ queue) aside filed kept [] others fresh is = record { leads = leads_none (first ∷ queue) aside filed kept; rest = is; fresh = fresh_none aside (first ∷ queue) fresh }
  all_jobs (first ∷ queue) aside filed kept (job ∷ page) others fresh is =
      take_front first job queue aside filed kept page others fresh is (λ left. all_jobs queue aside (filed ++ job ∷ []) kept page others (fresh_run jobs aside queue first fresh) left)
      (λ left. all_jobs queue (aside ++ first ∷ []) filed kept (job ∷ page) others (fresh_aside jobs aside queue first fresh) left) (test first) refl

  one_keep : (queue aside filed kept : List ℕ) → Leads (idle queue aside filed kept) (Keep ∷ []) (idle queue aside [] (kept ++ filed))
  unfolding idle
  one_keep queue aside filed kept = leads_one (idle queue aside filed kept) Keep (idle queue aside [] (kept ++ filed)) refl

  -- the same of pages, which are kept
  record HaveRun (queue aside kept : List ℕ) (pages : List (List ℕ)) (others : List ℕ) : Type 0 where
    leads : Leads (idle queue aside [] kept) (page_events worker_of aside_of queue pages) (idle (queue_behind queue (concat pages)) (aside ++ taken_aside queue (concat pages)) [] (kept ++ concat pages))
    rest : filter test (queue_behind queue (concat pages)) ≡ others
    fresh : AreFresh jobs (aside ++ taken_aside queue (concat pages)) (queue_behind queue (concat pages))

  no_pages : (queue aside kept others : List ℕ) → AreFresh jobs aside queue → filter test queue ≡ others → HaveRun queue aside kept [] others
  no_pages queue aside kept others fresh is = record {
    leads = rw (behind-none queue, aside-none queue)
        (subst (λ (xs : List ℕ). Leads (idle queue aside [] kept) [] (idle queue (aside ++ []) [] xs)) (sym (append-nil kept))
        (subst (λ (xs : List ℕ). Leads (idle queue aside [] kept) [] (idle queue xs [] kept)) (sym (append-nil aside)) (leads_nothing (idle queue aside [] kept))));
    rest = rw (behind-none queue) is;
    fresh = rw (behind-none queue, aside-none queue) (fresh_none aside queue fresh);
  }

  page_more : (page : List ℕ) (pages : List (List ℕ)) (queue aside kept others : List ℕ) → HasRun queue aside [] kept page (concat pages ++ others)
      → HaveRun (queue_behind queue page) (aside ++ taken_aside queue page) (kept ++ page) pages others → HaveRun queue aside kept (page ∷ pages) others
  page_more page pages queue aside kept others first later =
      let behind = queue_behind queue page in
      let away = aside ++ taken_aside queue page in
      let events = job_events worker_of aside_of queue page ++ Keep ∷ [] in
      let queues : queue_behind behind (concat pages) ≡ queue_behind queue (page ++ concat pages) = sym (behind-append queue page (concat pages)) in
      let asides : away ++ taken_aside behind (concat pages) ≡ aside ++ taken_aside queue (page ++ concat pages) =
      append_assoc aside (taken_aside queue page) (taken_aside behind (concat pages)) ∙ ap (λ (xs : List ℕ). aside ++ xs) (sym (aside-append queue page (concat pages))) in
      let one : Leads (idle queue aside [] kept) events (idle behind away [] (kept ++ page)) = leads_more (job_events worker_of aside_of queue page) (Keep ∷ []) first.leads (one_keep behind away page kept) in
      let all = leads_more events (page_events worker_of aside_of behind pages) one later.leads in
      let ends : idle (queue_behind behind (concat pages)) (away ++ taken_aside behind (concat pages)) [] ((kept ++ page) ++ concat pages) ≡ idle (queue_behind queue (page ++ concat pages)) (aside ++ taken_aside queue (page ++ concat pages)) [] (kept ++ (page ++ concat pages)) =
      ap (λ (q : List ℕ). idle q (away ++ taken_aside behind (concat pages)) [] ((kept ++ page) ++ concat pages)) queues
      ∙ ap (λ (a : List ℕ). idle (queue_behind queue (page ++ concat pages)) a [] ((kept ++ page) ++ concat pages)) asides
      ∙ ap (λ (k : List ℕ). idle (queue_behind queue (page ++ concat pages)) (aside ++ taken_aside queue (page ++ concat pages)) [] k) (append_assoc kept page (concat pages)) in
      record {
        leads = subst (λ (t : CoreState). Leads (idle queue aside [] kept) (events ++ page_events worker_of aside_of behind pages) t) ends all;
        rest = ap (λ (q : List ℕ). filter test q) (sym queues) ∙ later.rest;
        fresh =
            subst (λ (q : List ℕ). AreFresh jobs (aside ++ taken_aside queue (page ++ concat pages)) q) queues
            (subst (λ (a : List ℕ). AreFresh jobs a (queue_behind behind (concat pages))) asides later.fresh);
      }

  all_pages : (pages : List (List ℕ)) (queue aside kept others : List ℕ) → AreFresh jobs aside queue → filter test queue ≡ concat pages ++ others → HaveRun queue aside kept pages others
  all_pages [] queue aside kept others fresh is = no_pages queue aside kept others fresh is
  all_pages (page ∷ pages) queue aside kept others fresh is =
      let first = all_jobs queue aside [] kept page (concat pages ++ others) fresh (is ∙ append_assoc page (concat pages) others) in
      page_more page pages queue aside kept others first (all_pages pages (queue_behind queue page) (aside ++ taken_aside queue page) (kept ++ page) others first.fresh first.rest)

  -- ---- from the stopped state on

  at_rest : List ℕ → CoreState
  at_rest kept = record { jobs = jobs; running = false; queue = []; hands = []; filed = []; kept = kept }

  -- where the jobs are kept that have an outcome, those wait that are missing
  started : (board : List (Option Outcome)) (kept : List ℕ) → length board ≡ jobs → ((job : ℕ) → times_listed job kept ≡ times_listed job (kept_numbers board)) → Leads (at_rest kept) (Resume ∷ []) (idle (missing board) [] [] kept)
  unfolding idle at_rest
  started board kept long same =
      let waits : filter (λ job. times_listed job kept == 0) (numbers_below jobs) ≡ missing board =
      ap (λ (n : ℕ). filter (λ job. times_listed job kept == 0) (numbers_below n)) (sym long) ∙ (λ i. filter (λ job. same job i == 0) (numbers_below (length board))) ∙ left_missing board in
      leads_one (at_rest kept) Resume (idle (missing board) [] [] kept)
      (ap (λ (waiting : List ℕ). let t : CoreState = record { jobs = jobs; running = true; queue = waiting; hands = []; filed = []; kept = kept } in Some t) waits)

  module _ (board : List (Option Outcome)) (pages : List (List ℕ)) (kept others : List ℕ) (long : length board ≡ jobs) (same : (job : ℕ) → times_listed job kept ≡ times_listed job (kept_numbers board))
      (left : filter test (missing board) ≡ concat pages ++ others) where
    pages_run : HaveRun (missing board) [] kept pages others
    pages_run = all_pages pages (missing board) [] kept others (subst (λ (n : ℕ). AreFresh n [] (missing board)) long (fresh_at_first board)) left

    run : Leads (at_rest kept) (events_of worker_of aside_of (missing board) pages) (idle (queue_behind (missing board) (concat pages)) (taken_aside (missing board) (concat pages)) [] (kept ++ concat pages))
    run = leads_more (Resume ∷ []) (page_events worker_of aside_of (missing board) pages) (started board kept long same) pages_run.leads

  -- ---- up to a stop

  after_stop : List ℕ → List ℕ → Bool → CoreState
  after_stop filed kept whole = at_rest (if whole then kept ++ filed else kept)

  one_stop : (queue aside filed kept : List ℕ) (whole : Bool) → Leads (idle queue aside filed kept) (Stop whole ∷ []) (after_stop filed kept whole)
  unfolding idle at_rest after_stop
  one_stop queue aside filed kept true = leads_one (idle queue aside filed kept) (Stop true) (after_stop filed kept true) refl
  one_stop queue aside filed kept false = leads_one (idle queue aside filed kept) (Stop false) (after_stop filed kept false) refl

  run_to_stop : (board : List (Option Outcome)) (done : List (List ℕ)) (flight others kept : List ℕ) (whole : Bool) → length board ≡ jobs → ((job : ℕ) → times_listed job kept ≡ times_listed job (kept_numbers board))
      → filter test (missing board) ≡ concat done ++ (flight ++ others) → Leads (at_rest kept) (stopped_run worker_of aside_of (missing board) done flight whole) (after_stop flight (kept ++ concat done) whole)
  run_to_stop board done flight others kept whole long same left =
      let queue = queue_behind (missing board) (concat done) in
      let aside = taken_aside (missing board) (concat done) in
      let before = pages_run board done kept (flight ++ others) long same left in
      let last = all_jobs queue aside [] (kept ++ concat done) flight others before.fresh before.rest in
      leads_more (events_of worker_of aside_of (missing board) done) (job_events worker_of aside_of queue flight ++ Stop whole ∷ []) (run board done kept (flight ++ others) long same left)
      (leads_more (job_events worker_of aside_of queue flight) (Stop whole ∷ []) last.leads (one_stop (queue_behind queue flight) (aside ++ taken_aside queue flight) flight (kept ++ concat done) whole))

pub pages_are_runs : PagesAreRuns
unfolding idle at_rest
pages_are_runs worker_of aside_of test board p budget takes =
    let numbers = filter test (missing board) in
    let done = pages_of numbers p budget in
    let rest = drop (length (concat done)) numbers in
    let front = pages-front numbers p budget in
    let whole = run worker_of aside_of test (length board) takes board done (kept_numbers board) rest refl (λ job. refl) front in
    record { possible = whole.possible; ends = whole.ends; kept = ended_times test board done rest front }

-- ---- any state that is stopped

pub concat-push : (pages : List (List ℕ)) (page : List ℕ) → concat (pages ++ page ∷ []) ≡ concat pages ++ page
concat-push pages page = concat-append pages (page ∷ []) ∙ ap (λ (xs : List ℕ). concat pages ++ xs) (append-nil page)

module _ (test : ℕ → Bool) (board : List (Option Outcome)) (s : CoreState) (is : IsStoppedAt board s) where
  same_times : (job : ℕ) → times_listed job s.kept ≡ times_listed job (kept_numbers board)
  same_times job = is.kept job ∙ sym (kept_times board job)

  rests : let t : CoreState = record { jobs = length board; running = false; queue = []; hands = []; filed = []; kept = s.kept } in s ≡ t
  rests = λ i. record { jobs = is.same_jobs i; running = is.stopped i; queue = is.no_queue i; hands = is.no_hands i; filed = is.no_filed i; kept = s.kept }

  kept_then : (pages : List (List ℕ)) (others : List ℕ) → filter test (missing board) ≡ concat pages ++ others → (job : ℕ) → times_listed job (s.kept ++ concat pages) ≡ (if has_outcome board job || is_on pages job then 1 else 0)
  kept_then pages others left job =
      count-append (λ y. y == job) s.kept (concat pages)
      ∙ ap (λ (n : ℕ). n + times_listed job (concat pages)) (same_times job)
      ∙ sym (count-append (λ y. y == job) (kept_numbers board) (concat pages))
      ∙ ended_times test board pages others left job

  -- what is kept after a stop
  kept_after : (done : List (List ℕ)) (flight others : List ℕ) (whole : Bool) → filter test (missing board) ≡ concat done ++ (flight ++ others) → (job : ℕ)
      → times_listed job (if whole then (s.kept ++ concat done) ++ flight else s.kept ++ concat done) ≡ (if has_outcome board job || is_on (pages_kept done flight whole) job then 1 else 0)
  kept_after done flight others false left job = kept_then done (flight ++ others) left job
  kept_after done flight others true left job =
      let pages = done ++ flight ∷ [] in
      let all : s.kept ++ concat pages ≡ (s.kept ++ concat done) ++ flight = ap (λ (xs : List ℕ). s.kept ++ xs) (concat-push done flight) ∙ sym (append_assoc s.kept (concat done) flight) in
      let front : filter test (missing board) ≡ concat pages ++ others = left ∙ sym (append_assoc (concat done) flight others) ∙ ap (λ (xs : List ℕ). xs ++ others) (sym (concat-push done flight)) in
      ap (λ (xs : List ℕ). times_listed job xs) (sym all) ∙ kept_then pages others front job

pub stops_are_runs : StopsAreRuns
unfolding at_rest after_stop
stops_are_runs worker_of aside_of test board done flight others whole s takes left is =
    let n = length board in
    let run = run_to_stop worker_of aside_of test n takes board done flight others s.kept whole refl (same_times test board s is) left in
    let events = stopped_run worker_of aside_of (missing board) done flight whole in
    let last = after_stop worker_of aside_of test n takes flight (s.kept ++ concat done) whole in
    let from : Leads s events last = subst (λ (t : CoreState). Leads t events last) (sym (rests test board s is)) run in
    let ends : IsStoppedWith n (λ job. has_outcome board job || is_on (pages_kept done flight whole) job) last =
    record { same_jobs = refl; stopped = refl; no_queue = refl; no_hands = refl; no_filed = refl; kept = kept_after test board s is done flight others whole left } in
    record {
      possible = from.possible;
      ends = subst (IsStoppedWith n (λ job. has_outcome board job || is_on (pages_kept done flight whole) job)) (sym from.ends) ends;
    }
