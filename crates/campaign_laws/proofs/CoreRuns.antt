-- A campaign that is carried out is a run of the core.
use Rattle.std.proofs.Common.{All, None, ◌≡◌, ⊎_elim, ℕ, ◌+◌, ◌<◌, Bool, true, false, List, [], ◌∷◌, ◌++◌, length, take, drop, get_or, Option, Ok, refl, sym, ap, subst, ◌∙◌, arith, append_assoc}
use Rattle.std.specs.List.{concat}
use Rattle.std.proofs.lemmas.List.{append-nil, take-append-drop, take-map, length-map, take_more, drop_more}
use Rattle.std.proofs.lemmas.List.Elements.{All-head}
use Rattle.std.proofs.lemmas.List.Folds.{concat-append}
use Rattle.fs_outside.specs.Past.{Past, content}
use Rattle.fs_outside.proofs.Moments.{weaker}
use Rattle.fs_model.specs.declared.sites.Job.{Job}
use Rattle.fs_model.specs.declared.outcomes.Outcome.{Outcome}
use Rattle.fs_model.specs.declared.outcomes.Row.{Row}
use Rattle.fs_model.specs.Card.{card}
use Rattle.fs_model.specs.Case.{CaseData}
use Rattle.fs_model.specs.Job.{jobs_in}
use Rattle.fs_model.specs.Outcome.{outcome}
use Rattle.fs_model.specs.Pages.{missing}
use Rattle.keep_format.specs.KeepFile.{added_rows, kept, recorded}
use Rattle.def_use.specs.Rows.{rows_of}
use Rattle.result_keeper.specs.Acceptance.{accept, board_of}
use Rattle.result_keeper.specs.Batches.{KeepsFirst, KeepsSome, all_rows, after_batches}
use Rattle.result_keeper.specs.Boards.{filed}
use Rattle.result_keeper.specs.Keep.{KeeperData, HasFile, Gives, RecordsBoard}
use Rattle.result_keeper.proofs.Filing.{length-filed, length-board_of}
use Rattle.result_keeper.proofs.Gives.{gives_more}
use Rattle.result_keeper.proofs.Once.{once}
use Rattle.result_keeper.proofs.Opened.{WasOpened, WasEmpty, WasWhole, was_accepted}
use Rattle.campaign.specs.CarriedOut.{IsCarriedOutAs}
use Rattle.campaign.specs.Perform.{batches_due, is_fault}
use Rattle.campaign.specs.Ready.{ReadyData, portion_of}
use Rattle.campaign.specs.Portions.{due}
use Rattle.campaign.specs.Shards.{in_shard}
use Rattle.campaign.proofs.OfShard.{shard_portion}
use Rattle.campaign.specs.declared.performing.Performed.{Performed}
use Rattle.event_core.specs.PageEvents.{taken_aside}
use Rattle.event_core.proofs.Missed.{pages-front}
use Rattle.event_core.proofs.Queues.{others_are_aside}
use Rattle.campaign_laws.specs.CoreRuns.{pages_due, Lead, IsLeftBy, IsStoppedInFlight, IsLeftBehindSome, HasPlaces, IsCoreRun, WasKept, CampaignsAreRuns, PreparedHasPlaces, AsidesAreOfOthers}
use Rattle.campaign_laws.proofs.Places.{rows_of_pages, leads}
use Rattle.campaign_laws.proofs.Images.{rows_name, image_records}

-- ---- a keeper's places

places_after : (keeper : KeeperData) (batches : List (List Row)) → HasPlaces keeper → HasPlaces (after_batches keeper batches)
places_after keeper batches places = record { jobs = places.jobs; long = length-filed keeper.list keeper.board (all_rows batches) places.long }

long_board : (file : List ℕ) (c : CaseData) (board : List (Option Outcome)) → accept file c ≡ Ok board → length board ≡ length (jobs_in c)
long_board file c board is = by (was_accepted file c board is)
  where
    blank : (rows : List Row) → board ≡ board_of (jobs_in c) rows → length board ≡ length (jobs_in c)
    blank rows e = ap length e ∙ length-board_of (jobs_in c) rows

    by : WasOpened (card c) (jobs_in c) file board → length board ≡ length (jobs_in c)
    by (WasEmpty empty e) = blank [] e
    by (WasWhole rows gate whole fine e) = blank _ e

pub prepared_has_places : PreparedHasPlaces
prepared_has_places ready case page spacing budget shard file is gives =
    let k = is.keeper in
    record {
      jobs = k.same_list ∙ ap jobs_in (sym k.same_case);
      long = long_board file case ready.keeper.board gives ∙ ap length (sym k.same_list);
    }

-- ---- a run

module _ (meets : Bool) (tells : Type 0) (old new : ReadyData) (before now : Past) (faults faults' : ℕ) (answer : Performed) (places : HasPlaces old.keeper) (file : tells → HasFile old.keeper before)
    (is : IsCarriedOutAs meets tells old new before now faults faults' answer) where
  abbrev keeper : KeeperData
  keeper = old.keeper

  abbrev list : List Job
  list = jobs_in keeper.case

  abbrev rows_in : List ℕ → List Row
  rows_in numbers = rows_of (outcome keeper.case) list numbers

  long : length keeper.board ≡ length list
  long = places.long ∙ ap length places.jobs

  abbrev then_board : List (List ℕ) → List (Option Outcome)
  then_board pages = filed list keeper.board (rows_in (concat pages))

  abbrev missed : List ℕ
  missed = due (portion_of old) keeper.board

  abbrev others : List ℕ
  others = drop (length (concat (pages_due old))) missed

  front : missed ≡ concat (pages_due old) ++ others
  front = pages-front missed keeper.page old.budget

  -- the pages that are done, one in flight, and others
  front_cut : (done : List (List ℕ)) (flight : List ℕ) (left : List (List ℕ)) → concat (pages_due old) ≡ concat done ++ (flight ++ concat left) → missed ≡ concat done ++ (flight ++ (concat left ++ others))
  front_cut done flight left are =
      front
      ∙ ap (λ (xs : List ℕ). xs ++ others) are
      ∙ append_assoc (concat done) (flight ++ concat left) others
      ∙ ap (λ (xs : List ℕ). concat done ++ xs) (append_assoc flight (concat left) others)

  -- the page in flight is lost, or kept
  lead_lost : (done : List (List ℕ)) (flight : List ℕ) (left : List (List ℕ)) → concat (pages_due old) ≡ concat done ++ (flight ++ concat left) → Lead done flight false keeper.board (then_board done)
  lead_lost done flight left are = leads (outcome keeper.case) list (once keeper.case) keeper.board long (portion_of old) done flight (concat left ++ others) false (front_cut done flight left are)

  lead_kept : (done : List (List ℕ)) (flight : List ℕ) (left : List (List ℕ)) → concat (pages_due old) ≡ concat done ++ (flight ++ concat left) → Lead done flight true keeper.board (then_board (done ++ flight ∷ []))
  lead_kept done flight left are = leads (outcome keeper.case) list (once keeper.case) keeper.board long (portion_of old) done flight (concat left ++ others) true (front_cut done flight left are)

  -- the first batches are the rows of the first pages
  rows_taken : (count : ℕ) → all_rows (take count (batches_due old)) ≡ rows_in (concat (take count (pages_due old)))
  rows_taken count = ap all_rows (take-map rows_in count (pages_due old)) ∙ rows_of_pages (outcome keeper.case) list (take count (pages_due old))

  board_taken : (batches : List (List Row)) (pages : List (List ℕ)) → all_rows batches ≡ rows_in (concat pages) → (after_batches keeper batches).board ≡ then_board pages
  board_taken batches pages rows = ap (λ (l : List Job). filed l keeper.board (all_rows batches)) places.jobs ∙ ap (filed list keeper.board) rows

  -- what an image records that holds the rows of the first pages,
  records : (count : ℕ) (image : List ℕ) → tells → KeepsFirst before (batches_due old) count image → (place : ℕ) × RecordsBoard keeper.case (then_board (take count (pages_due old))) place image
  records count image told keeps =
      let numbers = concat (take count (pages_due old)) in
      image_records keeper.case keeper.board keeper.gate (content before) (rows_in numbers) image (file told).file (rows_name (outcome keeper.case) list numbers)
      (keeps.records ∙ ap (added_rows (recorded (content before))) (rows_taken count))

  -- and gives
  gives : (count : ℕ) (image : List ℕ) → tells → KeepsFirst before (batches_due old) count image → WasKept before old → Gives keeper.case (then_board (take count (pages_due old))) image
  gives count image told keeps sound =
      let there = records count image told keeps in
      gives_more (content before) image keeper.case keeper.board (then_board (take count (pages_due old))) keeper.gate there.0 (rows_in (concat (take count (pages_due old)))) (file told).file there.1
      (keeps.keeps sound.0 ∙ ap (added_rows (kept (content before))) (rows_taken count)) sound.1

  left_by : (count : ℕ) (flight : List ℕ) (whole : Bool) (image : List ℕ) (done : List (List ℕ)) (pages : List (List ℕ)) → tells → KeepsFirst before (batches_due old) count image → take count (pages_due old) ≡ pages
      → Lead done flight whole keeper.board (then_board pages) → IsLeftBy before old done flight whole image
  left_by count flight whole image done pages told keeps are lead =
      let there = records count image told keeps in
      record {
        board = then_board pages;
        gate = there.0;
        records = subst (λ (p : List (List ℕ)). RecordsBoard keeper.case (then_board p) there.0 image) are there.1;
        gives = λ sound. subst (λ (p : List (List ℕ)). Gives keeper.case (then_board p) image) are (gives count image told keeps sound);
        lead = lead;
      }

  ends : is_fault answer ≡ false → Lead (pages_due old) [] false keeper.board new.keeper.board
  ends fine =
      let board : new.keeper.board ≡ then_board (pages_due old) =
      ap (λ (k : KeeperData). k.board) (is.keeper fine) ∙ board_taken (batches_due old) (pages_due old) (rows_of_pages (outcome keeper.case) list (pages_due old)) in
      subst (Lead (pages_due old) [] false keeper.board) (sym board) (lead_lost (pages_due old) [] [] (sym (append-nil (concat (pages_due old)))))

  breaks : is_fault answer ≡ true → IsStoppedInFlight tells old new before now
  breaks fault =
      let b = is.broken fault in
      let due = pages_due old in
      let done = take b.count due in
      let flight = get_or due b.count [] in
      let left = drop (b.count + 1) due in
      let fewer : b.count < length due = let l = length-map due rows_in in omega (arith, b.fewer, l) in
      let are : due ≡ done ++ flight ∷ left = sym (take-append-drop b.count due) ∙ ap (λ (xs : List (List ℕ)). done ++ xs) (drop_more due b.count [] fewer) in
      let cut : concat due ≡ concat done ++ (flight ++ concat left) = ap concat are ∙ concat-append done (flight ∷ left) in
      let more : take (b.count + 1) due ≡ done ++ flight ∷ [] = take_more due b.count [] fewer in
      let board : new.keeper.board ≡ then_board done = ap (λ (k : KeeperData). k.board) b.is ∙ board_taken (take b.count (batches_due old)) done (rows_taken b.count) in
      record {
        done = done;
        flight = flight;
        others = left;
        are = are;
        lead = subst (Lead done flight false keeper.board) (sym board) (lead_lost done flight left cut);
        next = λ told image at.
            let Next : Type 0 = (whole : Bool) × IsLeftBy before old done flight whole image in
            let lost : KeepsFirst before (batches_due old) b.count image → Next =
            λ keeps. (false, left_by b.count flight false image done done told keeps refl (lead_lost done flight left cut)) in
            let kept : KeepsFirst before (batches_due old) (b.count + 1) image → Next =
            λ keeps. (true, left_by (b.count + 1) flight true image done (done ++ flight ∷ []) told keeps more (lead_kept done flight left cut)) in
            ⊎_elim lost kept (b.images told image at);
      }

  behind_some : tells → (image : List ℕ) → KeepsSome before (batches_due old) image → IsLeftBehindSome before old image
  behind_some told image some =
      let due = pages_due old in
      let done = take some.count due in
      let left = drop some.count due in
      let are : due ≡ done ++ left = sym (take-append-drop some.count due) in
      record {
        done = done;
        others = left;
        are = are;
        left = left_by some.count [] false image done done told some.keeps refl (lead_lost done [] left (ap concat are ∙ concat-append done left));
      }

  places_then : (b : Bool) → is_fault answer ≡ b → HasPlaces new.keeper
  places_then false fine = subst HasPlaces (sym (is.keeper fine)) (places_after keeper (batches_due old) places)
  places_then true fault =
      let b = is.broken fault in
      let after = places_after keeper (take b.count (batches_due old)) places in
      subst HasPlaces (sym b.is) (record { jobs = after.jobs; long = after.long })

  core_run : IsCoreRun tells old new before now answer
  core_run = record {
    ends = ends;
    breaks = breaks;
    any_moment = λ told. weaker before now (KeepsSome before (batches_due old)) (IsLeftBehindSome before old) (behind_some told) (is.any_moment told);
    places = places_then (is_fault answer) refl;
  }

pub campaigns_are_runs : (tells : Type 0) → CampaignsAreRuns tells
campaigns_are_runs tells meets old new before now faults faults' answer places file is = core_run meets tells old new before now faults faults' answer places file is

-- ---- who is taken aside

-- each job is of the shard where none is given
no_others : (jobs : List ℕ) → All (λ job. in_shard None job ≡ false) jobs → jobs ≡ []
unfolding in_shard
no_others [] others = refl
no_others (job ∷ jobs) others = let no : true ≡ false = All-head (λ n. in_shard None n ≡ false) job jobs others in absurd (cc)

pub asides_are_of_others : AsidesAreOfOthers
asides_are_of_others ready =
    let missed = due (portion_of ready) ready.keeper.board in
    let pages = pages_due ready in
    let aside = taken_aside (missing ready.keeper.board) (concat pages) in
    let others = others_are_aside (portion_of ready) (missing ready.keeper.board) (concat pages) (drop (length (concat pages)) missed) (pages-front missed ready.keeper.page ready.budget) in
    record { others = others; none = λ shard window. no_others aside (subst (λ (portion : ℕ → Bool). All (λ job. portion job ≡ false) aside) (shard_portion ready None shard window) others) }
