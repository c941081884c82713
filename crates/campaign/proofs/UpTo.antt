-- A campaign on its way: some batches are appended, and others are left.
use Rattle.std.proofs.Common.{◌≡◌, ℕ, ◌+◌, ◌-◌, ◌^◌, ◌<◌, ◌≤◌, Bool, min, true, List, [], ◌∷◌, ◌++◌, length, take, drop, refl, ap, sym, subst, ◌∙◌, arith, length-drop, length-take-le, take-append-drop}
use Rattle.std.proofs.lemmas.List.{drop-drop, drop-take, take-take}
use Rattle.fs_outside.specs.Past.{Past, EachImage, content}
use Rattle.fs_model.specs.declared.outcomes.Row.{Row}
use Rattle.fs_model.specs.Case.{CaseData}
use Rattle.fs_model.specs.Job.{jobs_in}
use Rattle.fs_model.specs.Outcome.{outcome}
use Rattle.def_use.specs.Board.{kept_of}
use Rattle.def_use.specs.Rows.{rows_of}
use Rattle.result_keeper.specs.Batches.{after_batches}
use Rattle.result_keeper.specs.Blanks.{batches_for}
use Rattle.result_keeper.specs.Acceptance.{HasRightOldRows}
use Rattle.result_keeper.specs.Keep.{Gives, KeeperData, HasFile}
use Rattle.result_keeper.proofs.Cuts.{first_batch}
use Rattle.result_keeper.proofs.PartWay.{IsPartWay, IsAppended}
use Rattle.result_keeper.proofs.PartWay as keeper
use Rattle.experiment.specs.Jobs.{RoseAs}
use Rattle.experiment.proofs.Rises.{as_more, as_still}
use Rattle.campaign.specs.Ready.{ReadyData, portion_of}
use Rattle.campaign.specs.Portions.{due, due_behind}
use Rattle.campaign.specs.Turn.{page_of, steps_of_page, first_batches}
use Rattle.worker_pool.specs.Steps.{steps_of_numbers}
use Rattle.worker_pool.proofs.StepLists.{steps_none, steps-append}
use Rattle.campaign.proofs.Cuts.{page_taken, rest_taken}

-- of so many jobs, these are left; those before are appended
pub record IsUpTo (meets : Bool) (tells : Type 0) (before now : Past) (faults faults' : ℕ) (old new : ReadyData) (most left from : ℕ) : Type 0 where
  pub way : IsPartWay tells before now old.keeper new.keeper (first_batches (portion_of old) old.keeper most) (first_batches (portion_of new) new.keeper left)
  pub there : left ≤ length (due (portion_of new) new.keeper.board)
  pub fewer : left ≤ most
  pub behind : due (portion_of new) new.keeper.board ≡ drop (most - left) (due (portion_of old) old.keeper.board)
  pub counted : kept_of new.keeper.board + left ≡ kept_of old.keeper.board + most
  pub first : due_behind (portion_of new) from new.keeper.board ≡ due (portion_of new) new.keeper.board
  pub steps : ℕ
  pub taken : RoseAs meets (most - left) old.taken steps new.taken
  pub all_steps : steps_of_page old most ≡ steps + steps_of_page new left
  pub spacing : new.spacing ≡ old.spacing
  pub shortcuts : new.shortcuts ≡ old.shortcuts
  pub budget : new.budget ≡ old.budget
  pub shard : new.shard ≡ old.shard
  pub window : new.window ≡ old.window
  pub no_fault : faults' ≡ faults

-- ---- at the start

pub at_start : (meets : Bool) (tells : Type 0) (past : Past) (faults : ℕ) (ready : ReadyData) (most : ℕ) → length ready.keeper.board ≡ length ready.keeper.list → ready.keeper.healthy ≡ true
    → most ≤ length (due (portion_of ready) ready.keeper.board) → ready.taken ≤ 2 ^ 64 - 1 → (tells → HasFile ready.keeper past) → IsUpTo meets tells past past faults faults ready ready most most 0
at_start meets tells past faults ready most long healthy there fits file = record {
  way = keeper.at_start tells past ready.keeper (first_batches (portion_of ready) ready.keeper most) long healthy file;
  there = there;
  fewer = omega arith;
  behind = let none : most - most ≡ 0 = omega arith in sym (ap (λ (n : ℕ). drop n (due (portion_of ready) ready.keeper.board)) none);
  counted = refl;
  first = refl;
  steps = 0;
  taken = as_still meets (most - most) 0 ready.taken (omega arith) refl fits;
  all_steps = omega arith;
  spacing = refl;
  shortcuts = refl;
  budget = refl;
  shard = refl;
  window = refl;
  no_fault = refl;
}

-- ---- a page more

part : {A : Type 0} (f : KeeperData → A) {x y : KeeperData} → x ≡ y → f x ≡ f y
part f e = ap f e

-- the batches behind the next page
abbrev pub others_of : ReadyData → ℕ → ℕ → List (List Row)
others_of now left count = batches_for (outcome now.keeper.case) (jobs_in now.keeper.case) now.keeper.page (take (left - count) (drop count (due (portion_of now) now.keeper.board)))

pub first_page_of : (now : ReadyData) (left count : ℕ) → 0 < now.keeper.page → 0 < left → left ≤ length (due (portion_of now) now.keeper.board) → count ≡ min left now.keeper.page
    → first_batches (portion_of now) now.keeper left ≡ page_of (portion_of now) now.keeper count ∷ others_of now left count
first_page_of now left count some more there count_is =
    let all = due (portion_of now) now.keeper.board in
    let outcomes = outcome now.keeper.case in
    let jobs = jobs_in now.keeper.case in
    let p = now.keeper.page in
    let long : length (take left all) ≡ left = length-take-le left all there in
    first_batch outcomes jobs p some (take left all) (omega (arith, long, more))
    ∙ ap (λ (l : List ℕ). rows_of outcomes jobs l ∷ batches_for outcomes jobs p (drop p (take left all))) (page_taken p left count all there count_is)
    ∙ ap (λ (l : List ℕ). page_of (portion_of now) now.keeper count ∷ batches_for outcomes jobs p l) (rest_taken p left count all there count_is)

-- the batches that are left, when the next one is appended
module _ (now new : ReadyData) (left count : ℕ) (some : 0 < now.keeper.page) (more : 0 < left) (there : left ≤ length (due (portion_of now) now.keeper.board)) (count_is : count ≡ min left now.keeper.page)
    (kept_is : new.keeper ≡ after_batches now.keeper (page_of (portion_of now) now.keeper count ∷ [])) (others : due (portion_of new) new.keeper.board ≡ drop count (due (portion_of now) now.keeper.board)) where
  same_case : new.keeper.case ≡ now.keeper.case
  same_case = part (λ (k : KeeperData). k.case) kept_is

  same_page : new.keeper.page ≡ now.keeper.page
  same_page = part (λ (k : KeeperData). k.page) kept_is

  pub next_batches : first_batches (portion_of now) now.keeper left ≡ page_of (portion_of now) now.keeper count ∷ first_batches (portion_of new) new.keeper (left - count)
  next_batches =
      first_page_of now left count some more there count_is
      ∙ ap (λ (l : List ℕ). page_of (portion_of now) now.keeper count ∷ batches_for (outcome now.keeper.case) (jobs_in now.keeper.case) now.keeper.page (take (left - count) l)) (sym others)
      ∙ ap (λ (p : ℕ). page_of (portion_of now) now.keeper count ∷ batches_for (outcome now.keeper.case) (jobs_in now.keeper.case) p (take (left - count) (due (portion_of new) new.keeper.board))) (sym same_page)
      ∙ ap (λ (c : CaseData). page_of (portion_of now) now.keeper count ∷ batches_for (outcome c) (jobs_in c) new.keeper.page (take (left - count) (due (portion_of new) new.keeper.board))) (sym same_case)

  pub next_steps : new.spacing ≡ now.spacing → steps_of_page now left ≡ steps_of_page now count + steps_of_page new (left - count)
  next_steps spacing =
      let all = due (portion_of now) now.keeper.board in
      let fits : count ≤ left = omega (arith, count_is) in
      let split : take left all ≡ take count all ++ take (left - count) (drop count all) =
      sym (take-append-drop count (take left all))
      ∙ ap (λ (l : List ℕ). l ++ drop count (take left all)) (take-take count left all fits)
      ∙ ap (λ (l : List ℕ). take count all ++ l)
      (ap (λ (n : ℕ). drop count (take n all)) (let e : left ≡ count + (left - count) = omega (arith, fits) in e) ∙ drop-take count (left - count) all) in
      let c = now.keeper.case in
      ap (steps_of_numbers c now.spacing (jobs_in c)) split
      ∙ steps-append c now.spacing (jobs_in c) (take count all) (take (left - count) (drop count all))
      ∙ ap (λ (l : List ℕ). steps_of_page now count + steps_of_numbers c now.spacing (jobs_in c) (take (left - count) l)) (sym others)
      ∙ ap (λ (s : ℕ). steps_of_page now count + steps_of_numbers c s (jobs_in c) (take (left - count) (due (portion_of new) new.keeper.board))) (sym spacing)
      ∙ ap (λ (x : CaseData). steps_of_page now count + steps_of_numbers x new.spacing (jobs_in x) (take (left - count) (due (portion_of new) new.keeper.board))) (sym same_case)

-- the page was appended
pub record IsKeptPage (meets : Bool) (tells : Type 0) (past later : Past) (now new : ReadyData) (count next : ℕ) : Type 0 where
  pub append : IsAppended tells past later now.keeper new.keeper (page_of (portion_of now) now.keeper count)
  pub behind : due_behind (portion_of new) next new.keeper.board ≡ due (portion_of new) new.keeper.board
  pub left : due (portion_of new) new.keeper.board ≡ drop count (due (portion_of now) now.keeper.board)
  pub counted : kept_of new.keeper.board ≡ kept_of now.keeper.board + count
  pub taken : RoseAs meets count now.taken (steps_of_page now count) new.taken
  pub spacing : new.spacing ≡ now.spacing
  pub shortcuts : new.shortcuts ≡ now.shortcuts
  pub budget : new.budget ≡ now.budget
  pub shard : new.shard ≡ now.shard
  pub window : new.window ≡ now.window

pub one_more : (meets : Bool) (tells : Type 0) (before past later : Past) (faults faults' faults'' : ℕ) (old now new : ReadyData) (most left from count next : ℕ) → IsUpTo meets tells before past faults faults' old now most left from
    → 0 < now.keeper.page → 0 < left → count ≡ min left now.keeper.page → faults'' ≡ faults' → IsKeptPage meets tells past later now new count next
    → IsUpTo meets tells before later faults faults'' old new most (left - count) next
one_more meets tells before past later faults faults' faults'' old now new most left from count next is some more count_is no_fault page =
    let kept_is = page.append.keeper in
    let batches = next_batches now new left count some more is.there count_is kept_is page.left in
    let fits : count ≤ left = omega (arith, count_is) in
    record {
      way = keeper.one_more tells before past later old.keeper now.keeper (first_batches (portion_of old) old.keeper most) (first_batches (portion_of now) now.keeper left) (first_batches (portion_of new) new.keeper (left - count)) (page_of (portion_of now) now.keeper count) is.way batches new.keeper page.append;
      there = let l = ap length page.left ∙ length-drop count (due (portion_of now) now.keeper.board) in omega (arith, l, is.there);
      fewer = omega (arith, is.fewer);
      behind =
          page.left
          ∙ ap (drop count) is.behind
          ∙ drop-drop count (most - left) (due (portion_of old) old.keeper.board)
          ∙ ap (λ (n : ℕ). drop n (due (portion_of old) old.keeper.board)) (let e : most - left + count ≡ most - (left - count) = omega (arith, is.fewer, fits) in e);
      counted = let c = page.counted in let d = is.counted in omega (arith, c, d, fits);
      first = page.behind;
      steps = is.steps + steps_of_page now count;
      taken = as_more meets (most - left) count (most - (left - count)) old.taken is.steps (steps_of_page now count) (is.steps + steps_of_page now count) now.taken new.taken is.taken page.taken (omega (arith, is.fewer, fits)) refl;
      all_steps = let s = next_steps now new left count some more is.there count_is kept_is page.left page.spacing in let a = is.all_steps in omega (arith, s, a);
      spacing = page.spacing ∙ is.spacing;
      shortcuts = page.shortcuts ∙ is.shortcuts;
      budget = page.budget ∙ is.budget;
      shard = page.shard ∙ is.shard;
      window = page.window ∙ is.window;
      no_fault = no_fault ∙ is.no_fault;
    }

-- ---- at the end

module _ (meets : Bool) (tells : Type 0) (before now : Past) (faults faults' : ℕ) (old new : ReadyData) (most from : ℕ) (is : IsUpTo meets tells before now faults faults' old new most 0 from) where
  pub end_keeper : new.keeper ≡ after_batches old.keeper (first_batches (portion_of old) old.keeper most)
  end_keeper = keeper.end_keeper tells before now old.keeper new.keeper (first_batches (portion_of old) old.keeper most) is.way

  pub end_left : due (portion_of new) new.keeper.board ≡ drop most (due (portion_of old) old.keeper.board)
  end_left = is.behind ∙ ap (λ (n : ℕ). drop n (due (portion_of old) old.keeper.board)) (let e : most - 0 ≡ most = omega arith in e)

  pub end_counted : kept_of new.keeper.board ≡ kept_of old.keeper.board + most
  end_counted = let c = is.counted in omega (arith, c)

  pub end_taken : RoseAs meets most old.taken (steps_of_page old most) new.taken
  end_taken =
      let none : steps_of_page new 0 ≡ 0 = steps_none new.keeper.case new.spacing (jobs_in new.keeper.case) in
      let all = is.all_steps in
      let e : steps_of_page old most ≡ is.steps = omega (arith, none, all) in
      let n : most ≡ most - 0 = omega arith in
      subst (λ (i : ℕ). RoseAs meets i old.taken (steps_of_page old most) new.taken) (sym n) (rw e is.taken)

  pub end_gives : tells → EachImage before HasRightOldRows → HasFile old.keeper before → Gives old.keeper.case old.keeper.board (content before) → EachImage now (Gives new.keeper.case new.keeper.board)
  end_gives told sound file gives = keeper.end_gives tells before now old.keeper new.keeper (first_batches (portion_of old) old.keeper most) is.way told sound file gives
