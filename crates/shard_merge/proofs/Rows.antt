-- The rows of what one board gains from another.
use Rattle.std.proofs.Common.{All, ◌≡◌, ⊎_elim, ℕ, zero, suc, ◌<◌, ◌≤◌, if◌then◌else◌, Bool, true, false, List, [], ◌∷◌, length, Option, Some, None, unwrap_or, refl, sym, ap, subst, ◌∙◌, arith}
use Rattle.std.specs.Prelude.{slice_get}
use Rattle.std.proofs.lemmas.Bool.{cases_lt}
use Rattle.std.proofs.lemmas.List.Elements.{All-head, All-tail, All-weaker}
use Rattle.std.proofs.lemmas.Option.{slice_get_past}
use Rattle.fs_model.specs.declared.sites.Site.{Site}
use Rattle.fs_model.specs.declared.sites.Job.{Job}
use Rattle.fs_model.specs.declared.outcomes.Outcome.{Outcome}
use Rattle.fs_model.specs.declared.outcomes.Outcome.TheVariants.{NoEffect}
use Rattle.fs_model.specs.declared.outcomes.Row.{Row}
use Rattle.fs_model.specs.Case.{CaseData}
use Rattle.fs_model.specs.Job.{HasOutcomes, site_of}
use Rattle.fs_model.specs.Outcome.{outcome}
use Rattle.fs_model.specs.Site.{same_site}
use Rattle.fs_model.specs.Verdict.{IsRight}
use Rattle.def_use.specs.Rows.{row_of_job, with_row, rows_of}
use Rattle.def_use.proofs.RowLists.{job_there, one_row, rows_right}
use Rattle.result_keeper.specs.Boards.{IsOnce, filed, or_else}
use Rattle.result_keeper.proofs.Blanks.{AreFilled, blanks_filled}
use Rattle.result_keeper.proofs.Filing.{length-filed, site_itself, sites_apart}
use Rattle.shard_merge.specs.Gained.{gain, gained, outcome_on}
use Rattle.shard_merge.specs.Union.{BoardData, union}
use Rattle.shard_merge.proofs.Gains.{Gains, Gained, Stays, HasAt, gained_blank, same_places, whether_gained}
use Rattle.shard_merge.proofs.Unions.{length-union}

-- ---- the outcome that a board has for a site

chosen : (t : Bool) (o : Outcome) (rest : Outcome) (place : Option Outcome) → t ≡ true → place ≡ Some o → (if t then unwrap_or place NoEffect else rest) ≡ o
chosen true o rest place is has = ap (λ (p : Option Outcome). unwrap_or p NoEffect) has
chosen false o rest place is has = absurd (cc)

passed : (t : Bool) (first rest : Outcome) → t ≡ false → (if t then first else rest) ≡ rest
passed true first rest is = absurd (cc)
passed false first rest is = refl

pub outcome_there : (list : List Job) (board : BoardData) (n : ℕ) (job : Job) (o : Outcome) → IsOnce list → slice_get list n ≡ Some job → slice_get board n ≡ Some (Some o)
    → outcome_on list board (site_of job) ≡ o
outcome_there [] board n job o once at has = absurd (cc)
outcome_there (first ∷ list) [] n job o once at has = absurd (cc)
outcome_there (first ∷ list) (place ∷ board) zero job o once at has =
    let same : first ≡ job = cc in
    let here : place ≡ Some o = cc in
    chosen (same_site (site_of first) (site_of job)) o (outcome_on list board (site_of job)) place (ap (λ (j : Job). same_site (site_of j) (site_of job)) same ∙ site_itself (site_of job)) here
outcome_there (first ∷ list) (place ∷ board) (suc n) job o once at has =
    let apart = sites_apart (site_of first) (site_of job) (λ e. let z = once 0 (suc n) first job refl at e in absurd (omega (arith, z))) in
    passed (same_site (site_of first) (site_of job)) (unwrap_or place NoEffect) (outcome_on list board (site_of job)) apart
    ∙ outcome_there list board n job o (λ i j a b p q e. let z = once (suc i) (suc j) a b p q e in omega (arith, z)) at has

-- the row of a job with its outcome there
pub row_there : (list : List Job) (board : BoardData) (n : ℕ) (job : Job) (o : Outcome) (row : Row) → IsOnce list → slice_get list n ≡ Some job → slice_get board n ≡ Some (Some o)
    → row ≡ record { cycle = job.cycle; cell = job.cell; bit = job.bit; outcome = o } → rows_of (outcome_on list board) list (n ∷ []) ≡ row ∷ []
row_there list board n job o row once at has is =
    one_row (outcome_on list board) list n job at
    ∙ ap (λ (x : Outcome). let r : Row = record { cycle = job.cycle; cell = job.cell; bit = job.bit; outcome = x } in r ∷ []) (outcome_there list board n job o once at has)
    ∙ ap (λ (r : Row). r ∷ []) (sym is)

-- ---- rows that are right

module _ (f g : Site → Outcome) (list : List Job) where
  abbrev SameAt : ℕ → Type 0
  SameAt n = (job : Job) → slice_get list n ≡ Some job → f (site_of job) ≡ g (site_of job)

  same_row : (place : Option Job) (xs ys : List Row) → ((job : Job) → place ≡ Some job → f (site_of job) ≡ g (site_of job)) → xs ≡ ys → with_row f place xs ≡ with_row g place ys
  same_row None xs ys same rest = rest
  same_row (Some job) xs ys same rest =
      ap (λ (x : Outcome). let r : Row = record { cycle = job.cycle; cell = job.cell; bit = job.bit; outcome = x } in r ∷ xs) (same job refl) ∙ ap (λ (l : List Row). row_of_job g job ∷ l) rest

  same_rows : (numbers : List ℕ) → All SameAt numbers → rows_of f list numbers ≡ rows_of g list numbers
  unfolding rows_of
  same_rows [] same = refl
  same_rows (n ∷ numbers) same =
      same_row (slice_get list n) (rows_of f list numbers) (rows_of g list numbers) (All-head SameAt n numbers same) (same_rows numbers (All-tail SameAt n numbers same))

-- where the other board is right, so are the rows of jobs that it has
pub rows_are_right : (c : CaseData) (list : List Job) (other : BoardData) (numbers : List ℕ) → IsOnce list → HasOutcomes (outcome c) list other → All (HasAt other) numbers
    → All (IsRight c) (rows_of (outcome_on list other) list numbers)
rows_are_right c list other numbers once right has =
    subst (All (IsRight c))
    (sym (same_rows (outcome_on list other) (outcome c) list numbers
    (All-weaker (HasAt other) (SameAt (outcome_on list other) (outcome c) list) (λ n is job at. outcome_there list other n job is.0 once at is.1 ∙ right n job is.0 at is.1) numbers has)))
    (rows_right c list numbers)

-- ---- the board with them

union_at : (a b : BoardData) (i : ℕ) (x y : Option Outcome) → slice_get a i ≡ Some x → slice_get b i ≡ Some y → slice_get (union a b) i ≡ Some (or_else x y)
union_at [] b i x y here there = absurd (cc)
union_at (p ∷ a) [] i x y here there = absurd (cc)
union_at (p ∷ a) (q ∷ b) zero x y here there =
    let first : p ≡ x = cc in
    let second : q ≡ y = cc in
    ap (λ (v : Option Outcome). Some (or_else v q)) first ∙ ap (λ (v : Option Outcome). Some (or_else x v)) second
union_at (p ∷ a) (q ∷ b) (suc i) x y here there = union_at a b i x y here there

nothing_more : (x y : Option Outcome) → gain x y ≡ None → or_else x y ≡ x
nothing_more None y none = none
nothing_more (Some k) y none = refl

place_there : (board : BoardData) (i : ℕ) → i < length board → (x : Option Outcome) × (slice_get board i ≡ Some x)
place_there [] i lt = absurd (omega arith)
place_there (x ∷ board) zero lt = (x, refl)
place_there (x ∷ board) (suc i) lt = place_there board i (omega arith)

module _ (list : List Job) (once : IsOnce list) (board other : BoardData) (long : length board ≡ length list) (other_long : length other ≡ length list) where
  filled : AreFilled (outcome_on list other) list board (gained board other)
  filled = blanks_filled (outcome_on list other) list once (gained board other) board long (gained_blank 0 board other)

  gained_place : (i : ℕ) (x y : Option Outcome) → slice_get board i ≡ Some x → slice_get other i ≡ Some y → i < length list → Gains (gained board other) i x y
      → slice_get (filed list board (rows_of (outcome_on list other) list (gained board other))) i ≡ Some (or_else x y)
  gained_place i x y here there lt (Gained has o none some) =
      let job = job_there list i lt in
      filled.has i job.0 has job.1
      ∙ ap (λ (v : Outcome). Some (Some v)) (outcome_there list other i job.0 o once job.1 (there ∙ ap (λ (v : Option Outcome). Some v) some))
      ∙ ap (λ (v : Option Outcome). Some v) (sym (ap (λ (v : Option Outcome). or_else v y) none ∙ some))
  gained_place i x y here there lt (Stays others nothing) = filled.same i others ∙ here ∙ ap (λ (v : Option Outcome). Some v) (sym (nothing_more x y nothing))

  each_place : (i : ℕ) → slice_get (filed list board (rows_of (outcome_on list other) list (gained board other))) i ≡ slice_get (union board other) i
  each_place i =
      ⊎_elim
      (λ (lt : i < length list).
      let x = place_there board i (omega (arith, lt, long)) in
      let y = place_there other i (omega (arith, lt, other_long)) in
      gained_place i x.0 y.0 x.1 y.1 lt (whether_gained 0 board other i i x.0 y.0 (omega arith) x.1 y.1) ∙ sym (union_at board other i x.0 y.0 x.1 y.1))
      (λ (le : length list ≤ i).
      let l = length-filed list board (rows_of (outcome_on list other) list (gained board other)) long in
      let u = length-union board other in
      slice_get_past (filed list board (rows_of (outcome_on list other) list (gained board other))) i (omega (arith, le, l)) ∙ sym (slice_get_past (union board other) i (omega (arith, le, u, long))))
      (cases_lt i (length list))

  -- the board with these rows is both boards put together
  pub filed_gained : filed list board (rows_of (outcome_on list other) list (gained board other)) ≡ union board other
  filed_gained = same_places (filed list board (rows_of (outcome_on list other) list (gained board other))) (union board other) each_place
