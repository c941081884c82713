-- Claims that were made and not run yet.
use Rattle.std.proofs.Common.{◌≡◌, ℕ, ◌+◌, ◌<◌, ◌≤◌, All, List, [], ◌∷◌, ◌++◌, length, get_or, take, sym, subst, ap, ◌∙◌, arith, length-append}
use Rattle.std.specs.Prelude.{Contains, drop}
use Rattle.std.proofs.lemmas.List.{length-take, length-drop, get_or-drop, take_all, drop_all, take-append-le, drop-append-le}
use Rattle.std.proofs.lemmas.List.Elements.{All-nil, All-push, All-contains}
use Rattle.fs_model.specs.declared.sites.Site.{Site}
use Rattle.fs_model.specs.declared.sites.Job.{Job}
use Rattle.fs_model.specs.declared.outcomes.Outcome.{Outcome}
use Rattle.fs_model.specs.Case.{CaseData}
use Rattle.job_queue.specs.declared.Hand.{Hand}
use Rattle.job_queue.specs.Hands.{claims_of}
use Rattle.worker_pool.specs.declared.own_desk.CaseLedger.{Ghosts}
use Rattle.worker_pool.specs.declared.shared.Shared.{Shared}
use Rattle.worker_pool.specs.Workers.{jobs_of_all, IsAhead}
use Rattle.def_use.specs.Rows.{rows_of}
use Rattle.worker_pool.specs.Steps.{steps_of_numbers}
use Rattle.worker_pool.proofs.Since.{since, since_none, since_same, no_rows, no_steps}

-- one claim more is made
module _ (ran n : ℕ) (old new : List ℕ) (is : new ≡ old ++ n ∷ []) (behind : ran ≤ length old) where
  pub ran_stays : take ran new ≡ take ran old
  ran_stays = ap (take ran) is ∙ take-append-le ran old (n ∷ []) behind

  pub known_more : (m : ℕ) (page : List ℕ) → All (λ k. k < m) (drop ran old) → All (λ k. k < m) page → Contains page n → All (λ k. k < m) (drop ran new)
  known_more m page known all there =
      subst (λ (l : List ℕ). All (λ k. k < m) l) (sym (ap (drop ran) is ∙ drop-append-le ran old (n ∷ []) behind)) (All-push (λ k. k < m) (drop ran old) n known (All-contains (λ k. k < m) page n all there))

  pub one_longer : length new ≡ length old + 1
  one_longer = ap (λ (l : List ℕ). length l) is ∙ length-append old (n ∷ [])

pub no_more : (ran : ℕ) (claims : List ℕ) → length (take ran claims) ≤ length claims
no_more ran claims = omega (arith, length-take ran claims)

-- the next one to run
pub next_known : (m ran : ℕ) (claims : List ℕ) (d : ℕ) → ran < length claims → All (λ n. n < m) (drop ran claims) → get_or claims ran d < m
next_known m ran claims d inside known =
    let at : ran + 0 ≡ ran = omega arith in
    subst (λ n. n < m) (get_or-drop ran claims 0 d ∙ ap (λ k. get_or claims k d) at) (known 0 d (omega (arith, length-drop ran claims)))

pub ahead_next : {K : Type 0} {G : Ghosts K} (s : Shared K G) (hand : Hand) (ran : ℕ) → ran < length (claims_of hand) → IsAhead s hand ran → IsAhead s hand (ran + 1)
ahead_next s hand ran inside ahead =
    let claims = claims_of hand in record {
      behind = omega arith;
      known = λ k d l.
          let at : ran + (k + 1) ≡ ran + 1 + k = omega arith in
          subst (λ n. n < length (jobs_of_all s)) (get_or-drop ran claims (k + 1) d ∙ (ap (λ i. get_or claims i d) at ∙ sym (get_or-drop (ran + 1) claims k d)))
          (ahead.known (k + 1) d (omega (arith, l, length-drop ran claims, length-drop (ran + 1) claims)));
      within = λ _. ahead.within inside;
    }

pub ahead_of_none : {K : Type 0} {G : Ghosts K} (s : Shared K G) (hand : Hand) (ran : ℕ) → ran ≡ length (claims_of hand) → IsAhead s hand ran
ahead_of_none s hand ran all = record {
  behind = omega (arith, all);
  known = subst (λ (l : List ℕ). All (λ n. n < length (jobs_of_all s)) l) (sym (drop_all ran (claims_of hand) (omega (arith, all)))) (All-nil (λ n. n < length (jobs_of_all s)));
  within = λ some. absurd (omega (arith, all, some));
}

-- all were run
module _ (ran : ℕ) (claims : List ℕ) (all : ran ≡ length claims) where
  pub all_ran : take ran claims ≡ claims
  all_ran = take_all ran claims (omega (arith, all))

  pub ran_same : take ran claims ≡ claims ++ since claims (take ran claims)
  ran_same = subst (λ (l : List ℕ). l ≡ claims ++ since claims l) (sym all_ran) (since_same claims)

  pub no_rows_ran : (outcomes : Site → Outcome) (list : List Job) → [] ≡ rows_of outcomes list (since claims (take ran claims))
  no_rows_ran outcomes list = subst (λ (l : List ℕ). [] ≡ rows_of outcomes list (since claims l)) (sym all_ran) (no_rows outcomes list claims)

  pub none_ran : length (since claims (take ran claims)) ≡ 0
  none_ran = ap (λ (l : List ℕ). length (since claims l)) all_ran ∙ ap (λ (l : List ℕ). length l) (since_none claims)

  pub no_steps_ran : (c : CaseData) (spacing : ℕ) (list : List Job) → steps_of_numbers c spacing list (since claims (take ran claims)) ≡ 0
  no_steps_ran c spacing list = subst (λ (l : List ℕ). steps_of_numbers c spacing list (since claims l) ≡ 0) (sym all_ran) (no_steps c spacing list claims)
