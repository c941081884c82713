-- The jobs that a board keeps, and those that it misses.
use Rattle.std.proofs.Common.{All, ℕ, zero, suc, ◌≡◌, ◌+◌, ◌<◌, ◌≤◌, ◌==◌, nat_lt, ◌&&◌, ◌||◌, Bool, true, false, cond, Option, Some, None, List, [], ◌∷◌, ◌++◌, length, take, drop, refl, sym, ap, ◌∙◌, arith, append_assoc}
use Rattle.std.specs.Prelude.{filter, if◌then◌else◌}
use Rattle.std.specs.List.{concat, list_any, range_with_len}
use Rattle.std.proofs.lemmas.Bool.Decides.{nat_tests}
use Rattle.std.proofs.lemmas.List.{append-nil, map-id, take-append-drop, length-drop, drop_all, drop_at}
use Rattle.std.proofs.lemmas.List.Elements.{All-nil, All-cons, All-weaker}
use Rattle.std.proofs.lemmas.List.FromFn.{map-range_with_len_more}
use Rattle.fs_model.specs.declared.outcomes.Outcome.{Outcome}
use Rattle.event_core.specs.EventCore.{times_listed, numbers_below}
use Rattle.fs_model.specs.Pages.{missing_from, missing, within_budget, pages_within}
use Rattle.event_core.specs.PageEvents.{numbers_kept, kept_numbers, pages_of, has_outcome, is_on, PagesAreAll}
use Rattle.event_core.proofs.Counts.{bit, bit-same, count-cons, count-append, count-none, count-filter-le, times-below}
use Rattle.event_core.proofs.Steps.{count-some}

-- ---- what is left of a board's jobs is what it misses

numbers-range : (n : ℕ) → numbers_below n ≡ range_with_len 0 n
numbers-range zero = refl
numbers-range (suc n) =
    let e : 0 + n ≡ n = omega arith in
    let one : n + 1 ≡ suc n = omega arith in
    ap (λ xs. xs ++ n ∷ []) (numbers-range n ∙ sym (map-id (range_with_len 0 n)))
    ∙ sym (map-range_with_len_more (λ (x : ℕ). x) 0 n n e)
    ∙ map-id (range_with_len 0 (n + 1))
    ∙ ap (λ m. range_with_len 0 m) one

-- no place before the first is kept
kept_from-low : (at job : ℕ) (board : List (Option Outcome)) → job < at → times_listed job (numbers_kept at board) ≡ 0
kept_from-low at job [] low = refl
kept_from-low at job (None ∷ board) low = kept_from-low (at + 1) job board (omega arith)
kept_from-low at job (Some outcome ∷ board) low =
    let e : (at == job) ≡ false = grind (arith, nat_tests) in
    let low' : job < at + 1 = omega arith in
    omega (arith, count-cons (λ y. y == job) at (numbers_kept (at + 1) board), kept_from-low (at + 1) job board low', ap bit e)

missing-left : (at : ℕ) (board : List (Option Outcome)) (before : List ℕ) → ((job : ℕ) → at ≤ job → times_listed job before ≡ 0)
    → filter (λ job. times_listed job (before ++ numbers_kept at board) == 0) (range_with_len at (length board)) ≡ missing_from at board
missing-left at [] before none = refl
missing-left at (None ∷ board) before none =
    let low : at < at + 1 = omega arith in
    let here : times_listed at (before ++ numbers_kept (at + 1) board) ≡ 0 =
    omega (arith, count-append (λ y. y == at) before (numbers_kept (at + 1) board), none at (omega arith), kept_from-low (at + 1) at board low) in
    let e : (times_listed at (before ++ numbers_kept (at + 1) board) == 0) ≡ true = grind (arith, nat_tests) in
    rw e (ap (λ xs. at ∷ xs) (missing-left (at + 1) board before (λ job l. none job (omega arith))))
missing-left at (Some outcome ∷ board) before none =
    let here : 0 < times_listed at (before ++ at ∷ numbers_kept (at + 1) board) =
    omega (arith, count-append (λ y. y == at) before (at ∷ numbers_kept (at + 1) board), count-cons (λ y. y == at) at (numbers_kept (at + 1) board), bit-same at) in
    let e : (times_listed at (before ++ at ∷ numbers_kept (at + 1) board) == 0) ≡ false = grind (arith, nat_tests) in
    let same : before ++ at ∷ numbers_kept (at + 1) board ≡ (before ++ at ∷ []) ++ numbers_kept (at + 1) board = sym (append_assoc before (at ∷ []) (numbers_kept (at + 1) board)) in
    let none' : (job : ℕ) → at + 1 ≤ job → times_listed job (before ++ at ∷ []) ≡ 0 =
    λ job l. let other : (at == job) ≡ false = grind (arith, nat_tests) in
    omega (arith, count-append (λ y. y == job) before (at ∷ []), count-cons (λ y. y == job) at [], none job (omega arith), ap bit other) in
    rw e
    (ap (λ (ks : List ℕ). filter (λ job. times_listed job ks == 0) (range_with_len (at + 1) (length board))) same
    ∙ missing-left (at + 1) board (before ++ at ∷ []) none')

pub left_missing : (board : List (Option Outcome)) → filter (λ job. times_listed job (kept_numbers board) == 0) (numbers_below (length board)) ≡ missing board
left_missing board =
    ap (λ (xs : List ℕ). filter (λ job. times_listed job (kept_numbers board) == 0) xs) (numbers-range (length board)) ∙ missing-left 0 board [] (λ job l. refl)

-- ---- how often a job stands among the kept and among the missing

kept_from-times : (at job : ℕ) (board : List (Option Outcome)) → times_listed (at + job) (numbers_kept at board) ≡ bit (has_outcome board job)
kept_from-times at job [] = refl
kept_from-times at zero (None ∷ board) = kept_from-low (at + 1) (at + 0) board (omega arith)
kept_from-times at zero (Some outcome ∷ board) =
    let e : (at == at + 0) ≡ true = grind (arith, nat_tests) in
    let low : at + 0 < at + 1 = omega arith in
    omega (arith, count-cons (λ y. y == at + 0) at (numbers_kept (at + 1) board), kept_from-low (at + 1) (at + 0) board low, ap bit e)
kept_from-times at (suc job) (None ∷ board) =
    let e : at + suc job ≡ at + 1 + job = omega arith in
    ap (λ j. times_listed j (numbers_kept (at + 1) board)) e ∙ kept_from-times (at + 1) job board
kept_from-times at (suc job) (Some outcome ∷ board) =
    let e : at + suc job ≡ at + 1 + job = omega arith in
    let other : (at == at + suc job) ≡ false = grind (arith, nat_tests) in
    let later : times_listed (at + suc job) (numbers_kept (at + 1) board) ≡ bit (has_outcome board job) =
    ap (λ j. times_listed j (numbers_kept (at + 1) board)) e ∙ kept_from-times (at + 1) job board in
    omega (arith, count-cons (λ y. y == at + suc job) at (numbers_kept (at + 1) board), later, ap bit other)

pub kept_times : (board : List (Option Outcome)) (job : ℕ) → times_listed job (kept_numbers board) ≡ bit (has_outcome board job)
kept_times board job = let e : job ≡ 0 + job = omega arith in ap (λ j. times_listed j (kept_numbers board)) e ∙ kept_from-times 0 job board

-- a job is missing at most once, and not where it is kept
pub missing_times : (board : List (Option Outcome)) (job : ℕ) → times_listed job (kept_numbers board) + times_listed job (missing board) ≤ 1
missing_times board job =
    let n = length board in
    let left : times_listed job (missing board) ≡ bit (nat_lt job n && times_listed job (kept_numbers board) == 0) =
    ap (λ xs. times_listed job xs) (sym (left_missing board)) ∙ times-below (λ j. times_listed j (kept_numbers board) == 0) n job in
    by (nat_lt job n) (has_outcome board job) (times_listed job (kept_numbers board)) (times_listed job (missing board)) (kept_times board job) left
  where
    by : (a b : Bool) (k m : ℕ) → k ≡ bit b → m ≡ bit (a && k == 0) → k + m ≤ 1
    by false false k m e f = omega (arith, e, f)
    by false true k m e f = omega (arith, e, f)
    by true false k m e f = let z : (k == 0) ≡ true = grind (arith, nat_tests) in omega (arith, e, f ∙ ap bit z)
    by true true k m e f = let z : (k == 0) ≡ false = grind (arith, nat_tests) in omega (arith, e, f ∙ ap bit z)

-- a job that is missing has its place on the board
missing_from-below : (at : ℕ) (board : List (Option Outcome)) → All (λ n. n < at + length board) (missing_from at board)
missing_from-below at [] = All-nil (λ n. n < at + 0)
missing_from-below at (None ∷ board) =
    All-cons (λ n. n < at + length (None ∷ board)) at (missing_from (at + 1) board) (omega arith)
    (All-weaker (λ n. n < at + 1 + length board) (λ n. n < at + length (None ∷ board)) (λ n lt. omega (arith, lt)) (missing_from (at + 1) board) (missing_from-below (at + 1) board))
missing_from-below at (Some outcome ∷ board) =
    All-weaker (λ n. n < at + 1 + length board) (λ n. n < at + length (Some outcome ∷ board)) (λ n lt. omega (arith, lt)) (missing_from (at + 1) board) (missing_from-below (at + 1) board)

pub missing_below : (board : List (Option Outcome)) → All (λ n. n < length board) (missing board)
missing_below board = All-weaker (λ n. n < 0 + length board) (λ n. n < length board) (λ n lt. omega (arith, lt)) (missing board) (missing_from-below 0 board)

-- ---- pages, end to end

concat-pages_within : (p most : ℕ) (numbers : List ℕ) → 1 ≤ p → length numbers ≤ most → concat (pages_within most p numbers) ≡ numbers
concat-pages_within p zero [] some fits = refl
concat-pages_within p zero (x ∷ xs) some fits = absurd (omega arith)
concat-pages_within p (suc most) [] some fits = refl
concat-pages_within p (suc most) (x ∷ xs) some fits =
    let l = length-drop p (x ∷ xs) in
    ap (λ ys. take p (x ∷ xs) ++ ys) (concat-pages_within p most (drop p (x ∷ xs)) some (omega (arith, l))) ∙ take-append-drop p (x ∷ xs)

front_rest : (most : ℕ) (xs : List ℕ) → xs ≡ take most xs ++ drop (length (take most xs)) xs
front_rest zero xs = refl
front_rest (suc most) [] = refl
front_rest (suc most) (x ∷ xs) = ap (λ ys. x ∷ ys) (front_rest most xs)

pub pages_are_all : PagesAreAll
pages_are_all numbers p budget some =
    let those = within_budget budget numbers in concat-pages_within p (length those) those some (omega arith)

-- a page's length may be 0 here
concat-begin : (p most : ℕ) (numbers : List ℕ) → (others : List ℕ) × (numbers ≡ concat (pages_within most p numbers) ++ others)
concat-begin p zero numbers = (numbers, refl)
concat-begin p (suc most) [] = ([], refl)
concat-begin p (suc most) (x ∷ xs) =
    let rest = concat-begin p most (drop p (x ∷ xs)) in
    let page = take p (x ∷ xs) in
    let later = concat (pages_within most p (drop p (x ∷ xs))) in
    (rest.0, sym (take-append-drop p (x ∷ xs)) ∙ ap (λ (ys : List ℕ). page ++ ys) rest.1 ∙ sym (append_assoc page later rest.0))

-- the pages are a front of the numbers
pub pages-front : (numbers : List ℕ) (p : ℕ) (budget : Option ℕ) → numbers ≡ concat (pages_of numbers p budget) ++ drop (length (concat (pages_of numbers p budget))) numbers
pages-front numbers p budget =
    let those = within_budget budget numbers in
    let begin = concat-begin p (length those) those in
    let all = concat (pages_of numbers p budget) in
    let behind = drop (length those) numbers in
    let whole : numbers ≡ all ++ (begin.0 ++ behind) = by budget ∙ ap (λ (ys : List ℕ). ys ++ behind) begin.1 ∙ append_assoc all begin.0 behind in
    whole ∙ ap (λ (ys : List ℕ). all ++ ys) (sym (ap (drop (length all)) whole ∙ drop_at all (begin.0 ++ behind) (length all) refl))
  where
    by : (budget : Option ℕ) → numbers ≡ within_budget budget numbers ++ drop (length (within_budget budget numbers)) numbers
    by None = sym (ap (λ ys. numbers ++ ys) (drop_all (length numbers) numbers (omega arith)) ∙ append-nil numbers)
    by (Some most) = front_rest most numbers

-- where no job is on two pages, or twice on one, each that is on a page stands there once
is_on-times : (pages : List (List ℕ)) (job : ℕ) → times_listed job (concat pages) ≤ 1 → times_listed job (concat pages) ≡ bit (is_on pages job)
is_on-times pages job one = by (is_on pages job) refl
  where
    all : (pages : List (List ℕ)) → is_on pages job ≡ false → times_listed job (concat pages) ≡ 0
    all [] none = refl
    all (page ∷ pages) none = here (list_any (λ y. y == job) page) refl none (all pages)
      where
        here : (b : Bool) → list_any (λ y. y == job) page ≡ b → (b || is_on pages job) ≡ false → (is_on pages job ≡ false → times_listed job (concat pages) ≡ 0) → times_listed job (page ++ concat pages) ≡ 0
        here true e h rest = absurd cc
        here false e h rest = omega (arith, count-append (λ y. y == job) page (concat pages), count-none (λ y. y == job) page e, rest h)

    any : (pages : List (List ℕ)) → is_on pages job ≡ true → 0 < times_listed job (concat pages)
    any [] there = absurd cc
    any (page ∷ pages) there = here (list_any (λ y. y == job) page) refl there (any pages)
      where
        here : (b : Bool) → list_any (λ y. y == job) page ≡ b → (b || is_on pages job) ≡ true → (is_on pages job ≡ true → 0 < times_listed job (concat pages)) → 0 < times_listed job (page ++ concat pages)
        here true e h rest = omega (arith, count-append (λ y. y == job) page (concat pages), count-some (λ y. y == job) page e)
        here false e h rest = omega (arith, count-append (λ y. y == job) page (concat pages), rest h)

    by : (b : Bool) → is_on pages job ≡ b → times_listed job (concat pages) ≡ bit b
    by true e = omega (arith, one, any pages e)
    by false e = all pages e

-- what was kept and what is on the pages is kept once
pub ended_times : (test : ℕ → Bool) (board : List (Option Outcome)) (pages : List (List ℕ)) (rest : List ℕ) → filter test (missing board) ≡ concat pages ++ rest → (job : ℕ)
    → times_listed job (kept_numbers board ++ concat pages) ≡ (if has_outcome board job || is_on pages job then 1 else 0)
ended_times test board pages rest front job =
    let parts : times_listed job (filter test (missing board)) ≡ times_listed job (concat pages) + times_listed job rest = ap (λ xs. times_listed job xs) front ∙ count-append (λ y. y == job) (concat pages) rest in
    let few = count-filter-le (λ y. y == job) test (missing board) in
    let most = missing_times board job in
    let on = is_on-times pages job (omega (arith, parts, few, most)) in
    by (has_outcome board job) (is_on pages job) (times_listed job (kept_numbers board)) (times_listed job (concat pages)) (kept_times board job) on (omega (arith, parts, few, most)) (count-append (λ y. y == job) (kept_numbers board) (concat pages))
  where
    by : (a b : Bool) (k m : ℕ) → k ≡ bit a → m ≡ bit b → k + m ≤ 1 → {sum : ℕ} → sum ≡ k + m → sum ≡ cond (a || b) 1 0
    by true true k m e f one sum = absurd (omega (arith, e, f))
    by true false k m e f one sum = omega (arith, e, f, sum)
    by false true k m e f one sum = omega (arith, e, f, sum)
    by false false k m e f one sum = omega (arith, e, f, sum)
