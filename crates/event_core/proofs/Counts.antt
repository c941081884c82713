-- How often jobs stand in lists and hands.
use Rattle.std.proofs.Common.{length-append, ℕ, zero, suc, ◌≡◌, ◌+◌, ◌<◌, ◌≤◌, ◌==◌, nat_lt, not, ◌&&◌, ◌||◌, Bool, true, false, cond, List, [], ◌∷◌, ◌++◌, length, get_or, refl, sym, ap, ◌∙◌, arith, eq-eqb}
use Rattle.std.specs.Prelude.{filter, map, count_by, sum_by}
use Rattle.std.specs.List.{list_any, remove}
use Rattle.std.proofs.lemmas.Bool.{eqb-true}
use Rattle.std.proofs.lemmas.Bool.Decides.{nat_tests}
use Rattle.std.proofs.lemmas.List.Elements.{filter-append}
use Rattle.std.proofs.lemmas.List.Sums.{sum_by-cons, sum_by-append, sum_by_push, sum_by-remove}
use Rattle.event_core.specs.declared.events.HeldJob.{HeldJob}
use Rattle.event_core.specs.EventCore.{times_listed, times_held, held_by, holds_job, numbers_below}

-- one or none
abbrev pub bit : Bool → ℕ
bit b = cond b 1 0

pub bit-same : (x : ℕ) → bit (x == x) ≡ 1
bit-same x = ap bit (eq-eqb x x refl)

-- ---- counts of lists

pub count-cons : {X : Type 0} (p : X → Bool) (x : X) (xs : List X) → count_by p (x ∷ xs) ≡ bit (p x) + count_by p xs
count-cons p x xs = sum_by-cons (λ y. cond (p y) 1 0) x xs

pub count-push : {X : Type 0} (p : X → Bool) (xs : List X) (x : X) → count_by p (xs ++ x ∷ []) ≡ count_by p xs + bit (p x)
count-push p xs x = sum_by_push (λ y. cond (p y) 1 0) xs x

pub count-append : {X : Type 0} (p : X → Bool) (xs ys : List X) → count_by p (xs ++ ys) ≡ count_by p xs + count_by p ys
count-append p xs ys = sum_by-append (λ y. cond (p y) 1 0) xs ys

-- where none passes, the count is 0, and the other way round
pub count-none : {X : Type 0} (p : X → Bool) (xs : List X) → list_any p xs ≡ false → count_by p xs ≡ 0
count-none p [] h = refl
count-none p (x ∷ xs) h = by (p x) refl h (count-none p xs)
  where
    by : (b : Bool) → p x ≡ b → (b || list_any p xs) ≡ false → (list_any p xs ≡ false → count_by p xs ≡ 0) → count_by p (x ∷ xs) ≡ 0
    by true e h rest = absurd cc
    by false e h rest = omega (arith, count-cons p x xs, rest h, ap bit e)

pub none-count : {X : Type 0} (p : X → Bool) (xs : List X) → count_by p xs ≡ 0 → list_any p xs ≡ false
none-count p [] h = refl
none-count p (x ∷ xs) h = by (p x) refl (none-count p xs)
  where
    by : (b : Bool) → p x ≡ b → (count_by p xs ≡ 0 → list_any p xs ≡ false) → (b || list_any p xs) ≡ false
    by true e rest = absurd (omega (arith, count-cons p x xs, h, ap bit e))
    by false e rest = rest (omega (arith, count-cons p x xs, h))

pub count-filter-le : {X : Type 0} (p q : X → Bool) (xs : List X) → count_by p (filter q xs) ≤ count_by p xs
count-filter-le p q [] = omega arith
count-filter-le p q (x ∷ xs) = by (q x) (count-filter-le p q xs)
  where
    by : (b : Bool) → count_by p (filter q xs) ≤ count_by p xs → count_by p (cond b (x ∷ filter q xs) (filter q xs)) ≤ count_by p (x ∷ xs)
    by true rest = omega (arith, count-cons p x (filter q xs), count-cons p x xs, rest)
    by false rest = omega (arith, count-cons p x xs, rest)

-- ---- the numbers below n

pub times-below : (p : ℕ → Bool) (n x : ℕ) → times_listed x (filter p (numbers_below n)) ≡ bit (nat_lt x n && p x)
times-below p zero x = let e : nat_lt x 0 ≡ false = grind (arith, nat_tests) in rw e refl
times-below p (suc n) x =
    rw (filter-append p (numbers_below n) (n ∷ []), count-append (λ y. y == x) (filter p (numbers_below n)) (cond (p n) (n ∷ []) []), times-below p n x) (by (n == x) refl)
  where
    last : (b e : Bool) → (n == x) ≡ e → times_listed x (cond b (n ∷ []) []) ≡ bit (e && b)
    last true true h = count-cons (λ y. y == x) n [] ∙ ap (λ c. bit c + 0) h
    last true false h = count-cons (λ y. y == x) n [] ∙ ap (λ c. bit c + 0) h
    last false true h = refl
    last false false h = refl

    by : (e : Bool) → (n == x) ≡ e → bit (nat_lt x n && p x) + times_listed x (cond (p n) (n ∷ []) []) ≡ bit (nat_lt x (suc n) && p x)
    by true e =
        let same : n ≡ x = eqb-true n x e in
        let lt : nat_lt x n ≡ false = grind (arith, nat_tests) in
        let lt' : nat_lt x (suc n) ≡ true = grind (arith, nat_tests) in
        let here : times_listed x (cond (p n) (n ∷ []) []) ≡ bit (p x) = last (p n) true e ∙ ap (λ y. bit (p y)) same in
        rw (lt, lt') (omega arith)
    by false e =
        let lt : nat_lt x (suc n) ≡ nat_lt x n = grind (arith, nat_tests) in
        rw lt (omega (arith, last (p n) false e))

filter-all : (xs : List ℕ) → filter (λ y. true) xs ≡ xs
filter-all [] = refl
filter-all (x ∷ xs) = ap (λ ys. x ∷ ys) (filter-all xs)

pub times-numbers : (n x : ℕ) → times_listed x (numbers_below n) ≡ bit (nat_lt x n)
times-numbers n x =
    sym (ap (λ ys. times_listed x ys) (filter-all (numbers_below n))) ∙ times-below (λ y. true) n x ∙ elim (nat_lt x n) as (λ v. bit (v && true) ≡ bit v) [ true ↦ refl | false ↦ refl ]

pub length-numbers_below : (n : ℕ) → length (numbers_below n) ≡ n
length-numbers_below zero = refl
length-numbers_below (suc n) = omega (arith, length-append (numbers_below n) (n ∷ []), length-numbers_below n)

-- ---- lists with the same numbers

place_in : (x : ℕ) (ys : List ℕ) → 0 < times_listed x ys → (k : ℕ) × (k < length ys) × (x ≡ get_or ys k x)
place_in x [] more = absurd (omega arith)
place_in x (y ∷ ys) more = by (y == x) refl (place_in x ys)
  where
    by : (b : Bool) → (y == x) ≡ b → (0 < times_listed x ys → (k : ℕ) × (k < length ys) × (x ≡ get_or ys k x)) → (k : ℕ) × (k < length (y ∷ ys)) × (x ≡ get_or (y ∷ ys) k x)
    by true e rest = (0, omega arith, sym (eqb-true y x e))
    by false e rest =
        let p = rest (omega (arith, count-cons (λ z. z == x) y ys, more, ap bit e)) in
        (suc p.0, omega (arith, p.1), p.2)

-- where each number stands in ys as often or more, so does any weight
pub sum_by-within : (h : ℕ → ℕ) (xs ys : List ℕ) → ((x : ℕ) → times_listed x xs ≤ times_listed x ys) → sum_by h xs ≤ sum_by h ys
sum_by-within h [] ys within = omega arith
sum_by-within h (x ∷ xs) ys within =
    let p = place_in x ys (omega (arith, within x, count-cons (λ z. z == x) x xs, bit-same x)) in
    let rest : (y : ℕ) → times_listed y xs ≤ times_listed y (remove ys p.0) =
    λ y. let e : bit (get_or ys p.0 x == y) ≡ bit (x == y) = ap (λ z. bit (z == y)) (sym p.2) in
    omega (arith, within y, count-cons (λ z. z == y) x xs, sum_by-remove (λ z. cond (z == y) 1 0) ys p.0 x p.1, e) in
    let e : h (get_or ys p.0 x) ≡ h x = ap h (sym p.2) in
    omega (arith, sum_by-cons h x xs, sum_by-remove h ys p.0 x p.1, e, sum_by-within h xs (remove ys p.0) rest)

pub sum_by-same : (h : ℕ → ℕ) (xs ys : List ℕ) → ((x : ℕ) → times_listed x xs ≡ times_listed x ys) → sum_by h xs ≡ sum_by h ys
sum_by-same h xs ys same =
    let less = sum_by-within h xs ys (λ x. omega (arith, same x)) in
    let more = sum_by-within h ys xs (λ x. omega (arith, same x)) in
    omega (arith, less, more)

length-ones : (xs : List ℕ) → length xs ≡ sum_by (λ x. 1) xs
length-ones [] = refl
length-ones (x ∷ xs) = omega (arith, sum_by-cons (λ y. 1) x xs, length-ones xs)

pub length-within : (xs ys : List ℕ) → ((x : ℕ) → times_listed x xs ≤ times_listed x ys) → length xs ≤ length ys
length-within xs ys within = omega (arith, length-ones xs, length-ones ys, sum_by-within (λ x. 1) xs ys within)

-- ---- hands

abbrev pub jobs_held : List HeldJob → List ℕ
jobs_held hands = map (λ (hand : HeldJob). hand.job) hands

pub times-jobs_held : (x : ℕ) (hands : List HeldJob) → times_listed x (jobs_held hands) ≡ times_held x hands
times-jobs_held x [] = refl
times-jobs_held x (hand ∷ hands) =
    omega (arith, count-cons (λ y. y == x) hand.job (jobs_held hands), count-cons (λ (h : HeldJob). h.job == x) hand hands, times-jobs_held x hands)

abbrev pub others_of : ℕ → List HeldJob → List HeldJob
others_of worker hands = filter (λ (hand : HeldJob). not (hand.worker == worker)) hands

-- who holds nothing holds no job, and has nothing to let go
nothing_held : (worker job : ℕ) (hands : List HeldJob) → held_by worker hands ≡ 0 → (holds_job hands worker job ≡ false) × (others_of worker hands ≡ hands)
nothing_held worker job [] h = (refl, refl)
nothing_held worker job (hand ∷ hands) h = by (hand.worker == worker) refl (nothing_held worker job hands)
  where
    by : (b : Bool) → (hand.worker == worker) ≡ b → (held_by worker hands ≡ 0 → (holds_job hands worker job ≡ false) × (others_of worker hands ≡ hands)) → ((b && hand.job == job || holds_job hands worker job) ≡ false) × (cond (not b) (hand ∷ others_of worker hands) (others_of worker hands) ≡ hand ∷ hands)
    by true e later = absurd (omega (arith, count-cons (λ (x : HeldJob). x.worker == worker) hand hands, h, ap bit e))
    by false e later =
        let rest = later (omega (arith, count-cons (λ (x : HeldJob). x.worker == worker) hand hands, h)) in
        (rest.0, ap (λ hs. hand ∷ hs) rest.1)

-- where a worker that holds one job lets it go, that job is in one hand less, and each other one in as many
pub times-others_of : (worker job : ℕ) (hands : List HeldJob) → holds_job hands worker job ≡ true → held_by worker hands ≤ 1 → (x : ℕ) → times_held x hands ≡ times_held x (others_of worker hands) + bit (job == x)
times-others_of worker job [] h one x = absurd cc
times-others_of worker job (hand ∷ hands) h one x = by (hand.worker == worker) refl h (λ a b. times-others_of worker job hands a b x)
  where
    here : (b : Bool) → (hand.job == job) ≡ b → (b || holds_job hands worker job) ≡ true → holds_job hands worker job ≡ false → hand.job ≡ job
    here true e h none = eqb-true hand.job job e
    here false e h none = absurd cc

    by : (b : Bool) → (hand.worker == worker) ≡ b → (b && hand.job == job || holds_job hands worker job) ≡ true →
        (holds_job hands worker job ≡ true → held_by worker hands ≤ 1 → times_held x hands ≡ times_held x (others_of worker hands) + bit (job == x)) →
        times_held x (hand ∷ hands) ≡ times_held x (cond (not b) (hand ∷ others_of worker hands) (others_of worker hands)) + bit (job == x)
    by true e h later =
        let rest = nothing_held worker job hands (omega (arith, count-cons (λ (y : HeldJob). y.worker == worker) hand hands, one, ap bit e)) in
        let same : hand.job ≡ job = here (hand.job == job) refl h rest.0 in
        let bits : bit (hand.job == x) ≡ bit (job == x) = ap (λ y. bit (y == x)) same in
        rw rest.1 (omega (arith, count-cons (λ (y : HeldJob). y.job == x) hand hands, bits))
    by false e h later =
        let rest = later h (omega (arith, count-cons (λ (y : HeldJob). y.worker == worker) hand hands, one)) in
        omega (arith, count-cons (λ (y : HeldJob). y.job == x) hand hands, count-cons (λ (y : HeldJob). y.job == x) hand (others_of worker hands), rest)

-- a worker that holds a job has it in its hand
pub held-holds : (worker job : ℕ) (hands : List HeldJob) → holds_job hands worker job ≡ true → 0 < times_held job hands
held-holds worker job [] h = absurd cc
held-holds worker job (hand ∷ hands) h = by (hand.worker == worker) (hand.job == job) refl h (held-holds worker job hands)
  where
    by : (a b : Bool) → (hand.job == job) ≡ b → (a && b || holds_job hands worker job) ≡ true → (holds_job hands worker job ≡ true → 0 < times_held job hands) → 0 < times_held job (hand ∷ hands)
    by a true e h rest = omega (arith, count-cons (λ (y : HeldJob). y.job == job) hand hands, ap bit e)
    by true false e h rest = omega (arith, count-cons (λ (y : HeldJob). y.job == job) hand hands, rest h)
    by false false e h rest = omega (arith, count-cons (λ (y : HeldJob). y.job == job) hand hands, rest h)

-- a job in one hand is held by one worker
pub holder-same : (v w job : ℕ) (hands : List HeldJob) → holds_job hands v job ≡ true → holds_job hands w job ≡ true → times_held job hands ≤ 1 → v ≡ w
holder-same v w job [] a b one = absurd cc
holder-same v w job (hand ∷ hands) a b one = by (hand.job == job) refl (hand.worker == v) refl (hand.worker == w) refl a b (holder-same v w job hands)
  where
    by : (j : Bool) → (hand.job == job) ≡ j → (x : Bool) → (hand.worker == v) ≡ x → (y : Bool) → (hand.worker == w) ≡ y → (x && j || holds_job hands v job) ≡ true → (y && j || holds_job hands w job) ≡ true →
        (holds_job hands v job ≡ true → holds_job hands w job ≡ true → times_held job hands ≤ 1 → v ≡ w) → v ≡ w
    by true e true p true q a b rest = sym (eqb-true hand.worker v p) ∙ eqb-true hand.worker w q
    by true e false p y q a b rest = absurd (omega (arith, held-holds v job hands a, count-cons (λ (z : HeldJob). z.job == job) hand hands, one, ap bit e))
    by true e true p false q a b rest = absurd (omega (arith, held-holds w job hands b, count-cons (λ (z : HeldJob). z.job == job) hand hands, one, ap bit e))
    by false e true p true q a b rest = rest a b (omega (arith, count-cons (λ (z : HeldJob). z.job == job) hand hands, one))
    by false e true p false q a b rest = rest a b (omega (arith, count-cons (λ (z : HeldJob). z.job == job) hand hands, one))
    by false e false p true q a b rest = rest a b (omega (arith, count-cons (λ (z : HeldJob). z.job == job) hand hands, one))
    by false e false p false q a b rest = rest a b (omega (arith, count-cons (λ (z : HeldJob). z.job == job) hand hands, one))
