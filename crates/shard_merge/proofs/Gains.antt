-- What one board gains from another.
use Rattle.std.proofs.Common.{All, ◌≡◌, ◌≢◌, ℕ, zero, suc, ◌+◌, ◌<◌, ◌≤◌, List, [], ◌∷◌, length, drop, Option, Some, None, refl, sym, ap, subst, ◌∙◌, arith}
use Rattle.std.specs.Prelude.{slice_get, Contains}
use Rattle.std.specs.List.{AllPairs}
use Rattle.std.proofs.lemmas.List.{drop_more}
use Rattle.std.proofs.lemmas.List.Elements.{All-nil, All-cons, All-weaker}
use Rattle.std.proofs.lemmas.List.Kept.{AllPairs-cons}
use Rattle.fs_model.specs.declared.outcomes.Outcome.{Outcome}
use Rattle.def_use.specs.Board.{place_at}
use Rattle.result_keeper.specs.Blanks.{AreBlank}
use Rattle.shard_merge.specs.Union.{BoardData}
use Rattle.shard_merge.specs.Gained.{gain, number_if, gained_from, gained_behind}

-- ---- one place after the other

-- the place of a number, and those behind it
pub gained_at : (board other : BoardData) (n : ℕ) → n < length board → n < length other
    → gained_behind n board other ≡ number_if (gain (place_at board n) (place_at other n)) n (gained_behind (n + 1) board other)
gained_at board other n here there =
    ap (λ (b : BoardData). gained_from n b (drop n other)) (drop_more board n None here)
    ∙ ap (λ (b : BoardData). gained_from n (place_at board n ∷ drop (n + 1) board) b) (drop_more other n None there)

past_end : (board : BoardData) (n : ℕ) → length board ≤ n → drop n board ≡ []
past_end [] zero le = refl
past_end [] (suc n) le = refl
past_end (place ∷ board) zero le = absurd (omega arith)
past_end (place ∷ board) (suc n) le = past_end board n (omega arith)

-- none is behind the last place
pub none_behind : (board other : BoardData) (n : ℕ) → length board ≤ n → gained_behind n board other ≡ []
none_behind board other n le = ap (λ (b : BoardData). gained_from n b (drop n other)) (past_end board n le)

-- ---- which they are

-- the place of a number, where the first place has another number
pub record GainsAt (at : ℕ) (board other : BoardData) (n : ℕ) : Type 0 where
  pub index : ℕ
  pub place : n ≡ at + index
  pub blank : slice_get board index ≡ Some None
  pub outcome : Outcome
  pub there : slice_get other index ≡ Some (Some outcome)

later : (at : ℕ) (x y : Option Outcome) (board other : BoardData) (n : ℕ) → GainsAt (at + 1) board other n → GainsAt at (x ∷ board) (y ∷ other) n
later at x y board other n is = record { index = suc is.index; place = let e = is.place in omega (arith, e); blank = is.blank; outcome = is.outcome; there = is.there }

pub all_gained : (at : ℕ) (board other : BoardData) → All (GainsAt at board other) (gained_from at board other)
all_gained at [] other = All-nil (GainsAt at [] other)
all_gained at (x ∷ board) [] = All-nil (GainsAt at (x ∷ board) [])
all_gained at (x ∷ board) (y ∷ other) =
    by x y (All-weaker (GainsAt (at + 1) board other) (GainsAt at (x ∷ board) (y ∷ other)) (later at x y board other) (gained_from (at + 1) board other) (all_gained (at + 1) board other))
  where
    by : (x y : Option Outcome) → All (GainsAt at (x ∷ board) (y ∷ other)) (gained_from (at + 1) board other)
        → All (GainsAt at (x ∷ board) (y ∷ other)) (number_if (gain x y) at (gained_from (at + 1) board other))
    by None None rest = rest
    by None (Some o) rest =
        All-cons (GainsAt at (None ∷ board) (Some o ∷ other)) at (gained_from (at + 1) board other) (record { index = 0; place = omega arith; blank = refl; outcome = o; there = refl }) rest
    by (Some k) y rest = rest

above : (at : ℕ) (board other : BoardData) → All (λ n. at < n) (gained_from (at + 1) board other)
above at board other =
    All-weaker (GainsAt (at + 1) board other) (λ n. at < n) (λ n is. let e = is.place in omega (arith, e)) (gained_from (at + 1) board other) (all_gained (at + 1) board other)

ascend_with : (p : Option Outcome) (at : ℕ) (numbers : List ℕ) → All (λ n. at < n) numbers → AllPairs (λ m n. m < n) numbers → AllPairs (λ m n. m < n) (number_if p at numbers)
ascend_with None at numbers up rest = rest
ascend_with (Some o) at numbers up rest = AllPairs-cons (λ m n. m < n) at numbers up rest

ascends : (at : ℕ) (board other : BoardData) → AllPairs (λ m n. m < n) (gained_from at board other)
ascends at [] other = λ i j d lt le. absurd (omega (arith, le))
ascends at (x ∷ board) [] = λ i j d lt le. absurd (omega (arith, le))
ascends at (x ∷ board) (y ∷ other) = ascend_with (gain x y) at (gained_from (at + 1) board other) (above at board other) (ascends (at + 1) board other)

get_behind : (from : ℕ) (board : BoardData) (k n : ℕ) → n ≡ from + k → slice_get (drop from board) k ≡ slice_get board n
get_behind zero board k n e = let same : k ≡ n = omega arith in ap (slice_get board) same
get_behind (suc from) [] k n e = refl
get_behind (suc from) (place ∷ board) k zero e = absurd (omega arith)
get_behind (suc from) (place ∷ board) k (suc n) e = get_behind from board k n (omega arith)

-- the other board has an outcome for each of them
abbrev pub HasAt : BoardData → ℕ → Type 0
HasAt other n = (o : Outcome) × (slice_get other n ≡ Some (Some o))

pub gained_has : (from : ℕ) (board other : BoardData) → All (HasAt other) (gained_behind from board other)
gained_has from board other =
    All-weaker (GainsAt from (drop from board) (drop from other)) (HasAt other) (λ n is. (is.outcome, sym (get_behind from other is.index n is.place) ∙ is.there)) (gained_behind from board other)
    (all_gained from (drop from board) (drop from other))

-- and this one has none
pub gained_blank : (from : ℕ) (board other : BoardData) → AreBlank board (gained_behind from board other)
gained_blank from board other = record {
  ascending = ascends from (drop from board) (drop from other);
  blank =
      All-weaker (GainsAt from (drop from board) (drop from other)) (λ n. slice_get board n ≡ Some None) (λ n is. sym (get_behind from board is.index n is.place) ∙ is.blank) (gained_behind from board other)
      (all_gained from (drop from board) (drop from other));
}

-- ---- whether a place is one of them

-- a place is gained, or there is nothing to gain
pub data Gains (numbers : List ℕ) (n : ℕ) (x y : Option Outcome) : Type 0 where
  Gained : Contains numbers n → (o : Outcome) → x ≡ None → y ≡ Some o → Gains numbers n x y
  Stays : All (λ m. m ≢ n) numbers → gain x y ≡ None → Gains numbers n x y

not_first : (at : ℕ) (board other : BoardData) (n : ℕ) → n ≡ at → All (λ m. m ≢ n) (gained_from (at + 1) board other)
not_first at board other n is =
    All-weaker (GainsAt (at + 1) board other) (λ m. m ≢ n) (λ m found e. let p = found.place in absurd (omega (arith, p, e, is))) (gained_from (at + 1) board other) (all_gained (at + 1) board other)

first_place : (at : ℕ) (x y : Option Outcome) (board other : BoardData) (n : ℕ) → n ≡ at → Gains (number_if (gain x y) at (gained_from (at + 1) board other)) n x y
first_place at None None board other n is = Stays (not_first at board other n is) refl
first_place at None (Some o) board other n is = Gained (0, omega arith, sym is) o refl refl
first_place at (Some k) y board other n is = Stays (not_first at board other n is) refl

later_place : (p : Option Outcome) (at : ℕ) (numbers : List ℕ) (n : ℕ) (x y : Option Outcome) → at ≢ n → Gains numbers n x y → Gains (number_if p at numbers) n x y
later_place None at numbers n x y apart is = is
later_place (Some o) at numbers n x y apart (Gained has q none some) = Gained (suc has.0, (let lt = has.1 in omega (arith, lt)), has.2) q none some
later_place (Some o) at numbers n x y apart (Stays others nothing) = Stays (All-cons (λ m. m ≢ n) at numbers apart others) nothing

pub whether_gained : (at : ℕ) (board other : BoardData) (k n : ℕ) (x y : Option Outcome) → n ≡ at + k → slice_get board k ≡ Some x → slice_get other k ≡ Some y
    → Gains (gained_from at board other) n x y
whether_gained at [] other k n x y is here there = absurd (cc)
whether_gained at (p ∷ board) [] k n x y is here there = absurd (cc)
whether_gained at (p ∷ board) (q ∷ other) zero n x y is here there =
    let first : p ≡ x = cc in
    let second : q ≡ y = cc in
    subst (λ (v : Option Outcome). Gains (gained_from at (p ∷ board) (q ∷ other)) n v y) first
    (subst (λ (v : Option Outcome). Gains (gained_from at (p ∷ board) (q ∷ other)) n p v) second (first_place at p q board other n (omega arith)))
whether_gained at (p ∷ board) (q ∷ other) (suc k) n x y is here there =
    later_place (gain p q) at (gained_from (at + 1) board other) n x y (λ e. omega (arith, e, is)) (whether_gained (at + 1) board other k n x y (omega arith) here there)

-- ---- boards that are the same

pub same_places : (a b : BoardData) → ((i : ℕ) → slice_get a i ≡ slice_get b i) → a ≡ b
same_places [] [] same = refl
same_places [] (y ∷ b) same = let e = same 0 in absurd (cc)
same_places (x ∷ a) [] same = let e = same 0 in absurd (cc)
same_places (x ∷ a) (y ∷ b) same =
    let e = same 0 in
    let first : x ≡ y = cc in
    let rest : a ≡ b = same_places a b (λ i. same (suc i)) in
    rw (first, rest) refl

-- from a number on
pub same_behind : (n : ℕ) (a b : BoardData) → ((m : ℕ) → n ≤ m → slice_get a m ≡ slice_get b m) → drop n a ≡ drop n b
same_behind n a b same =
    same_places (drop n a) (drop n b) (λ i. get_behind n a i (n + i) refl ∙ same (n + i) (omega arith) ∙ sym (get_behind n b i (n + i) refl))
