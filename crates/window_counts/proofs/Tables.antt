-- The table of a window.
use Rattle.std.proofs.Common.{◌≡◌, ℕ, zero, suc, ◌+◌, ◌-◌, ◌^◌, ◌<◌, ◌≤◌, Bool, true, false, cond, min, List, [], ◌∷◌, ◌++◌, length, map, refl, sym, ap, ◌∙◌, ⊎_elim, arith}
use Rattle.std.specs.Prelude.{nat_lt, slice_index}
use Rattle.std.specs.List.{range_with_len, filter}
use Rattle.std.proofs.lemmas.List.{length-append, length-map, map-append, get_or_append_left, get_or_push}
use Rattle.std.proofs.lemmas.List.FromFn.{length-range_with_len}
use Rattle.std.proofs.lemmas.Bool.{cases_lt, lt-ltb, le-ltb}
use Rattle.fs_model.proofs.Space.{range_split}
use Rattle.window_counts.specs.Windows.{in_window, cycles_between}
use Rattle.window_counts.specs.Before.{window_from, IsBefore}
use Rattle.window_counts.proofs.Ranges.{count_same, count_split, count_none, count_one, count-le, map_below}

-- ---- cycles before a cycle

pub before-none : (w : List Bool) → cycles_between w 0 0 ≡ 0
unfolding cycles_between
before-none w = refl

pub before-le : (w : List Bool) (a e : ℕ) → cycles_between w a e ≤ e - a
unfolding cycles_between
before-le w a e = count-le (in_window w) a (e - a)

pub before_more : (w : List Bool) (k : ℕ) → cycles_between w 0 (k + 1) ≡ cycles_between w 0 k + cond (in_window w k) 1 0
unfolding cycles_between
before_more w k =
    let e : k + 1 - 0 ≡ (k - 0) + 1 = omega arith in
    let f : 0 + (k - 0) ≡ k = omega arith in
    ap (λ n. length (filter (in_window w) (range_with_len 0 n))) e
    ∙ count_split (in_window w) 0 (k - 0) 1
    ∙ ap (λ a. length (filter (in_window w) (range_with_len 0 (k - 0))) + length (filter (in_window w) (range_with_len a 1))) f
    ∙ ap (λ n. length (filter (in_window w) (range_with_len 0 (k - 0))) + n) (count_one (in_window w) k)

-- a part is what is before its end, less what is before its start
pub before_part : (w : List Bool) (start end : ℕ) → start ≤ end → cycles_between w 0 start + cycles_between w start end ≡ cycles_between w 0 end
unfolding cycles_between
before_part w start end low =
    let e : end - 0 ≡ (start - 0) + (end - start) = omega arith in
    let f : 0 + (start - 0) ≡ start = omega arith in
    sym (ap (λ n. length (filter (in_window w) (range_with_len 0 n))) e
    ∙ count_split (in_window w) 0 (start - 0) (end - start)
    ∙ ap (λ a. length (filter (in_window w) (range_with_len 0 (start - 0))) + length (filter (in_window w) (range_with_len a (end - start)))) f)

past_window : (w : List Bool) (t : ℕ) → length w ≤ t → in_window w t ≡ false
unfolding in_window
past_window [] t h = refl
past_window (x ∷ w) zero h = absurd (omega arith)
past_window (x ∷ w) (suc t) h = past_window w t (omega arith)

between_past : (w : List Bool) (start end : ℕ) → length w ≤ start → cycles_between w start end ≡ 0
unfolding cycles_between
between_past w start end h = count_none (in_window w) start (end - start) (λ t low high. past_window w t (omega arith))

between_none : (w : List Bool) (start end : ℕ) → end ≤ start → cycles_between w start end ≡ 0
between_none w start end h = omega (arith, before-le w start end)

-- the start and the end may be cut to the length
pub between_cut : (w : List Bool) (start end s e : ℕ) → e ≡ min end (length w) → s ≡ min start e → cycles_between w start end ≡ cycles_between w 0 e - cycles_between w 0 s
between_cut w start end s e cut_end cut_start =
    ⊎_elim (λ (lt : start < e).
    let s_is : s ≡ start = omega arith in
    let part = before_part w start e (omega arith) in
    let whole = before_part w start end (omega arith) in
    let tail = before_part w e end (omega arith) in
    let none : cycles_between w e end ≡ 0 = ⊎_elim (λ (lt : e < end). between_past w e end (omega arith)) (λ (le : end ≤ e). between_none w e end le) (cases_lt e end) in
    rw s_is (omega arith))
    (λ (le : e ≤ start).
    let s_is : s ≡ e = omega arith in
    let none : cycles_between w start end ≡ 0 = ⊎_elim (λ (lt : start < end). between_past w start end (omega arith)) (λ (le : end ≤ start). between_none w start end le) (cases_lt start end) in
    rw s_is (omega arith))
    (cases_lt start e)

-- ---- tables

pub window-length : (before : List ℕ) → length (window_from before) ≡ length before - 1
unfolding window_from
window-length before = length-map (range_with_len 0 (length before - 1)) _ ∙ length-range_with_len 0 (length before - 1)

-- what the table has at each place
pub at_place : (before : List ℕ) (k : ℕ) → IsBefore before → k ≤ length (window_from before) → slice_index before k ≡ cycles_between (window_from before) 0 k
at_place before k h low = h.each k (omega (arith, window-length before, h.some))

-- ---- one cycle more

step_flag : (before : List ℕ) (t : ℕ) → Bool
step_flag before t = nat_lt (slice_index before t) (slice_index before (t + 1))

window_more : (before : List ℕ) (x : ℕ) → 0 < length before → window_from (before ++ x ∷ []) ≡ window_from before ++ nat_lt (slice_index before (length before - 1)) x ∷ []
unfolding window_from step_flag
window_more before x some =
    let n = length before - 1 in
    let long : length (before ++ x ∷ []) - 1 ≡ n + 1 = omega (arith, length-append before (x ∷ [])) in
    let z : 0 + n ≡ n = omega arith in
    let old : slice_index (before ++ x ∷ []) n ≡ slice_index before n = get_or_append_left before (x ∷ []) 0 n (omega arith) in
    let new : slice_index (before ++ x ∷ []) (n + 1) ≡ x = get_or_push before x 0 (n + 1) (omega arith) in
    ap (λ m. map (step_flag (before ++ x ∷ [])) (range_with_len 0 m)) long
    ∙ ap (map (step_flag (before ++ x ∷ []))) (range_split 0 n 1)
    ∙ map-append (step_flag (before ++ x ∷ [])) (range_with_len 0 n) (range_with_len (0 + n) 1)
    ∙ rw (z, old, new) (ap (λ l. l ++ nat_lt (slice_index before n) x ∷ []) (map_below (step_flag (before ++ x ∷ [])) (step_flag before) 0 n (λ t low high.
    let a : slice_index (before ++ x ∷ []) t ≡ slice_index before t = get_or_append_left before (x ∷ []) 0 t (omega arith) in
    let b : slice_index (before ++ x ∷ []) (t + 1) ≡ slice_index before (t + 1) = get_or_append_left before (x ∷ []) 0 (t + 1) (omega arith) in
    rw (a, b) refl)))

before_left : (w : List Bool) (b : Bool) (k : ℕ) → k ≤ length w → cycles_between (w ++ b ∷ []) 0 k ≡ cycles_between w 0 k
unfolding cycles_between in_window
before_left w b k h = count_same (in_window (w ++ b ∷ [])) (in_window w) 0 (k - 0) (λ t low high. get_or_append_left w (b ∷ []) false t (omega arith))

last_flag : (w : List Bool) (b : Bool) → in_window (w ++ b ∷ []) (length w) ≡ b
unfolding in_window
last_flag w b = get_or_push w b false (length w) refl

step_up : (b : Bool) (last : ℕ) → nat_lt last (cond b (last + 1) last) ≡ b
step_up true last = lt-ltb last (last + 1) (omega arith)
step_up false last = le-ltb last last (omega arith)

pub record IsMore (old new : List ℕ) (b : Bool) : Type 0 where
  pub table : IsBefore new
  pub window : window_from new ≡ window_from old ++ b ∷ []

pub one_more : (old new : List ℕ) (b : Bool) (last : ℕ) → IsBefore old → length old < 2 ^ 32 → last ≡ slice_index old (length old - 1) → new ≡ old ++ cond b (last + 1) last ∷ [] → IsMore old new b
one_more old new b last h room is made =
    let some = h.some in
    let w = window_from old in
    let long : length w ≡ length old - 1 = window-length old in
    let window : window_from new ≡ w ++ b ∷ [] =
    ap window_from made ∙ window_more old (cond b (last + 1) last) h.some ∙ ap (λ f. w ++ f ∷ []) (ap (λ n. nat_lt n (cond b (last + 1) last)) (sym is) ∙ step_up b last) in
    let count : length new ≡ length old + 1 = ap length made ∙ length-append old (cond b (last + 1) last ∷ []) in
    let all : last ≡ cycles_between w 0 (length w) = is ∙ ap (slice_index old) (sym long) ∙ h.each (length w) (omega arith) in
    record {
      window = window;
      table = record {
        some = omega arith;
        few = omega arith;
        each = λ k low. ⊎_elim (λ (lt : k < length old).
            rw (window, made) (get_or_append_left old (cond b (last + 1) last ∷ []) 0 k lt ∙ h.each k lt ∙ sym (before_left w b k (omega arith))))
            (λ (le : length old ≤ k).
            let end : k ≡ length w + 1 = omega arith in
            let more = before_more (w ++ b ∷ []) (length w) in
            rw (window, made, end) (get_or_push old (cond b (last + 1) last) 0 (length w + 1) (omega arith)
            ∙ up b last
            ∙ ap (λ n. n + cond b 1 0) all
            ∙ sym (more ∙ ap (λ n. n + cond (in_window (w ++ b ∷ []) (length w)) 1 0) (before_left w b (length w) (omega arith)) ∙ ap (λ f. cycles_between w 0 (length w) + cond f 1 0) (last_flag w b))))
            (cases_lt k (length old));
      };
    }
  where
    up : (b : Bool) (last : ℕ) → cond b (last + 1) last ≡ last + cond b 1 0
    up true last = refl
    up false last = omega arith

pub none_before : (before : List ℕ) → before ≡ 0 ∷ [] → IsBefore before
none_before before e = rw e (record {
  some = omega arith;
  few = omega arith;
  each = λ k low. let z : k ≡ 0 = omega arith in rw z (sym (before-none (window_from (0 ∷ []))));
})

pub no_window : (before : List ℕ) → before ≡ 0 ∷ [] → window_from before ≡ []
unfolding window_from
no_window before e = rw e refl

pub last-le : (before : List ℕ) → IsBefore before → slice_index before (length before - 1) ≤ length before - 1
last-le before h = let some = h.some in omega (arith, h.each (length before - 1) (omega arith), before-le (window_from before) 0 (length before - 1))

pub one_cycle : (w : List Bool) (t : ℕ) → nat_lt 0 (cycles_between w t (t + 1)) ≡ in_window w t
unfolding cycles_between
one_cycle w t =
    let e : t + 1 - t ≡ 1 = omega arith in
    ap (λ n. nat_lt 0 (length (filter (in_window w) (range_with_len t n)))) e
    ∙ ap (λ n. nat_lt 0 n) (count_one (in_window w) t)
    ∙ elim (in_window w t) as (λ b. nat_lt 0 (cond b 1 0) ≡ b) [ true ↦ refl | false ↦ refl ]

-- ---- a table and its window

pub table-length : (before : List ℕ) → IsBefore before → length before ≡ length (window_from before) + 1
table-length before h = omega (arith, window-length before, h.some)

-- the numbers at a start and at an end
pub at_ends : (before : List ℕ) (start end s e : ℕ) → IsBefore before → e ≡ min end (length before - 1) → s ≡ min start e →
    (slice_index before s ≤ slice_index before e) × (slice_index before e - slice_index before s ≡ cycles_between (window_from before) start end)
at_ends before start end s e h cut_end cut_start =
    let w = window_from before in
    let long : length w ≡ length before - 1 = window-length before in
    let a : slice_index before e ≡ cycles_between w 0 e = at_place before e h (omega arith) in
    let b : slice_index before s ≡ cycles_between w 0 s = at_place before s h (omega arith) in
    let part = before_part w s e (omega arith) in
    (omega arith, rw (a, b) (sym (between_cut w start end s e (omega arith) cut_start)))

pub at_last : (before : List ℕ) → IsBefore before → slice_index before (length before - 1) ≡ cycles_between (window_from before) 0 (length (window_from before))
at_last before h =
    let long = window-length before in
    ap (slice_index before) (sym long) ∙ at_place before (length (window_from before)) h (omega arith)
