-- The bits of lines, cell by cell.
use Rattle.std.proofs.Common.{◌≡◌, ℕ, zero, suc, ◌+◌, ◌-◌, ◌*◌, ◌<◌, ◌≤◌, cond, Bool, true, false, List, length, refl, sym, ap, ◌∙◌, ⊎_elim, arith}
use Rattle.std.proofs.Math.Path.{fun_ext}
use Rattle.std.specs.Prelude.{◌==◌, slice_index, slice_set, sum_by, All}
use Rattle.std.specs.List.{range_with_len}
use Rattle.std.proofs.lemmas.List.{get_or-set_same, get_or-set_other, length-set}
use Rattle.std.proofs.lemmas.List.Sums.{sum_by-cons}
use Rattle.std.proofs.lemmas.Bool.{cases_eq, ne_eqb, eq-eqb}
use Rattle.fs_model.specs.declared.sites.Site.{Site}
use Rattle.fs_model.specs.Cell.{bits, first_cell}
use Rattle.fs_model.specs.Site.{cells}
use Rattle.fs_model.specs.AccessLog.{AccessLog}
use Rattle.fs_model.specs.Job.{job_list}
use Rattle.fs_model.proofs.Sums.{sum_filter}
use Rattle.def_use.proofs.Numbers.{bits-le}
use Rattle.site_counts.specs.Counts.{bits_where, dead_where, weight_where}
use Rattle.site_counts.proofs.ByCell.{cell_whole}

-- the bits of n cells from a on, of those on this line
abbrev line_bits : (ℕ → ℕ) → ℕ → ℕ → ℕ → ℕ
line_bits line k a n = sum_by (λ cell. cond (line cell == k) (bits cell) 0) (range_with_len a n)

-- the numbers of all lines are the bits of the cells from a on, below `cell`
pub record AreBits (line : ℕ → ℕ) (count a cell : ℕ) (totals : List ℕ) : Type 0 where
  pub long : length totals ≡ count
  pub each : (k : ℕ) → k < count → slice_index totals k ≡ sum_by (λ c. cond (line c == k) (bits c) 0) (range_with_len a (cell - a))

pub bits_begin : (line : ℕ → ℕ) (count a : ℕ) (totals : List ℕ) → length totals ≡ count → All (λ n. n ≡ 0) totals → AreBits line count a a totals
bits_begin line count a totals long zeros =
    let none : a - a ≡ 0 = omega arith in
    record { long = long; each = λ k low. rw none (zeros k 0 (omega arith)) }

sum_more : (f : ℕ → ℕ) (a n : ℕ) → sum_by f (range_with_len a (suc n)) ≡ sum_by f (range_with_len a n) + f (a + n)
sum_more f a zero = let e : a + 0 ≡ a = omega arith in rw (sum_by-cons f a (range_with_len (a + 1) zero), e) (omega arith)
sum_more f a (suc n) =
    let e : a + suc n ≡ a + 1 + n = omega arith in
    rw (sum_by-cons f a (range_with_len (a + 1) (suc n)), sum_by-cons f a (range_with_len (a + 1) n), sum_more f (a + 1) n, e) (omega arith)

line_within : (line : ℕ → ℕ) (k a n : ℕ) → line_bits line k a n ≤ 32 * n
line_within line k a zero = omega arith
line_within line k a (suc n) =
    rw (sum_more (λ cell. cond (line cell == k) (bits cell) 0) a n) (omega (arith, line_within line k a n, one (line (a + n) == k)))
  where
    one : (b : Bool) → cond b (bits (a + n)) 0 ≤ 32
    one true = bits-le (a + n)
    one false = omega arith

pub bits_room : (line : ℕ → ℕ) (count a cell k : ℕ) (totals : List ℕ) → AreBits line count a cell totals → k < count → slice_index totals k ≤ 32 * (cell - a)
bits_room line count a cell k totals h low = rw (h.each k low) (line_within line k a (cell - a))

pub bits_more : (line : ℕ → ℕ) (count a cell m n : ℕ) (totals new : List ℕ) → a ≤ cell → m ≡ line cell → m < count → n ≡ bits cell →
    new ≡ slice_set totals m (slice_index totals m + n) → AreBits line count a cell totals → AreBits line count a (cell + 1) new
bits_more line count a cell m n totals new from on low is made before = record {
  long = ap length made ∙ length-set totals m (slice_index totals m + n) ∙ before.long;
  each = λ k here. ⊎_elim (same k here) (other k here) (cases_eq k m);
}
  where
    next : (k : ℕ) → line_bits line k a (cell + 1 - a) ≡ line_bits line k a (cell - a) + cond (line cell == k) (bits cell) 0
    next k =
        let e : cell + 1 - a ≡ suc (cell - a) = omega arith in
        let back : a + (cell - a) ≡ cell = omega arith in
        rw e (sum_more (λ c. cond (line c == k) (bits c) 0) a (cell - a) ∙ ap (λ c. line_bits line k a (cell - a) + cond (line c == k) (bits c) 0) back)

    same : (k : ℕ) → k < count → k ≡ m → slice_index new k ≡ line_bits line k a (cell + 1 - a)
    same k here e =
        let now : slice_index new k ≡ slice_index totals k + n = rw (made, e) (get_or-set_same totals m (slice_index totals m + n) 0 (omega (arith, before.long))) in
        let own : (line cell == k) ≡ true = eq-eqb (line cell) k (sym (e ∙ on)) in
        now ∙ rw (next k, own, is) (ap (λ x. x + bits cell) (before.each k here))

    other : (k : ℕ) → k < count → (k ≡ m → ⊥) → slice_index new k ≡ line_bits line k a (cell + 1 - a)
    other k here ne =
        let now : slice_index new k ≡ slice_index totals k = rw made (get_or-set_other totals m k (slice_index totals m + n) 0 ne) in
        let not_own : (line cell == k) ≡ false = ne_eqb (line cell) k (λ e. ne (sym (on ∙ e))) in
        now ∙ before.each k here ∙ sym (rw (next k, not_own) (omega arith))

-- at the end they are those of all cells
pub bits_end : (line : ℕ → ℕ) (count ram : ℕ) (pc : Bool) (a cell : ℕ) (totals : List ℕ) → a ≡ first_cell pc → cell ≡ 32 + ram → AreBits line count a cell totals →
    (k : ℕ) → k < count → slice_index totals k ≡ bits_where (λ c. line c == k) ram pc
unfolding bits_where cells
bits_end line count ram pc a cell totals begin end h k low =
    h.each k low ∙ rw (begin, end) (sym (sum_filter (λ c. line c == k) bits (cells pc ram)))

-- and with the weights of the jobs they say how many dead sites a line has
pub bits_whole : (line : ℕ → ℕ → ℕ) (l : AccessLog) (ram : ℕ) (pc : Bool) (k n : ℕ) → ((cycle cell : ℕ) → line cycle cell ≡ line 0 cell) → l.ram ≡ ram → l.pc ≡ pc → n ≡ bits_where (λ cell. line 0 cell == k) ram pc →
    weight_where (λ site. line site.cycle site.cell == k) (job_list l) + dead_where l (λ site. line site.cycle site.cell == k) ≡ l.cycles * n
bits_whole line l ram pc k n by_cell is_ram is_pc is =
    ap (λ (test : Site → Bool). weight_where test (job_list l) + dead_where l test) (fun_ext (λ site. ap (λ m. m == k) (by_cell site.cycle site.cell)))
    ∙ cell_whole l (λ cell. line 0 cell == k)
    ∙ rw (is, is_ram, is_pc) refl
