-- The next row of a file.
use Rattle.std.proofs.Common.{◌≡◌, ℕ, suc, ◌+◌, ◌-◌, ◌*◌, ◌<◌, ◌≤◌, true, List, [], ◌∷◌, ◌++◌, length, take, drop, get_or, Option, Some, None, refl, sym, ◌∙◌, ap, subst, arith}
use Rattle.std.specs.Prelude.{is_some}
use Rattle.std.proofs.lemmas.List.{drop-drop}
use Rattle.keep_format.specs.declared.raw_rows.RawRow.{RawRow}
use Rattle.keep_format.specs.KeepFile.{Batches, raw_row, rows_from, batches_from, onto}
use Rattle.keep_format.proofs.Walks.{walk_end, walk_at_closed, walk_at_end, walk_at_cut, walk_step}
use Rattle.keep_format.specs.RawRows.{raw_rows_of, behind, is_whole_batch, rows_left}

not_below : (a b : ℕ) → (a < b → ⊥) → b ≤ a
not_below a b not = grind arith

none_not : (found : Option Batches) → is_some found ≡ true → found ≡ None → ⊥
none_not None some none = absurd (cc)
none_not (Some found) some none = absurd (cc)

onto_some : (rows : List RawRow) (found : Option Batches) → is_some (onto rows found) ≡ true → is_some found ≡ true
onto_some rows None some = some
onto_some rows (Some found) some = refl

rows_onto : (rows : List RawRow) (found : Option Batches) → is_some found ≡ true → raw_rows_of (onto rows found) ≡ rows ++ raw_rows_of found
rows_onto rows None some = absurd (cc)
rows_onto rows (Some found) some = refl

-- at the end of a batch
module _ (file : List ℕ) (at left : ℕ) (none : left ≡ 0) (whole : is_whole_batch left at file ≡ true) where
  place : at + 10 * left ≡ at
  place = omega (arith, none)

  pub here : is_some (batches_from at 0 (drop at file)) ≡ true
  here = subst (λ (p : ℕ). is_some (batches_from p 0 (drop p file)) ≡ true) place whole

  pub rows_here : rows_left left at file ≡ raw_rows_of (batches_from at 0 (drop at file))
  rows_here =
      ap (λ (n : ℕ). rows_from n at (drop at file) ++ raw_rows_of (behind left at file)) none
      ∙ ap (λ (p : ℕ). raw_rows_of (batches_from p 0 (drop p file))) place

  pub gate_there : at < length file
  gate_there =
      let long = not_below (length file) (at + 1) (λ (short : length file < at + 1). none_not (batches_from at 0 (drop at file)) here (walk_end file at (omega (arith, short)))) in
      omega (arith, long)

  pub no_more : (get_or file at 0 ≡ 0xA5 → ⊥) → rows_left left at file ≡ []
  no_more shut = rows_here ∙ ap raw_rows_of (walk_at_closed file at gate_there shut)

  module _ (opened : get_or file at 0 ≡ 0xA5) where
    pub count_there : at + 3 ≤ length file
    count_there =
        let long = not_below (length file - at) 3 (λ (short : length file - at < 3). none_not (batches_from at 0 (drop at file)) here (walk_at_end file at gate_there opened short)) in
        omega arith

    module _ (count : ℕ) (counts : count ≡ get_or file (at + 1) 0 + get_or file (at + 1 + 1) 0 * 256) where
      pub rows_there : at + 3 + 10 * count ≤ length file
      rows_there =
          let long = not_below (length file - at - 3) (10 * count) (λ (short : length file - at - 3 < 10 * count). none_not (batches_from at 0 (drop at file)) here (walk_at_cut file at count gate_there opened counts short)) in
          let there = count_there in
          omega arith

      next : at + (3 + 10 * count) ≡ at + 3 + 10 * count
      next = omega arith

      step : batches_from at 0 (drop at file) ≡ onto (rows_from count (at + 3) (drop (at + 3) file)) (behind count (at + 3) file)
      step = walk_step file at count gate_there opened counts
          ∙ ap (λ (p : ℕ). onto (rows_from count (at + 3) (drop (at + 3) file)) (batches_from p 0 (drop p file))) next

      pub whole_there : is_whole_batch count (at + 3) file ≡ true
      whole_there = onto_some (rows_from count (at + 3) (drop (at + 3) file)) (behind count (at + 3) file) (ap is_some (sym step) ∙ here)

      pub same_rows : rows_left left at file ≡ rows_left count (at + 3) file
      same_rows = rows_here ∙ ap raw_rows_of step ∙ rows_onto (rows_from count (at + 3) (drop (at + 3) file)) (behind count (at + 3) file) whole_there

-- within a batch
module _ (file : List ℕ) (at left : ℕ) (some : 0 < left) where
  one : left ≡ suc (left - 1)
  one = omega arith

  later : at + 10 * left ≡ at + 10 + 10 * (left - 1)
  later = omega arith

  pub within_more : at + 10 * left ≤ length file → at + 10 + 10 * (left - 1) ≤ length file
  within_more within = omega arith

  pub whole_more : is_whole_batch left at file ≡ true → is_whole_batch (left - 1) (at + 10) file ≡ true
  whole_more whole = subst (λ (p : ℕ). is_some (batches_from p 0 (drop p file)) ≡ true) later whole

  pub first_row : rows_left left at file ≡ raw_row at (take 10 (drop at file)) ∷ rows_left (left - 1) (at + 10) file
  first_row =
      ap (λ (n : ℕ). rows_from n at (drop at file) ++ raw_rows_of (behind left at file)) one
      ∙ ap (λ (l : List ℕ). raw_row at (take 10 (drop at file)) ∷ (rows_from (left - 1) (at + 10) l ++ raw_rows_of (behind left at file))) (drop-drop 10 at file)
      ∙ ap (λ (p : ℕ). raw_row at (take 10 (drop at file)) ∷ (rows_from (left - 1) (at + 10) (drop (at + 10) file) ++ raw_rows_of (batches_from p 0 (drop p file)))) later
