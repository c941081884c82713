-- RAM by blocks: what a loop over them keeps.
use Rattle.std.proofs.Common.{ℕ, ◌≡◌, ◌+◌, ◌-◌, ◌%◌, ◌<◌, ◌≤◌, List, length, get_or, slice_index, sym, ap, ◌∙◌, arith}
use Rattle.std.specs.List.{between}
use Rattle.std.proofs.lemmas.List.{ext_get_or}
use Rattle.std.proofs.lemmas.List.Edits.{get_or-between}

-- a loop that takes over one block after the other has come to `at`
pub record Copied (old from : List ℕ) (at : ℕ) (new : List ℕ) : Type 0 where
  pub same_length : length new ≡ length from
  pub start : at % 512 ≡ 0
  pub taken : (p : ℕ) → p < at → p < length from → slice_index new p ≡ slice_index from p
  pub rest : (p : ℕ) → at ≤ p → slice_index new p ≡ slice_index old p

-- a loop that compares one block after the other has come to `at`
pub record Compared (ram other : List ℕ) (at : ℕ) : Type 0 where
  pub start : at % 512 ≡ 0
  pub same : (p : ℕ) → p < at → p < length ram → slice_index ram p ≡ slice_index other p

-- two slices are the same: so are their places
pub same_places : (ram other : List ℕ) (at end : ℕ) → between at end ram ≡ between at end other → (p : ℕ) → at ≤ p → p < end → get_or ram p 0 ≡ get_or other p 0
same_places ram other at end e p low high =
    let is : at + (p - at) ≡ p = omega (arith, low) in
    let a : get_or (between at end ram) (p - at) 0 ≡ get_or ram (at + (p - at)) 0 = get_or-between ram at end (p - at) 0 (omega (arith, is, high)) in
    let b : get_or (between at end other) (p - at) 0 ≡ get_or other (at + (p - at)) 0 = get_or-between other at end (p - at) 0 (omega (arith, is, high)) in
    ap (λ (i : ℕ). get_or ram i 0) (sym is) ∙ sym a ∙ ap (λ (l : List ℕ). get_or l (p - at) 0) e ∙ b ∙ ap (λ (i : ℕ). get_or other i 0) is

-- all blocks were compared
pub all_same : (ram other : List ℕ) (at : ℕ) → Compared ram other at → length ram ≤ at → length ram ≡ length other → ram ≡ other
all_same ram other at h all long = ext_get_or 0 ram other long (λ p low. h.same p (omega (arith, low, all)) low)
