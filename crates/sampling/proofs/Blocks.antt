-- The sites by their numbers: cycles of so many bits, and in each the registers before RAM.
use Rattle.std.proofs.Common.{◌≡◌, ℕ, zero, suc, ◌+◌, ◌-◌, ◌*◌, ◌/◌, ◌%◌, ◌<◌, ◌≤◌, Bool, true, false, List, ◌++◌, length, Some, refl, sym, ap, ◌∙◌, arith, length-append}
use Rattle.std.specs.Prelude.{slice_get, flat_map}
use Rattle.std.specs.List.{range_with_len}
use Rattle.std.proofs.lemmas.Option.{slice_get-get_or}
use Rattle.std.proofs.lemmas.List.Concat.{flat_map-append}
use Rattle.std.proofs.lemmas.List.FromFn.{length-map-range_with_len, get_or-map-range_with_len}
use Rattle.std.proofs.Math.Nat.{div-lt_iff_lt-mul, mod-lt, div-add-mod'}
use Rattle.fs_model.specs.declared.sites.Site.{Site}
use Rattle.fs_model.specs.Cell.{first_cell, bits}
use Rattle.fs_model.specs.Site.{cell_sites, cells, cycle_sites, sites}
use Rattle.fs_model.specs.Laws.{bits_of_all}
use Rattle.fs_model.proofs.Lists.{get_left, get_right}
use Rattle.fs_model.proofs.Numbering.{bits-ram, bits-reg}
use Rattle.fs_model.proofs.SiteList.{first_one}
use Rattle.fs_model.proofs.Space.{range_split, cycle_length, space_size}

-- lists of one length, one behind the other
module _ {X : Type 0} (f : ℕ → List X) (k : ℕ) where
  length_blocks : (a n : ℕ) → ((x : ℕ) → a ≤ x → x < a + n → length (f x) ≡ k) → length (flat_map f (range_with_len a n)) ≡ n * k
  length_blocks a zero each = omega arith
  length_blocks a (suc n) each =
      let h = length_blocks (a + 1) n (λ x lo hi. each x (omega arith) (omega arith)) in
      let e = each a (omega arith) (omega arith) in
      length-append (f a) (flat_map f (range_with_len (a + 1) n)) ∙ rw (e, h) (grind arith)

  get_block : (a n i j at : ℕ) → ((x : ℕ) → a ≤ x → x < a + n → length (f x) ≡ k) → i < n → j < k → at ≡ i * k + j → slice_get (flat_map f (range_with_len a n)) at ≡ slice_get (f (a + i)) j
  get_block a zero i j at each lt low is = absurd (omega arith)
  get_block a (suc n) zero j at each lt low is =
      let e = each a (omega arith) (omega arith) in
      let same : at ≡ j = omega arith in
      let here : a + 0 ≡ a = omega arith in
      rw (same, here) (get_left (f a) (flat_map f (range_with_len (a + 1) n)) j (omega arith))
  get_block a (suc n) (suc i) j at each lt low is =
      let e = each a (omega arith) (omega arith) in
      let more : at ≡ k + (i * k + j) = grind arith in
      let there : at - length (f a) ≡ i * k + j = omega arith in
      let next : a + suc i ≡ a + 1 + i = omega arith in
      get_right (f a) (flat_map f (range_with_len (a + 1) n)) at (omega arith)
      ∙ get_block (a + 1) n i j (at - length (f a)) (λ x lo hi. each x (omega arith) (omega arith)) (omega arith) low there
      ∙ ap (λ (m : ℕ). slice_get (f m) j) (sym next)

-- ---- the bits of a cell

abbrev site : ℕ → ℕ → ℕ → Site
site t cell bit = record { cycle = t; cell = cell; bit = bit }

length_cell : (t cell : ℕ) → length (cell_sites t cell) ≡ bits cell
unfolding cell_sites
length_cell t cell = length-map-range_with_len (λ bit. site t cell bit) 0 (bits cell)

in_cell : (t cell bit : ℕ) → bit < bits cell → slice_get (cell_sites t cell) bit ≡ Some (site t cell bit)
unfolding cell_sites
in_cell t cell bit lt =
    let long = length_cell t cell in
    slice_get-get_or (cell_sites t cell) bit (site t cell bit) (omega (arith, long, lt))
    ∙ ap (λ (s : Site). Some s) (get_or-map-range_with_len (λ b. site t cell b) 0 (bits cell) bit bit (site t cell bit) lt (omega arith))

-- a number in the registers or in RAM names a bit that its cell has
pub bit_of_register : (first rest : ℕ) → rest < 32 * (32 - first) → rest % 32 < bits (first + rest / 32)
bit_of_register first rest lt = let e = bits-reg (first + rest / 32) (omega (arith, lt)) in omega (arith, e)

pub bit_of_byte : (behind : ℕ) → behind % 8 < bits (32 + behind / 8)
bit_of_byte behind = let e = bits-ram (32 + behind / 8) (omega arith) in omega (arith, e)

-- ---- the cells of a cycle: the registers, and then RAM

abbrev registers : Bool → List ℕ
registers pc = range_with_len (first_cell pc) (32 - first_cell pc)

abbrev bytes : ℕ → List ℕ
bytes ram = range_with_len 32 ram

cells_split : (pc : Bool) (ram : ℕ) → cells pc ram ≡ registers pc ++ bytes ram
unfolding cells
cells_split true ram = let e : 32 + ram - 0 ≡ 32 + ram = omega arith in ap (range_with_len 0) e ∙ range_split 0 32 ram
cells_split false ram = let e : 32 + ram - 1 ≡ 31 + ram = omega arith in ap (range_with_len 1) e ∙ range_split 1 31 ram

-- how many bits the registers have, and all cells
abbrev register_bits : Bool → ℕ
register_bits pc = 32 * (32 - first_cell pc)

whole_is : (pc : Bool) (ram : ℕ) → bits_of_all ram pc ≡ register_bits pc + 8 * ram
whole_is true ram = refl
whole_is false ram = refl

module _ (pc : Bool) (ram t : ℕ) where
  halves : cycle_sites pc ram t ≡ flat_map (cell_sites t) (registers pc) ++ flat_map (cell_sites t) (bytes ram)
  unfolding cycle_sites
  halves = ap (flat_map (cell_sites t)) (cells_split pc ram) ∙ flat_map-append (cell_sites t) (registers pc) (bytes ram)

  each_register : (x : ℕ) → first_cell pc ≤ x → x < first_cell pc + (32 - first_cell pc) → length (cell_sites t x) ≡ 32
  each_register x lo hi = length_cell t x ∙ bits-reg x (omega (arith, first_one pc))

  each_byte : (x : ℕ) → 32 ≤ x → x < 32 + ram → length (cell_sites t x) ≡ 8
  each_byte x lo hi = length_cell t x ∙ bits-ram x lo

  length_registers : length (flat_map (cell_sites t) (registers pc)) ≡ register_bits pc
  length_registers = length_blocks (cell_sites t) 32 (first_cell pc) (32 - first_cell pc) each_register ∙ omega arith

  at_register : (rest : ℕ) → rest < register_bits pc → slice_get (cycle_sites pc ram t) rest ≡ Some (site t (first_cell pc + rest / 32) (rest % 32))
  at_register rest lt =
      ap (λ (l : List Site). slice_get l rest) halves
      ∙ get_left (flat_map (cell_sites t) (registers pc)) (flat_map (cell_sites t) (bytes ram)) rest (omega (arith, length_registers, lt))
      ∙ get_block (cell_sites t) 32 (first_cell pc) (32 - first_cell pc) (rest / 32) (rest % 32) rest each_register (omega (arith, lt)) (omega arith) (omega arith)
      ∙ in_cell t (first_cell pc + rest / 32) (rest % 32) (bit_of_register (first_cell pc) rest lt)

  at_byte : (rest : ℕ) → register_bits pc ≤ rest → rest < register_bits pc + 8 * ram → slice_get (cycle_sites pc ram t) rest ≡ Some (site t (32 + (rest - register_bits pc) / 8) ((rest - register_bits pc) % 8))
  at_byte rest low lt =
      let behind = rest - register_bits pc in
      ap (λ (l : List Site). slice_get l rest) halves
      ∙ get_right (flat_map (cell_sites t) (registers pc)) (flat_map (cell_sites t) (bytes ram)) rest (omega (arith, length_registers, low))
      ∙ ap (λ (n : ℕ). slice_get (flat_map (cell_sites t) (bytes ram)) (rest - n)) length_registers
      ∙ get_block (cell_sites t) 8 32 ram (behind / 8) (behind % 8) behind each_byte (omega (arith, low, lt)) (omega arith) (omega arith)
      ∙ in_cell t (32 + behind / 8) (behind % 8) (bit_of_byte behind)

-- ---- the cycles

-- the site of a number, from that in its cycle
in_cycle : (cycles ram : ℕ) (pc : Bool) (index whole : ℕ) (s : Site) → whole ≡ bits_of_all ram pc → 0 < whole → index < length (sites cycles ram pc)
    → slice_get (cycle_sites pc ram (index / whole)) (index % whole) ≡ Some s → slice_get (sites cycles ram pc) index ≡ Some s
unfolding sites
in_cycle cycles ram pc index whole s is some lt here =
    let all = space_size cycles ram pc in
    let fits : index < cycles * whole = omega (arith, all, ap (λ (n : ℕ). cycles * n) is) in
    let early : index / whole < cycles = (div-lt_iff_lt-mul {k = whole} {x = index} {y = cycles} some).1 fits in
    let cut : index ≡ index / whole * whole + index % whole = sym (div-add-mod' index whole) in
    let rest : index % whole < whole = mod-lt index some in
    get_block (cycle_sites pc ram) whole 0 cycles (index / whole) (index % whole) index (λ x lo hi. cycle_length pc ram x ∙ sym is) early rest cut
    ∙ ap (λ (t : ℕ). slice_get (cycle_sites pc ram t) (index % whole)) (let e : 0 + index / whole ≡ index / whole = omega arith in e)
    ∙ here

-- the same, as the function has the numbers
module _ (ram cycles index first whole : ℕ) (pc : Bool) (first_is : first ≡ first_cell pc) (is : whole ≡ 32 * (32 - first) + 8 * ram) (lt : index < length (sites cycles ram pc)) where
  bits_are : whole ≡ bits_of_all ram pc
  bits_are = is ∙ ap (λ (n : ℕ). 32 * (32 - n) + 8 * ram) first_is ∙ sym (whole_is pc ram)

  some : 0 < whole
  some = let few : first_cell pc ≤ 1 = first_one pc in omega (arith, is, first_is, few)

  abbrev place : ℕ → ℕ → Site
  place cell bit = site (index / whole) cell bit

  pub by_register : index % whole < 32 * (32 - first) → slice_get (sites cycles ram pc) index ≡ Some (place (first + index % whole / 32) (index % whole % 32))
  by_register low =
      in_cycle cycles ram pc index whole (place (first + index % whole / 32) (index % whole % 32)) bits_are some lt
      (at_register pc ram (index / whole) (index % whole) (omega (arith, low, first_is))
      ∙ ap (λ (f : ℕ). Some (place (f + index % whole / 32) (index % whole % 32))) (sym first_is))

  pub by_byte : 32 * (32 - first) ≤ index % whole → slice_get (sites cycles ram pc) index ≡ Some (place (32 + (index % whole - 32 * (32 - first)) / 8) ((index % whole - 32 * (32 - first)) % 8))
  by_byte low =
      let within : index % whole < whole = mod-lt index some in
      in_cycle cycles ram pc index whole (place (32 + (index % whole - 32 * (32 - first)) / 8) ((index % whole - 32 * (32 - first)) % 8)) bits_are some lt
      (at_byte pc ram (index / whole) (index % whole) (omega (arith, low, first_is)) (omega (arith, within, is, first_is))
      ∙ ap (λ (f : ℕ). Some (place (32 + (index % whole - 32 * (32 - f)) / 8) ((index % whole - 32 * (32 - f)) % 8))) (sym first_is))
