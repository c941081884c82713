-- The masks of the words of ROM, as a liveness.
use Rattle.std.proofs.Common.{ℕ, ◌≡◌, ◌+◌, ◌-◌, ◌*◌, ◌/◌, ◌%◌, ◌<◌, ◌≤◌, ◌==◌, ◌&&◌, nat_le, Bool, true, false, if◌then◌else◌, Option, Some, None, List, [], length, slice_index, slice_index_or, refl, sym, ap, subst, ◌∙◌, ⊎_elim, arith}
use Rattle.std.specs.Prelude.{bit_or}
use Rattle.std.specs.Int.{bit_at}
use Rattle.std.proofs.lemmas.Bool.{cases_lt}
use Rattle.std.proofs.lemmas.Bool.Decides.{nat_tests}
use Rattle.std.proofs.lemmas.List.{get_or_past, get_or_default}
use Rattle.std.proofs.lemmas.Nat.Bits.{bit_at_ones}
use Rattle.fs_model.specs.declared.instructions.Instr.{Instr}
use Rattle.fs_model.specs.declared.instructions.Size.TheVariants.{Word}
use Rattle.fs_model.specs.Case.{CaseData, IsCase}
use Rattle.fs_model.specs.Decode.{decode}
use Rattle.fs_model.specs.Memory.{is_aligned, number_at, place_in}
use Rattle.fs_model.specs.Machine.{rom_place}
use Rattle.dead_cells.specs.Live.{Liveness, IsRomLiveness, IsLiveness}
use Rattle.dead_cells.proofs.Live.{rom_liveness}
use Rattle.live_registers.specs.Masks.{LiveData, all_live, mask_at, live_of, IsIdleFor, CoversWord}
use Rattle.live_registers.proofs.Bits.{off_is, within}

-- ---- one pass

-- the mask of the word covers what the word needs
pub covers_more : (c : CaseData) (live : Liveness) (j needed mask : ℕ) → CoversWord c live j needed → (mask ≡ bit_or mask needed) → CoversWord c live j mask
covers_more c live j needed mask h same = record { each = λ i is k few off. h.each i is k few (within mask needed k (sym same) off) }

-- ---- the mask at an address

pub all_is : (k : ℕ) → k < 32 → (bit_at all_live k == 1) ≡ true
all_is k few = let e : bit_at all_live k ≡ 1 = bit_at_ones 32 k few in ap (λ (n : ℕ). n == 1) e

live_all : (l : LiveData) (pc k : ℕ) → k < 32 → mask_at l pc ≡ all_live → live_of l pc k ≡ true
unfolding live_of
live_all l pc k few e = ap (λ (n : ℕ). bit_at n k == 1) e ∙ all_is k few

past : (masks : List ℕ) (d : ℕ) → (d % 4 ≡ 0 → length masks ≤ d / 4) → (if d % 4 == 0 then slice_index_or masks (d / 4) all_live else all_live) ≡ all_live
past masks d h = by (d % 4 == 0) refl
  where
    by : (b : Bool) → (d % 4 == 0) ≡ b → (if b then slice_index_or masks (d / 4) all_live else all_live) ≡ all_live
    by true e = let even : d % 4 ≡ 0 = grind (arith, nat_tests) in get_or_past masks (d / 4) all_live (h even)
    by false e = refl

-- outside of ROM
mask_out : (base pc : ℕ) (masks rom : List ℕ) → 4 * length masks ≡ length rom → place_in base rom 4 pc ≡ None → mask_at (record { base = base; masks = masks }) pc ≡ all_live
unfolding mask_at
mask_out base pc masks rom size none = ⊎_elim
    (λ (h : pc < base). let off : nat_le base pc ≡ false = grind (arith, nat_tests) in rw off refl)
    (λ (h : base ≤ pc).
    let on : nat_le base pc ≡ true = grind (arith, nat_tests) in
    ⊎_elim
    (λ (q : length rom < pc - base + 4). rw on (past masks (pc - base) (λ even. omega (arith, even, size, q))))
    (λ (q : pc - base + 4 ≤ length rom).
    let in_ : nat_le (pc - base + 4) (length rom) ≡ true = grind (arith, nat_tests) in
    let none' : Some (pc - base) ≡ None = rw (on, in_) at none in
    absurd cc)
    (cases_lt (length rom) (pc - base + 4)))
    (cases_lt pc base)

-- at word j of ROM
mask_in : (base j : ℕ) (masks : List ℕ) → j < length masks → mask_at (record { base = base; masks = masks }) (base + 4 * j) ≡ slice_index masks j
unfolding mask_at
mask_in base j masks low =
    let d : base + 4 * j - base ≡ 4 * j = omega arith in
    let on : nat_le base (base + 4 * j) ≡ true = grind (arith, nat_tests) in
    let even : (4 * j % 4 == 0) ≡ true = grind (arith, nat_tests) in
    let word : 4 * j / 4 ≡ j = omega arith in
    rw (on, d, even, word) (get_or_default masks j all_live 0 low)

-- a place in ROM
pub record IsPlace (base size at p : ℕ) : Type 0 where
  pub from : base ≤ at
  pub to : at - base + 4 ≤ size
  pub is : p ≡ at - base

place_is : (base at p : ℕ) (bytes : List ℕ) → place_in base bytes 4 at ≡ Some p → IsPlace base (length bytes) at p
place_is base at p bytes h = by (nat_le base at) (nat_le (at - base + 4) (length bytes)) refl refl h
  where
    by : (a b : Bool) → nat_le base at ≡ a → nat_le (at - base + 4) (length bytes) ≡ b → (if a && b then Some (at - base) else None) ≡ Some p → IsPlace base (length bytes) at p
    by true true e f g = record { from = grind (arith, nat_tests); to = grind (arith, nat_tests); is = cc }
    by true false e f g = absurd cc
    by false b e f g = absurd cc

-- ---- the liveness

module _ (c : CaseData) (masks : List ℕ) (case : IsCase c) (size : 4 * length masks ≡ length c.rom) where
  abbrev l : LiveData
  l = record { base = c.rom_base; masks = masks }

  inside : ((j : ℕ) → j < length masks → CoversWord c (live_of l) j (slice_index masks j)) → (pc p k : ℕ) (i : Instr)
      → is_aligned Word pc ≡ true → rom_place c Word pc ≡ Some p → decode (number_at Word c.rom p) ≡ Some i → k < 32 → live_of l pc k ≡ false → IsIdleFor (live_of l) i pc k
  unfolding live_of
  inside each pc p k i aligned place d few idle =
      let is = place_is c.rom_base pc p c.rom place in
      let from = is.from in
      let to = is.to in
      let even : pc % 4 ≡ 0 = grind (arith, nat_tests) in
      let base : c.rom_base % 4 ≡ 0 = case.map.rom_base_aligned in
      let j : ℕ = (pc - c.rom_base) / 4 in
      let p_is : p ≡ 4 * ((pc - c.rom_base) / 4) = omega (arith, is.is) in
      let pc_is : pc ≡ c.rom_base + 4 * ((pc - c.rom_base) / 4) = omega arith in
      let low : (pc - c.rom_base) / 4 < length masks = omega arith in
      let mask : mask_at l pc ≡ slice_index masks j = ap (mask_at l) pc_is ∙ mask_in c.rom_base j masks low in
      let off : bit_at (slice_index masks j) k ≡ 0 = ap (λ (n : ℕ). bit_at n k) (sym mask) ∙ off_is (mask_at l pc) k idle in
      let d' : decode (number_at Word c.rom (4 * j)) ≡ Some i = subst (λ (x : ℕ). decode (number_at Word c.rom x) ≡ Some i) p_is d in
      subst (λ (x : ℕ). IsIdleFor (live_of l) i x k) (sym pc_is) ((each j low).each i d' k few off)

  pub settled : ((j : ℕ) → j < length masks → CoversWord c (live_of l) j (slice_index masks j)) → IsRomLiveness c (live_of l)
  settled each = record {
    outside = λ pc k low few none. live_all l pc k few (mask_out c.rom_base pc masks c.rom size none);
    inside = λ pc p k i aligned place d low few idle. let h = inside each pc p k i aligned place d few idle in (h.unread, h.after);
  }

-- with no masks all registers are live
mask_none : (base pc : ℕ) (masks : List ℕ) → masks ≡ [] → mask_at (record { base = base; masks = masks }) pc ≡ all_live
unfolding mask_at
mask_none base pc masks e = by (nat_le base pc)
  where
    by : (a : Bool) → (if a && (pc - base) % 4 == 0 then slice_index_or masks ((pc - base) / 4) all_live else all_live) ≡ all_live
    by true = past masks (pc - base) (λ even. let none : length masks ≡ 0 = ap length e in omega arith)
    by false = refl

pub trivial : (c : CaseData) (base : ℕ) (masks : List ℕ) → masks ≡ [] → IsLiveness c (live_of (record { base = base; masks = masks }))
trivial c base masks e =
    rom_liveness c (live_of (record { base = base; masks = masks })) (record {
      outside = λ pc k low few none. live_all (record { base = base; masks = masks }) pc k few (mask_none base pc masks e);
      inside = λ pc p k i aligned place d low few idle. absurd (let on = live_all (record { base = base; masks = masks }) pc k few (mask_none base pc masks e) in cc);
    })
