-- A machine that differs from another one in some cells is that one with other values in these.
use Rattle.std.proofs.Common.{ℕ, zero, suc, ◌≡◌, ◌≢◌, ◌+◌, ◌-◌, ◌<◌, ◌≤◌, ◌==◌, Bool, true, false, if◌then◌else◌, List, [], ◌∷◌, length, slice_index, arith, refl, sym, ap, ◌∙◌, ⊎_elim}
use Rattle.std.specs.Prelude.{nat_lt}
use Rattle.std.proofs.lemmas.Bool.{cases_eq, eqb-true}
use Rattle.std.proofs.lemmas.Bool.Decides.{nat_tests}
use Rattle.std.proofs.lemmas.List.{length-set, get_or-set_same, get_or-set_other, ext_get_or}
use Rattle.fs_model.specs.declared.sites.Cell.{Cell}
use Rattle.fs_model.specs.declared.sites.Cell.TheVariants.{Pc, Reg, Ram}
use Rattle.fs_model.specs.Machine.{Core}
use Rattle.fs_model.specs.Cell.{cell_at, IsNumber, held, with_held, with_cell}
use Rattle.fs_model.proofs.Numbering.{number_is}
use Rattle.dead_cells.specs.Differs.{Patch, patched}

-- ---- what cells hold after one is set

pub cell_at-reg : (n : ℕ) → 1 ≤ n → n < 32 → cell_at n ≡ Reg n
unfolding cell_at
cell_at-reg n h l =
    let a : (n == 0) ≡ false = grind (arith, nat_tests) in
    let b : nat_lt n 32 ≡ true = grind (arith, nat_tests) in
    rw (a, b) refl

pub cell_at-ram : (d : ℕ) → cell_at (32 + d) ≡ Ram d
unfolding cell_at
cell_at-ram d =
    let a : (32 + d == 0) ≡ false = grind (arith, nat_tests) in
    let b : nat_lt (32 + d) 32 ≡ false = grind (arith, nat_tests) in
    let e : 32 + d - 32 ≡ d = omega arith in
    rw (a, b, e) refl

-- as many registers and bytes
pub record SameSize (s g : Core) : Type 0 where
  pub regs : length s.regs ≡ length g.regs
  pub ram : length s.ram ≡ length g.ram

same_here : (s : Core) (cell v : ℕ) (p : Cell) → IsNumber p cell → 1 ≤ cell → length s.regs ≡ 32 → cell < 32 + length s.ram → held (with_held s p v) p ≡ v
same_here s cell v Pc n low regs few = refl
same_here s cell v (Reg k) n low regs few = get_or-set_same s.regs k v 0 (let e : k ≡ cell = n.0 in let l : cell < 32 = n.2 in omega arith)
same_here s cell v (Ram d) n low regs few = get_or-set_same s.ram d v 0 (let e : cell ≡ 32 + d = n in omega arith)

same_else : (s : Core) (cell other v : ℕ) (p q : Cell) → IsNumber p cell → IsNumber q other → other ≢ cell → 1 ≤ other → held (with_held s p v) q ≡ held s q
same_else s cell other v p Pc n m differ low = absurd (let e : other ≡ 0 = m in omega arith)
same_else s cell other v Pc (Reg j) n m differ low = refl
same_else s cell other v (Reg k) (Reg j) n m differ low = get_or-set_other s.regs k j v 0 (let e : k ≡ cell = n.0 in let f : j ≡ other = m.0 in λ h. differ (omega arith))
same_else s cell other v (Ram d) (Reg j) n m differ low = refl
same_else s cell other v Pc (Ram x) n m differ low = refl
same_else s cell other v (Reg k) (Ram x) n m differ low = refl
same_else s cell other v (Ram d) (Ram x) n m differ low = get_or-set_other s.ram d x v 0 (let e : cell ≡ 32 + d = n in let f : other ≡ 32 + x = m in λ h. differ (omega arith))

pub held_here : (s : Core) (cell v : ℕ) → 1 ≤ cell → length s.regs ≡ 32 → cell < 32 + length s.ram → held (with_cell s cell v) (cell_at cell) ≡ v
unfolding with_cell
held_here s cell v low regs few = same_here s cell v (cell_at cell) (number_is cell) low regs few

pub held_else : (s : Core) (cell other v : ℕ) → other ≢ cell → 1 ≤ other → held (with_cell s cell v) (cell_at other) ≡ held s (cell_at other)
unfolding with_cell
held_else s cell other v differ low = same_else s cell other v (cell_at cell) (cell_at other) (number_is cell) (number_is other) differ low

-- the pc and register 0 are no such cells
pub record Keeps (s g : Core) : Type 0 where
  pub size : SameSize s g
  pub pc : s.pc ≡ g.pc
  pub zero_reg : slice_index s.regs 0 ≡ slice_index g.regs 0

keeps_at : (s : Core) (cell v : ℕ) (p : Cell) → IsNumber p cell → 1 ≤ cell → Keeps (with_held s p v) s
keeps_at s cell v Pc n low = absurd (let e : cell ≡ 0 = n in omega arith)
keeps_at s cell v (Reg k) n low = record {
  size = record { regs = length-set s.regs k v; ram = refl };
  pc = refl;
  zero_reg = get_or-set_other s.regs k 0 v 0 (let e : k ≡ cell = n.0 in λ h. (let z : 0 ≡ k = h in omega arith));
}
keeps_at s cell v (Ram d) n low = record { size = record { regs = refl; ram = length-set s.ram d v }; pc = refl; zero_reg = refl }

pub with_cell_keeps : (s : Core) (cell v : ℕ) → 1 ≤ cell → Keeps (with_cell s cell v) s
unfolding with_cell
with_cell_keeps s cell v low = keeps_at s cell v (cell_at cell) (number_is cell) low

-- ---- machines that hold the same

core_is : (s g : Core) → s.pc ≡ g.pc → s.regs ≡ g.regs → s.ram ≡ g.ram → s ≡ g
core_is s g p r m = ap (λ pc. record { pc = pc; regs = s.regs; ram = s.ram }) p ∙ ap (λ (regs : List ℕ). record { pc = g.pc; regs = regs; ram = s.ram }) r ∙ ap (λ (ram : List ℕ). record { pc = g.pc; regs = g.regs; ram = ram }) m

pub core_ext : (s g : Core) → Keeps s g → length s.regs ≡ 32 → ((cell : ℕ) → 1 ≤ cell → cell < 32 + length s.ram → held s (cell_at cell) ≡ held g (cell_at cell)) → s ≡ g
core_ext s g keeps regs same = core_is s g keeps.pc (ext_get_or 0 s.regs g.regs keeps.size.regs at_reg) (ext_get_or 0 s.ram g.ram keeps.size.ram at_byte)
  where
    at_reg : (i : ℕ) → i < length s.regs → slice_index s.regs i ≡ slice_index g.regs i
    at_reg zero h = keeps.zero_reg
    at_reg (suc i) h =
        let few : suc i < 32 = omega arith in
        rw (cell_at-reg (suc i) (omega arith) few) at (same (suc i) (omega arith) (omega arith))

    at_byte : (i : ℕ) → i < length s.ram → slice_index s.ram i ≡ slice_index g.ram i
    at_byte i h = rw (cell_at-ram i) at (same (32 + i) (omega arith) (omega arith))

-- ---- the cells that differ

-- those of the first m cells
unfoldable pub diffs : Core → Core → ℕ → List Patch
diffs s g zero = []
diffs s g (suc m) = if held s (cell_at (suc m)) == held g (cell_at (suc m)) then diffs s g m else record { cell = suc m; value = held s (cell_at (suc m)) } ∷ diffs s g m

-- x holds what s holds in the first m cells, and what g holds in the others
record IsMix (s g : Core) (m : ℕ) (x : Core) : Type 0 where
  keeps : Keeps x g
  below : (cell : ℕ) → 1 ≤ cell → cell ≤ m → held x (cell_at cell) ≡ held s (cell_at cell)
  above : (cell : ℕ) → 1 ≤ cell → m < cell → held x (cell_at cell) ≡ held g (cell_at cell)

mix_same : (s g x : Core) (m : ℕ) → IsMix s g m x → held s (cell_at (suc m)) ≡ held g (cell_at (suc m)) → IsMix s g (suc m) x
mix_same s g x m mix e = record {
  keeps = mix.keeps;
  below = λ cell low few. ⊎_elim
      (λ (a : cell ≡ suc m). rw a (mix.above (suc m) (omega arith) (omega arith) ∙ sym e))
      (λ (a : cell ≡ suc m → ⊥). mix.below cell low (let differ : cell ≢ suc m = a in omega arith))
      (cases_eq cell (suc m));
  above = λ cell low many. mix.above cell low (omega arith);
}

mix_set : (s g x : Core) (m : ℕ) → IsMix s g m x → length g.regs ≡ 32 → suc m < 32 + length g.ram → IsMix s g (suc m) (with_cell x (suc m) (held s (cell_at (suc m))))
mix_set s g x m mix regs few = record {
  keeps = record {
    size = record { regs = now.size.regs ∙ mix.keeps.size.regs; ram = now.size.ram ∙ mix.keeps.size.ram };
    pc = now.pc ∙ mix.keeps.pc;
    zero_reg = now.zero_reg ∙ mix.keeps.zero_reg;
  };
  below = λ cell low up. ⊎_elim
      (λ (a : cell ≡ suc m). rw a (held_here x (suc m) v (omega arith) (mix.keeps.size.regs ∙ regs) (let e = mix.keeps.size.ram in omega arith)))
      (λ (a : cell ≡ suc m → ⊥). held_else x (suc m) cell v a low ∙ mix.below cell low (let differ : cell ≢ suc m = a in omega arith))
      (cases_eq cell (suc m));
  above = λ cell low many. held_else x (suc m) cell v (let differ : cell ≢ suc m = omega arith in differ) low ∙ mix.above cell low (omega arith);
}
  where
    v : ℕ
    v = held s (cell_at (suc m))

    now : Keeps (with_cell x (suc m) v) x
    now = with_cell_keeps x (suc m) v (omega arith)

mix : (s g : Core) → length g.regs ≡ 32 → (m : ℕ) → m < 32 + length g.ram → IsMix s g m (patched g (diffs s g m))
unfolding patched diffs
mix s g regs zero few = record {
  keeps = record { size = record { regs = refl; ram = refl }; pc = refl; zero_reg = refl };
  below = λ cell low up. absurd (omega arith);
  above = λ cell low up. refl;
}
mix s g regs (suc m) few = by (held s (cell_at (suc m)) == held g (cell_at (suc m))) refl (mix s g regs m (omega arith))
  where
    by : (b : Bool) → (held s (cell_at (suc m)) == held g (cell_at (suc m))) ≡ b → IsMix s g m (patched g (diffs s g m)) →
        IsMix s g (suc m) (patched g (if b then diffs s g m else record { cell = suc m; value = held s (cell_at (suc m)) } ∷ diffs s g m))
    by true e rest = mix_same s g (patched g (diffs s g m)) m rest (eqb-true _ _ e)
    by false e rest = mix_set s g (patched g (diffs s g m)) m rest regs few

-- s is g with other values in the cells that differ
pub is_patched : (s g : Core) → Keeps s g → length s.regs ≡ 32 → s ≡ patched g (diffs s g (31 + length g.ram))
is_patched s g keeps regs = core_ext s (patched g (diffs s g (31 + length g.ram))) back regs (λ cell low few. sym (all.below cell low (let e = keeps.size.ram in omega arith)))
  where
    all : IsMix s g (31 + length g.ram) (patched g (diffs s g (31 + length g.ram)))
    all = mix s g (sym keeps.size.regs ∙ regs) (31 + length g.ram) (omega arith)

    back : Keeps s (patched g (diffs s g (31 + length g.ram)))
    back = record {
      size = record { regs = keeps.size.regs ∙ sym all.keeps.size.regs; ram = keeps.size.ram ∙ sym all.keeps.size.ram };
      pc = keeps.pc ∙ sym all.keeps.pc;
      zero_reg = keeps.zero_reg ∙ sym all.keeps.zero_reg;
    }
