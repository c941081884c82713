-- Machines that differ in one bit of one cell, and in registers that are not live.
use Rattle.std.proofs.Common.{⊎_elim, Option, Some, None, ◌≡◌, ℕ, ◌+◌, ◌-◌, ◌<◌, ◌≤◌, ◌==◌, Bool, true, false, if◌then◌else◌, List, [], ◌∷◌, length, slice_index, refl, sym, ap, subst, ◌∙◌, arith}
use Rattle.std.specs.Prelude.{◌^◌, nat_lt, bit_xor, is_some, slice_set, IfNone}
use Rattle.std.specs.Int.{bit_at}
use Rattle.std.proofs.lemmas.Bool.{cases_eq, cases_lt}
use Rattle.std.proofs.lemmas.List.{get_or-set_other, get_or-set_same}
use Rattle.std.proofs.lemmas.Bool.Decides.{nat_tests}
use Rattle.fs_model.specs.declared.sites.Cell.TheVariants.{Reg, Ram}
use Rattle.fs_model.specs.Case.{CaseData}
use Rattle.fs_model.specs.Machine.{Core, IsCore}
use Rattle.fs_model.specs.Cell.{IsCell, cell_at, flip}
use Rattle.fs_model.proofs.SiteList.{first_one}
use Rattle.fs_model.specs.Run.{ending}
use Rattle.dead_cells.specs.Live.{IsLiveness}
use Rattle.dead_cells.proofs.Live.{live_end}
use Rattle.dead_cells.proofs.Sites.{flip_core}
use Rattle.live_registers.specs.Masks.{LiveData, mask_at, live_of}
use Rattle.known_states.specs.declared.changes.Change.{Change}
use Rattle.known_states.specs.Changes.{changed}
use Rattle.known_states.specs.Live.{live_only}

cell_at-reg : (n : ℕ) → 1 ≤ n → n < 32 → cell_at n ≡ Reg n
unfolding cell_at
cell_at-reg n h l =
    let a : (n == 0) ≡ false = grind (arith, nat_tests) in
    let b : nat_lt n 32 ≡ true = grind (arith, nat_tests) in
    rw (a, b) refl

cell_at-ram : (d : ℕ) → cell_at (d + 32) ≡ Ram d
unfolding cell_at
cell_at-ram d =
    let a : (d + 32 == 0) ≡ false = grind (arith, nat_tests) in
    let b : nat_lt (d + 32) 32 ≡ false = grind (arith, nat_tests) in
    let e : d + 32 - 32 ≡ d = omega arith in
    rw (a, b, e) refl

flip_reg : (base : Core) (k bit : ℕ) → 1 ≤ k → k < 32 → flip base k bit ≡ record base { regs = slice_set base.regs k (bit_xor (slice_index base.regs k) (2 ^ bit)) }
unfolding flip
flip_reg base k bit low high = rw (cell_at-reg k low high) refl

flip_ram : (base : Core) (cell d bit : ℕ) → cell ≡ d + 32 → flip base cell bit ≡ record base { ram = slice_set base.ram d (bit_xor (slice_index base.ram d) (2 ^ bit)) }
unfolding flip
flip_ram base cell d bit is = rw (is, cell_at-ram d) refl

-- the numbers of registers and of bytes are those of cells
pub register_cell : (c : CaseData) (k : ℕ) → 1 ≤ k → k < 32 → IsCell c k
register_cell c k low high = let first = first_one c.pc_cell in (omega (arith, first, low), omega (arith, high))

pub byte_is_cell : (c : CaseData) (d : ℕ) → d < length c.ram → IsCell c (d + 32)
byte_is_cell c d low = let first = first_one c.pc_cell in (omega (arith, first), omega (arith, low))

-- ---- registers that are the same but for one

if_none : {X : Type 0} (P : Type 0) (r : Option X) → is_some r ≡ false → IfNone r P → P
if_none P None e h = h
if_none P (Some x) e h = absurd cc

-- those below it and those above it are, and it was set to what it holds
pub all_but_one : {X : Type 0} (mask : ℕ) (now base : List ℕ) (k v : ℕ) (r : Option X) → k < length base → slice_index now k ≡ v
    → ((j : ℕ) → j < k → live_only mask now j ≡ live_only mask base j)
    → is_some r ≡ false → IfNone r ((j : ℕ) → k + 1 ≤ j → j < 32 → live_only mask now j ≡ live_only mask base j)
    → (j : ℕ) → j < 32 → live_only mask now j ≡ live_only mask (slice_set base k v) j
all_but_one mask now base k v r few is below none rest j low = ⊎_elim same other (cases_eq j k)
  where
    above : (j : ℕ) → k + 1 ≤ j → j < 32 → live_only mask now j ≡ live_only mask base j
    above = if_none _ r none rest

    same : j ≡ k → live_only mask now j ≡ live_only mask (slice_set base k v) j
    same e = let held : slice_index now j ≡ slice_index (slice_set base k v) j = rw e (is ∙ sym (get_or-set_same base k v 0 few)) in
        ap (λ (x : ℕ). if bit_at mask j == 1 then x else 0) held

    other : (j ≡ k → ⊥) → live_only mask now j ≡ live_only mask (slice_set base k v) j
    other not =
        let kept : slice_index base j ≡ slice_index (slice_set base k v) j = sym (get_or-set_other base k j v 0 not) in
        ⊎_elim (λ (h : j < k). below j h) (λ (h : k ≤ j). above j (omega (arith, not, h)) low) (cases_lt j k)
        ∙ ap (λ (x : ℕ). if bit_at mask j == 1 then x else 0) kept

-- ---- machines that hold the same, but for registers that are not live

module _ (c : CaseData) (l : LiveData) (is : IsLiveness c (live_of l)) where
  pub same_ends : (now other : Core) → IsCore c now → IsCore c other → now.pc ≡ other.pc → now.ram ≡ other.ram
      → ((j : ℕ) → j < 32 → live_only (mask_at l other.pc) now.regs j ≡ live_only (mask_at l other.pc) other.regs j)
      → (n : ℕ) (output : List ℕ) → ending c n (record { core = now; output = output }) ≡ ending c n (record { core = other; output = output })
  unfolding live_of
  same_ends now other s g pc ram each n output =
      live_end c (live_of l) (record { core = now; output = output }) (record { core = other; output = output }) n is
      (record {
        is_core = s;
        other_core = g;
        pc = pc;
        ram = ram;
        regs = λ j low few on. sym (ap (λ (b : Bool). if b then slice_index now.regs j else 0) on) ∙ each j few ∙ ap (λ (b : Bool). if b then slice_index other.regs j else 0) on;
      }) refl

  pub ends_reg : (base now : Core) (k bit : ℕ) → IsCore c base → IsCore c now → 1 ≤ k → k < 32 → now.pc ≡ base.pc → now.ram ≡ base.ram
      → ((j : ℕ) → j < 32 → live_only (mask_at l base.pc) now.regs j ≡ live_only (mask_at l base.pc) (slice_set base.regs k (bit_xor (slice_index base.regs k) (2 ^ bit))) j)
      → (n : ℕ) (output : List ℕ) → ending c n (record { core = now; output = output }) ≡ ending c n (record { core = flip base k bit; output = output })
  ends_reg base now k bit b s low high pc ram each n output =
      let flips = flip_reg base k bit low high in
      let other : Core = record base { regs = slice_set base.regs k (bit_xor (slice_index base.regs k) (2 ^ bit)) } in
      same_ends now other s (subst (IsCore c) flips (flip_core c base k bit low b)) pc ram each n output
      ∙ ap (λ (x : Core). ending c n (record { core = x; output = output })) (sym flips)

  pub ends_ram : (base now : Core) (cell d bit : ℕ) → cell ≡ d + 32 → IsCore c base → IsCore c now → now.pc ≡ base.pc → now.ram ≡ slice_set base.ram d (bit_xor (slice_index base.ram d) (2 ^ bit))
      → ((j : ℕ) → j < 32 → live_only (mask_at l base.pc) now.regs j ≡ live_only (mask_at l base.pc) base.regs j)
      → (n : ℕ) (output : List ℕ) → ending c n (record { core = now; output = output }) ≡ ending c n (record { core = flip base cell bit; output = output })
  ends_ram base now cell d bit at b s pc ram each n output =
      let flips = flip_ram base cell d bit at in
      let other : Core = record base { ram = slice_set base.ram d (bit_xor (slice_index base.ram d) (2 ^ bit)) } in
      same_ends now other s (subst (IsCore c) flips (flip_core c base cell bit (omega (arith, at)) b)) pc ram each n output
      ∙ ap (λ (x : Core). ending c n (record { core = x; output = output })) (sym flips)

-- no byte is changed
pub unchanged : (bytes now : List ℕ) (xs : List Change) → changed bytes xs ≡ now → xs ≡ [] → now ≡ bytes
unfolding changed
unchanged bytes now xs h e = sym h ∙ ap (changed bytes) e

-- one byte is
pub one_changed : (bytes now : List ℕ) (xs : List Change) (x : Change) (byte : ℕ) → changed bytes xs ≡ now → xs ≡ x ∷ [] → x.byte ≡ byte → now ≡ slice_set bytes x.place byte
unfolding changed
one_changed bytes now xs x byte h e is = sym h ∙ ap (changed bytes) e ∙ ap (slice_set bytes x.place) is
