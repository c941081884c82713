-- A step of a later round, by its effect and that of the first round.
use Rattle.std.proofs.Common.{◌≡◌, ◌≢◌, ℕ, ◌+◌, ◌-◌, ◌*◌, ◌%◌, ◌^◌, ◌<◌, ◌≤◌, ◌==◌, nat_le, ◌&&◌, Bool, true, false, if◌then◌else◌, Option, Some, None, option_map, List, length, slice_index, slice_index_or, slice_set, ◌⊎◌, inl, inr, ⊎_elim, refl, sym, ap, subst, ◌∙◌, arith}
use Rattle.std.specs.Option.{option_or}
use Rattle.std.proofs.Math.ListN.{length-set}
use Rattle.std.proofs.lemmas.List.{get_or-set_same, get_or-set_other}
use Rattle.std.proofs.lemmas.Bool.{cases_eq}
use Rattle.std.proofs.lemmas.Bool.Decides.{nat_tests}
use Rattle.fs_model.specs.declared.instructions.Instr.{Instr}
use Rattle.fs_model.specs.declared.instructions.Size.{Size}
use Rattle.fs_model.specs.declared.instructions.Size.TheVariants.{Byte, Half, Word}
use Rattle.fs_model.specs.declared.instructions.Effect.{Effect}
use Rattle.fs_model.specs.declared.instructions.Effect.TheVariants.{Next, Set, Jump, Load, Store}
use Rattle.fs_model.specs.declared.events.Event.{Event}
use Rattle.fs_model.specs.declared.events.Event.TheVariants.{Went, Out, Halted, Detected, Trapped}
use Rattle.fs_model.specs.declared.events.TrapKind.TheVariants.{Address, Misaligned}
use Rattle.fs_model.specs.Case.{CaseData}
use Rattle.fs_model.specs.Effect.{effect_of}
use Rattle.fs_model.specs.Event.{goes_on, GoesOn}
use Rattle.fs_model.specs.Memory.{count_of, is_aligned, number_at, with_number, widened, place_in, low_of}
use Rattle.fs_model.specs.Machine.{Core, Turn, with_reg, went, went_with, trapped, jump, load, load_by, loaded, store, store_to, send, out_port, detect_port, halt_port, ram_place, rom_place, reg, apply, turn}
use Rattle.fs_model.specs.Word.{plus}
use Rattle.counting_loops.specs.declared.paces.Pace.{Pace}
use Rattle.counting_loops.specs.declared.paces.Pace.TheVariants.{Unknown}
use Rattle.counting_loops.specs.declared.paces.Moving.{Moving}
use Rattle.counting_loops.specs.Paces.{MovedBy}
use Rattle.counting_loops.specs.declared.words.Held.{Held}
use Rattle.counting_loops.specs.Words.{ram_word, word_pace, IsKnownLoad, AfterStore}
use Rattle.counting_loops.specs.Steps.{IsInRange, IsStorable, IsReadable, LoadStays, Alike, WordsAfter, IsInstr, FitsPaces, StepStays}
use Rattle.counting_loops.proofs.Contents.{Is, Moves, WordsFit, ram_after, place_within, place_same, loaded_moves, words_stay}

-- ---- one register

-- the paces after a step that writes rd
pub record IsPut (paces : List Pace) (rd : ℕ) (pace : Pace) (new : List Pace) : Type 0 where
  pub none : rd ≡ 0 → new ≡ paces
  pub some : rd ≢ 0 → new ≡ slice_set paces rd pace

-- the register k is the one that is written, or not
record IsHit (rd k : ℕ) : Type 0 where
  some : rd ≢ 0
  same : k ≡ rd

split : (rd k : ℕ) → IsHit rd k ⊎ ((rd ≡ 0) ⊎ (k ≢ rd))
split rd k = ⊎_elim (λ (e : rd ≡ 0). inr (inl e)) (λ (ne : rd ≢ 0). ⊎_elim (λ (e : k ≡ rd). inl (record { some = ne; same = e })) (λ (n : k ≢ rd). inr (inr n)) (cases_eq k rd)) (cases_eq rd 0)

pace_hit : (paces new : List Pace) (rd k : ℕ) (pace d : Pace) → IsPut paces rd pace new → rd < length paces → IsHit rd k → slice_index_or new k d ≡ pace
pace_hit paces new rd k pace d put low hit = rw (put.some hit.some, hit.same) (get_or-set_same paces rd pace d low)

pace_miss : (paces new : List Pace) (rd k : ℕ) (pace d : Pace) → IsPut paces rd pace new → (rd ≡ 0) ⊎ (k ≢ rd) → slice_index_or new k d ≡ slice_index_or paces k d
pace_miss paces new rd k pace d put miss = ⊎_elim (λ (e : rd ≡ 0). rw (put.none e) refl)
    (λ (ne : k ≢ rd). ⊎_elim (λ (e : rd ≡ 0). rw (put.none e) refl) (λ (some : rd ≢ 0). rw (put.some some) (get_or-set_other paces rd k pace d ne)) (cases_eq rd 0)) miss

reg_hit : (regs : List ℕ) (rd k v : ℕ) → rd < length regs → IsHit rd k → slice_index (with_reg regs rd v) k ≡ v
reg_hit regs rd k v low hit =
    let some = hit.some in
    let off : (rd == 0) ≡ false = grind (arith, nat_tests) in
    rw (off, hit.same) (get_or-set_same regs rd v 0 low)

reg_miss : (regs : List ℕ) (rd k v : ℕ) → (rd ≡ 0) ⊎ (k ≢ rd) → slice_index (with_reg regs rd v) k ≡ slice_index regs k
reg_miss regs rd k v miss = by (rd == 0) refl
  where
    by : (b : Bool) → (rd == 0) ≡ b → slice_index (if b then regs else slice_set regs rd v) k ≡ slice_index regs k
    by true e = refl
    by false e = ⊎_elim (λ (z : rd ≡ 0). let on : (rd == 0) ≡ true = grind (arith, nat_tests) in absurd cc) (λ (ne : k ≢ rd). get_or-set_other regs rd k v 0 ne) miss

length-with_reg : (regs : List ℕ) (k v : ℕ) → length (with_reg regs k v) ≡ length regs
length-with_reg regs k v = elim (k == 0) as (λ b. length (if b then regs else slice_set regs k v) ≡ length regs) [ true ↦ refl | false ↦ simp length-set ]

length-with_number : (size : Size) (bytes : List ℕ) (p v : ℕ) → length (with_number size bytes p v) ≡ length bytes
length-with_number Byte bytes p v = simp length-set
length-with_number Half bytes p v = simp length-set
length-with_number Word bytes p v = simp length-set

-- ---- places

read_some : (f : ℕ → ℕ) (h : ℕ → ℕ) (P Q : Option ℕ) → Is (option_or (option_map f P) (option_map h Q)) → (g : ℕ → ℕ) → Is (option_or (option_map g P) (option_map h Q))
read_some f h (Some p) Q some g = tt
read_some f h None Q some g = some

module _ (c : CaseData) (first s : Core) (size : Size) (at x : ℕ) (same : length s.ram ≡ length first.ram) (whole : length s.ram ≡ length c.ram) where
  read_again : x ≡ at → Is (loaded c first size at) → Is (loaded c s size x)
  read_again e some =
      let place : ram_place c s size x ≡ ram_place c first size at = ap (λ (n : ℕ). ram_place c s size n) e ∙ place_same c.ram_base (count_of size) at s.ram first.ram same in
      let rom : rom_place c size x ≡ rom_place c size at = ap (λ (n : ℕ). rom_place c size n) e in
      rw (place, rom) (read_some (number_at size first.ram) (number_at size c.rom) (ram_place c first size at) (rom_place c size at) some (number_at size s.ram))

  read_new : IsReadable c size x → Is (loaded c s size x)
  read_new h = ⊎_elim
      (λ (w : IsInRange c.ram_base (length c.ram) (count_of size) x). let w' : IsInRange c.ram_base (length s.ram) (count_of size) x = rw whole w in rw (place_within c.ram_base (count_of size) x s.ram w') tt)
      (λ (w : IsInRange c.rom_base (length c.rom) (count_of size) x). rw (place_within c.rom_base (count_of size) x c.rom w) (by (ram_place c s size x))) h.within
    where
      by : (P : Option ℕ) → Is (option_or (option_map (number_at size s.ram) P) (Some (number_at size c.rom (x - c.rom_base))))
      by (Some p) = tt
      by None = tt

  write_again : x ≡ at → Is (ram_place c first size at) → Is (ram_place c s size x)
  write_again e some =
      let place : ram_place c s size x ≡ ram_place c first size at = ap (λ (n : ℕ). ram_place c s size n) e ∙ place_same c.ram_base (count_of size) at s.ram first.ram same in
      rw place some

  write_new : IsStorable c size x → Is (ram_place c s size x)
  write_new h = let w' : IsInRange c.ram_base (length s.ram) (count_of size) x = rw whole h.within in rw (place_within c.ram_base (count_of size) x s.ram w') tt

-- ---- registers after a step

-- the registers of both, before a step
record Both (paces new : List Pace) (rd : ℕ) (pace : Pace) (i : ℕ) (first s : List ℕ) : Type 0 where
  put : IsPut paces rd pace new
  low : rd < 32
  paces_length : length paces ≡ 32
  first_length : length first ≡ 32
  length_is : length s ≡ 32
  each : (k : ℕ) (d : Pace) → k < 32 → MovedBy (slice_index_or paces k d) i (slice_index first k) (slice_index s k)

module _ (paces new : List Pace) (rd : ℕ) (pace : Pace) (i : ℕ) (first s : List ℕ) (b : Both paces new rd pace i first s) where
  -- none is written
  regs_same : pace ≡ Unknown → (k : ℕ) (d : Pace) → k < 32 → MovedBy (slice_index_or new k d) i (slice_index first k) (slice_index s k)
  regs_same is k d low = ⊎_elim
      (λ (hit : IsHit rd k). let e : slice_index_or new k d ≡ Unknown = pace_hit paces new rd k pace d b.put (let n = b.paces_length in let m = b.low in omega arith) hit ∙ is in rw e tt)
      (λ (miss : (rd ≡ 0) ⊎ (k ≢ rd)). rw (pace_miss paces new rd k pace d b.put miss) (b.each k d low))
      (split rd k)

  regs_put : (v w : ℕ) → (rd ≢ 0 → MovedBy pace i v w) → (k : ℕ) (d : Pace) → k < 32 → MovedBy (slice_index_or new k d) i (slice_index (with_reg first rd v) k) (slice_index (with_reg s rd w) k)
  regs_put v w moved k d low = ⊎_elim
      (λ (hit : IsHit rd k).
      let n = b.paces_length in let m = b.low in let f = b.first_length in let l = b.length_is in
      let e : slice_index_or new k d ≡ pace = pace_hit paces new rd k pace d b.put (omega arith) hit in
      let x : slice_index (with_reg first rd v) k ≡ v = reg_hit first rd k v (omega arith) hit in
      let y : slice_index (with_reg s rd w) k ≡ w = reg_hit s rd k w (omega arith) hit in
      rw (e, x, y) (moved hit.some))
      (λ (miss : (rd ≡ 0) ⊎ (k ≢ rd)). rw (pace_miss paces new rd k pace d b.put miss, reg_miss first rd k v miss, reg_miss s rd k w miss) (b.each k d low))
      (split rd k)

-- ---- effects

-- what holds of both machines before a step, besides the registers
record Begin (c : CaseData) (held : List Held) (i : ℕ) (first s : Core) : Type 0 where
  pc_is : s.pc ≡ first.pc
  whole : length s.ram ≡ length c.ram
  first_whole : length first.ram ≡ length c.ram
  words : WordsFit c held i first.ram s.ram

module _ (c : CaseData) (paces new : List Pace) (held held' : List Held) (rd : ℕ) (pace : Pace) (i : ℕ) (first s : Core) (b : Both paces new rd pace i first.regs s.regs) (begin : Begin c held i first s) where
  pc_is : s.pc ≡ first.pc
  pc_is = begin.pc_is

  whole : length s.ram ≡ length c.ram
  whole = begin.whole

  first_whole : length first.ram ≡ length c.ram
  first_whole = begin.first_whole

  -- the step of the round has gone on, and fits what the first round's step left
  record Stays (next : Core) (t : Turn) : Type 0 where
    event : GoesOn t.event
    fits : FitsPaces c new held' i next t.core

  Bounded : Core → Type 0
  Bounded next = rd ≢ 0 → reg next rd < 2 ^ 32

  kept : held' ≡ held → WordsFit c held' i first.ram s.ram
  kept e = rw e begin.words

  of_next : held' ≡ held → pace ≡ Unknown → Stays (went first (plus first.pc 4)).core (went s (plus s.pc 4))
  of_next keep is = record {
    event = tt;
    fits = record { pc_is = ap (λ (n : ℕ). plus n 4) pc_is; regs_length = b.length_is; ram_length = whole; each = regs_same paces new rd pace i first.regs s.regs b is; words = kept keep };
  }

  of_write : held' ≡ held → (pc pc' v w : ℕ) → pc' ≡ pc → (v < 2 ^ 32 → MovedBy pace i v w) → (rd ≢ 0 → reg (went_with first pc rd v).core rd < 2 ^ 32) → Stays (went_with first pc rd v).core (went_with s pc' rd w)
  of_write keep pc pc' v w same moved low = record {
    event = tt;
    fits = record {
      pc_is = same;
      regs_length = length-with_reg s.regs rd w ∙ b.length_is;
      ram_length = whole;
      each = regs_put paces new rd pace i first.regs s.regs b v w
          (λ some. let m = b.low in let f = b.first_length in
          let e : slice_index (with_reg first.regs rd v) rd ≡ v = reg_hit first.regs rd rd v (omega arith) (record { some = some; same = refl }) in
          let bound : v < 2 ^ 32 = rw e at (low some) in moved bound);
      words = kept keep;
    };
  }

  of_jump : held' ≡ held → (link target : ℕ) → (link < 2 ^ 32 → MovedBy pace i link link) → GoesOn (jump first rd link target).event → Bounded (jump first rd link target).core → Stays (jump first rd link target).core (jump s rd link target)
  unfolding Bounded
  of_jump keep link target moved = by (target % 4 == 0)
    where
      by : (t : Bool) → GoesOn (if t then went_with first target rd link else trapped Misaligned first).event → (rd ≢ 0 → reg (if t then went_with first target rd link else trapped Misaligned first).core rd < 2 ^ 32)
          → Stays (if t then went_with first target rd link else trapped Misaligned first).core (if t then went_with s target rd link else trapped Misaligned s)
      by true h low = of_write keep target target link link refl moved low
      by false h low = absurd h

  of_load_by : held' ≡ held → (size : Size) (signed : Bool) (n m : Option ℕ) → Moves pace i size signed n m → GoesOn (load_by first rd size signed n).event → Bounded (load_by first rd size signed n).core → Stays (load_by first rd size signed n).core (load_by s rd size signed m)
  unfolding Bounded
  of_load_by keep size signed (Some n) (Some m) moves h low = of_write keep (plus first.pc 4) (plus s.pc 4) (widened size signed n) (widened size signed m) (ap (λ (k : ℕ). plus k 4) pc_is) moves low
  of_load_by keep size signed (Some n) None moves h low = absurd moves
  of_load_by keep size signed None m moves h low = absurd h

  unknown_moves : (size : Size) (signed : Bool) (n m : Option ℕ) → pace ≡ Unknown → (Is n → Is m) → Moves pace i size signed n m
  unknown_moves size signed (Some n) (Some m) is some = λ _. rw is tt
  unknown_moves size signed (Some n) None is some = some tt
  unknown_moves size signed None m is some = tt

  of_load : held' ≡ held → (size : Size) (signed : Bool) (at x : ℕ) → LoadStays c held size at x pace → GoesOn (load c first rd size signed at).event → Bounded (load c first rd size signed at).core → Stays (load c first rd size signed at).core (load c s rd size signed x)
  of_load keep size signed at x good = by (is_aligned size at) refl
    where
      same : length s.ram ≡ length first.ram
      same = whole ∙ sym first_whole

      again : (x ≡ at) ⊎ IsReadable c size x → Is (loaded c first size at) → Is (loaded c s size x)
      again g some = ⊎_elim (λ (e : x ≡ at). read_again c first s size at x same whole e some) (λ (h : IsReadable c size x). read_new c first s size at x same whole h) g

      known : IsKnownLoad c held size at pace → Moves pace i size signed (loaded c first size at) (loaded c s size at)
      known h = loaded_moves c held size signed at pace i first s whole first_whole begin.words h

      moves : Moves pace i size signed (loaded c first size at) (loaded c s size x)
      moves = ⊎_elim (λ (h : (pace ≡ Unknown) × ((x ≡ at) ⊎ IsReadable c size x)). unknown_moves size signed (loaded c first size at) (loaded c s size x) h.0 (again h.1))
          (λ (h : (x ≡ at) × IsKnownLoad c held size at pace). rw h.0 (known h.1)) good

      even' : (x ≡ at) ⊎ IsReadable c size x → is_aligned size at ≡ true → is_aligned size x ≡ true
      even' g e = ⊎_elim (λ (q : x ≡ at). rw q e) (λ (h : IsReadable c size x). let a = h.aligned in grind (arith, nat_tests)) g

      even : is_aligned size at ≡ true → is_aligned size x ≡ true
      even = ⊎_elim (λ (h : (pace ≡ Unknown) × ((x ≡ at) ⊎ IsReadable c size x)). even' h.1) (λ (h : (x ≡ at) × IsKnownLoad c held size at pace). even' (inl h.0)) good

      by : (t : Bool) → is_aligned size at ≡ t → GoesOn (if t then load_by first rd size signed (loaded c first size at) else trapped Misaligned first).event
          → Bounded (if t then load_by first rd size signed (loaded c first size at) else trapped Misaligned first).core
          → Stays (if t then load_by first rd size signed (loaded c first size at) else trapped Misaligned first).core (load c s rd size signed x)
      by true e h low = rw (even e) (of_load_by keep size signed (loaded c first size at) (loaded c s size x) moves h low)
      by false e h low = absurd h

  -- a store to no place of RAM is one to the port
  IsSent : Core → Turn → ℕ → Type 0
  IsSent u t pc = GoesOn t.event × (t.core ≡ record u { pc = pc })

  sent_at : (u : Core) (size : Size) (at v : ℕ) → GoesOn (send u size at v).event → IsSent u (send u size at v) (plus u.pc 4)
  unfolding IsSent
  sent_at u size at v = by (at == out_port) (at == detect_port) (at == halt_port)
    where
      by : (p q r : Bool) → GoesOn (if p then record { event = Out (v % 2 ^ 8); core = record u { pc = plus u.pc 4 } } else
          if q then record { event = Detected; core = u } else
          if r then record { event = Halted (low_of size v); core = u } else trapped Address u).event
          → IsSent u (if p then record { event = Out (v % 2 ^ 8); core = record u { pc = plus u.pc 4 } } else
          if q then record { event = Detected; core = u } else
          if r then record { event = Halted (low_of size v); core = u } else trapped Address u) (plus u.pc 4)
      by true q r h = (tt, refl)
      by false true r h = absurd h
      by false false true h = absurd h
      by false false false h = absurd h

  sends_again : (size : Size) (at v w : ℕ) → GoesOn (send first size at v).event → GoesOn (send s size at w).event
  sends_again size at v w = by (at == out_port) (at == detect_port) (at == halt_port)
    where
      by : (p q r : Bool) → GoesOn (if p then record { event = Out (v % 2 ^ 8); core = record first { pc = plus first.pc 4 } } else
          if q then record { event = Detected; core = first } else
          if r then record { event = Halted (low_of size v); core = first } else trapped Address first).event
          → GoesOn (if p then record { event = Out (w % 2 ^ 8); core = record s { pc = plus s.pc 4 } } else
          if q then record { event = Detected; core = s } else
          if r then record { event = Halted (low_of size w); core = s } else trapped Address s).event
      by true q r h = tt
      by false true r h = absurd h
      by false false true h = absurd h
      by false false false h = absurd h

  -- what a store leaves: the next pc, and RAM as the place says
  IsStored : Core → Turn → Size → Option ℕ → ℕ → Type 0
  IsStored u t size place v = GoesOn t.event × (t.core ≡ record { pc = plus u.pc 4; regs = u.regs; ram = ram_after size u.ram place v })

  stored : (u : Core) (size : Size) (at v : ℕ) (place : Option ℕ) → GoesOn (store_to u size at v place).event → IsStored u (store_to u size at v place) size place v
  unfolding IsStored IsSent
  stored u size at v (Some p) h = (tt, refl)
  stored u size at v None h = sent_at u size at v h

  stores_again : (size : Size) (at x v w : ℕ) (p q : Option ℕ) → (x ≡ at) ⊎ Is q → (Is p → Is q) → GoesOn (store_to first size at v p).event → GoesOn (store_to s size x w q).event
  stores_again size at x v w p (Some q) good some h = tt
  stores_again size at x v w (Some p) None good some h = absurd (some tt)
  stores_again size at x v w None None good some h = ⊎_elim (λ (e : x ≡ at). rw e (sends_again size at v w h)) (λ (no : ⊥). absurd no) good

  length_after : (size : Size) (ram : List ℕ) (place : Option ℕ) (v : ℕ) → length (ram_after size ram place v) ≡ length ram
  length_after size ram (Some p) v = length-with_number size ram p v
  length_after size ram None v = refl

  of_store_to : (size : Size) (at x v w : ℕ) (p q : Option ℕ) → pace ≡ Unknown → (x ≡ at) ⊎ Is q → (Is p → Is q) → WordsFit c held' i (ram_after size first.ram p v) (ram_after size s.ram q w)
      → GoesOn (store_to first size at v p).event → Stays (store_to first size at v p).core (store_to s size x w q)
  unfolding IsStored
  of_store_to size at x v w p q is good some fit h =
      let on = stores_again size at x v w p q good some h in
      let a = stored first size at v p h in
      let b' = stored s size x w q on in
      record {
        event = b'.0;
        fits = rw (a.1, b'.1) (record {
          pc_is = ap (λ (k : ℕ). plus k 4) pc_is;
          regs_length = b.length_is;
          ram_length = length_after size s.ram q w ∙ whole;
          each = regs_same paces new rd pace i first.regs s.regs b is;
          words = fit;
        });
      }

  of_store : (size : Size) (at x v w : ℕ) → pace ≡ Unknown → (x ≡ at) ⊎ IsStorable c size x
      → ((k : ℕ) → 4 * k + 4 ≤ length c.ram → AfterStore c size i at x v w k (word_pace held k) (word_pace held' k))
      → GoesOn (store c first size at v).event → Stays (store c first size at v).core (store c s size x w)
  of_store size at x v w is good after = by (is_aligned size at) refl
    where
      same : length s.ram ≡ length first.ram
      same = whole ∙ sym first_whole

      again : Is (ram_place c first size at) → Is (ram_place c s size x)
      again some = ⊎_elim (λ (e : x ≡ at). write_again c first s size at x same whole e some) (λ (h : IsStorable c size x). write_new c first s size at x same whole h) good

      place : (x ≡ at) ⊎ Is (ram_place c s size x)
      place = ⊎_elim (λ (e : x ≡ at). inl e) (λ (h : IsStorable c size x). inr (write_new c first s size at x same whole h)) good

      fit : WordsFit c held' i (ram_after size first.ram (ram_place c first size at) v) (ram_after size s.ram (ram_place c s size x) w)
      fit = words_stay c held held' size i first s at x v w whole first_whole begin.words after

      even : is_aligned size at ≡ true → is_aligned size x ≡ true
      even e = ⊎_elim (λ (q : x ≡ at). rw q e) (λ (h : IsStorable c size x). let a = h.aligned in grind (arith, nat_tests)) good

      by : (t : Bool) → is_aligned size at ≡ t → GoesOn (if t then store_to first size at v (ram_place c first size at) else trapped Misaligned first).event
          → Stays (if t then store_to first size at v (ram_place c first size at) else trapped Misaligned first).core (store c s size x w)
      by true e h = rw (even e) (of_store_to size at x v w (ram_place c first size at) (ram_place c s size x) is place again fit h)
      by false e h = absurd h

  store_by : (size : Size) (at v : ℕ) (e' : Effect) → Alike c held pace i (Store size at v) e' → WordsAfter c held held' i (Store size at v) e' → GoesOn (store c first size at v).event → Stays (store c first size at v).core (apply c s rd e')
  store_by size at v e' h after event =
      let x : after.0 ≡ h.1.0 = same_at (after.1.1.0) (h.1.1.1.0) in
      let w : after.1.0 ≡ h.1.1.0 = same_number (after.1.1.0) (h.1.1.1.0) in
      rw h.1.1.1.0 (of_store size at h.1.0 v h.1.1.0 h.0 h.1.1.1.1 (rw (x, w) at after.1.1.1) event)
    where
      same_at : {x y : ℕ} {p q : ℕ} → e' ≡ Store size x p → e' ≡ Store size y q → x ≡ y
      same_at f g = cc

      same_number : {x y : ℕ} {p q : ℕ} → e' ≡ Store size x p → e' ≡ Store size y q → p ≡ q
      same_number f g = cc

  of_effect : (e e' : Effect) → Alike c held pace i e e' → WordsAfter c held held' i e e' → GoesOn (apply c first rd e).event → Bounded (apply c first rd e).core → Stays (apply c first rd e).core (apply c s rd e')
  unfolding Bounded
  of_effect Next e' h keep event low = rw h.1 (of_next keep h.0)
  of_effect (Set v) e' h keep event low = rw h.1.0 (of_write keep (plus first.pc 4) (plus s.pc 4) v h.0 (ap (λ (k : ℕ). plus k 4) pc_is) h.1.1 low)
  of_effect (Jump link target) e' h keep event low = rw h.0 (of_jump keep link target h.1 event low)
  of_effect (Load size signed at) e' h keep event low = rw h.1.0 (of_load keep size signed at h.0 h.1.1 event low)
  of_effect (Store size at v) e' h after event low = store_by size at v e' h after event

-- ---- a step

-- what the code has found of the instruction at the first round's place
pub record Found (c : CaseData) (last : ℕ) (paces : List Pace) (held new_held : List Held) (first : Core) (instr : Instr) (a b : Moving) (pace : Pace) : Type 0 where
  pub instr_is : IsInstr c first.pc instr
  pub regs_length : length first.regs ≡ 32
  pub ram_length : length first.ram ≡ length c.ram
  pub paces_length : length paces ≡ 32
  pub a_first : a.first ≡ reg first instr.rs1
  pub a_pace : (d : Pace) → a.pace ≡ slice_index_or paces instr.rs1 d
  pub b_first : b.first ≡ reg first instr.rs2
  pub b_pace : (d : Pace) → b.pace ≡ slice_index_or paces instr.rs2 d
  pub alike : (pc i x y : ℕ) → i ≤ last → MovedBy a.pace i a.first x → MovedBy b.pace i b.first y → Alike c held pace i (effect_of instr pc a.first b.first) (effect_of instr pc x y)
  pub after : (pc i x y : ℕ) → i ≤ last → MovedBy a.pace i a.first x → MovedBy b.pace i b.first y → WordsAfter c held new_held i (effect_of instr pc a.first b.first) (effect_of instr pc x y)

pub step_stays : (c : CaseData) (last : ℕ) (paces new : List Pace) (held new_held : List Held) (first next : Core) (instr : Instr) (a b : Moving) (pace : Pace) → Found c last paces held new_held first instr a b pace
    → next ≡ (turn c first).core → GoesOn (turn c first).event → IsPut paces instr.rd pace new → (instr.rd ≢ 0 → reg next instr.rd < 2 ^ 32) → StepStays c last paces held first new new_held next
unfolding Bounded
step_stays c last paces new held new_held first next instr a b pace found next_is on put low = record {
  each = λ i s round fits.
      let is = found.instr_is in
      let e : Effect = effect_of instr first.pc a.first b.first in
      let e' : Effect = effect_of instr first.pc (reg s instr.rs1) (reg s instr.rs2) in
      let here : turn c first ≡ apply c first instr.rd e = is.turns first refl ∙ ap (λ (n : ℕ). apply c first instr.rd (effect_of instr first.pc n (reg first instr.rs2))) (sym found.a_first)
      ∙ ap (λ (n : ℕ). apply c first instr.rd (effect_of instr first.pc a.first n)) (sym found.b_first) in
      let there : turn c s ≡ apply c s instr.rd e' = is.turns s fits.pc_is in
      let x : MovedBy a.pace i a.first (reg s instr.rs1) = rw (found.a_pace Unknown, found.a_first) (fits.each instr.rs1 Unknown is.registers.rs1_below) in
      let y : MovedBy b.pace i b.first (reg s instr.rs2) = rw (found.b_pace Unknown, found.b_first) (fits.each instr.rs2 Unknown is.registers.rs2_below) in
      let same = found.alike first.pc i (reg s instr.rs1) (reg s instr.rs2) round x y in
      let after = found.after first.pc i (reg s instr.rs1) (reg s instr.rs2) round x y in
      let both : Both paces new instr.rd pace i first.regs s.regs =
      record { put = put; low = is.registers.rd_below; paces_length = found.paces_length; first_length = found.regs_length; length_is = fits.regs_length; each = fits.each } in
      let begin : Begin c held i first s = record { pc_is = fits.pc_is; whole = fits.ram_length; first_whole = found.ram_length; words = fits.words } in
      let next_is' : next ≡ (apply c first instr.rd e).core = next_is ∙ ap (λ (t : Turn). t.core) here in
      let on' : GoesOn (apply c first instr.rd e).event = subst (λ (t : Turn). GoesOn t.event) here on in
      let stays = of_effect c paces new held new_held instr.rd pace i first s both begin e e' same after on' (rw next_is' at low) in
      record { event = rw there stays.event; fits = rw (there, next_is') stays.fits };
}

-- the same event, which the code has tested
pub on_by : (e t : Event) (b : Bool) → e ≡ t → b ≡ goes_on e → b ≡ true → GoesOn t
on_by e t b same tested is_true = rw (← same) (by e (sym tested ∙ is_true))
  where
    by : (e : Event) → goes_on e ≡ true → GoesOn e
    by Went h = tt
    by (Out byte) h = tt
    by (Halted v) h = cc
    by Detected h = cc
    by (Trapped kind) h = cc
