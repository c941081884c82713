-- Words of RAM, as loads find them and stores leave them.
use Rattle.std.proofs.Common.{◌≡◌, ◌≢◌, ℕ, ◌+◌, ◌-◌, ◌*◌, ◌/◌, ◌%◌, ◌^◌, ◌<◌, ◌≤◌, ◌==◌, nat_le, nat_lt, ◌&&◌, Bool, true, false, if◌then◌else◌, Option, Some, None, option_map, List, length, slice_index, slice_index_or, slice_set, ◌⊎◌, inl, inr, ⊎_elim, refl, sym, ap, ◌∙◌, arith}
use Rattle.std.specs.Option.{option_or}
use Rattle.std.proofs.Math.ListN.{length-set}
use Rattle.std.proofs.Math.Nat.{mod-add-mod, mod-lt}
use Rattle.std.proofs.lemmas.List.{get_or-set_same, get_or-set_other}
use Rattle.std.proofs.lemmas.Bool.Decides.{nat_tests}
use Rattle.fs_model.specs.declared.instructions.Size.{Size}
use Rattle.fs_model.specs.declared.instructions.Size.TheVariants.{Byte, Half, Word}
use Rattle.fs_model.specs.Case.{CaseData}
use Rattle.fs_model.specs.Memory.{count_of, number_at, with_number, widened, place_in}
use Rattle.fs_model.specs.Machine.{Core, loaded, ram_place, rom_place}
use Rattle.fs_model.specs.Word.{sign_extend}
use Rattle.counting_loops.specs.declared.paces.Pace.{Pace}
use Rattle.counting_loops.specs.declared.paces.Pace.TheVariants.{By, Unknown}
use Rattle.counting_loops.specs.declared.words.Held.{Held}
use Rattle.counting_loops.specs.Paces.{MovedBy}
use Rattle.counting_loops.specs.Words.{ram_word, word_pace, IsOutsideRam, IsWordAt, IsKnownLoad, Misses, AfterStore}
use Rattle.counting_loops.specs.Steps.{IsInRange}

-- ---- places

abbrev pub Is : Option ℕ → Type 0
Is (Some n) = Unit {0}
Is None = ⊥

pub place_same : (base count at : ℕ) (a b : List ℕ) → length a ≡ length b → place_in base a count at ≡ place_in base b count at
place_same base count at a b e = ap (λ (n : ℕ). if nat_le base at && nat_le (at - base + count) n then Some (at - base) else None) e

pub place_within : (base count at : ℕ) (bytes : List ℕ) → IsInRange base (length bytes) count at → place_in base bytes count at ≡ Some (at - base)
place_within base count at bytes h =
    let from = h.from in
    let to = h.to in
    let low : nat_le base at ≡ true = grind (arith, nat_tests) in
    let high : nat_le (at - base + count) (length bytes) ≡ true = grind (arith, nat_tests) in
    rw (low, high) refl

some_byte : (size : Size) → 1 ≤ count_of size
some_byte Byte = omega arith
some_byte Half = omega arith
some_byte Word = omega arith

place_apart : (base count at : ℕ) (bytes : List ℕ) → 1 ≤ count → (at + 4 ≤ base) ⊎ (base + length bytes ≤ at) → place_in base bytes count at ≡ None
place_apart base count at bytes some apart = ⊎_elim
    (λ (h : at + 4 ≤ base). let low : nat_le base at ≡ false = grind (arith, nat_tests) in rw low refl)
    (λ (h : base + length bytes ≤ at). let high : nat_le (at - base + count) (length bytes) ≡ false = grind (arith, nat_tests) in by (nat_le base at) high)
    apart
  where
    by : (b : Bool) → nat_le (at - base + count) (length bytes) ≡ false → (if b && nat_le (at - base + count) (length bytes) then Some (at - base) else None) ≡ None
    by true e = rw e refl
    by false e = refl

-- ---- numbers after a store

-- a byte that is not one of the word's
one_set : (ram : List ℕ) (p d v : ℕ) → (d + 1 ≤ p) ⊎ (p + 4 ≤ d) → number_at Word (slice_set ram d v) p ≡ number_at Word ram p
one_set ram p d v apart =
    let e : p ≢ d = ⊎_elim (λ (h : d + 1 ≤ p). omega arith) (λ (h : p + 4 ≤ d). omega arith) apart in
    let f : p + 1 ≢ d = ⊎_elim (λ (h : d + 1 ≤ p). omega arith) (λ (h : p + 4 ≤ d). omega arith) apart in
    let g : p + 2 ≢ d = ⊎_elim (λ (h : d + 1 ≤ p). omega arith) (λ (h : p + 4 ≤ d). omega arith) apart in
    let h : p + 3 ≢ d = ⊎_elim (λ (h : d + 1 ≤ p). omega arith) (λ (h : p + 4 ≤ d). omega arith) apart in
    simp get_or-set_other

apart_at : (p q count j : ℕ) → j < count → (q + count ≤ p) ⊎ (p + 4 ≤ q) → (q + j + 1 ≤ p) ⊎ (p + 4 ≤ q + j)
apart_at p q count j low apart = ⊎_elim (λ (h : q + count ≤ p). inl (omega arith)) (λ (h : p + 4 ≤ q). inr (omega arith)) apart

word_missed : (size : Size) (ram : List ℕ) (p q v : ℕ) → (q + count_of size ≤ p) ⊎ (p + 4 ≤ q) → number_at Word (with_number size ram q v) p ≡ number_at Word ram p
word_missed Byte ram p q v apart = one_set ram p q (v % 2 ^ 8) apart
word_missed Half ram p q v apart =
    one_set (slice_set ram q (v % 2 ^ 8)) p (q + 1) _ (apart_at p q 2 1 (omega arith) apart)
    ∙ one_set ram p q _ (let a = apart_at p q 2 0 (omega arith) apart in ⊎_elim (λ (h : q + 0 + 1 ≤ p). inl (omega arith)) (λ (h : p + 4 ≤ q + 0). inr (omega arith)) a)
word_missed Word ram p q v apart =
    one_set (slice_set (slice_set (slice_set ram q (v % 2 ^ 8)) (q + 1) (v / 2 ^ 8 % 2 ^ 8)) (q + 2) (v / 2 ^ 16 % 2 ^ 8)) p (q + 3) (v / 2 ^ 24 % 2 ^ 8) (apart_at p q 4 3 (omega arith) apart)
    ∙ one_set (slice_set (slice_set ram q (v % 2 ^ 8)) (q + 1) (v / 2 ^ 8 % 2 ^ 8)) p (q + 2) (v / 2 ^ 16 % 2 ^ 8) (apart_at p q 4 2 (omega arith) apart)
    ∙ one_set (slice_set ram q (v % 2 ^ 8)) p (q + 1) (v / 2 ^ 8 % 2 ^ 8) (apart_at p q 4 1 (omega arith) apart)
    ∙ one_set ram p q (v % 2 ^ 8) (let a = apart_at p q 4 0 (omega arith) apart in ⊎_elim (λ (h : q + 0 + 1 ≤ p). inl (omega arith)) (λ (h : p + 4 ≤ q + 0). inr (omega arith)) a)

digits : (v : ℕ) → v % 2 ^ 8 + v / 2 ^ 8 % 2 ^ 8 * 2 ^ 8 + v / 2 ^ 16 % 2 ^ 8 * 2 ^ 16 + v / 2 ^ 24 % 2 ^ 8 * 2 ^ 24 ≡ v % 2 ^ 32
digits v = omega arith

bytes_set : (ram : List ℕ) (p a b c d : ℕ) → p + 4 ≤ length ram → number_at Word (slice_set (slice_set (slice_set (slice_set ram p a) (p + 1) b) (p + 2) c) (p + 3) d) p ≡ a + b * 2 ^ 8 + c * 2 ^ 16 + d * 2 ^ 24
bytes_set ram p a b c d within =
    let r1 = slice_set ram p a in
    let r2 = slice_set r1 (p + 1) b in
    let r3 = slice_set r2 (p + 2) c in
    let l0 : p < length ram = omega arith in
    let l1 : p + 1 < length r1 = simp length-set (omega arith) in
    let l2 : p + 2 < length r2 = simp length-set (omega arith) in
    let l3 : p + 3 < length r3 = simp length-set (omega arith) in
    let a0 : slice_index (slice_set r3 (p + 3) d) p ≡ a =
    get_or-set_other r3 (p + 3) p d 0 (omega arith) ∙ get_or-set_other r2 (p + 2) p c 0 (omega arith) ∙ get_or-set_other r1 (p + 1) p b 0 (omega arith) ∙ get_or-set_same ram p a 0 l0 in
    let b0 : slice_index (slice_set r3 (p + 3) d) (p + 1) ≡ b =
    get_or-set_other r3 (p + 3) (p + 1) d 0 (omega arith) ∙ get_or-set_other r2 (p + 2) (p + 1) c 0 (omega arith) ∙ get_or-set_same r1 (p + 1) b 0 l1 in
    let c0 : slice_index (slice_set r3 (p + 3) d) (p + 2) ≡ c =
    get_or-set_other r3 (p + 3) (p + 2) d 0 (omega arith) ∙ get_or-set_same r2 (p + 2) c 0 l2 in
    let d0 : slice_index (slice_set r3 (p + 3) d) (p + 3) ≡ d = get_or-set_same r3 (p + 3) d 0 l3 in
    rw (a0, b0, c0, d0) refl

word_stored : (ram : List ℕ) (p v : ℕ) → p + 4 ≤ length ram → number_at Word (with_number Word ram p v) p ≡ v % 2 ^ 32
word_stored ram p v within = bytes_set ram p _ _ _ _ within ∙ digits v

-- ---- RAM after a store

abbrev pub ram_after : Size → List ℕ → Option ℕ → ℕ → List ℕ
ram_after size ram (Some p) v = with_number size ram p v
ram_after size ram None v = ram

missed_after : (base : ℕ) (size : Size) (ram : List ℕ) (at v k : ℕ) → Misses base (count_of size) at k → ram_word (ram_after size ram (place_in base ram (count_of size) at) v) k ≡ ram_word ram k
missed_after base size ram at v k missed = by (nat_le base at) (nat_le (at - base + count_of size) (length ram)) refl
  where
    by : (b d : Bool) → nat_le base at ≡ b → ram_word (ram_after size ram (if b && d then Some (at - base) else None) v) k ≡ ram_word ram k
    by true true e =
        let low : base ≤ at = grind (arith, nat_tests) in
        word_missed size ram (4 * k) (at - base) v (⊎_elim (λ (h : at + count_of size ≤ base + 4 * k). inl (omega arith)) (λ (h : base + 4 * k + 4 ≤ at). inr (omega arith)) missed)
    by true false e = refl
    by false d e = refl

put_after : (base : ℕ) (ram : List ℕ) (at v k : ℕ) → at ≡ base + 4 * k → 4 * k + 4 ≤ length ram → ram_word (ram_after Word ram (place_in base ram 4 at) v) k ≡ v % 2 ^ 32
put_after base ram at v k is within =
    let inside : IsInRange base (length ram) 4 at = record { from = omega arith; to = omega arith } in
    let place : at - base ≡ 4 * k = omega arith in
    rw (place_within base 4 at ram inside, place) (word_stored ram (4 * k) v within)

-- ---- words in a later round and in the first one

abbrev pub WordsFit : CaseData → List Held → ℕ → List ℕ → List ℕ → Type 0
WordsFit c held i first now = (k : ℕ) → 4 * k + 4 ≤ length c.ram → MovedBy (word_pace held k) i (ram_word first k) (ram_word now k)

low_moves : (pace : Pace) (i v w : ℕ) → MovedBy pace i v w → MovedBy pace i (v % 2 ^ 32) (w % 2 ^ 32)
low_moves (By step) i v w moved =
    let whole = mod-add-mod v (2 ^ 32) (i * step) in
    let low : w < 2 ^ 32 = rw moved (mod-lt (v + i * step) {m = 2 ^ 32} (omega arith)) in
    let same : w % 2 ^ 32 ≡ w = omega arith in
    same ∙ moved ∙ sym whole
low_moves Unknown i v w moved = tt

pub words_stay : (c : CaseData) (held new : List Held) (size : Size) (i : ℕ) (first s : Core) (at x v w : ℕ) → length s.ram ≡ length c.ram → length first.ram ≡ length c.ram → WordsFit c held i first.ram s.ram
    → ((k : ℕ) → 4 * k + 4 ≤ length c.ram → AfterStore c size i at x v w k (word_pace held k) (word_pace new k))
    → WordsFit c new i (ram_after size first.ram (ram_place c first size at) v) (ram_after size s.ram (ram_place c s size x) w)
words_stay c held new size i first s at x v w whole first_whole words after k within = ⊎_elim
    (λ (u : word_pace new k ≡ Unknown). rw u tt)
    (λ (known : ((word_pace new k ≡ word_pace held k) × (Misses c.ram_base (count_of size) at k × Misses c.ram_base (count_of size) x k))
    ⊎ (MovedBy (word_pace new k) i v w × ((size ≡ Word) × ((at ≡ c.ram_base + 4 * k) × (x ≡ at))))). ⊎_elim
    (λ (kept : (word_pace new k ≡ word_pace held k) × (Misses c.ram_base (count_of size) at k × Misses c.ram_base (count_of size) x k)).
    rw (kept.0, missed_after c.ram_base size first.ram at v k kept.1.0, missed_after c.ram_base size s.ram x w k kept.1.1) (words k within))
    (λ (put : MovedBy (word_pace new k) i v w × ((size ≡ Word) × ((at ≡ c.ram_base + 4 * k) × (x ≡ at)))).
    let x_is : x ≡ c.ram_base + 4 * k = put.1.1.1 ∙ put.1.1.0 in
    rw (put.1.0, put_after c.ram_base first.ram at v k put.1.1.0 (omega arith), put_after c.ram_base s.ram x w k x_is (omega arith)) (low_moves (word_pace new k) i v w put.0))
    known)
    (after k within)

-- ---- loads

-- the numbers that both load, if the first round loads one
abbrev pub Moves : Pace → ℕ → Size → Bool → Option ℕ → Option ℕ → Type 0
Moves pace i size signed (Some n) (Some m) = widened size signed n < 2 ^ 32 → MovedBy pace i (widened size signed n) (widened size signed m)
Moves pace i size signed (Some n) None = ⊥
Moves pace i size signed None m = Unit {0}

same_moves : (i : ℕ) (size : Size) (signed : Bool) (n : Option ℕ) → Moves (By 0) i size signed n n
same_moves i size signed (Some n) = λ low. let none : i * 0 ≡ 0 = omega arith in rw none (omega arith)
same_moves i size signed None = tt

widened_word : (signed : Bool) (n : ℕ) → widened Word signed n ≡ n
widened_word true n = by (nat_lt n (2 ^ 31))
  where
    by : (b : Bool) → (if b then n else n + (2 ^ 32 - 2 ^ 32)) ≡ n
    by true = refl
    by false = omega arith
widened_word false n = refl

pub loaded_moves : (c : CaseData) (held : List Held) (size : Size) (signed : Bool) (at : ℕ) (pace : Pace) (i : ℕ) (first s : Core) → length s.ram ≡ length c.ram → length first.ram ≡ length c.ram
    → WordsFit c held i first.ram s.ram → IsKnownLoad c held size at pace → Moves pace i size signed (loaded c first size at) (loaded c s size at)
loaded_moves c held size signed at pace i first s whole first_whole words known = ⊎_elim
    (λ (h : (pace ≡ By 0) × IsOutsideRam c at).
    let a : ram_place c first size at ≡ None = place_apart c.ram_base (count_of size) at first.ram (some_byte size) (rw first_whole h.1) in
    let b : ram_place c s size at ≡ None = place_apart c.ram_base (count_of size) at s.ram (some_byte size) (rw whole h.1) in
    rw (a, b, h.0) (same_moves i size signed (option_map (number_at size c.rom) (rom_place c size at))))
    (λ (h : (k : ℕ) × ((size ≡ Word) × (IsWordAt c at k × (pace ≡ word_pace held k)))).
    let k = h.0 in
    let word = h.1.1.0 in
    let at_is = word.at_is in
    let within = word.within in
    let a : IsInRange c.ram_base (length first.ram) 4 at = record { from = omega arith; to = omega arith } in
    let b : IsInRange c.ram_base (length s.ram) 4 at = record { from = omega arith; to = omega arith } in
    let place : at - c.ram_base ≡ 4 * k = omega arith in
    rw (h.1.0, place_within c.ram_base 4 at first.ram a, place_within c.ram_base 4 at s.ram b, place, widened_word signed (ram_word first.ram k), widened_word signed (ram_word s.ram k), h.1.1.1) (λ low. words k within))
    known
