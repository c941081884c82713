-- Words of RAM whose paces are known.
use Rattle.std.specs.Prelude.{ℕ, ◌≡◌, ◌+◌, ◌*◌, ◌%◌, ◌≤◌, ◌==◌, if◌then◌else◌, ◌⊎◌, List, length, slice_index_or}
use Rattle.fs_model.specs.declared.instructions.Size.{Size}
use Rattle.fs_model.specs.declared.instructions.Size.TheVariants.{Word}
use Rattle.fs_model.specs.Case.{CaseData}
use Rattle.fs_model.specs.Memory.{count_of, number_at}
use Rattle.counting_loops.specs.declared.paces.Pace.{Pace}
use Rattle.counting_loops.specs.declared.paces.Pace.TheVariants.{By, Unknown}
use Rattle.counting_loops.specs.declared.paces.Range.{Range}
use Rattle.counting_loops.specs.declared.words.Held.{Held}
use Rattle.counting_loops.specs.Paces.{MovedBy}

-- the word of RAM with this number
abbrev pub ram_word : List ℕ → ℕ → ℕ
ram_word ram k = number_at Word ram (4 * k)

-- the pace of word k, if the entry is that word's
abbrev pub pace_if : Held → ℕ → Pace
pace_if h k = if h.word == k then h.pace else Unknown

-- the pace of word k: each word has one entry in which it may be
abbrev pub word_pace : List Held → ℕ → Pace
word_pace held k = pace_if (slice_index_or held (k % 64) (record { word = 0; pace = Unknown })) k

-- four bytes from the address on are no bytes of RAM
abbrev pub IsOutsideRam : CaseData → ℕ → Type 0
IsOutsideRam c at = (at + 4 ≤ c.ram_base) ⊎ (c.ram_base + length c.ram ≤ at)

-- the address is that of word k of RAM
pub record IsWordAt (c : CaseData) (at k : ℕ) : Type 0 where
  pub at_is : at ≡ c.ram_base + 4 * k
  pub within : 4 * k + 4 ≤ length c.ram

-- a load from the address gives a number of this pace
abbrev pub IsKnownLoad : CaseData → List Held → Size → ℕ → Pace → Type 0
IsKnownLoad c held size at pace = ((pace ≡ By 0) × IsOutsideRam c at)
    ⊎ ((k : ℕ) × ((size ≡ Word) × (IsWordAt c at k × (pace ≡ word_pace held k))))

-- the `count` bytes from an address on are no bytes of word k
abbrev pub Misses : ℕ → ℕ → ℕ → ℕ → Type 0
Misses base count at k = (at + count ≤ base + 4 * k) ⊎ (base + 4 * k + 4 ≤ at)

-- none of the accesses in a range is to word k
abbrev pub RangeMisses : ℕ → ℕ → Range → ℕ → Type 0
RangeMisses base count r k = (r.most + count ≤ base + 4 * k) ⊎ (base + 4 * k + 4 ≤ r.least)

-- a pace becomes unknown, or stays where the accesses miss word k
abbrev pub Forgets : ℕ → ℕ → Range → ℕ → Pace → Pace → Type 0
Forgets base count r k before after = (after ≡ Unknown) ⊎ ((after ≡ before) × RangeMisses base count r k)

abbrev pub IsForgotten : ℕ → ℕ → Range → Held → Held → Type 0
IsForgotten base count r before after = (after.word ≡ before.word) × Forgets base count r before.word before.pace after.pace

-- what a store at an address, of a number of the pace `stored`, leaves of the pace of word k
abbrev pub IsPutAt : CaseData → Size → ℕ → Pace → ℕ → Pace → Pace → Type 0
IsPutAt c size at stored k before after = (after ≡ Unknown) ⊎ (((after ≡ before) × Misses c.ram_base (count_of size) at k)
    ⊎ ((after ≡ stored) × ((size ≡ Word) × (at ≡ c.ram_base + 4 * k))))

-- what a store leaves of the pace of word k, where round i stores w at x and the first one v at `at`
abbrev pub AfterStore : CaseData → Size → ℕ → ℕ → ℕ → ℕ → ℕ → ℕ → Pace → Pace → Type 0
AfterStore c size i at x v w k before after = (after ≡ Unknown)
    ⊎ (((after ≡ before) × (Misses c.ram_base (count_of size) at k × Misses c.ram_base (count_of size) x k))
    ⊎ (MovedBy after i v w × ((size ≡ Word) × ((at ≡ c.ram_base + 4 * k) × (x ≡ at)))))
