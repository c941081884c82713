-- Which indices a seed draws. The generator is PCG-XSH-RR 64/32 (O'Neill, "PCG: a family of simple fast space-efficient statistically
-- good algorithms for random number generation"): `pcg32` gives a word of 32 bits, and the generator after it.
use Rattle.std.specs.Prelude.{ℕ, zero, suc, ◌+◌, ◌*◌, ◌/◌, ◌^◌, List, [], ◌∷◌}
use Rattle.rand_pcg.specs.Lcg.{Lcg, started, increment_of}
use Rattle.rand_pcg.specs.Pcg.{multiplier_64, pcg32}

-- the generator of a seed, on stream 54
unfoldable pub seeded : ℕ → Lcg
seeded seed = started 64 multiplier_64 seed (increment_of 64 54)

-- a number below 2^64: of two words the first is its upper half
unfoldable pub drawn : Lcg → ℕ
drawn generator = (pcg32 generator).0 * 2 ^ 32 + (pcg32 (pcg32 generator).1).0

-- the generator after these two words
unfoldable pub after_draw : Lcg → Lcg
after_draw generator = (pcg32 (pcg32 generator).1).1

-- the number's part of a population, rounded down
unfoldable pub index_of : ℕ → Lcg → ℕ
index_of population generator = drawn generator * population / 2 ^ 64

-- `count` indices, one after the other
unfoldable pub indices : ℕ → ℕ → Lcg → List ℕ
indices zero population generator = []
indices (suc count) population generator = index_of population generator ∷ indices count population (after_draw generator)
