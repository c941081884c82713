-- The definitions computed: the words of seed 42 are those of PCG's own demonstration.
use Rattle.std.proofs.Common.{◌≡◌, [], ◌∷◌, refl}
use Rattle.sampling.specs.Draws.{seeded, indices, index_of, drawn, after_draw}

words : drawn (seeded 42) ≡ 0xa15c02b77b47f409
unfolding seeded drawn
words = refl

later_words : drawn (after_draw (seeded 42)) ≡ 0xba1d333083d2f293
unfolding seeded drawn after_draw
later_words = refl

of_128 : indices 3 128 (seeded 42) ≡ 80 ∷ 93 ∷ 95 ∷ []
unfolding seeded indices index_of drawn after_draw
of_128 = refl

of_4480 : indices 3 4480 (seeded 42) ≡ 2823 ∷ 3256 ∷ 3353 ∷ []
unfolding seeded indices index_of drawn after_draw
of_4480 = refl
