-- The answers to a person's questions, before they are given in hexadecimal digits.
use Rattle.std.specs.Prelude.{ℕ, zero, suc, ◌+◌, ◌-◌, ◌==◌, nat_lt, if◌then◌else◌, List, [], ◌∷◌, ◌++◌, length, slice_index, codes, decimal, Option, Some, None}
use Rattle.std.specs.Int.{w32, to_be_bytes}
use Rattle.hex.specs.Hex.{encode_lower}
use Rattle.fs_model.specs.declared.sites.Site.{Site}
use Rattle.fs_model.specs.Machine.{Core}
use Rattle.fs_model.specs.Outcome.{outcome_word}
use Rattle.debug_session.specs.declared.session.SiteFacts.{SiteFacts}

-- ---- the site

abbrev pub cell_words : Site → List ℕ
cell_words site = codes "site cycle " ++ (decimal site.cycle ++ (codes " cell " ++ (decimal site.cell ++ (codes " bit " ++ decimal site.bit))))

-- how many sites have the same effect, or that the site is dead
abbrev pub weight_words : Option ℕ → List ℕ
weight_words (Some n) = codes " weight " ++ decimal n
weight_words None = codes " dead"

abbrev pub facts_words : SiteFacts → List ℕ
facts_words facts = weight_words facts.weight ++ (codes " outcome " ++ outcome_word facts.outcome)

abbrev pub place_words : ℕ → List ℕ
place_words place = codes ", here after " ++ (decimal place ++ codes " instructions\n")

abbrev pub site_words : Site → SiteFacts → ℕ → List ℕ
site_words site facts place = cell_words site ++ (facts_words facts ++ place_words place)

-- ---- in what two states differ: the injected run's first, then the golden run's

-- a number in eight digits
abbrev pub word_words : ℕ → List ℕ
word_words n = encode_lower (to_be_bytes w32 n)

abbrev pub line_words : List ℕ → ℕ → ℕ → List ℕ
line_words name a b = name ++ (codes " " ++ (word_words a ++ (codes " golden " ++ (word_words b ++ codes "\n"))))

abbrev pub pc_words : ℕ → ℕ → List ℕ
pc_words a b = if a == b then [] else line_words (codes "pc") a b

abbrev pub register_words : ℕ → ℕ → ℕ → List ℕ
register_words k a b = if a == b then [] else codes "x" ++ (decimal k ++ line_words [] a b)

-- the first k registers
unfoldable pub registers_words : List ℕ → List ℕ → ℕ → List ℕ
registers_words xs ys zero = []
registers_words xs ys (suc k) = registers_words xs ys k ++ register_words k (slice_index xs k) (slice_index ys k)

abbrev pub ram_address_words : ℕ → List ℕ
ram_address_words address = codes "ram " ++ (word_words address ++ codes " ")

abbrev pub pair_words : ℕ → ℕ → List ℕ
pair_words a b = encode_lower (a ∷ []) ++ (codes " golden " ++ (encode_lower (b ∷ []) ++ codes "\n"))

-- in how many of the first k bytes of RAM they differ
unfoldable pub differing : List ℕ → List ℕ → ℕ → ℕ
differing xs ys zero = 0
differing xs ys (suc k) = differing xs ys k + (if slice_index xs k == slice_index ys k then 0 else 1)

-- a byte, after `listed` others; at most 64 are listed
abbrev pub listed_words : ℕ → ℕ → ℕ → ℕ → List ℕ
listed_words listed address a b = if a == b then [] else if nat_lt listed 64 then ram_address_words address ++ pair_words a b else []

-- the first k bytes of RAM, which begins at base
unfoldable pub bytes_words : ℕ → List ℕ → List ℕ → ℕ → List ℕ
bytes_words base xs ys zero = []
bytes_words base xs ys (suc k) = bytes_words base xs ys k ++ listed_words (differing xs ys k) (base + k) (slice_index xs k) (slice_index ys k)

abbrev pub ram_count_words : ℕ → List ℕ
ram_count_words n = codes "ram: " ++ decimal n

abbrev pub rest_words : ℕ → List ℕ
rest_words n = ram_count_words n ++ codes " more bytes\n"

abbrev pub more_words : ℕ → List ℕ
more_words n = if n == 0 then [] else rest_words n

abbrev pub ram_words : ℕ → List ℕ → List ℕ → List ℕ
ram_words base xs ys = bytes_words base xs ys (length xs) ++ more_words (differing xs ys (length xs) - 64)

abbrev pub or_none : List ℕ → List ℕ
or_none words = if length words == 0 then codes "no difference\n" else words

abbrev pub difference_words : ℕ → Core → Core → List ℕ
difference_words base a b = or_none (pc_words a.pc b.pc ++ (registers_words a.regs b.regs 32 ++ ram_words base a.ram b.ram))

-- ---- what the two runs have sent

abbrev pub sent_words : List ℕ → List ℕ → List ℕ
sent_words name output = name ++ (encode_lower output ++ codes "\n")

abbrev pub output_words : List ℕ → List ℕ → List ℕ
output_words a b = sent_words (codes "injected ") a ++ sent_words (codes "golden   ") b
