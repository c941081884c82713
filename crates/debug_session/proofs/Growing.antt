-- Words that grow by one register, or by one byte, at a time.
use Rattle.std.proofs.Common.{◌≡◌, ℕ, ◌+◌, List, ◌++◌, ◌==◌, if◌then◌else◌, refl, sym, ap, ◌∙◌, append_assoc, append-nil, add-one}
use Rattle.std.specs.Prelude.{slice_index}
use Rattle.debug_session.specs.Words.{bytes_words, differing, listed_words, register_words, registers_words}

-- a text to which more was appended
more : (first text text' old more' : List ℕ) → text' ≡ text ++ more' → text ≡ first ++ old → text' ≡ first ++ (old ++ more')
more first text text' old more' put h = put ∙ ap (λ (x : List ℕ). x ++ more') h ∙ append_assoc first old more'

pub registers_none : (xs ys first : List ℕ) → first ≡ first ++ registers_words xs ys 0
unfolding registers_words
registers_none xs ys first = sym (append-nil first)

pub registers_more : (xs ys first text text' : List ℕ) (k : ℕ) → text' ≡ text ++ register_words k (slice_index xs k) (slice_index ys k) → text ≡ first ++ registers_words xs ys k → text' ≡ first ++ registers_words xs ys (k + 1)
unfolding registers_words
registers_more xs ys first text text' k put h = rw add-one (more first text text' (registers_words xs ys k) (register_words k (slice_index xs k) (slice_index ys k)) put h)

pub bytes_none : (base : ℕ) (xs ys first : List ℕ) → first ≡ first ++ bytes_words base xs ys 0
unfolding bytes_words
bytes_none base xs ys first = sym (append-nil first)

pub bytes_more : (base : ℕ) (xs ys first text text' : List ℕ) (k n : ℕ) → n ≡ differing xs ys k → text' ≡ text ++ listed_words n (base + k) (slice_index xs k) (slice_index ys k) → text ≡ first ++ bytes_words base xs ys k
    → text' ≡ first ++ bytes_words base xs ys (k + 1)
unfolding bytes_words
bytes_more base xs ys first text text' k n is put h =
    rw add-one (more first text text' (bytes_words base xs ys k) (listed_words (differing xs ys k) (base + k) (slice_index xs k) (slice_index ys k)) (rw is at put) h)

pub differing_none : (xs ys : List ℕ) → 0 ≡ differing xs ys 0
unfolding differing
differing_none xs ys = refl

pub differing_more : (xs ys : List ℕ) (k n one : ℕ) → n ≡ differing xs ys k → one ≡ (if slice_index xs k == slice_index ys k then 0 else 1) → n + one ≡ differing xs ys (k + 1)
unfolding differing
differing_more xs ys k n one is by = rw (add-one, is, by) refl
