-- What a text that is written to a sink leaves there.
use Rattle.std.specs.Prelude.{◌≡◌, List, ◌++◌, ℕ, Result, MatchResult}

-- a first part of the text follows what was taken before
pub record TookPart (old new text : List ℕ) : Type 0 where
  pub taken : List ℕ
  pub left : List ℕ
  pub text_is : text ≡ taken ++ left
  pub bytes : new ≡ old ++ taken

-- the whole text is taken, or where the answer is an error a part of it
abbrev pub Writes : {T E : Type 0} → List ℕ → List ℕ → List ℕ → Result T E → Type 0
Writes old new text result = MatchResult result (λ _. new ≡ old ++ text) (λ _. TookPart old new text)
