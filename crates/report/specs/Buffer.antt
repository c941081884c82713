-- A text on its way to a sink: some of it is taken, and the rest waits in a buffer.
use Rattle.std.specs.Prelude.{◌≡◌, List, ◌++◌, ℕ, Result, MatchResult}
use Rattle.fs_outside.specs.Writing.{TookPart}

-- what waited and the text after it were taken up to a place, and what is left of them waits
pub record Moved (taken waiting taken' waiting' text : List ℕ) : Type 0 where
  pub more : List ℕ
  pub bytes : taken' ≡ taken ++ more
  pub text_is : waiting ++ text ≡ more ++ waiting'

-- the text is on its way, or where the answer is an error a part of it and of what waited was taken
abbrev pub Puts : {T E : Type 0} → List ℕ → List ℕ → List ℕ → List ℕ → List ℕ → Result T E → Type 0
Puts taken waiting taken' waiting' text result =
    MatchResult result (λ _. Moved taken waiting taken' waiting' text) (λ _. TookPart taken taken' (waiting ++ text))
