-- The campaign files of a call.
use Rattle.std.specs.Prelude.{ℕ, List}

-- the bytes of the one that is named first, and of the other one, which is merged into it
pub record Files : Type 0 where
  pub file : List ℕ
  pub other : List ℕ

abbrev pub files_of : List ℕ → List ℕ → Files
files_of file other = record { file = file; other = other }
