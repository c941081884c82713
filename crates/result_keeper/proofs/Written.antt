-- What is written over a list, and what is not.
use Rattle.std.proofs.Common.{◌≡◌, ℕ, ◌+◌, ◌≤◌, List, [], ◌∷◌, ◌++◌, length, take, drop, ◌∙◌, ap, append_assoc}
use Rattle.std.proofs.lemmas.List.{take_at, drop_at, length-take-le}
use Rattle.fs_outside.specs.Past.{overwritten}

pub take-overwritten : (bytes : List ℕ) (at : ℕ) (taken : List ℕ) → at ≤ length bytes → take at (overwritten bytes at taken) ≡ take at bytes
take-overwritten bytes at taken within =
    ap (λ (l : List ℕ). take at l) (append_assoc (take at bytes) taken (drop (at + length taken) bytes))
    ∙ take_at (take at bytes) (taken ++ drop (at + length taken) bytes) at (length-take-le at bytes within)

pub drop-overwritten : (bytes : List ℕ) (at : ℕ) (taken : List ℕ) → at ≤ length bytes → drop at (overwritten bytes at taken) ≡ taken ++ drop (at + length taken) bytes
drop-overwritten bytes at taken within =
    ap (λ (l : List ℕ). drop at l) (append_assoc (take at bytes) taken (drop (at + length taken) bytes))
    ∙ drop_at (take at bytes) (taken ++ drop (at + length taken) bytes) at (length-take-le at bytes within)

-- a list whose first byte is known
pub first_known : (bytes : List ℕ) (byte : ℕ) → take 1 bytes ≡ byte ∷ [] → bytes ≡ byte ∷ drop 1 bytes
first_known [] byte is = absurd (cc)
first_known (b ∷ bytes) byte is = ap (λ x. x ∷ bytes) (head_of b byte is)
  where
    head_of : (a b : ℕ) → a ∷ [] ≡ b ∷ [] → a ≡ b
    head_of a b same = cc
