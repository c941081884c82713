-- A call more is filled.
use Rattle.std.proofs.Common.{◌≡◌, ◌⊎◌, inl, inr, ⊎_elim, ℕ, ◌+◌, ◌<◌, ◌≤◌, List, [], ◌∷◌, ◌++◌, length, take, get_or, sym, ◌∙◌, ap, subst}
use Rattle.std.proofs.lemmas.Bool.{cases_lt}
use Rattle.std.proofs.lemmas.List.{take_more}
use Rattle.fs_outside.specs.declared.memory.tape.Call.{Call}
use Rattle.fs_outside.specs.declared.memory.tape.Call.TheVariants.{Write, Sync}
use Rattle.fs_outside.specs.Past.{Past, IsWritten}
use Rattle.fs_outside.specs.Replay.{IsFilled, next, replayed}
use Rattle.fs_outside.proofs.Replays.{replayed-push}

-- the image has the byte where there was a write, and elsewhere is as the bytes
pub record AgreesElsewhere (past : Past) (byte : ℕ) (bytes image : List ℕ) : Type 0 where
  pub size : length image ≡ length bytes
  pub filled : (i : ℕ) → i < length image → IsWritten past i → get_or image i 0 ≡ byte
  pub same : (i : ℕ) → (IsWritten past i → ⊥) → get_or image i 0 ≡ get_or bytes i 0

-- a place is in a write's range, or not
apart : (at count i : ℕ) → ((at ≤ i) × (i < at + count)) ⊎ ((i < at) ⊎ (at + count ≤ i))
apart at count i =
    ⊎_elim
    (λ (below : i < at). inr (inl below))
    (λ (above : at ≤ i).
    ⊎_elim (λ (inside : i < at + count). inl (above, inside)) (λ (behind : at + count ≤ i). inr (inr behind)) (cases_lt i (at + count)))
    (cases_lt i at)

step : (past : Past) (call : Call) (byte : ℕ) (bytes image after : List ℕ) → AgreesElsewhere past byte bytes image
    → IsFilled bytes byte image call after → AgreesElsewhere (next past call) byte bytes after
step past (Write at count taken) byte bytes image after agrees filled = record {
  size = filled.0 ∙ agrees.size;
  filled = λ i lt written.
      ⊎_elim
      (λ inside. filled.2 i inside.0 inside.1 lt)
      (λ outside.
      ⊎_elim
      (λ inside. filled.2 i inside.0 inside.1 lt)
      (λ before. filled.1 i outside ∙ agrees.filled i (subst (λ (n : ℕ). i < n) filled.0 lt) before)
      written)
      (apart at count i);
  same = λ i free.
      ⊎_elim
      (λ inside. absurd (free (inl inside)))
      (λ outside. filled.1 i outside ∙ agrees.same i (λ w. free (inr w)))
      (apart at count i);
}
step past Sync byte bytes image after agrees filled = record {
  size = ap length filled;
  filled = λ i lt written. absurd written;
  same = λ i free. ap (λ (l : List ℕ). get_or l i 0) filled;
}

pub step_on : (made : Past) (calls : List Call) (k : ℕ) (call : Call) (byte : ℕ) (bytes image after : List ℕ)
    → k < length calls → call ≡ get_or calls k call → AgreesElsewhere (replayed made (take k calls)) byte bytes image
    → IsFilled bytes byte image call after → AgreesElsewhere (replayed made (take (k + 1) calls)) byte bytes after
step_on made calls k call byte bytes image after lt read agrees filled =
    let more : take (k + 1) calls ≡ take k calls ++ call ∷ [] = take_more calls k call lt ∙ ap (λ (c : Call). take k calls ++ c ∷ []) (sym read) in
    subst (λ p. AgreesElsewhere p byte bytes after) (sym (ap (replayed made) more ∙ replayed-push made (take k calls) call))
    (step (replayed made (take k calls)) call byte bytes image after agrees filled)
