-- Where the last 0 byte of a string table stands.
use Rattle.std.proofs.Common.{◌≡◌, ℕ, ◌+◌, ◌-◌, ◌<◌, ◌≤◌, true, false, List, length, drop, get_or, sym, ◌∙◌, ⊎_elim, length-drop, arith}
use Rattle.std.specs.Prelude.{nat_lt}
use Rattle.std.specs.List.{list_any}
use Rattle.std.proofs.lemmas.Bool.{cases_lt, lt-ltb, le-ltb}
use Rattle.std.proofs.lemmas.List.{get_or-drop}
use Rattle.std.proofs.lemmas.List.Elements.{All-from_get_or}
use Rattle.std.proofs.lemmas.List.Folds.{list_any_at, list_any_none}
use Rattle.elf_symbols.specs.Names.{is_zero, IsNameEnd}

-- a 0 byte at a place is found from each place before it
found : (bytes : List ℕ) (end place : ℕ) → place < end → end ≤ length bytes → is_zero (get_or bytes (end - 1) 0) ≡ true → list_any is_zero (drop place bytes) ≡ true
found bytes end place lt le zero_there =
    let at : place + (end - 1 - place) ≡ end - 1 = omega arith in
    let inside : end - 1 - place < length (drop place bytes) = omega (arith, length-drop place bytes) in
    let is : is_zero (get_or (drop place bytes) (end - 1 - place) 0) ≡ true = rw (get_or-drop place bytes (end - 1 - place) 0, at) zero_there in
    list_any_at is_zero (drop place bytes) (end - 1 - place) 0 inside is

-- where none is behind a place, none is found from it on
none : (bytes : List ℕ) (end place : ℕ) → end ≤ place → ((k : ℕ) → end ≤ k → k < length bytes → is_zero (get_or bytes k 0) ≡ false) → list_any is_zero (drop place bytes) ≡ false
none bytes end place le without =
    list_any_none is_zero (drop place bytes)
    (All-from_get_or (λ b. is_zero b ≡ false) (drop place bytes) 0
    (λ i h.
    let inside : place + i < length bytes = omega (arith, length-drop place bytes) in
    rw (get_or-drop place bytes i 0) (without (place + i) (omega arith) inside)))

pub is_end : (bytes : List ℕ) (end : ℕ) → end ≤ length bytes → ((k : ℕ) → end ≤ k → k < length bytes → is_zero (get_or bytes k 0) ≡ false)
    → (0 < end → is_zero (get_or bytes (end - 1) 0) ≡ true) → IsNameEnd bytes end
is_end bytes end le without last = record { inside = le; below = below }
  where
    below : (place : ℕ) → list_any is_zero (drop place bytes) ≡ nat_lt place end
    below place =
        ⊎_elim
        (λ (lt : place < end). found bytes end place lt le (last (omega arith)) ∙ sym (lt-ltb place end lt))
        (λ (ge : end ≤ place). none bytes end place ge without ∙ sym (le-ltb place end ge))
        (cases_lt place end)
