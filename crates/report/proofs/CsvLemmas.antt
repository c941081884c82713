-- The rows of a list, one behind the other.
use Rattle.std.proofs.Common.{◌≡◌, ◌≤◌, ℕ, List, [], ◌∷◌, ◌++◌, refl, ap, ◌∙◌, subst, arith, append_assoc, append-nil, sym, take, drop, suc, zero, ◌+◌}
use Rattle.std.proofs.lemmas.Grind.{flat_map-append}
use Rattle.std.proofs.lemmas.List.{take_all, take-append-drop}
use Rattle.std.proofs.lemmas.Option.{get_or_from_slice_get, slice_get_within}
use Rattle.std.proofs.lemmas.Slice.Zip.{length-zip}
use Rattle.std.specs.Prelude.{Some, length, slice_get, zip}
use Rattle.std.specs.List.{flat_map}
use Rattle.fs_outside.specs.Writing.{TookPart}
use Rattle.report.specs.Buffer.{Moved}
use Rattle.report.proofs.Buffered.{moved_on, moved_part, part_goes_on, texts_to}

-- one element more, by its number
pub rows_more : {X : Type 0} (f : X → List ℕ) (xs : List X) (i : ℕ) (x : X) → slice_get xs i ≡ Some x
    → flat_map f (take (i + 1) xs) ≡ flat_map f (take i xs) ++ f x
rows_more f xs i x e =
    texts_to f xs i x (slice_get_within xs i x e) ∙ ap (λ y. flat_map f (take i xs) ++ f y) (get_or_from_slice_get xs i x x e)

-- the row of the next number
pub row_next : {X : Type 0} (f : X → List ℕ) (xs : List X) (i : ℕ) (x : X) (names old new : List ℕ) → slice_get xs i ≡ Some x
    → old ≡ names ++ flat_map f (take i xs) → new ≡ old ++ f x → new ≡ names ++ flat_map f (take (i + 1) xs)
row_next f xs i x names old new e p q =
    q ∙ (ap (λ s. s ++ f x) p ∙ (append_assoc names (flat_map f (take i xs)) (f x) ∙ ap (λ s. names ++ s) (sym (rows_more f xs i x e))))

-- ---- rows on their way, behind the names of their columns

-- none yet
pub no_rows : {X : Type 0} (f : X → List ℕ) (xs : List X) (names t w t' w' : List ℕ)
    → Moved t w t' w' names → Moved t w t' w' (names ++ flat_map f (take 0 xs))
no_rows f xs names t w t' w' m = subst (Moved t w t' w') (sym (append-nil names)) m

-- one more
pub row_moves : {X : Type 0} (f : X → List ℕ) (xs : List X) (i : ℕ) (x : X) (names t w t' w' t'' w'' : List ℕ) → slice_get xs i ≡ Some x
    → Moved t w t' w' (names ++ flat_map f (take i xs)) → Moved t' w' t'' w'' (f x) → Moved t w t'' w'' (names ++ flat_map f (take (i + 1) xs))
row_moves f xs i x names t w t' w' t'' w'' e m n =
    subst (Moved t w t'' w'') (row_next f xs i x names _ _ e refl refl) (moved_on t w t' w' t'' w'' (names ++ flat_map f (take i xs)) (f x) m n)

-- all of them
pub rows_moved : {X : Type 0} (f : X → List ℕ) (xs ys : List X) (names t w t' w' : List ℕ) → ys ≡ xs
    → Moved t w t' w' (names ++ flat_map f ys) → Moved t w t' w' (names ++ flat_map f xs)
rows_moved f xs ys names t w t' w' all m = subst (λ l. Moved t w t' w' (names ++ flat_map f l)) all m

-- or some of them, and then a part of the next
pub row_fails : {X : Type 0} (f : X → List ℕ) (xs : List X) (i : ℕ) (x : X) (names t w t' w' t'' : List ℕ) → slice_get xs i ≡ Some x
    → Moved t w t' w' (names ++ flat_map f (take i xs)) → TookPart t' t'' (w' ++ f x) → TookPart t t'' (w ++ (names ++ flat_map f xs))
row_fails f xs i x names t w t' w' t'' e m p =
    let some : List ℕ = names ++ flat_map f (take i xs) in
    let rest : List ℕ = flat_map f (drop (i + 1) xs) in
    let split : flat_map f (take (i + 1) xs) ++ rest ≡ flat_map f xs =
    sym (flat_map-append f (take (i + 1) xs) (drop (i + 1) xs)) ∙ ap (flat_map f) (take-append-drop (i + 1) xs) in
    let whole : some ++ f x ++ rest ≡ names ++ flat_map f xs =
    ap (λ (s : List ℕ). s ++ rest) (row_next f xs i x names _ _ e refl refl)
    ∙ append_assoc names (flat_map f (take (i + 1) xs)) rest ∙ ap (λ (s : List ℕ). names ++ s) split in
    subst (λ (s : List ℕ). TookPart t t'' (w ++ s)) whole (part_goes_on t t'' w (some ++ f x) rest (moved_part t w t' w' t'' some (f x) m p))

-- ---- two lists side by side

-- an element of two lists side by side
pub zip_at : {X Y : Type 0} (xs : List X) (ys : List Y) (i : ℕ) (x : X) (y : Y) → slice_get xs i ≡ Some x → slice_get ys i ≡ Some y
    → slice_get (zip xs ys) i ≡ Some (x, y)
zip_at [] ys i x y e f = cc
zip_at (a ∷ xs) [] i x y e f = cc
zip_at (a ∷ xs) (b ∷ ys) zero x y e f =
    let first : a ≡ x = cc in
    let second : b ≡ y = cc in
    rw (first, second) refl
zip_at (a ∷ xs) (b ∷ ys) (suc i) x y e f = zip_at xs ys i x y e f

-- all of them
pub zip_whole : {X Y : Type 0} (xs : List X) (ys : List Y) (n : ℕ) → length xs ≤ n → take n (zip xs ys) ≡ zip xs ys
zip_whole xs ys n h =
    take_all n (zip xs ys) (let fewer = length-zip xs ys in grind (arith, fewer, h))
