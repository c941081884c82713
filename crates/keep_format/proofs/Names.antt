-- Names of rows, and their order in a map.
use Rattle.std.proofs.Common.{◌≡◌, ℕ, Bool, true, false, ◌&&◌, ◌==◌, refl, ◌∙◌, ap, arith}
use Rattle.std.proofs.lemmas.Bool.Decides.{nat_tests}
use Rattle.std.specs.Ordering.{nat_cmp, ordering_then, is_eq}
use Rattle.std.specs.declared.cmp.Ordering.{Ordering}
use Rattle.std.specs.declared.cmp.Ordering.TheVariants.{Less, Equal, Greater}
use Rattle.keep_format.specs.declared.rows.KeptRow.{KeptRow}

abbrev pub name_cmp : ℕ × ℕ × ℕ → ℕ × ℕ × ℕ → Ordering
name_cmp x y = ordering_then (ordering_then (nat_cmp x.0 y.0) (nat_cmp x.1 y.1)) (nat_cmp x.2 y.2)

abbrev pub name_of : KeptRow → ℕ × ℕ × ℕ
name_of row = (row.cycle, row.cell, row.bit)

abbrev pub has_name : KeptRow → ℕ × ℕ × ℕ → Bool
has_name row name = (row.cycle == name.0) && ((row.cell == name.1) && (row.bit == name.2))

both : (a b : Bool) → (a && b) ≡ true → (a ≡ true) × (b ≡ true)
both true b is = (refl, is)
both false b is = absurd (cc)

pub same_number : (a b : ℕ) → (a == b) ≡ true → a ≡ b
same_number a b is = grind (arith, nat_tests)

-- the one name of a row
pub name_same : (row : KeptRow) (name : ℕ × ℕ × ℕ) → has_name row name ≡ true → name_of row ≡ name
name_same row name is =
    let first = both (row.cycle == name.0) ((row.cell == name.1) && (row.bit == name.2)) is in
    let second = both (row.cell == name.1) (row.bit == name.2) first.1 in
    let a = same_number row.cycle name.0 first.0 in
    let b = same_number row.cell name.1 second.0 in
    let c = same_number row.bit name.2 second.1 in
    rw (a, b, c) refl

equal_numbers : (a b : ℕ) → is_eq (nat_cmp a b) ≡ (a == b)
equal_numbers a b = grind (arith, nat_tests)

then_equal : (a b : Ordering) → is_eq (ordering_then a b) ≡ (is_eq a && is_eq b)
then_equal Less b = refl
then_equal Equal b = refl
then_equal Greater b = refl

and_assoc : (a b c : Bool) → ((a && b) && c) ≡ (a && (b && c))
and_assoc true b c = refl
and_assoc false b c = refl

-- the order of names finds equal ones
pub equal_names : (row : KeptRow) (name : ℕ × ℕ × ℕ) → is_eq (name_cmp (name_of row) name) ≡ has_name row name
equal_names row name =
    then_equal (ordering_then (nat_cmp row.cycle name.0) (nat_cmp row.cell name.1)) (nat_cmp row.bit name.2)
    ∙ ap (λ (b : Bool). b && is_eq (nat_cmp row.bit name.2)) (then_equal (nat_cmp row.cycle name.0) (nat_cmp row.cell name.1))
    ∙ and_assoc (is_eq (nat_cmp row.cycle name.0)) (is_eq (nat_cmp row.cell name.1)) (is_eq (nat_cmp row.bit name.2))
    ∙ ap (λ (b : Bool). b && (is_eq (nat_cmp row.cell name.1) && is_eq (nat_cmp row.bit name.2))) (equal_numbers row.cycle name.0)
    ∙ ap (λ (b : Bool). (row.cycle == name.0) && (b && is_eq (nat_cmp row.bit name.2))) (equal_numbers row.cell name.1)
    ∙ ap (λ (b : Bool). (row.cycle == name.0) && ((row.cell == name.1) && b)) (equal_numbers row.bit name.2)
