-- What `from_str_radix` and `strip_prefix` give, in the words of specs/Number.
use Rattle.std.proofs.Common.{◌≡◌, ◌≢◌, ◌≤◌, ◌<◌, ◌^◌, ℕ, ◌-◌, Bool, true, false, ◌&&◌, List, [], ◌∷◌, length, get_or, refl, ap, arith, if◌then◌else◌}
use Rattle.std.specs.Prelude.{Option, Some, None, Result, Ok, Err, nat_lt, nat_le, MatchOption, option_map}
use Rattle.std.specs.Borrow.{Bor}
use Rattle.std.specs.Result.{result_ok}
use Rattle.std.specs.List.{list_all}
use Rattle.std.specs.Char.{is_digit}
use Rattle.std.specs.Str.Parse.{AllDigits, IsNumeral, ParsesUnsigned, digits_value}
use Rattle.std.proofs.lemmas.Str.Parse.{without_leading_plus_none}
use Rattle.std.proofs.lemmas.Bool.Decides.{nat_tests}
use Rattle.command_line.specs.Number.{numeral, within, hex_digits, after_x}

pub test_digits : (base : ℕ) (ds : List ℕ) → AllDigits base ds → list_all (λ d. is_digit d base) ds ≡ true
test_digits base [] h = refl
test_digits base (d ∷ ds) h = grind (arith, nat_tests, h.0, test_digits base ds h.1)

pub digits_test : (base : ℕ) (ds : List ℕ) → list_all (λ d. is_digit d base) ds ≡ true → AllDigits base ds
digits_test base [] h = tt
digits_test base (d ∷ ds) h = (grind (arith, nat_tests, h), digits_test base ds (grind (arith, nat_tests, h)))

-- the tests of `numeral` hold of the digits
abbrev pub Passes : ℕ → ℕ → List ℕ → Type 0
Passes base most ds = (nat_lt 0 (length ds) && (nat_le (length ds) most && list_all (λ d. is_digit d base) ds)) ≡ true

pub numeral_of : (base most : ℕ) (ds : List ℕ) → Passes base most ds → numeral base most ds ≡ Some (digits_value base ds)
numeral_of base most ds h = rw h refl

pub no_numeral : (base most : ℕ) (ds : List ℕ) → (Passes base most ds → ⊥) → numeral base most ds ≡ None
no_numeral base most ds h =
    elim (nat_lt 0 (length ds) && (nat_le (length ds) most && list_all (λ d. is_digit d base) ds)) as
    (λ (b : Bool). (b ≡ true → ⊥) → (if b then Some (digits_value base ds) else None) ≡ None)
    [ true ↦ λ refuted. absurd (refuted refl) | false ↦ λ refuted. refl ] h

pub passes : (base most : ℕ) (ds : List ℕ) → IsNumeral base ds → length ds ≤ most → Passes base most ds
passes base most ds h short = grind (arith, nat_tests, test_digits base ds h.1, h.0)

pub numeral_passes : (base most : ℕ) (ds : List ℕ) → Passes base most ds → IsNumeral base ds × (length ds ≤ most)
numeral_passes base most ds h = (
  (grind (arith, nat_tests, h), digits_test base ds (grind (arith, nat_tests, h))),
  grind (arith, nat_tests, h),
)

too_large : (v : ℕ) → (v < 2 ^ 64 → ⊥) → None ≡ within 0 (2 ^ 64 - 1) (Some v)
too_large v h = grind (arith, nat_tests, h)

small_enough : (v : ℕ) → v < 2 ^ 64 → Some v ≡ within 0 (2 ^ 64 - 1) (Some v)
small_enough v h = grind (arith, nat_tests, h)

pub plain_numeral : {E : Type 0} (base most : ℕ) (ds : List ℕ) (r : Result ℕ E)
    → ParsesUnsigned 64 base ds r → get_or ds 0 0 ≢ 43 → length ds ≤ most
    → result_ok r ≡ within 0 (2 ^ 64 - 1) (numeral base most ds)
plain_numeral base most ds (Ok n) h plain short =
    let at = rw (without_leading_plus_none ds plain) at h in
    rw (numeral_of base most ds (passes base most ds at.0.0 short), at.1) (small_enough _ at.0.1)
plain_numeral base most ds (Err e) h plain short =
    let at = rw (without_leading_plus_none ds plain) at h in
    let test = nat_lt 0 (length ds) && (nat_le (length ds) most && list_all (λ d. is_digit d base) ds) in
    elim test as (λ (b : Bool). test ≡ b → None ≡ within 0 (2 ^ 64 - 1) (if b then Some (digits_value base ds) else None))
    [ true ↦ λ t. too_large (digits_value base ds) (λ small. at ((numeral_passes base most ds t).0, small)) | false ↦ λ _. refl ] refl

-- a range of 64 bits loses nothing of a range within it
pub within_wider : (least most : ℕ) (found : Option ℕ) → most ≤ 2 ^ 64 - 1 → within least most (within 0 (2 ^ 64 - 1) found) ≡ within least most found
within_wider least most None h = refl
within_wider least most (Some v) h = grind (arith, nat_tests, h)

abbrev text_in : Option (Bor (List ℕ)) → Option (List ℕ)
text_in = option_map (λ s. s.now)

-- what `strip_prefix` at the byte c says of the text bs
abbrev pub Strips : ℕ → List ℕ → Option (Bor (List ℕ)) → Type 0
Strips c bs r = MatchOption r ((rest : List ℕ) → bs ≢ c ∷ rest) (λ x. bs ≡ c ∷ x.now)

pub other_x : (bs : List ℕ) (r : Option (Bor (List ℕ))) → Strips 120 bs None → Strips 88 bs r → text_in r ≡ after_x bs
other_x bs (Some s) absent h = rw h refl
other_x [] None absent h = refl
other_x (b ∷ bs) None absent h =
    let not_x : b ≢ 120 = λ e. absent bs (ap (λ c. c ∷ bs) e) in
    let not_X : b ≢ 88 = λ e. h bs (ap (λ c. c ∷ bs) e) in
    grind (arith, nat_tests, not_x, not_X)

pub no_zero : (bs : List ℕ) → Strips 48 bs None → None ≡ hex_digits bs
no_zero [] absent = refl
no_zero (b ∷ bs) absent =
    let not_zero : b ≢ 48 = λ e. absent bs (ap (λ c. c ∷ bs) e) in
    grind (arith, nat_tests, not_zero)
