-- The first of the missing numbers, cut into pages.
use Rattle.std.proofs.Common.{◌≡◌, ℕ, ◌+◌, ◌-◌, ◌≤◌, min, List, length, take, drop, Option, Some, None, ap, sym, ◌∙◌, arith, length-take, take_all}
use Rattle.std.proofs.lemmas.List.{take_min, drop_min, take-take, drop-take, length-take-le}
use Rattle.fs_model.specs.Pages.{within_budget}

-- the next page of so many numbers that are left, and the others
module _ (p left count : ℕ) (all : List ℕ) (fits : left ≤ length all) (is : count ≡ min left p) where
  long : length (take left all) ≡ left
  long = length-take-le left all fits

  least : min p (length (take left all)) ≡ count
  least = let l = long in omega (arith, l, is)

  pub page_taken : take p (take left all) ≡ take count all
  page_taken = sym (take_min p (take left all)) ∙ ap (λ (k : ℕ). take k (take left all)) least ∙ take-take count left all (omega (arith, is))

  pub rest_taken : drop p (take left all) ≡ take (left - count) (drop count all)
  rest_taken =
      let whole : left ≡ count + (left - count) = omega (arith, is) in
      sym (drop_min p (take left all))
      ∙ ap (λ (k : ℕ). drop k (take left all)) least
      ∙ ap (λ (k : ℕ). drop count (take k all)) whole
      ∙ drop-take count (left - count) all

-- a budget gives the first so many
pub within_take : (budget : Option ℕ) (all : List ℕ) → within_budget budget all ≡ take (length (within_budget budget all)) all
within_take None all = sym (take_all (length all) all (omega arith))
within_take (Some most) all =
    let l = length-take most all in
    sym (take_min most all) ∙ ap (λ (k : ℕ). take k all) (sym l)

pub within_some : (most : ℕ) (all : List ℕ) → length (within_budget (Some most) all) ≡ min most (length all)
within_some most all = length-take most all
