-- What `strip_prefix` gives, in the words of specs/Parts.
use Rattle.std.proofs.Common.{◌≡◌, ◌≢◌, ℕ, List, [], ◌∷◌, refl, ap, arith}
use Rattle.std.specs.Prelude.{Option, Some, None, option_map}
use Rattle.std.specs.Borrow.{Bor}
use Rattle.std.proofs.lemmas.Bool.Decides.{nat_tests}
use Rattle.command_line.specs.Parts.{after_dot}
use Rattle.command_line.proofs.NumberLemmas.{Strips}

pub dot_stripped : (bs : List ℕ) (r : Option (Bor (List ℕ))) → Strips 46 bs r → option_map (λ (s : Bor (List ℕ)). s.now) r ≡ after_dot bs
dot_stripped bs (Some s) h = rw h refl
dot_stripped [] None absent = refl
dot_stripped (b ∷ bs) None absent =
    let not_dot : b ≢ 46 = λ e. absent bs (ap (λ c. c ∷ bs) e) in
    grind (arith, nat_tests, not_dot)
