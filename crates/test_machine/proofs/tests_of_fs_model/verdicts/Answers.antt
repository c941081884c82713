use Rattle.std.proofs.Common.{◌≡◌, Ok, subst}
use Rattle.std.specs.Prelude.{Result, IfOk}
use Rattle.fs_model.proofs.Examples.Endings.{flipped-illegal}
use Rattle.test_machine.proofs.tests_of_fs_model.verdicts.Goals as goal

-- the value of a call that succeeded is the one that its contract names
named : {A E : Type 0} (r : Result A E) (a b : A) → r ≡ Ok a → IfOk r (λ x. x ≡ b) → a ≡ b
named r a b is h = subst (λ s. IfOk s (λ x. x ≡ b)) is h

pub of-verdict-requires : goal.of-verdict-requires
of-verdict-requires g c =
    let map = named _ _ _ c.expect-map.ensures c.small_map.ensures in
    let case = named _ _ _ c.expect-case.ensures c.blank.ensures in
    rw (case, map) flipped-illegal
