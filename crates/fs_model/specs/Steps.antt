-- Steps of a reading, one under the other in a `do` block. What ends it is the first of them that gives a fault.
use Rattle.std.specs.Prelude.{Option, Some, None, Result, Ok, Err}

-- goes on with a value, and ends at a fault
infixl 10 ◌>>=◌
abbrev pub ◌>>=◌ : {A B F : Type 0} → Result A F → (A → Result B F) → Result B F
(Ok value) >>= next = next value
(Err fault) >>= next = Err fault

-- goes on where there is no fault
infixl 10 ◌>>◌
abbrev pub ◌>>◌ : {A F : Type 0} → Option F → Result A F → Result A F
None >> next = next
(Some fault) >> next = Err fault
