-- What a trail is.
use Rattle.std.specs.Prelude.{◌≡◌, ◌⊎◌, List, [], ◌∷◌, ◌++◌}
use Rattle.known_states.specs.Known.{KeyData}

pub record TrailData : Type 0 where
  pub here : KeyData
  pub keys : List KeyData

-- the key was noted after the others, or there was no room
abbrev pub IsNoted : List KeyData → KeyData → List KeyData → Type 0
IsNoted old key new = (new ≡ old ++ key ∷ []) ⊎ (new ≡ old)
