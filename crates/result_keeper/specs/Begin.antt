-- What beginning a file leaves.
use Rattle.std.specs.Prelude.{◌≡◌, ◌⊎◌, ℕ, false, ◌==◌, List, [], ◌∷◌, ◌++◌, Err, Ok}
use Rattle.fs_outside.specs.Past.{Past, IsImage}
use Rattle.keep_format.specs.declared.fault.FormatFault.TheVariants.{NotACampaign}
use Rattle.keep_format.specs.KeepFile.{KeptFile, is_campaign, head_bytes, kept}

-- its first byte is there, and closed
pub record IsClosed (file : List ℕ) : Type 0 where
  pub byte : ℕ
  pub rest : List ℕ
  pub is : file ≡ byte ∷ rest
  pub shut : (byte == 0xA5) ≡ false

-- as it was, or no campaign
abbrev pub IsSameOrNone : List ℕ → List ℕ → Type 0
IsSameOrNone file image = (image ≡ file) ⊎ (is_campaign image ≡ false)

-- the file of a card and no rows
abbrev pub file_begun : List ℕ → KeptFile
file_begun card = record { card = card; rows = [] }

-- an image is one of three: as at entry, refused as no campaign, or an open file of this card with no rows
abbrev pub IsOneOfThree : Past → List ℕ → List ℕ → Type 0
IsOneOfThree old card image = IsImage old image ⊎ ((kept image ≡ Err NotACampaign) ⊎ (kept image ≡ Ok (file_begun card)))

-- it begins with the head of a file of this card, and a closed gate
abbrev pub IsHeaded : List ℕ → List ℕ → Type 0
IsHeaded card file = (rest : List ℕ) × (file ≡ head_bytes card ++ 0 ∷ rest)

-- it is empty, or its first byte is open
abbrev pub NeedsClosing : List ℕ → Type 0
NeedsClosing file = (file ≡ []) ⊎ ((rest : List ℕ) × (file ≡ 0xA5 ∷ rest))
