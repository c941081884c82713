-- The image of a case has a file header.
use Rattle.std.proofs.Common.{◌≡◌, ℕ, ◌≤◌, Bool, true, false, List, length, Result, Ok, Err, if◌then◌else◌, refl, subst, arith}
use Rattle.std.proofs.lemmas.Bool.Decides.{nat_tests}
use Rattle.std.specs.Prelude.{nat_lt}
use Rattle.fs_model.specs.Case.{CaseData}
use Rattle.fs_model.specs.Map.{MapData}
use Rattle.fs_model.specs.Steps.{◌>>=◌}
use Rattle.elf_loader.specs.Image.{blank, file_header, image, laid_all}
use Rattle.elf_loader.specs.declared.faults.ImageFault.{ImageFault}
use Rattle.elf_loader.specs.declared.faults.ImageFault.TheVariants.{Short}

abbrev IsSizedIf : {A : Type 0} → List ℕ → Result A ImageFault → Type 0
IsSizedIf file (Ok value) = 52 ≤ length file
IsSizedIf file (Err fault) = Unit {0}

of_any : {A : Type 0} (file : List ℕ) (r : Result A ImageFault) → 52 ≤ length file → IsSizedIf file r
of_any file (Ok value) long = long
of_any file (Err fault) long = tt

unless_short : {A : Type 0} (file : List ℕ) (short : Bool) (rest : Result A ImageFault) → nat_lt (length file) 52 ≡ short → IsSizedIf file (if short then Err Short else rest)
unless_short file true rest is = tt
unless_short file false rest is = of_any file rest (grind (arith, nat_tests))

header_sized : (file : List ℕ) → IsSizedIf file (file_header file)
unfolding file_header
header_sized file = unless_short file (nat_lt (length file) 52) _ refl

onward : {A B : Type 0} (file : List ℕ) (r : Result A ImageFault) (next : A → Result B ImageFault) → IsSizedIf file r → IsSizedIf file (r >>= next)
onward file (Ok value) next long = of_any file (next value) long
onward file (Err fault) next long = tt

image_sized : (file : List ℕ) (map : MapData) (limit : ℕ) → IsSizedIf file (image file map limit)
unfolding image
image_sized file map limit = onward file (file_header file) (λ header. laid_all file header.e_phnum header.e_phoff (blank map header.e_entry limit)) (header_sized file)

pub sized : (file : List ℕ) (map : MapData) (limit : ℕ) (c : CaseData) → image file map limit ≡ Ok c → 52 ≤ length file
sized file map limit c is = subst (IsSizedIf file) is (image_sized file map limit)
