-- The case of an image has neither flag.
use Rattle.std.proofs.Common.{◌≡◌, ℕ, zero, suc, ◌+◌, ◌==◌, Bool, true, false, not, List, length, take, drop, Result, Ok, Err, if◌then◌else◌, refl, subst}
use Rattle.std.specs.Prelude.{nat_lt}
use Rattle.fs_model.specs.Case.{CaseData, covers, filled}
use Rattle.fs_model.specs.Map.{MapData}
use Rattle.fs_model.specs.Regions.{holds}
use Rattle.fs_model.specs.Steps.{◌>>=◌}
use Rattle.elf_loader.specs.Image.{blank, file_header, image, laid, laid_all, program_header}
use Rattle.elf_loader.specs.declared.faults.ImageFault.{ImageFault}
use Rattle.elf_loader.specs.declared.headers.ProgramHeader.{ProgramHeader}

abbrev pub IsBare : CaseData → Type 0
IsBare c = (c.pc_cell ≡ false) × (c.ram_code ≡ false)

abbrev IsBareIf : Result CaseData ImageFault → Type 0
IsBareIf (Ok c) = IsBare c
IsBareIf (Err fault) = Unit {0}

either : (b : Bool) (x y : Result CaseData ImageFault) → IsBareIf x → IsBareIf y → IsBareIf (if b then x else y)
either true x y p q = p
either false x y p q = q

onward : {A : Type 0} (r : Result A ImageFault) (next : A → Result CaseData ImageFault) → ((a : A) → IsBareIf (next a)) → IsBareIf (r >>= next)
onward (Ok a) next each = each a
onward (Err fault) next each = tt

onward_bare : (r : Result CaseData ImageFault) (next : CaseData → Result CaseData ImageFault) → IsBareIf r
    → ((c : CaseData) → IsBare c → IsBareIf (next c)) → IsBareIf (r >>= next)
onward_bare (Ok c) next is each = each c is
onward_bare (Err fault) next is each = tt

either_bare : (b : Bool) (x y : CaseData) → IsBare x → IsBare y → IsBare (if b then x else y)
either_bare true x y p q = p
either_bare false x y p q = q

filled_bare : (c : CaseData) (at : ℕ) (bytes : List ℕ) → IsBare c → IsBare (filled c at bytes)
filled_bare c at bytes bare = either_bare (holds c.rom_base c.rom at (length bytes)) _ _ bare bare

laid_bare : (file : List ℕ) (h : ProgramHeader) (c : CaseData) → IsBare c → IsBareIf (laid file h c)
unfolding laid
laid_bare file h c bare =
    either (not (h.p_type == 1)) _ _ bare (
    either (nat_lt h.p_memsz h.p_filesz) _ _ tt (
    either (nat_lt (length file) (h.p_offset + h.p_filesz)) _ _ tt (
    either (h.p_filesz == 0) _ _ bare (
    either (not (covers c h.p_paddr h.p_filesz)) _ _ tt (
    filled_bare c h.p_paddr (take h.p_filesz (drop h.p_offset file)) bare)))))

all_bare : (file : List ℕ) (count at : ℕ) (c : CaseData) → IsBare c → IsBareIf (laid_all file count at c)
unfolding laid_all
all_bare file zero at c bare = bare
all_bare file (suc count) at c bare =
    onward_bare (laid file (program_header file at) c) (laid_all file count (at + 32)) (laid_bare file (program_header file at) c bare)
    (λ next is. all_bare file count (at + 32) next is)

image_bare : (file : List ℕ) (map : MapData) (limit : ℕ) → IsBareIf (image file map limit)
unfolding image
image_bare file map limit =
    onward (file_header file) _ (λ header. all_bare file header.e_phnum header.e_phoff (blank map header.e_entry limit) (refl, refl))

pub loaded_bare : (file : List ℕ) (map : MapData) (limit : ℕ) (c : CaseData) → image file map limit ≡ Ok c → IsBare c
loaded_bare file map limit c is = subst IsBareIf is (image_bare file map limit)
