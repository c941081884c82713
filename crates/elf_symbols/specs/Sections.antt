-- The sections of an ELF image. Fields are named as in the ELF specification, chapters "ELF Header" and "Sections".
use Rattle.std.specs.Prelude.{ℕ, ◌+◌, ◌*◌, ◌%◌, ◌==◌, nat_lt, nat_le, ◌&&◌, Bool, List, length, take, drop, map, Option}
use Rattle.std.specs.List.{find, range_with_len}
use Rattle.elf_loader.specs.Image.{half_at, word_at}
use Rattle.elf_symbols.specs.declared.sections.SectionHeader.{SectionHeader}

-- ---- of the file header, Elf32_Ehdr

-- where the section headers begin, how many bytes each has, and how many there are
abbrev pub e_shoff : List ℕ → ℕ
e_shoff file = word_at file 32

abbrev pub e_shentsize : List ℕ → ℕ
e_shentsize file = half_at file 46

abbrev pub e_shnum : List ℕ → ℕ
e_shnum file = half_at file 48

-- ---- a section header, Elf32_Shdr

-- the section header of 40 bytes at a place
unfoldable pub section_header : List ℕ → ℕ → SectionHeader
section_header file at = record {
  sh_type = word_at file (at + 4);
  sh_offset = word_at file (at + 16);
  sh_size = word_at file (at + 20);
  sh_link = word_at file (at + 24);
  sh_entsize = word_at file (at + 36);
}

-- that of the section with a number
abbrev pub section : List ℕ → ℕ → SectionHeader
section file index = section_header file (e_shoff file + 40 * index)

-- the section headers have 40 bytes each, and their table ends within the file
unfoldable pub has_section_headers : List ℕ → Bool
has_section_headers file = (e_shentsize file == 40) && nat_le (e_shoff file + 40 * e_shnum file) (length file)

-- it is SHT_SYMTAB
abbrev pub is_symtab : SectionHeader → Bool
is_symtab header = header.sh_type == 2

-- the first section of type SHT_SYMTAB
unfoldable pub first_symbol_table : List ℕ → Option SectionHeader
first_symbol_table file = find is_symtab (map (section file) (range_with_len 0 (e_shnum file)))

-- a section's bytes, and whether they end within the file
abbrev pub contents : List ℕ → SectionHeader → List ℕ
contents file header = take header.sh_size (drop header.sh_offset file)

unfoldable pub is_within : List ℕ → SectionHeader → Bool
is_within file header = nat_le (header.sh_offset + header.sh_size) (length file)

-- its entries have 16 bytes each and end within the file, and it is linked to a section
unfoldable pub is_symbol_table : List ℕ → SectionHeader → Bool
is_symbol_table file header =
    (header.sh_entsize == 16) && (header.sh_size % 16 == 0) && is_within file header && nat_lt header.sh_link (e_shnum file)

-- it is SHT_STRTAB, and ends within the file
unfoldable pub is_string_table : List ℕ → SectionHeader → Bool
is_string_table file header = (header.sh_type == 3) && is_within file header
