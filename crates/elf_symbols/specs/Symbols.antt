-- The functions and objects of an ELF image. Fields are named as in the ELF specification, chapter "Symbol Table".
use Rattle.std.specs.Prelude.{◌≡◌, ◌≢◌, ℕ, ◌+◌, ◌*◌, ◌/◌, ◌==◌, not, ◌&&◌, ◌||◌, Bool, true, false, if◌then◌else◌, List}
use Rattle.std.specs.Prelude.{[], ◌∷◌, map, filter, slice_index, bit_and, Option, Some, None, ok_or, Result, Ok, Err}
use Rattle.std.specs.List.{range_with_len}
use Rattle.elf_loader.specs.Image.{half_at, word_at}
use Rattle.fs_model.specs.Steps.{◌>>=◌, ◌>>◌}
use Rattle.elf_symbols.specs.declared.entries.SymbolEntry.{SymbolEntry}
use Rattle.elf_symbols.specs.declared.refusals.SymbolRefusal.{SymbolRefusal}
use Rattle.elf_symbols.specs.declared.refusals.SymbolRefusal.TheVariants.{BadSections, BadName, NoMemory}
use Rattle.elf_symbols.specs.declared.sections.SectionHeader.{SectionHeader}
use Rattle.elf_symbols.specs.declared.tables.Symbol.{Symbol}
use Rattle.elf_symbols.specs.Names.{name_at}
use Rattle.elf_symbols.specs.Sections.{e_shnum, section, contents, has_section_headers, first_symbol_table, is_symbol_table, is_string_table}

-- ---- an entry of a symbol table, Elf32_Sym

-- the entry of 16 bytes at a place
unfoldable pub symbol_entry : List ℕ → ℕ → SymbolEntry
symbol_entry file at = record {
  st_name = word_at file at;
  st_value = word_at file (at + 4);
  st_size = word_at file (at + 8);
  st_info = slice_index file (at + 12);
  st_shndx = half_at file (at + 14);
}

-- the symbol's type is STT_OBJECT, or STT_FUNC
abbrev pub is_object : SymbolEntry → Bool
is_object entry = bit_and entry.st_info 0xF == 1

abbrev pub is_function : SymbolEntry → Bool
is_function entry = bit_and entry.st_info 0xF == 2

-- an object or a function that has bytes, and that the image defines: st_shndx is not SHN_UNDEF
unfoldable pub is_chosen : SymbolEntry → Bool
is_chosen entry = (is_object entry || is_function entry) && not (entry.st_size == 0) && not (entry.st_shndx == 0)

-- the entries of a symbol table, in their order
abbrev pub entries : List ℕ → SectionHeader → List SymbolEntry
entries file table = map (λ k. symbol_entry file (table.sh_offset + 16 * k)) (range_with_len 0 (table.sh_size / 16))

-- ---- the symbols

-- what is wrong where a test fails
abbrev pub unless : Bool → SymbolRefusal → Option SymbolRefusal
unless true refusal = None
unless false refusal = Some refusal

-- entries with their names
unfoldable pub named : List ℕ → List SymbolEntry → Result (List Symbol) SymbolRefusal
named strings [] = Ok []
named strings (entry ∷ rest) = do
  name ← ok_or (name_at strings entry.st_name) BadName
  others ← named strings rest
  Ok (record { name = name; value = entry.st_value; size = entry.st_size; is_function = is_function entry } ∷ others)

-- the chosen symbols of a symbol table, if there is one
unfoldable pub symbols_of : List ℕ → Option SectionHeader → Result (List Symbol) SymbolRefusal
symbols_of file None = Ok []
symbols_of file (Some table) = do
  unless (is_symbol_table file table) BadSections
  unless (is_string_table file (section file table.sh_link)) BadSections
  named (contents file (section file table.sh_link)) (filter is_chosen (entries file table))

-- the functions and objects of an image in the order of its symbol table, or why they cannot be read
unfoldable pub symbols : List ℕ → Result (List Symbol) SymbolRefusal
symbols file =
    if e_shnum file == 0 then Ok [] else do
      unless (has_section_headers file) BadSections
      symbols_of file (first_symbol_table file)

-- a reading that was refused is refused for that, or memory ran out, which it does for no image that has bad sections or
-- no symbols
abbrev pub RefusesSymbols : SymbolRefusal → Result (List Symbol) SymbolRefusal → Type 0
RefusesSymbols NoMemory symbols = (symbols ≢ Err BadSections) × (symbols ≢ Ok [])
RefusesSymbols refusal symbols = symbols ≡ Err refusal
