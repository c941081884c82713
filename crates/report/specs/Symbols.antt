-- Counts by function and object: which sites each line counts, and the text of the lines.
use Rattle.std.specs.Prelude.{ℕ, ◌≡◌, ◌+◌, ◌<◌, ◌==◌, ◌&&◌, not, nat_le, Bool, true, false, if◌then◌else◌, Option, List}
use Rattle.std.specs.Prelude.{[], ◌∷◌, ◌++◌, length, map, filter, slice_index, slice_index_or, codes, decimal}
use Rattle.std.specs.Option.{unwrap_or}
use Rattle.std.specs.List.{flat_map, range_with_len}
use Rattle.fs_model.specs.declared.sites.Site.{Site}
use Rattle.fs_model.specs.declared.sites.Cell.{Cell}
use Rattle.fs_model.specs.declared.sites.Cell.TheVariants.{Pc, Reg, Ram}
use Rattle.fs_model.specs.declared.outcomes.Outcome.{Outcome}
use Rattle.fs_model.specs.AccessLog.{log}
use Rattle.fs_model.specs.Case.{CaseData}
use Rattle.fs_model.specs.Cell.{cell_at}
use Rattle.fs_model.specs.Job.{jobs_in}
use Rattle.fs_model.specs.Outcome.{all_outcomes}
use Rattle.fs_model.specs.Run.{after, cycles}
use Rattle.elf_symbols.specs.declared.tables.Symbol.{Symbol}
use Rattle.elf_symbols.specs.Owners.{has, no_symbol, owner}
use Rattle.site_counts.specs.Boards.{on_board}
use Rattle.site_counts.specs.Counts.{count_where, spread}

-- ---- which line a site is on: there is one for each symbol, by its number, and two after them

-- the line of what no symbol has
abbrev pub none_line : List Symbol → ℕ
none_line symbols = length symbols

-- the line of dead sites among functions, and of registers and the pc among objects
abbrev pub last_line : List Symbol → ℕ
last_line symbols = length symbols + 1

-- the line of the function, or else of the object, that an address belongs to
unfoldable pub owner_line : Bool → List Symbol → ℕ → ℕ
owner_line function symbols at = unwrap_or (owner (has function at) symbols) (none_line symbols)

-- a live site belongs to the function that has the pc of its job's instruction
unfoldable pub function_line : CaseData → List Symbol → Site → ℕ
function_line c symbols job = owner_line true symbols (after c job.cycle).core.pc

-- a byte of RAM belongs to the object that has its address, a register and the pc to none
abbrev pub cell_line : CaseData → List Symbol → Cell → ℕ
cell_line c symbols (Ram offset) = owner_line false symbols (c.ram_base + offset)
cell_line c symbols (Reg number) = last_line symbols
cell_line c symbols Pc = last_line symbols

unfoldable pub object_line : CaseData → List Symbol → Site → ℕ
object_line c symbols site = cell_line c symbols (cell_at site.cell)

-- ---- how many sites of a line have an outcome

-- the outcomes that a board says of all sites: of a live one that of its job, and of a dead one no effect
abbrev pub board_outcomes : CaseData → List (Option Outcome) → Site → Outcome
board_outcomes c board = spread (log c) (on_board (jobs_in c) board)

-- by functions: the live sites by their jobs, and all dead ones on the last line
unfoldable pub function_counts : CaseData → (Site → Outcome) → List Symbol → ℕ → Outcome → ℕ
function_counts c outcomes symbols k o =
    count_where (log c) outcomes (λ job. function_line c symbols job == k) (λ site. last_line symbols == k) o

-- by objects: live sites and dead ones by their cell
unfoldable pub object_counts : CaseData → (Site → Outcome) → List Symbol → ℕ → Outcome → ℕ
object_counts c outcomes symbols k o =
    count_where (log c) outcomes (λ job. object_line c symbols job == k) (λ site. object_line c symbols site == k) o

-- ---- the text

-- a byte as it is shown: `?` (63) where it is no visible ASCII character
abbrev pub shown : ℕ → ℕ
shown byte = if nat_le 0x21 byte && nat_le byte 0x7E then byte else 63

-- a space (32) and a number for each outcome, and the end of the line (10)
abbrev pub counts_text : (Outcome → ℕ) → List ℕ
counts_text counts = flat_map (λ o. 32 ∷ decimal (counts o)) all_outcomes ++ 10 ∷ []

-- a word, a space, a name, and the counts
abbrev pub counts_line : List ℕ → List ℕ → (Outcome → ℕ) → List ℕ
counts_line word name counts = word ++ 32 ∷ (map shown name ++ counts_text counts)

abbrev pub symbol_at : List Symbol → ℕ → Symbol
symbol_at symbols k = slice_index_or symbols k no_symbol

-- the symbol of a number is a function, or else an object
abbrev pub is_one : Bool → List Symbol → ℕ → Bool
is_one function symbols k = if function then (symbol_at symbols k).is_function else not (symbol_at symbols k).is_function

-- the numbers of the functions, or else of the objects, in the order of the table
abbrev pub those : Bool → List Symbol → List ℕ
those function symbols = filter (is_one function symbols) (range_with_len 0 (length symbols))

-- the lines of the functions or of the objects, and the two lines after them
abbrev pub group_text : Bool → List ℕ → List ℕ → List Symbol → (ℕ → Outcome → ℕ) → List ℕ
group_text function word last symbols counts =
    flat_map (λ k. counts_line word (symbol_at symbols k).name (counts k)) (those function symbols)
    ++ (counts_line word (codes "(none)") (counts (none_line symbols))
    ++ counts_line word last (counts (last_line symbols)))

abbrev pub functions_text : CaseData → (Site → Outcome) → List Symbol → List ℕ
functions_text c outcomes symbols = group_text true (codes "function") (codes "(dead)") symbols (function_counts c outcomes symbols)

abbrev pub objects_text : CaseData → (Site → Outcome) → List Symbol → List ℕ
objects_text c outcomes symbols = group_text false (codes "object") (codes "(registers)") symbols (object_counts c outcomes symbols)

abbrev pub symbols_text : CaseData → List (Option Outcome) → List Symbol → List ℕ
symbols_text c board symbols = functions_text c (board_outcomes c board) symbols ++ objects_text c (board_outcomes c board) symbols

-- ---- what is given beside the case

-- the addresses at which the golden run fetches, one for each of its instructions
pub record ArePcs (c : CaseData) (pcs : List ℕ) : Type 0 where
  pub as_many : length pcs ≡ cycles c
  pub fetched : (t : ℕ) → t < length pcs → slice_index pcs t ≡ (after c t).core.pc
