-- The entries of a symbol table, and the section headers, that are left from the one that a loop is at.
use Rattle.std.proofs.Common.{◌≡◌, ◌≢◌, ℕ, suc, ◌+◌, ◌-◌, ◌*◌, ◌<◌, ◌≤◌, cond, Bool, true, false, List, [], ◌∷◌, ◌++◌, Option, Some, None, Result, Ok, Err, map, filter, refl, sym, ◌∙◌, ap, append_assoc, append-nil, arith}
use Rattle.std.specs.Prelude.{ok_or}
use Rattle.std.specs.List.{find, range_with_len}
use Rattle.fs_model.specs.Steps.{◌>>=◌}
use Rattle.elf_symbols.specs.declared.entries.SymbolEntry.{SymbolEntry}
use Rattle.elf_symbols.specs.declared.refusals.SymbolRefusal.{SymbolRefusal}
use Rattle.elf_symbols.specs.declared.refusals.SymbolRefusal.TheVariants.{BadSections, BadName}
use Rattle.elf_symbols.specs.declared.sections.SectionHeader.{SectionHeader}
use Rattle.elf_symbols.specs.declared.tables.Symbol.{Symbol}
use Rattle.elf_symbols.specs.Names.{name_at}
use Rattle.elf_symbols.specs.Sections.{is_symtab, section}
use Rattle.elf_symbols.specs.Symbols.{symbol_entry, is_chosen, is_function, named}

-- the numbers from one on are that one and those behind it
pub left_cons : (k count : ℕ) → k < count → range_with_len k (count - k) ≡ k ∷ range_with_len (k + 1) (count - (k + 1))
left_cons k count lt = let left : count - k ≡ suc (count - (k + 1)) = omega arith in rw left refl

pub left_none : (k count : ℕ) → count ≤ k → range_with_len k (count - k) ≡ []
left_none k count le = let none : count - k ≡ 0 = omega arith in rw none refl

-- ---- section headers

-- the first symbol table of those from a number on
abbrev pub table_from : List ℕ → ℕ → ℕ → Option SectionHeader
table_from file k count = find is_symtab (map (section file) (range_with_len k (count - k)))

abbrev found_in : List ℕ → List ℕ → Option SectionHeader
found_in file numbers = find is_symtab (map (section file) numbers)

pub is_table : (file : List ℕ) (k count : ℕ) (total : Option SectionHeader) → k < count → is_symtab (section file k) ≡ true → table_from file k count ≡ total → Some (section file k) ≡ total
is_table file k count total lt is so_far =
    let here : found_in file (k ∷ range_with_len (k + 1) (count - (k + 1))) ≡ Some (section file k) = ap (λ (b : Bool). cond b (Some (section file k)) (table_from file (k + 1) count)) is in
    sym here ∙ sym (ap (found_in file) (left_cons k count lt)) ∙ so_far

pub no_table : (file : List ℕ) (k count : ℕ) (total : Option SectionHeader) → k < count → is_symtab (section file k) ≡ false → table_from file k count ≡ total → table_from file (k + 1) count ≡ total
no_table file k count total lt is so_far =
    let here : found_in file (k ∷ range_with_len (k + 1) (count - (k + 1))) ≡ table_from file (k + 1) count = ap (λ (b : Bool). cond b (Some (section file k)) (table_from file (k + 1) count)) is in
    sym here ∙ sym (ap (found_in file) (left_cons k count lt)) ∙ so_far

pub no_tables : (file : List ℕ) (k count : ℕ) (total : Option SectionHeader) → count ≤ k → table_from file k count ≡ total → None ≡ total
no_tables file k count total le so_far = sym (ap (found_in file) (left_none k count le)) ∙ so_far

-- ---- symbols

-- the entries from a number on, of a table that begins at a place
abbrev pub entries_from : List ℕ → ℕ → ℕ → ℕ → List SymbolEntry
entries_from file at k count = map (λ i. symbol_entry file (at + 16 * i)) (range_with_len k (count - k))

-- those that are listed, and then the rest
abbrev pub joined : List Symbol → Result (List Symbol) SymbolRefusal → Result (List Symbol) SymbolRefusal
joined list (Ok rest) = Ok (list ++ rest)
joined list (Err refusal) = Err refusal

-- what a list comes to with the chosen of some entries
abbrev pub total : List ℕ → List Symbol → List SymbolEntry → Result (List Symbol) SymbolRefusal
total strings list entries = joined list (named strings (filter is_chosen entries))

abbrev pub symbol_of : List ℕ → SymbolEntry → Symbol
symbol_of name entry = record { name = name; value = entry.st_value; size = entry.st_size; is_function = is_function entry }

next : (file : List ℕ) (at k count : ℕ) → k < count → entries_from file at k count ≡ symbol_entry file (at + 16 * k) ∷ entries_from file at (k + 1) count
next file at k count lt = ap (map (λ i. symbol_entry file (at + 16 * i))) (left_cons k count lt)

-- an entry that is not chosen
skipped : (strings : List ℕ) (list : List Symbol) (entry : SymbolEntry) (rest : List SymbolEntry) → is_chosen entry ≡ false → total strings list (entry ∷ rest) ≡ total strings list rest
skipped strings list entry rest is = rw is refl

-- a chosen one whose name can be read
pushed : (strings : List ℕ) (list : List Symbol) (entry : SymbolEntry) (rest : List SymbolEntry) (name : List ℕ) → is_chosen entry ≡ true → name_at strings entry.st_name ≡ Some name
    → total strings list (entry ∷ rest) ≡ total strings (list ++ symbol_of name entry ∷ []) rest
unfolding named
pushed strings list entry rest name is there = rw (is, there) (by (named strings (filter is_chosen rest)))
  where
    by : (r : Result (List Symbol) SymbolRefusal) → joined list (r >>= λ (others : List Symbol). Ok (symbol_of name entry ∷ others)) ≡ joined (list ++ symbol_of name entry ∷ []) r
    by (Ok others) = ap Ok (sym (append_assoc list (symbol_of name entry ∷ []) others))
    by (Err refusal) = refl

-- one whose name cannot
refused : (strings : List ℕ) (list : List Symbol) (entry : SymbolEntry) (rest : List SymbolEntry) → is_chosen entry ≡ true → name_at strings entry.st_name ≡ None
    → total strings list (entry ∷ rest) ≡ Err BadName
unfolding named
refused strings list entry rest is there = rw (is, there) refl

pub goes_past : (file strings : List ℕ) (list : List Symbol) (at k count : ℕ) (whole : Result (List Symbol) SymbolRefusal) (entry : SymbolEntry) → k < count → entry ≡ symbol_entry file (at + 16 * k)
    → is_chosen entry ≡ false → total strings list (entries_from file at k count) ≡ whole → total strings list (entries_from file at (k + 1) count) ≡ whole
goes_past file strings list at k count whole entry lt this is so_far =
    let rest = entries_from file at (k + 1) count in
    sym (ap (total strings list) (next file at k count lt) ∙ ap (λ (e : SymbolEntry). total strings list (e ∷ rest)) (sym this) ∙ skipped strings list entry rest is) ∙ so_far

pub takes : (file strings : List ℕ) (list : List Symbol) (at k count : ℕ) (whole : Result (List Symbol) SymbolRefusal) (entry : SymbolEntry) (name : List ℕ) → k < count → entry ≡ symbol_entry file (at + 16 * k)
    → is_chosen entry ≡ true → name_at strings entry.st_name ≡ Some name → total strings list (entries_from file at k count) ≡ whole
    → total strings (list ++ symbol_of name entry ∷ []) (entries_from file at (k + 1) count) ≡ whole
takes file strings list at k count whole entry name lt this is there so_far =
    let rest = entries_from file at (k + 1) count in
    sym (ap (total strings list) (next file at k count lt) ∙ ap (λ (e : SymbolEntry). total strings list (e ∷ rest)) (sym this) ∙ pushed strings list entry rest name is there) ∙ so_far

pub ends_badly : (file strings : List ℕ) (list : List Symbol) (at k count : ℕ) (whole : Result (List Symbol) SymbolRefusal) (entry : SymbolEntry) → k < count → entry ≡ symbol_entry file (at + 16 * k)
    → is_chosen entry ≡ true → name_at strings entry.st_name ≡ None → total strings list (entries_from file at k count) ≡ whole → whole ≡ Err BadName
ends_badly file strings list at k count whole entry lt this is there so_far =
    let rest = entries_from file at (k + 1) count in
    sym so_far ∙ ap (total strings list) (next file at k count lt) ∙ ap (λ (e : SymbolEntry). total strings list (e ∷ rest)) (sym this) ∙ refused strings list entry rest is there

pub all_listed : (file strings : List ℕ) (list : List Symbol) (at k count : ℕ) (whole : Result (List Symbol) SymbolRefusal) → count ≤ k → total strings list (entries_from file at k count) ≡ whole → whole ≡ Ok list
unfolding named
all_listed file strings list at k count whole le so_far =
    sym so_far ∙ ap (λ (numbers : List ℕ). total strings list (map (λ i. symbol_entry file (at + 16 * i)) numbers)) (left_none k count le) ∙ ap Ok (append-nil list)

-- ---- where memory runs out

-- names are never bad sections
pub names_alone : (strings : List ℕ) (entries : List SymbolEntry) → named strings entries ≢ Err BadSections
unfolding named
names_alone strings [] h = cc
names_alone strings (entry ∷ rest) h = by (name_at strings entry.st_name) (named strings rest) (names_alone strings rest) h
  where
    by : (found : Option (List ℕ)) (r : Result (List Symbol) SymbolRefusal) → r ≢ Err BadSections
        → (ok_or found BadName >>= λ (name : List ℕ). r >>= λ (others : List Symbol). Ok (symbol_of name entry ∷ others)) ≢ Err BadSections
    by None r other h = cc
    by (Some name) (Ok others) other h = cc
    by (Some name) (Err refusal) other h = other h

-- a list to which one symbol comes is not empty
one_more : (list : List Symbol) (symbol : Symbol) (r : Result (List Symbol) SymbolRefusal) → joined (list ++ symbol ∷ []) r ≢ Ok []
one_more list symbol (Err refusal) h = cc
one_more [] symbol (Ok rest) h = cc
one_more (first ∷ others) symbol (Ok rest) h = cc

pub some_listed : (file strings : List ℕ) (list : List Symbol) (at k count : ℕ) (whole : Result (List Symbol) SymbolRefusal) (entry : SymbolEntry) (name : List ℕ) → k < count → entry ≡ symbol_entry file (at + 16 * k)
    → is_chosen entry ≡ true → name_at strings entry.st_name ≡ Some name → total strings list (entries_from file at k count) ≡ whole → whole ≢ Ok []
some_listed file strings list at k count whole entry name lt this is there so_far h =
    one_more list (symbol_of name entry) (named strings (filter is_chosen (entries_from file at (k + 1) count))) (takes file strings list at k count whole entry name lt this is there so_far ∙ h)
