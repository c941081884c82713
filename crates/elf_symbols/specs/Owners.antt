-- What an address belongs to.
use Rattle.std.specs.Prelude.{ℕ, suc, ◌≡◌, ◌+◌, ◌≤◌, ◌&&◌, not, nat_le, nat_lt, Bool, true, false, if◌then◌else◌}
use Rattle.std.specs.Prelude.{Option, Some, None, List, [], ◌∷◌, slice_get, slice_index_or, option_map, drop}
use Rattle.elf_symbols.specs.declared.tables.Symbol.{Symbol}

-- the symbol is a function, or else an object, and has the address
unfoldable pub has : Bool → ℕ → Symbol → Bool
has function at symbol = (if function then symbol.is_function else not symbol.is_function) && nat_le symbol.value at && nat_lt at (symbol.value + symbol.size)

-- where no symbol is
abbrev pub no_symbol : Symbol
no_symbol = record { name = []; value = 0; size = 0; is_function = false }

-- the value of the symbol with a number
abbrev pub value_at : List Symbol → ℕ → ℕ
value_at symbols i = (slice_index_or symbols i no_symbol).value

-- the first, unless a later one has a greater value
abbrev pub better : Bool → ℕ → List Symbol → Option ℕ → Option ℕ
better here value rest None = if here then Some 0 else None
better here value rest (Some i) = if here && nat_le (value_at rest i) value then Some 0 else Some (suc i)

-- the number of the symbol that passes, of all such one with the greatest value, of these the first
unfoldable pub owner : (Symbol → Bool) → List Symbol → Option ℕ
owner p [] = None
owner p (symbol ∷ rest) = better (p symbol) symbol.value rest (owner p rest)

-- the same among those from a number on
abbrev pub owner_from : (Symbol → Bool) → List Symbol → ℕ → Option ℕ
owner_from p symbols i = option_map (λ n. i + n) (owner p (drop i symbols))

-- a symbol that passes, none of greater value does, and none of that value before
abbrev pub IsOwner : (Symbol → Bool) → List Symbol → Option ℕ → Type 0
IsOwner p symbols None = (j : ℕ) (other : Symbol) → slice_get symbols j ≡ Some other → p other ≡ false
IsOwner p symbols (Some i) = (symbol : Symbol) × (slice_get symbols i ≡ Some symbol) × (p symbol ≡ true)
    × ((j : ℕ) (other : Symbol) → slice_get symbols j ≡ Some other → p other ≡ true → (other.value ≤ symbol.value) × (other.value ≡ symbol.value → i ≤ j))
