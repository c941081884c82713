-- Runs of addresses with one line.
use Rattle.std.proofs.Common.{◌≡◌, ℕ, suc, ◌+◌, ◌<◌, ◌≤◌, ◌&&◌, Bool, cond, List, [], ◌∷◌, length, refl, sym, ap, ◌∙◌, ⊎_elim, arith}
use Rattle.std.specs.Prelude.{nat_le, nat_lt, not}
use Rattle.std.specs.Option.{unwrap_or}
use Rattle.std.proofs.lemmas.Bool.{cases_eq, cases_lt, le-leb, le-ltb, lt-leb, lt-ltb}
use Rattle.elf_symbols.specs.declared.tables.Symbol.{Symbol}
use Rattle.elf_symbols.specs.Owners.{has, owner}
use Rattle.report.specs.Symbols.{owner_line, symbol_at}
use Rattle.report.specs.SymbolTables.{IsEdge}

-- tests that agree on all symbols choose the same
same_owner : (p q : Symbol → Bool) (symbols : List Symbol) → ((i : ℕ) → i < length symbols → p (symbol_at symbols i) ≡ q (symbol_at symbols i)) → owner p symbols ≡ owner q symbols
unfolding owner
same_owner p q [] h = refl
same_owner p q (symbol ∷ rest) h =
    let first : p symbol ≡ q symbol = h 0 (omega arith) in
    rw (first, same_owner p q rest (λ i low. h (suc i) (omega arith))) refl

-- whether a number is not behind an address is the same up to an edge, and so is whether it is behind
same_begin : (value at edge x : ℕ) → at ≤ x → x < edge → (at < value → edge ≤ value) → nat_le value x ≡ nat_le value at
same_begin value at edge x low high h =
    ⊎_elim (λ (lt : at < value). let past = h lt in lt-leb value x (omega arith) ∙ sym (lt-leb value at lt))
    (λ (le : value ≤ at). le-leb value x (omega arith) ∙ sym (le-leb value at le)) (cases_lt at value)

same_end : (end at edge x : ℕ) → at ≤ x → x < edge → (at < end → edge ≤ end) → nat_lt x end ≡ nat_lt at end
same_end end at edge x low high h =
    ⊎_elim (λ (lt : at < end). let past = h lt in lt-ltb x end (omega arith) ∙ sym (lt-ltb at end lt))
    (λ (le : end ≤ at). le-ltb x end (omega arith) ∙ sym (le-ltb at end le)) (cases_lt at end)

-- up to an edge addresses have one line
pub same_line : (function : Bool) (symbols : List Symbol) (at edge x : ℕ) → IsEdge symbols (length symbols) at edge → at ≤ x → x < edge → owner_line function symbols at ≡ owner_line function symbols x
unfolding owner_line has
same_line function symbols at edge x is low high =
    ap (λ o. unwrap_or o (length symbols)) (sym (same_owner (has function x) (has function at) symbols (λ i here.
    ap (λ b. kind i && b && nat_lt x ((symbol_at symbols i).value + (symbol_at symbols i).size)) (same_begin (symbol_at symbols i).value at edge x low high (is.begins i here))
    ∙ ap (λ b. kind i && nat_le (symbol_at symbols i).value at && b) (same_end ((symbol_at symbols i).value + (symbol_at symbols i).size) at edge x low high (is.ends i here)))))
  where
    kind : ℕ → Bool
    kind i = cond function (symbol_at symbols i).is_function (not (symbol_at symbols i).is_function)

-- one symbol more, which begins at a place and ends at another
pub edge_more : (symbols : List Symbol) (i at edge mid new value size : ℕ) → value ≡ (symbol_at symbols i).value → size ≡ (symbol_at symbols i).size → IsEdge symbols i at edge →
    (at < edge → at < mid) → mid ≤ edge → (at < value → mid ≤ value) → (at < mid → at < new) → new ≤ mid → (at < value + size → new ≤ value + size) → IsEdge symbols (i + 1) at new
edge_more symbols i at edge mid new value size is_value is_size before behind near place behind' near' place' = record {
  behind = behind' (behind before.behind);
  begins = λ j low past. ⊎_elim (λ (e : j ≡ i). begin j e past) (λ (ne : j ≡ i → ⊥). let old = before.begins j (omega arith) past in omega arith) (cases_eq j i);
  ends = λ j low past. ⊎_elim (λ (e : j ≡ i). end j e past) (λ (ne : j ≡ i → ⊥). let old = before.ends j (omega arith) past in omega arith) (cases_eq j i);
}
  where
    begin : (j : ℕ) → j ≡ i → at < (symbol_at symbols j).value → new ≤ (symbol_at symbols j).value
    begin j e past =
        let same : (symbol_at symbols j).value ≡ value = ap (λ k. (symbol_at symbols k).value) e ∙ sym is_value in
        let old = place (omega arith) in
        omega arith

    end : (j : ℕ) → j ≡ i → at < (symbol_at symbols j).value + (symbol_at symbols j).size → new ≤ (symbol_at symbols j).value + (symbol_at symbols j).size
    end j e past =
        let values : (symbol_at symbols j).value ≡ value = ap (λ k. (symbol_at symbols k).value) e ∙ sym is_value in
        let sizes : (symbol_at symbols j).size ≡ size = ap (λ k. (symbol_at symbols k).size) e ∙ sym is_size in
        let now = place' (omega arith) in
        omega arith
