-- Tables of lines, entry by entry.
use Rattle.std.proofs.Common.{◌≡◌, ℕ, ◌+◌, ◌-◌, ◌*◌, ◌<◌, ◌≤◌, Bool, true, false, cond, List, [], ◌∷◌, ◌++◌, length, replicate, refl, sym, ap, ◌∙◌, ⊎_elim, arith}
use Rattle.std.specs.Prelude.{◌==◌, slice_index}
use Rattle.std.proofs.Math.ListN.{get_or-append}
use Rattle.std.proofs.Math.Seq.{get_or-append_seam}
use Rattle.std.proofs.lemmas.List.{get_or-append_right, get_or-replicate, length-append, length-replicate}
use Rattle.std.proofs.lemmas.Bool.{cases_lt, le-ltb, lt-ltb, ne_eqb}
use Rattle.fs_model.specs.declared.sites.Cell.TheVariants.{Pc, Reg, Ram}
use Rattle.fs_model.specs.Case.{CaseData}
use Rattle.fs_model.specs.Cell.{cell_at}
use Rattle.elf_symbols.specs.declared.tables.Symbol.{Symbol}
use Rattle.report.specs.Symbols.{cell_line, last_line, owner_line}
use Rattle.report.specs.SymbolTables.{AreCellLines, AreLines}

-- each entry is what a function gives of its place
abbrev pub AreEach : (ℕ → ℕ) → List ℕ → Type 0
AreEach f lines = (i : ℕ) → i < length lines → slice_index lines i ≡ f i

-- one entry more
pub each_more : (f : ℕ → ℕ) (lines new : List ℕ) (line n : ℕ) → length lines ≡ n → new ≡ lines ++ line ∷ [] → line ≡ f n → AreEach f lines → AreEach f new
each_more f lines new line n long made is before i low =
    ⊎_elim (λ (h : i < length lines). rw made (get_or-append lines (line ∷ []) 0 i h ∙ before i h))
    (λ (h : length lines ≤ i).
    let size : length new ≡ length lines + 1 = ap length made ∙ length-append lines (line ∷ []) in
    let end : i ≡ length lines = omega arith in
    let at : n ≡ i = sym (end ∙ long) in
    rw (made, end) (get_or-append_seam lines line [] 0) ∙ is ∙ ap f at)
    (cases_lt i (length lines))

-- the registers, and then the bytes of RAM
pub registers_first : (c : CaseData) (symbols : List Symbol) (last : ℕ) (bytes lines : List ℕ) → last ≡ last_line symbols → length bytes ≡ length c.ram → AreLines false symbols c.ram_base 1 bytes →
    lines ≡ replicate 32 last ++ bytes → AreCellLines c symbols lines
unfolding cell_at
registers_first c symbols last bytes lines end long are made = record {
  as_many = ap length made ∙ length-append (replicate 32 last) bytes ∙ ap (λ n. 32 + n) long;
  each = λ cell low. ⊎_elim (λ (h : cell < 32). first cell h) (λ (h : 32 ≤ cell). byte cell h low) (cases_lt cell 32);
}
  where
    first : (cell : ℕ) → cell < 32 → slice_index lines cell ≡ cell_line c symbols (cell_at cell)
    first cell h =
        rw made (get_or-append (replicate 32 last) bytes 0 cell (omega (arith, length-replicate 32 last))) ∙ get_or-replicate 32 cell last 0 h ∙ end ∙ sym (rw (lt-ltb cell 32 h) (by (cell == 0)))
      where
        by : (b : Bool) → cell_line c symbols (cond b Pc (cond true (Reg cell) (Ram (cell - 32)))) ≡ last_line symbols
        by true = refl
        by false = refl

    byte : (cell : ℕ) → 32 ≤ cell → cell < 32 + length c.ram → slice_index lines cell ≡ cell_line c symbols (cell_at cell)
    byte cell h low =
        let offset : 1 * (cell - 32) ≡ cell - 32 = omega arith in
        rw made (get_or-append_right (replicate 32 last) bytes 32 cell 0 (length-replicate 32 last) h) ∙ are (cell - 32) (omega arith) ∙ ap (λ n. owner_line false symbols (c.ram_base + n)) offset
        ∙ sym (rw (ne_eqb cell 0 (λ e. omega arith), le-ltb cell 32 h) refl)
