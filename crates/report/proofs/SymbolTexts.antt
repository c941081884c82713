-- Lines of functions and objects, written one behind the other.
use Rattle.std.proofs.Common.{◌≡◌, ℕ, zero, suc, ◌+◌, ◌-◌, ◌<◌, ◌≤◌, Bool, true, false, cond, List, [], ◌∷◌, ◌++◌, length, map, Option, take, drop, get_or, refl, sym, ap, ◌∙◌, append_assoc, subst, arith}
use Rattle.std.specs.Prelude.{Result, codes, slice_index}
use Rattle.std.specs.List.{filter, flat_map, range_with_len}
use Rattle.std.proofs.Math.Path.{fun_ext}
use Rattle.std.proofs.Math.Seq.{take-add}
use Rattle.std.proofs.lemmas.List.{map-append, take-append-drop, take_all, take_more}
use Rattle.fs_model.specs.declared.outcomes.Outcome.{Outcome}
use Rattle.fs_model.specs.Case.{CaseData}
use Rattle.fs_model.specs.Outcome.{TotalsData}
use Rattle.fs_outside.specs.Writing.{TookPart, Writes}
use Rattle.fs_outside.proofs.Writes.{part_after, part_before, whole_after}
use Rattle.elf_symbols.specs.declared.tables.Symbol.{Symbol}
use Rattle.report.specs.SymbolLines.{AreCounts, AreTotals, both_text, counts_in, one_text, those_text}
use Rattle.report.specs.Symbols.{board_outcomes, counts_line, counts_text, function_counts, functions_text, group_text, is_one, object_counts, shown, symbol_at, symbols_text, those}

-- ---- names

-- the bytes from one place up to another are shown as they are
abbrev pub ArePlain : List ℕ → ℕ → ℕ → Type 0
ArePlain name from to = (i : ℕ) → from ≤ i → i < to → shown (slice_index name i) ≡ slice_index name i

plain_run : (name : List ℕ) (from n : ℕ) → from + n ≤ length name → ArePlain name from (from + n) → map shown (take n (drop from name)) ≡ take n (drop from name)
plain_run [] from zero low h = refl
plain_run [] from (suc n) low h = absurd (omega arith)
plain_run (x ∷ xs) zero zero low h = refl
plain_run (x ∷ xs) zero (suc n) low h =
    let first : shown x ≡ x = h 0 (omega arith) (omega arith) in
    let rest : map shown (take n xs) ≡ take n xs = plain_run xs zero n (omega arith) (λ i a b. h (suc i) (omega arith) (omega arith)) in
    ap (λ y. y ∷ map shown (take n xs)) first ∙ ap (λ ys. x ∷ ys) rest
plain_run (x ∷ xs) (suc from) n low h = plain_run xs from n (omega arith) (λ i a b. h (suc i) (omega arith) (omega arith))

-- the name up to a place
shown_run : (name : List ℕ) (from n : ℕ) → from + n ≤ length name → ArePlain name from (from + n) → map shown (take (from + n) name) ≡ map shown (take from name) ++ take n (drop from name)
shown_run name from n low plain =
    ap (map shown) (take-add from n name) ∙ map-append shown (take from name) (take n (drop from name))
    ∙ ap (λ s. map shown (take from name) ++ s) (plain_run name from n low plain)

-- and with the byte there, which is not shown
pub shown_mark : (name : List ℕ) (from at : ℕ) → from ≤ at → at < length name → ArePlain name from at → shown (slice_index name at) ≡ 63 →
    map shown (take (at + 1) name) ≡ map shown (take from name) ++ (take (at - from) (drop from name) ++ 63 ∷ [])
shown_mark name from at order low plain mark =
    let e : from + (at - from) ≡ at = omega arith in
    let P : ℕ → Type 0 = λ n. map shown (take n name) ≡ map shown (take from name) ++ take (at - from) (drop from name) in
    let run : map shown (take at name) ≡ map shown (take from name) ++ take (at - from) (drop from name) =
    rw e at (shown_run name from (at - from) (omega arith) (λ i a b. plain i a (omega arith))) in
    ap (map shown) (take_more name at 0 low) ∙ map-append shown (take at name) (get_or name at 0 ∷ [])
    ∙ ap (λ s. s ++ shown (get_or name at 0) ∷ []) run ∙ append_assoc (map shown (take from name)) (take (at - from) (drop from name)) (shown (get_or name at 0) ∷ [])
    ∙ ap (λ b. map shown (take from name) ++ (take (at - from) (drop from name) ++ b ∷ [])) mark

pub name_more : (old mid new name : List ℕ) (from at : ℕ) → from ≤ at → at < length name → ArePlain name from at → shown (slice_index name at) ≡ 63 →
    mid ≡ old ++ map shown (take from name) → new ≡ mid ++ (take (at - from) (drop from name) ++ 63 ∷ []) → new ≡ old ++ map shown (take (at + 1) name)
name_more old mid new name from at order low plain mark first second =
    whole_after old mid new (map shown (take from name)) (take (at - from) (drop from name) ++ 63 ∷ []) first second
    ∙ ap (λ s. old ++ s) (sym (shown_mark name from at order low plain mark))

pub name_part : (old mid new name : List ℕ) (from at : ℕ) → from ≤ at → at < length name → ArePlain name from at → shown (slice_index name at) ≡ 63 →
    mid ≡ old ++ map shown (take from name) → TookPart mid new (take (at - from) (drop from name) ++ 63 ∷ []) → TookPart old new (map shown name)
name_part old mid new name from at order low plain mark first part =
    let whole : map shown name ≡ (map shown (take from name) ++ (take (at - from) (drop from name) ++ 63 ∷ [])) ++ map shown (drop (at + 1) name) =
    ap (map shown) (sym (take-append-drop (at + 1) name)) ∙ map-append shown (take (at + 1) name) (drop (at + 1) name)
    ∙ ap (λ s. s ++ map shown (drop (at + 1) name)) (shown_mark name from at order low plain mark) in
    rw whole (part_before old new (map shown (take from name) ++ (take (at - from) (drop from name) ++ 63 ∷ [])) (map shown (drop (at + 1) name))
    (part_after old mid new (map shown (take from name)) (take (at - from) (drop from name) ++ 63 ∷ []) first part))

-- the rest of a name, of which all bytes are visible
pub name_rest : (name : List ℕ) (from : ℕ) → from ≤ length name → ArePlain name from (length name) → map shown name ≡ map shown (take from name) ++ take (length name - from) (drop from name)
name_rest name from low plain =
    let e : from + (length name - from) ≡ length name = omega arith in
    ap (map shown) (sym (take_all (from + (length name - from)) name (omega arith)))
    ∙ shown_run name from (length name - from) (omega arith) (λ i a b. plain i a (omega arith))

-- ---- lines

-- a line as it is written: the word and the space first
pub line_written : {T E : Type 0} (tells : Type 0) (old new word name : List ℕ) (counts : Outcome → ℕ) (result : Result T E) →
    (tells → Writes old new ((word ++ 32 ∷ []) ++ (map shown name ++ counts_text counts)) result) → tells → Writes old new (counts_line word name counts) result
line_written tells old new word name counts result h told =
    subst (λ text. Writes old new text result) (append_assoc word (32 ∷ []) (map shown name ++ counts_text counts)) (h told)

-- ---- groups

-- the texts of those that pass
passing_text : (f : ℕ → List ℕ) (p : ℕ → Bool) (xs : List ℕ) → flat_map f (filter p xs) ≡ flat_map (λ x. cond (p x) (f x) []) xs
passing_text f p [] = refl
passing_text f p (x ∷ xs) =
    elim (p x) as (λ b. flat_map f (cond b (x ∷ filter p xs) (filter p xs)) ≡ cond b (f x) [] ++ flat_map (λ x. cond (p x) (f x) []) xs)
    [ true ↦ ap (λ s. f x ++ s) (passing_text f p xs) | false ↦ passing_text f p xs ]

pub those_are : (function : Bool) (word : List ℕ) (symbols : List Symbol) (counts : ℕ → Outcome → ℕ) →
    flat_map (λ k. counts_line word (symbol_at symbols k).name (counts k)) (those function symbols) ≡ those_text function word symbols counts (length symbols)
those_are function word symbols counts =
    passing_text (λ k. counts_line word (symbol_at symbols k).name (counts k)) (is_one function symbols) (range_with_len 0 (length symbols))

-- a group as it is written: symbol by symbol
pub group_written : {T E : Type 0} (tells : Type 0) (old new word last : List ℕ) (function : Bool) (symbols : List Symbol) (counts : ℕ → Outcome → ℕ) (result : Result T E) →
    (tells → Writes old new (those_text function word symbols counts (length symbols) ++ (counts_line word (codes "(none)") (counts (length symbols)) ++ counts_line word last (counts (length symbols + 1)))) result) →
    tells → Writes old new (group_text function word last symbols counts) result
group_written tells old new word last function symbols counts result h told =
    subst (λ text. Writes old new (text ++ (counts_line word (codes "(none)") (counts (length symbols)) ++ counts_line word last (counts (length symbols + 1)))) result) (sym (those_are function word symbols counts)) (h told)

-- the texts of numbers that are below a limit, by equal counts
same_texts : (f g : ℕ → List ℕ) (n a : ℕ) → ((k : ℕ) → a ≤ k → k < a + n → f k ≡ g k) → flat_map f (range_with_len a n) ≡ flat_map g (range_with_len a n)
same_texts f g zero a h = refl
same_texts f g (suc n) a h =
    ap (λ s. s ++ flat_map f (range_with_len (a + 1) n)) (h a (omega arith) (omega arith)) ∙ ap (λ s. g a ++ s) (same_texts f g n (a + 1) (λ k low high. h k (omega arith) (omega arith)))

pub same_group : (function : Bool) (word last : List ℕ) (symbols : List Symbol) (totals : List TotalsData) (counts : ℕ → Outcome → ℕ) → AreCounts symbols counts totals →
    group_text function word last symbols (counts_in totals) ≡ group_text function word last symbols counts
same_group function word last symbols totals counts are =
    ap (λ s. s ++ (counts_line word (codes "(none)") (counts_in totals (length symbols)) ++ counts_line word last (counts_in totals (length symbols + 1)))) all
    ∙ ap (λ c. flat_map (λ k. counts_line word (symbol_at symbols k).name (counts k)) (those function symbols) ++ (counts_line word (codes "(none)") c ++ counts_line word last (counts_in totals (length symbols + 1)))) (each (length symbols) (omega arith))
    ∙ ap (λ c. flat_map (λ k. counts_line word (symbol_at symbols k).name (counts k)) (those function symbols) ++ (counts_line word (codes "(none)") (counts (length symbols)) ++ counts_line word last c)) (each (length symbols + 1) (omega arith))
  where
    each : (k : ℕ) → k < length symbols + 2 → counts_in totals k ≡ counts k
    each k low = fun_ext (λ o. are.each k low o)

    all : flat_map (λ k. counts_line word (symbol_at symbols k).name (counts_in totals k)) (those function symbols) ≡ flat_map (λ k. counts_line word (symbol_at symbols k).name (counts k)) (those function symbols)
    all =
        those_are function word symbols (counts_in totals)
        ∙ same_texts (one_text function word symbols (counts_in totals)) (one_text function word symbols counts) (length symbols) 0 (λ k low high. ap (λ c. cond (is_one function symbols k) (counts_line word (symbol_at symbols k).name c) []) (each k (omega arith)))
        ∙ sym (those_are function word symbols counts)

-- both groups
pub both_are : (c : CaseData) (board : List (Option Outcome)) (symbols : List Symbol) (read_functions read_objects functions objects : List TotalsData) → read_functions ≡ functions → read_objects ≡ objects →
    AreTotals c board symbols functions objects → both_text symbols read_functions read_objects ≡ symbols_text c board symbols
both_are c board symbols read_functions read_objects functions objects e d are =
    ap (λ t. both_text symbols t read_objects) e ∙ ap (λ t. both_text symbols functions t) d
    ∙ ap (λ text. text ++ group_text false (codes "object") (codes "(registers)") symbols (counts_in objects)) (same_group true (codes "function") (codes "(dead)") symbols functions (function_counts c (board_outcomes c board) symbols) are.functions)
    ∙ ap (λ text. functions_text c (board_outcomes c board) symbols ++ text) (same_group false (codes "object") (codes "(registers)") symbols objects (object_counts c (board_outcomes c board) symbols) are.objects)
