-- Lines of functions and of objects add up.
use Rattle.std.proofs.Common.{◌≡◌, ℕ, zero, suc, ◌+◌, ◌<◌, ◌≤◌, ◌&&◌, Bool, true, false, cond, List, [], ◌∷◌, ◌++◌, length, Option, Some, None, refl, sym, ap, ◌∙◌, arith}
use Rattle.std.specs.Prelude.{◌==◌, is_none, not}
use Rattle.std.specs.Option.{unwrap_or}
use Rattle.std.specs.List.{filter, range_with_len, sum_by}
use Rattle.std.proofs.lemmas.Bool.{ne_eqb}
use Rattle.std.proofs.lemmas.List.Sums.{length-filter, sum_by-cons, sum_by-append}
use Rattle.std.proofs.lemmas.Option.{get_or_from_slice_get}
use Rattle.fs_model.specs.declared.sites.Site.{Site}
use Rattle.fs_model.specs.declared.sites.Job.{Job}
use Rattle.fs_model.specs.declared.outcomes.Outcome.{Outcome}
use Rattle.fs_model.specs.declared.outcomes.Outcome.TheVariants.{NoEffect}
use Rattle.fs_model.specs.AccessLog.{AccessLog, all_sites, dead, job_of, log}
use Rattle.fs_model.specs.Case.{CaseData}
use Rattle.fs_model.specs.Cell.{cell_at}
use Rattle.fs_model.specs.declared.sites.Cell.{Cell}
use Rattle.fs_model.specs.declared.sites.Cell.TheVariants.{Pc, Reg, Ram}
use Rattle.fs_model.specs.Filling.{board_total}
use Rattle.fs_model.specs.Job.{jobs_in, HasOutcomes}
use Rattle.fs_model.specs.Outcome.{count, outcome, same_outcome}
use Rattle.fs_model.specs.Run.{after}
use Rattle.fs_model.proofs.Sums.{sum_each, sum_filter, sum_zero}
use Rattle.elf_symbols.specs.declared.tables.Symbol.{Symbol}
use Rattle.elf_symbols.specs.Owners.{IsOwner, has, no_symbol, owner}
use Rattle.elf_symbols.proofs.Owning.{owner_is_owner}
use Rattle.site_counts.specs.Boards.{board_where, on_board}
use Rattle.site_counts.specs.Counts.{by_job, count_where, dead_where, passes}
use Rattle.site_counts.proofs.AddUp.{lines_add_up}
use Rattle.site_counts.proofs.Once.{once}
use Rattle.site_counts.proofs.OnBoard.{on_boards}
use Rattle.site_counts.proofs.Passing.{pruned_board, pruned_where}
use Rattle.site_counts.proofs.Summed.{where_right}
use Rattle.report.specs.SymbolLaws.{AllFunctions, AllObjects, FunctionsAddUp, FunctionsAreRight, IsWhole, ObjectsAddUp, ObjectsAreRight, board_count, lines_written}
use Rattle.report.specs.Symbols.{board_outcomes, cell_line, function_counts, function_line, is_one, last_line, owner_line, object_counts, object_line, symbol_at}
use Rattle.report.proofs.SymbolCounts.{function_low, object_low, same_counts}

-- ---- what a board says of all sites

-- the same by the outcomes on the board as by right ones
board_right : (c : CaseData) (board : List (Option Outcome)) (live still : Site → Bool) (o : Outcome) → IsWhole c board → HasOutcomes (outcome c) (jobs_in c) board →
    count_where (log c) (board_outcomes c board) live still o ≡ count_where (log c) (outcome c) live still o
board_right c board live still o is has =
    pruned_board (log c) (on_board (jobs_in c) board) live still o
    ∙ ap (λ n. n + cond (same_outcome NoEffect o) (dead_where (log c) still) 0)
    (sym (where_right live (on_board (jobs_in c) board) (jobs_in c) board o is.same is.whole (on_boards (jobs_in c) board (once (log c)))) ∙ where_right live (outcome c) (jobs_in c) board o is.same is.whole has)
    ∙ sym (pruned_where c live still o)

all_weights : (list : List Job) (board : List (Option Outcome)) (o : Outcome) → board_where (λ site. true) list board o ≡ board_total list board o
all_weights [] board o = refl
all_weights (job ∷ list) [] o = refl
all_weights (job ∷ list) (place ∷ board) o = rw (all_weights list board o) refl

all_dead : (l : AccessLog) → dead_where l (λ site. true) ≡ dead l
unfolding dead_where dead
all_dead l =
    length-filter (λ s. is_none (job_of l s) && true) (all_sites l)
    ∙ sum_each (λ s. cond (is_none (job_of l s) && true) 1 0) (λ s. cond (is_none (job_of l s)) 1 0) (all_sites l) (λ s. ap (λ b. cond b 1 0) (by (is_none (job_of l s))))
    ∙ sym (length-filter (λ s. is_none (job_of l s)) (all_sites l))
  where
    by : (b : Bool) → (b && true) ≡ b
    by true = refl
    by false = refl

-- all sites are one line
board_all : (c : CaseData) (board : List (Option Outcome)) (o : Outcome) → IsWhole c board →
    length (filter (λ site. same_outcome (board_outcomes c board site) o) (all_sites (log c))) ≡ board_count c board o
board_all c board o is =
    sym (lines_add_up (log c) (board_outcomes c board) (λ site. 0) (λ site. 0) 1 o (λ site. omega arith) (λ site. omega arith))
    ∙ sum_by-cons (λ k. count_where (log c) (board_outcomes c board) (λ site. 0 == k) (λ site. 0 == k) o) 0 []
    ∙ one (count_where (log c) (board_outcomes c board) (λ site. true) (λ site. true) o)
    ∙ pruned_board (log c) (on_board (jobs_in c) board) (λ site. true) (λ site. true) o
    ∙ ap (λ n. n + cond (same_outcome NoEffect o) (dead_where (log c) (λ site. true)) 0)
    (sym (where_right (λ site. true) (on_board (jobs_in c) board) (jobs_in c) board o is.same is.whole (on_boards (jobs_in c) board (once (log c)))) ∙ all_weights (jobs_in c) board o)
    ∙ ap (λ n. board_total (jobs_in c) board o + cond (same_outcome NoEffect o) n 0) (all_dead (log c))
  where
    one : (n : ℕ) → n + 0 ≡ n
    one n = omega arith

-- ---- the lines that are written

same_sums : (f g : ℕ → ℕ) (n a : ℕ) → ((k : ℕ) → a ≤ k → k < a + n → f k ≡ g k) → sum_by f (range_with_len a n) ≡ sum_by g (range_with_len a n)
same_sums f g zero a h = refl
same_sums f g (suc n) a h =
    rw (sum_by-cons f a (range_with_len (a + 1) n), sum_by-cons g a (range_with_len (a + 1) n), h a (omega arith) (omega arith), same_sums f g n (a + 1) (λ k low high. h k (omega arith) (omega arith))) refl

two_more : (f : ℕ → ℕ) (n a : ℕ) → sum_by f (range_with_len a (n + 2)) ≡ sum_by f (range_with_len a n) + (f (a + n) + f (a + n + 1))
two_more f zero a =
    let e : a + 0 ≡ a = omega arith in
    rw (e, sum_by-cons f a ((a + 1) ∷ []), sum_by-cons f (a + 1) []) (omega arith)
two_more f (suc n) a =
    let e : suc n + 2 ≡ suc (n + 2) = omega arith in
    let i : a + suc n ≡ a + 1 + n = omega arith in
    rw (e, i, sum_by-cons f a (range_with_len (a + 1) (n + 2)), sum_by-cons f a (range_with_len (a + 1) n), two_more f n (a + 1)) (omega arith)

-- a sum over the lines that pass and the two behind them is one over all
sum_written : (f : ℕ → ℕ) (p : ℕ → Bool) (n : ℕ) → ((k : ℕ) → k < n → p k ≡ false → f k ≡ 0) → sum_by f (filter p (range_with_len 0 n) ++ n ∷ (n + 1) ∷ []) ≡ sum_by f (range_with_len 0 (n + 2))
sum_written f p n none =
    sum_by-append f (filter p (range_with_len 0 n)) (n ∷ (n + 1) ∷ [])
    ∙ ap (λ m. m + sum_by f (n ∷ (n + 1) ∷ [])) (sum_filter p f (range_with_len 0 n) ∙ same_sums (λ k. cond (p k) (f k) 0) f n 0 (λ k low high. by k (omega arith) (p k) refl))
    ∙ ap (λ m. sum_by f (range_with_len 0 n) + m) (sum_by-cons f n ((n + 1) ∷ []) ∙ ap (λ m. f n + m) (sum_by-cons f (n + 1) []))
    ∙ ends (f n) (f (n + 1)) (sum_by f (range_with_len 0 n))
    ∙ sym (two_more f n 0 ∙ ap (λ i. sum_by f (range_with_len 0 n) + (f i + f (i + 1))) start)
  where
    by : (k : ℕ) → k < n → (b : Bool) → p k ≡ b → cond b (f k) 0 ≡ f k
    by k low true e = refl
    by k low false e = sym (none k low e)

    start : 0 + n ≡ n
    start = omega arith

    ends : (x y s : ℕ) → s + (x + (y + 0)) ≡ s + (x + y)
    ends x y s = omega arith

-- ---- lines of the other kind have no site

first_holds : (x y : Bool) → (x && y) ≡ true → x ≡ true
first_holds true y e = refl
first_holds false y e = e

line_is_one : (function : Bool) (symbols : List Symbol) (at k : ℕ) → k < length symbols → owner_line function symbols at ≡ k → is_one function symbols k ≡ true
unfolding owner_line has
line_is_one function symbols at k low e = by (owner (has function at) symbols) (owner_is_owner (has function at) symbols) e
  where
    by : (o : Option ℕ) → IsOwner (has function at) symbols o → unwrap_or o (length symbols) ≡ k → is_one function symbols k ≡ true
    by None h is = absurd (omega arith)
    by (Some i) h is =
        let same : symbol_at symbols i ≡ h.0 = get_or_from_slice_get symbols i h.0 no_symbol h.1 in
        rw (← is) (ap (λ (s : Symbol). cond function s.is_function (not s.is_function)) same ∙ first_holds _ _ (first_holds _ _ h.2))

no_line : (function : Bool) (symbols : List Symbol) (at k : ℕ) → k < length symbols → is_one function symbols k ≡ false → (owner_line function symbols at == k) ≡ false
no_line function symbols at k low other =
    ne_eqb (owner_line function symbols at) k (λ e. let wrong : true ≡ false = sym (line_is_one function symbols at k low e) ∙ other in absurd cc)

none_pass : (l : AccessLog) (outcomes : Site → Outcome) (o : Outcome) → count_where l outcomes (λ site. false) (λ site. false) o ≡ 0
unfolding count_where passes
none_pass l outcomes o =
    length-filter (λ s. by_job (λ j. false) false (job_of l s) && same_outcome (outcomes s) o) (all_sites l)
    ∙ sum_zero (λ s. cond (by_job (λ j. false) false (job_of l s) && same_outcome (outcomes s) o) 1 0) (all_sites l) (λ s. by (job_of l s) (same_outcome (outcomes s) o))
  where
    by : (m : Option Site) (b : Bool) → ◌≡◌ {A = ℕ} (cond (by_job (λ j. false) false m && b) 1 0) 0
    by None b = refl
    by (Some j) b = refl

no_function : (c : CaseData) (outcomes : Site → Outcome) (symbols : List Symbol) (o : Outcome) (k : ℕ) → k < length symbols → is_one true symbols k ≡ false → function_counts c outcomes symbols k o ≡ 0
unfolding function_counts function_line
no_function c outcomes symbols o k low other =
    same_counts (log c) outcomes (λ job. function_line c symbols job == k) (λ site. last_line symbols == k) (λ site. false) (λ site. false) o
    (λ site h. no_line true symbols (after c site.cycle).core.pc k low other) (λ site h. ne_eqb (last_line symbols) k (λ e. omega arith))
    ∙ none_pass (log c) outcomes o

no_object : (c : CaseData) (outcomes : Site → Outcome) (symbols : List Symbol) (o : Outcome) (k : ℕ) → k < length symbols → is_one false symbols k ≡ false → object_counts c outcomes symbols k o ≡ 0
unfolding object_counts object_line
no_object c outcomes symbols o k low other =
    same_counts (log c) outcomes (λ job. object_line c symbols job == k) (λ site. object_line c symbols site == k) (λ site. false) (λ site. false) o
    (λ site h. by (cell_at site.cell)) (λ site h. by (cell_at site.cell))
    ∙ none_pass (log c) outcomes o
  where
    by : (cell : Cell) → (cell_line c symbols cell == k) ≡ false
    by Pc = ne_eqb (last_line symbols) k (λ e. omega arith)
    by (Reg number) = ne_eqb (last_line symbols) k (λ e. omega arith)
    by (Ram offset) = no_line false symbols (c.ram_base + offset) k low other

-- ---- the laws

function_sum : (c : CaseData) (outcomes : Site → Outcome) (symbols : List Symbol) (o : Outcome) →
    sum_by (λ k. function_counts c outcomes symbols k o) (lines_written true symbols) ≡ length (filter (λ site. same_outcome (outcomes site) o) (all_sites (log c)))
unfolding function_counts
function_sum c outcomes symbols o =
    sum_written (λ k. function_counts c outcomes symbols k o) (is_one true symbols) (length symbols) (no_function c outcomes symbols o)
    ∙ lines_add_up (log c) outcomes (function_line c symbols) (λ site. last_line symbols) (length symbols + 2) o (λ site. let low = function_low c symbols site in omega arith) (λ site. omega arith)

object_sum : (c : CaseData) (outcomes : Site → Outcome) (symbols : List Symbol) (o : Outcome) →
    sum_by (λ k. object_counts c outcomes symbols k o) (lines_written false symbols) ≡ length (filter (λ site. same_outcome (outcomes site) o) (all_sites (log c)))
unfolding object_counts
object_sum c outcomes symbols o =
    sum_written (λ k. object_counts c outcomes symbols k o) (is_one false symbols) (length symbols) (no_object c outcomes symbols o)
    ∙ lines_add_up (log c) outcomes (object_line c symbols) (object_line c symbols) (length symbols + 2) o (λ site. let low = object_low c symbols site in omega arith) (λ site. let low = object_low c symbols site in omega arith)

pub functions_add_up : FunctionsAddUp
functions_add_up c board symbols o is = function_sum c (board_outcomes c board) symbols o ∙ board_all c board o is

pub objects_add_up : ObjectsAddUp
objects_add_up c board symbols o is = object_sum c (board_outcomes c board) symbols o ∙ board_all c board o is

pub functions_are_right : FunctionsAreRight
unfolding function_counts
functions_are_right c board symbols k o is has = board_right c board (λ job. function_line c symbols job == k) (λ site. last_line symbols == k) o is has

pub objects_are_right : ObjectsAreRight
unfolding object_counts
objects_are_right c board symbols k o is has = board_right c board (λ job. object_line c symbols job == k) (λ site. object_line c symbols site == k) o is has

pub all_functions : AllFunctions
unfolding count log
all_functions c symbols o = function_sum c (outcome c) symbols o

pub all_objects : AllObjects
unfolding count log
all_objects c symbols o = object_sum c (outcome c) symbols o
