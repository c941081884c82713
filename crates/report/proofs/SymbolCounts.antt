-- Counts of the lines of functions and of objects.
use Rattle.std.proofs.Common.{◌≡◌, ℕ, ◌+◌, ◌*◌, ◌<◌, ◌≤◌, ◌&&◌, ◌++◌, Bool, true, false, cond, List, length, take, Option, Some, None, refl, sym, ap, ◌∙◌, ⊎_elim, arith}
use Rattle.std.specs.Prelude.{◌==◌, is_none, slice_index, slice_index_or, slice_set}
use Rattle.std.specs.Option.{unwrap_or}
use Rattle.std.proofs.Math.Seq.{take-append_seam}
use Rattle.std.proofs.lemmas.Grind.{get_or_default_zero}
use Rattle.std.proofs.lemmas.List.{get_or-set_same, get_or-set_other, length-set}
use Rattle.std.proofs.lemmas.List.Sums.{length-filter}
use Rattle.std.proofs.lemmas.Bool.{cases_eq, cases_lt, eq-eqb, le-ltb, lt-ltb, ne_eqb}
use Rattle.std.proofs.lemmas.Option.{slice_get_within}
use Rattle.fs_model.specs.declared.sites.Site.{Site}
use Rattle.fs_model.specs.declared.sites.Cell.{Cell}
use Rattle.fs_model.specs.declared.sites.Cell.TheVariants.{Pc, Reg, Ram}
use Rattle.fs_model.specs.declared.outcomes.Outcome.{Outcome}
use Rattle.fs_model.specs.declared.outcomes.Outcome.TheVariants.{NoEffect}
use Rattle.fs_model.specs.AccessLog.{AccessLog, all_sites, dead, job_of, log}
use Rattle.fs_model.specs.Case.{CaseData}
use Rattle.fs_model.specs.Cell.{cell_at}
use Rattle.fs_model.specs.Job.{JobTable, HasOutcomes, job_list, jobs_in, jobs_of}
use Rattle.fs_model.specs.Outcome.{TotalsData, no_totals, same_outcome, sum_of, total_at}
use Rattle.fs_model.specs.Run.{after, cycles}
use Rattle.fs_model.proofs.Counts.{job_is}
use Rattle.fs_model.proofs.SiteList.{IsSite, sites_hold}
use Rattle.fs_model.proofs.Sums.{sum_same, sum_zero}
use Rattle.elf_symbols.specs.declared.tables.Symbol.{Symbol}
use Rattle.elf_symbols.specs.Owners.{IsOwner, has, owner}
use Rattle.elf_symbols.proofs.Owning.{owner_is_owner}
use Rattle.site_counts.specs.Boards.{on_board}
use Rattle.site_counts.specs.Counts.{by_job, count_where, dead_where, passes, spread, weight_where}
use Rattle.site_counts.specs.Lines.{bounded, line_in, totals_at}
use Rattle.site_counts.proofs.Once.{once}
use Rattle.site_counts.proofs.OnBoard.{on_boards}
use Rattle.site_counts.proofs.Passing.{dead_line}
use Rattle.report.specs.SymbolLines.{AreCounts}
use Rattle.report.specs.Symbols.{ArePcs, board_outcomes, cell_line, function_counts, function_line, last_line, owner_line, object_counts, object_line}
use Rattle.report.specs.SymbolTables.{AreCellLines, AreLinesOf}

-- ---- lines

pub line_low : (function : Bool) (symbols : List Symbol) (at : ℕ) → owner_line function symbols at ≤ length symbols
unfolding owner_line
line_low function symbols at = by (owner (has function at) symbols) (owner_is_owner (has function at) symbols)
  where
    by : (o : Option ℕ) → IsOwner (has function at) symbols o → unwrap_or o (length symbols) ≤ length symbols
    by None h = omega arith
    by (Some i) h = let low = slice_get_within symbols i h.0 h.1 in omega arith

pub function_low : (c : CaseData) (symbols : List Symbol) (site : Site) → function_line c symbols site ≤ length symbols
unfolding function_line
function_low c symbols site = line_low true symbols (after c site.cycle).core.pc

cell_low : (c : CaseData) (symbols : List Symbol) (cell : Cell) → cell_line c symbols cell ≤ last_line symbols
cell_low c symbols Pc = omega arith
cell_low c symbols (Reg number) = omega arith
cell_low c symbols (Ram offset) = let low = line_low false symbols (c.ram_base + offset) in omega arith

pub object_low : (c : CaseData) (symbols : List Symbol) (site : Site) → object_line c symbols site ≤ last_line symbols
unfolding object_line
object_low c symbols site = cell_low c symbols (cell_at site.cell)

-- ---- what tables have

in_bounds : (line last : ℕ) → line ≤ last → bounded line last ≡ line
in_bounds line last low =
    ⊎_elim (λ (h : line < last). rw (lt-ltb line last h) refl) (λ (h : last ≤ line). rw (le-ltb line last h) (omega arith)) (cases_lt line last)

entry_is : (lines : List ℕ) (last i line : ℕ) → i < length lines → slice_index lines i ≡ line → line ≤ last → bounded (slice_index_or lines i last) last ≡ line
entry_is lines last i line here is low =
    ap (λ n. bounded n last) (get_or_default_zero lines i last here ∙ is) ∙ in_bounds line last low

pub function_table : (c : CaseData) (symbols : List Symbol) (pcs lines : List ℕ) (last : ℕ) → ArePcs c pcs → AreLinesOf symbols pcs lines → last ≡ last_line symbols →
    (site : Site) → IsSite (log c).cycles (log c).ram (log c).pc site → line_in (record { lines = lines; last = last; by_cell = false }) site.cycle site.cell ≡ function_line c symbols site
unfolding line_in function_line log
function_table c symbols pcs lines last are table end site h =
    let here : site.cycle < length pcs = omega (arith, h.early, are.as_many) in
    let low = line_low true symbols (after c site.cycle).core.pc in
    entry_is lines last site.cycle (owner_line true symbols (after c site.cycle).core.pc) (omega (arith, table.as_many))
    (table.each site.cycle here ∙ ap (owner_line true symbols) (are.fetched site.cycle here)) (omega arith)

pub cell_table : (c : CaseData) (symbols : List Symbol) (lines : List ℕ) (last : ℕ) → AreCellLines c symbols lines → last ≡ last_line symbols →
    (site : Site) → IsSite (log c).cycles (log c).ram (log c).pc site → line_in (record { lines = lines; last = last; by_cell = true }) site.cycle site.cell ≡ object_line c symbols site
unfolding line_in object_line log
cell_table c symbols lines last table end site h =
    let here : site.cell < 32 + length c.ram = h.in_cells in
    let low = cell_low c symbols (cell_at site.cell) in
    entry_is lines last site.cell (cell_line c symbols (cell_at site.cell)) (omega (arith, table.as_many)) (table.each site.cell here) (omega arith)

-- ---- counts

-- counts by tests that agree on all sites
pub same_counts : (l : AccessLog) (outcomes : Site → Outcome) (live still live' still' : Site → Bool) (o : Outcome) →
    ((site : Site) → IsSite l.cycles l.ram l.pc site → live site ≡ live' site) → ((site : Site) → IsSite l.cycles l.ram l.pc site → still site ≡ still' site) →
    count_where l outcomes live still o ≡ count_where l outcomes live' still' o
unfolding count_where passes
same_counts l outcomes live still live' still' o a b =
    length-filter (λ s. by_job live (still s) (job_of l s) && same_outcome (outcomes s) o) (all_sites l)
    ∙ sum_same one other (all_sites l) (sites_hold l.cycles l.ram l.pc (λ s. one s ≡ other s) (λ s h. ap (λ t. cond (t && same_outcome (outcomes s) o) 1 0) (by s h (job_of l s) refl)))
    ∙ sym (length-filter (λ s. by_job live' (still' s) (job_of l s) && same_outcome (outcomes s) o) (all_sites l))
  where
    one : Site → ℕ
    one s = cond (by_job live (still s) (job_of l s) && same_outcome (outcomes s) o) 1 0

    other : Site → ℕ
    other s = cond (by_job live' (still' s) (job_of l s) && same_outcome (outcomes s) o) 1 0

    by : (s : Site) → IsSite l.cycles l.ram l.pc s → (m : Option Site) → job_of l s ≡ m → by_job live (still s) m ≡ by_job live' (still' s) m
    by s h None e = b s h
    by s h (Some k) e = a k (job_is l s k h e).site

none_dead : (l : AccessLog) → dead_where l (λ site. false) ≡ 0
unfolding dead_where
none_dead l =
    length-filter (λ s. is_none (job_of l s) && false) (all_sites l)
    ∙ sum_zero (λ s. cond (is_none (job_of l s) && false) 1 0) (all_sites l) (λ s. by (is_none (job_of l s)))
  where
    by : (b : Bool) → ◌≡◌ {A = ℕ} (cond (b && false) 1 0) 0
    by true = refl
    by false = refl

-- ---- what calls are given and leave

-- what stands in a vector whose elements were all written
pub back : {X : Type 0} (new rest : List X) (len : ℕ) → len ≡ length new → take len (new ++ rest) ≡ new
back new rest len e = rw e (take-append_seam new rest)

-- the board says the outcomes of the jobs
pub all_said : (c : CaseData) (list : JobTable) (board : List (Option Outcome)) → list ≡ jobs_of (log c) → HasOutcomes (on_board (jobs_in c) board) list.list board
unfolding jobs_of
all_said c list board is =
    let lists : list.list ≡ jobs_in c = ap (λ (t : JobTable). t.list) is in
    rw lists (on_boards (jobs_in c) board (once (log c)))

pub dead_is : (c : CaseData) (list : JobTable) → list ≡ jobs_of (log c) → list.dead ≡ dead (log c)
unfolding jobs_of
dead_is c list is = ap (λ (t : JobTable). t.dead) is

-- ---- the lines of functions

module _ (c : CaseData) (outcomes : Site → Outcome) (symbols : List Symbol) where
  function_counted : (line : ℕ → ℕ → ℕ) (t : TotalsData) (k : ℕ) → ((site : Site) → IsSite (log c).cycles (log c).ram (log c).pc site → line site.cycle site.cell ≡ function_line c symbols site) →
      k < last_line symbols → ((o : Outcome) → total_at t o + cond (same_outcome NoEffect o) (dead_where (log c) (λ site. false)) 0 ≡ count_where (log c) outcomes (λ site. line site.cycle site.cell == k) (λ site. false) o) →
      (o : Outcome) → total_at t o ≡ function_counts c outcomes symbols k o
  unfolding function_counts
  function_counted line t k lines low counts o =
      sym (ap (λ n. total_at t o + cond (same_outcome NoEffect o) n 0) (none_dead (log c)) ∙ nothing (same_outcome NoEffect o)) ∙ counts o
      ∙ same_counts (log c) outcomes (λ site. line site.cycle site.cell == k) (λ site. false) (λ job. function_line c symbols job == k) (λ site. last_line symbols == k) o
      (λ site h. ap (λ n. n == k) (lines site h)) (λ site h. sym (ne_eqb (last_line symbols) k (λ e. omega arith)))
    where
      nothing : (b : Bool) → total_at t o + cond b 0 0 ≡ total_at t o
      nothing true = omega arith
      nothing false = omega arith

  dead_counted : (board_says : Site → Outcome) → outcomes ≡ spread (log c) board_says → (t : TotalsData) → ((o : Outcome) → total_at t o ≡ cond (same_outcome NoEffect o) (dead (log c)) 0) →
      (o : Outcome) → total_at t o ≡ function_counts c outcomes symbols (last_line symbols) o
  unfolding function_counts
  dead_counted board_says is t counts o =
      counts o ∙ sym (dead_line (log c) board_says o) ∙ ap (λ f. count_where (log c) f (λ site. false) (λ site. true) o) (sym is)
      ∙ same_counts (log c) outcomes (λ site. false) (λ site. true) (λ job. function_line c symbols job == last_line symbols) (λ site. last_line symbols == last_line symbols) o
      (λ site h. let low = function_low c symbols site in sym (ne_eqb (function_line c symbols site) (last_line symbols) (λ e. omega arith))) (λ site h. sym (eq-eqb (last_line symbols) (last_line symbols) refl))

-- the totals of the functions, with those of the dead sites behind them
pub functions_counted : (c : CaseData) (board : List (Option Outcome)) (symbols : List Symbol) (line : ℕ → ℕ → ℕ) (totals new : List TotalsData) (dead_totals : TotalsData) →
    ((site : Site) → IsSite (log c).cycles (log c).ram (log c).pc site → line site.cycle site.cell ≡ function_line c symbols site) →
    length totals ≡ length symbols + 2 →
    ((k : ℕ) → k < length symbols + 2 → (o : Outcome) → total_at (totals_at totals k) o + cond (same_outcome NoEffect o) (dead_where (log c) (λ site. false)) 0 ≡ count_where (log c) (board_outcomes c board) (λ site. line site.cycle site.cell == k) (λ site. false) o) →
    ((o : Outcome) → total_at dead_totals o ≡ cond (same_outcome NoEffect o) (dead (log c)) 0) →
    new ≡ slice_set totals (length symbols + 1) dead_totals →
    AreCounts symbols (function_counts c (board_outcomes c board) symbols) new
functions_counted c board symbols line totals new dead_totals lines long counts is_dead made = record {
  as_many = ap length made ∙ length-set totals (length symbols + 1) dead_totals ∙ long;
  each = λ k low o. ⊎_elim (λ (e : k ≡ length symbols + 1). last k e o) (λ (ne : k ≡ length symbols + 1 → ⊥). other k low ne o) (cases_eq k (length symbols + 1));
}
  where
    last : (k : ℕ) → k ≡ length symbols + 1 → (o : Outcome) → total_at (totals_at new k) o ≡ function_counts c (board_outcomes c board) symbols k o
    last k e o =
        let now : totals_at new (length symbols + 1) ≡ dead_totals = rw made (get_or-set_same totals (length symbols + 1) dead_totals no_totals (omega arith)) in
        rw e (ap (λ (t : TotalsData). total_at t o) now ∙ dead_counted c (board_outcomes c board) symbols (on_board (jobs_in c) board) refl dead_totals is_dead o)

    other : (k : ℕ) → k < length symbols + 2 → (k ≡ length symbols + 1 → ⊥) → (o : Outcome) → total_at (totals_at new k) o ≡ function_counts c (board_outcomes c board) symbols k o
    other k low ne o =
        let now : totals_at new k ≡ totals_at totals k = rw made (get_or-set_other totals (length symbols + 1) k dead_totals no_totals ne) in
        ap (λ (t : TotalsData). total_at t o) now ∙ function_counted c (board_outcomes c board) symbols line (totals_at totals k) k lines (omega arith) (counts k low) o

-- ---- the lines of objects

-- the test of a line
abbrev on_line : (ℕ → ℕ → ℕ) → ℕ → Site → Bool
on_line line k site = line site.cycle site.cell == k

object_counted : (c : CaseData) (outcomes : Site → Outcome) (symbols : List Symbol) (line : ℕ → ℕ → ℕ) (k : ℕ) (o : Outcome) →
    ((site : Site) → IsSite (log c).cycles (log c).ram (log c).pc site → line site.cycle site.cell ≡ object_line c symbols site) →
    count_where (log c) outcomes (on_line line k) (on_line line k) o ≡ object_counts c outcomes symbols k o
unfolding object_counts
object_counted c outcomes symbols line k o lines =
    same_counts (log c) outcomes (on_line line k) (on_line line k) (λ job. object_line c symbols job == k) (λ site. object_line c symbols site == k) o
    (λ site h. ap (λ n. n == k) (lines site h)) (λ site h. ap (λ n. n == k) (lines site h))

-- the jobs of a line are a part of its sites
pub within_sites : (c : CaseData) (line : ℕ → ℕ → ℕ) (k : ℕ) (list : JobTable) (read totals : List TotalsData) (read_bits bits : List ℕ) (n : ℕ) → read ≡ totals → read_bits ≡ bits → n ≡ cycles c → list ≡ jobs_of (log c) →
    sum_of (totals_at totals k) ≡ weight_where (on_line line k) list.list →
    weight_where (on_line line k) (job_list (log c)) + dead_where (log c) (on_line line k) ≡ (log c).cycles * slice_index bits k →
    sum_of (totals_at read k) ≤ n * slice_index read_bits k
unfolding log jobs_of
within_sites c line k list read totals read_bits bits n e d is lists sum whole =
    let weights : weight_where (on_line line k) list.list ≡ weight_where (on_line line k) (jobs_in c) = ap (λ (t : JobTable). weight_where (on_line line k) t.list) lists in
    rw (e, d, is) (a_part (sum_of (totals_at totals k)) _ _ _ (sum ∙ weights) whole)
  where
    a_part : (sum weight dead all : ℕ) → sum ≡ weight → weight + dead ≡ all → sum ≤ all
    a_part sum weight dead all is whole = omega arith

-- the totals of the objects
pub objects_counted : (c : CaseData) (board : List (Option Outcome)) (symbols : List Symbol) (line : ℕ → ℕ → ℕ) (list : JobTable) (read totals : List TotalsData) (read_bits bits : List ℕ) (new : List TotalsData) (n : ℕ) →
    read ≡ totals → read_bits ≡ bits → n ≡ cycles c → list ≡ jobs_of (log c) →
    ((site : Site) → IsSite (log c).cycles (log c).ram (log c).pc site → line site.cycle site.cell ≡ object_line c symbols site) →
    length totals ≡ length symbols + 2 → length new ≡ length read →
    ((k : ℕ) → k < length symbols + 2 → sum_of (totals_at totals k) ≡ weight_where (on_line line k) list.list) →
    ((k : ℕ) → k < length symbols + 2 → weight_where (on_line line k) (job_list (log c)) + dead_where (log c) (on_line line k) ≡ (log c).cycles * slice_index bits k) →
    ((k : ℕ) → k < length symbols + 2 → (still : Site → Bool) (o : Outcome) → total_at (totals_at totals k) o + cond (same_outcome NoEffect o) (dead_where (log c) still) 0 ≡ count_where (log c) (board_outcomes c board) (on_line line k) still o) →
    ((l : AccessLog) (outcomes : Site → Outcome) (test : Site → Bool) (k : ℕ) → k < length read → l.cycles ≡ n → sum_of (totals_at read k) ≡ weight_where test (job_list l) → weight_where test (job_list l) + dead_where l test ≡ l.cycles * slice_index read_bits k →
    ((o : Outcome) → total_at (totals_at read k) o + cond (same_outcome NoEffect o) (dead_where l test) 0 ≡ count_where l (spread l outcomes) test test o) → (o : Outcome) → total_at (totals_at new k) o ≡ count_where l (spread l outcomes) test test o) →
    AreCounts symbols (object_counts c (board_outcomes c board) symbols) new
unfolding log jobs_of
objects_counted c board symbols line list read totals read_bits bits new n e d is lists lines long same sums wholes counts dead_counts = record {
  as_many = same ∙ ap length e ∙ long;
  each = λ k low o.
      let sum : sum_of (totals_at read k) ≡ weight_where (on_line line k) (jobs_in c) = ap (λ t. sum_of (totals_at t k)) e ∙ sums k low ∙ ap (λ (t : JobTable). weight_where (on_line line k) t.list) lists in
      dead_counts (log c) (on_board (jobs_in c) board) (on_line line k) k (omega (arith, ap length e)) (sym is) sum
      (wholes k low ∙ ap (λ b. cycles c * slice_index b k) (sym d))
      (λ p. ap (λ t. total_at (totals_at t k) p + cond (same_outcome NoEffect p) (dead_where (log c) (on_line line k)) 0) e ∙ counts k low (on_line line k) p) o
      ∙ object_counted c (board_outcomes c board) symbols line k o lines;
}
