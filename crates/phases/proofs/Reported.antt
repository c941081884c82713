-- The report of a case, by the totals that were counted.
use Rattle.std.proofs.Common.{◌≡◌, ℕ, ◌*◌, Option, List, length, refl, sym, ◌∙◌, ap}
use Rattle.std.proofs.Math.Path.{fun_ext}
use Rattle.fs_model.specs.declared.outcomes.Outcome.{Outcome}
use Rattle.fs_model.specs.Case.{CaseData}
use Rattle.fs_model.specs.Run.{cycles, cycles_of}
use Rattle.fs_model.specs.Site.{sites_of}
use Rattle.fs_model.specs.Outcome.{TotalsData, total_at, count}
use Rattle.fs_model.specs.Laws.{bits_of_all}
use Rattle.fs_model.proofs.Space.{space_size}
use Rattle.command_line.specs.declared.commands.Format.{Format}
use Rattle.phases.specs.Reports.{board_report, board_totals, report_in, report_of}
use Rattle.golden_trace.specs.Goldens.{GoldenData, IsGolden}
use Rattle.phases.specs.Baselines.{Halts}

-- the cycles of a golden run
pub cycles_is : (c : CaseData) (g : GoldenData) → IsGolden c g → cycles c ≡ length g.touches
unfolding cycles_of
cycles_is c g h = rw h.ends refl

pub report_is : (asked : Format) (c : CaseData) (g : GoldenData) (n s : ℕ) (t : TotalsData) → IsGolden c g → n ≡ length g.touches → ((o : Outcome) → total_at t o ≡ count c o)
    → s ≡ length (sites_of c) → report_in asked n s (total_at t) ≡ report_of asked c
report_is asked c g n s t h is each sum =
    ap (λ (k : ℕ). report_in asked k s (total_at t)) (is ∙ sym (cycles_is c g h)) ∙ ap (λ (k : ℕ). report_in asked (cycles c) k (total_at t)) sum ∙ ap (λ (f : Outcome → ℕ). report_in asked (cycles c) (length (sites_of c)) f) (fun_ext each)

-- the report of a board
pub board_is : (asked : Format) (c : CaseData) (g : GoldenData) (s : ℕ) (t : TotalsData) (board : List (Option Outcome)) → IsGolden c g → s ≡ length (sites_of c) → ((o : Outcome) → total_at t o ≡ board_totals c board o)
    → report_in asked (length g.touches) s (total_at t) ≡ board_report asked c board
board_is asked c g s t board h sum is =
    ap (λ (k : ℕ). report_in asked k s (total_at t)) (sym (cycles_is c g h)) ∙ ap (λ (k : ℕ). report_in asked (cycles c) k (total_at t)) sum ∙ ap (λ (f : Outcome → ℕ). report_in asked (cycles c) (length (sites_of c)) f) (fun_ext is)

-- the size of the fault space
pub sites_is : (c : CaseData) (g : GoldenData) (n ram s : ℕ) → IsGolden c g → n ≡ length g.touches → ram ≡ length c.ram → s ≡ n * bits_of_all ram c.pc_cell → s ≡ length (sites_of c)
sites_is c g n ram s h is rams size =
    size ∙ ap (λ (k : ℕ). k * bits_of_all ram c.pc_cell) (is ∙ sym (cycles_is c g h)) ∙ ap (λ (k : ℕ). cycles c * bits_of_all k c.pc_cell) rams
    ∙ sym (space_size (cycles c) (length c.ram) c.pc_cell)

pub halts : (c : CaseData) (g : GoldenData) → IsGolden c g → Halts c
halts c g h = record { value = g.exit; steps = length g.touches; output = g.output; ends = h.ends }
