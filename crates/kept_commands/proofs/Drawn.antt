-- The text of a sample, by the totals that were counted.
use Rattle.std.proofs.Common.{◌≡◌, ℕ, length, sym, ◌∙◌, ap}
use Rattle.std.proofs.Math.Path.{fun_ext}
use Rattle.fs_model.specs.declared.outcomes.Outcome.{Outcome}
use Rattle.fs_model.specs.Case.{CaseData}
use Rattle.fs_model.specs.Run.{cycles}
use Rattle.fs_model.specs.Outcome.{TotalsData, total_at}
use Rattle.golden_trace.specs.Goldens.{GoldenData, IsGolden}
use Rattle.report.specs.Text.{sample_text}
use Rattle.campaign.specs.Sampled.{count_in, population}
use Rattle.command_line.specs.Request.{DrawsData}
use Rattle.phases.proofs.Reported.{cycles_is}
use Rattle.kept_commands.specs.Sample.{draws, sample_of, sites_drawn}

pub sample_is : (asked : DrawsData) (c : CaseData) (g : GoldenData) (n p s : ℕ) (t : TotalsData) → IsGolden c g → n ≡ length g.touches → p ≡ population c asked.live → s ≡ draws p asked.count
    → ((o : Outcome) → total_at t o ≡ count_in c (sites_drawn asked c) o) → sample_text n p s (total_at t) ≡ sample_of asked c
sample_is asked c g n p s t h is all drawn each =
    ap (λ (k : ℕ). sample_text k p s (total_at t)) (is ∙ sym (cycles_is c g h)) ∙ ap (λ (k : ℕ). sample_text (cycles c) p k (total_at t)) drawn
    ∙ ap (λ (k : ℕ). sample_text (cycles c) k (draws k asked.count) (total_at t)) all
    ∙ ap (λ (counts : Outcome → ℕ). sample_text (cycles c) (population c asked.live) (draws (population c asked.live) asked.count) counts) (fun_ext each)
