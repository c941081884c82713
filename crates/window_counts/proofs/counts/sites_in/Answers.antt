use Rattle.std.proofs.Common.{ℕ, ◌*◌, sym, ap, ◌∙◌}
use Rattle.window_counts.specs.Windows.{window_len}
use Rattle.window_counts.proofs.Size.{window_size}
use Rattle.window_counts.proofs.counts.sites_in.Goals as goal

pub returns : goal.returns
returns c =
    ap (λ (n : ℕ). n * c.bits_of_case.result) c.len.ensures
    ∙ ap (λ (n : ℕ). window_len c.args.window.now * n) c.bits_of_case.ensures.value
    ∙ sym (window_size c.args.case.now c.args.window.now c.requires)
