use Rattle.std.proofs.Common.{ℕ, ◌++◌, ◌∷◌, [], List, Bool, map, ap, sym, ◌∙◌}
use Rattle.std.specs.Prelude.{slice_index}
use Rattle.std.specs.List.{range_with_len}
use Rattle.command_line.specs.Parts.{part_of}
use Rattle.window_counts.proofs.Ranges.{map_more}
use Rattle.window_parts.specs.Spans.{is_member_by}
use Rattle.window_parts.proofs.members.flags_by.Goals as goal

pub loop-cycle-preserved : goal.loop-cycle-preserved
loop-cycle-preserved c =
    let i : ℕ = c.loop-cycle.cycle in
    let f = λ (t : ℕ). is_member_by (part_of c.args.part.now) c.args.spans.now t (slice_index c.args.pcs.now t) in
    ◌∙◌ {A = List Bool} c.in_ok-push.ensures.items
    (◌∙◌ {A = List Bool} (ap (λ (l : List Bool). l ++ c.is_member.result ∷ []) c.loop-cycle.invariant)
    (◌∙◌ {A = List Bool} (ap (λ (b : Bool). map f (range_with_len 0 i) ++ b ∷ []) c.is_member.ensures) (sym (map_more f i))))
