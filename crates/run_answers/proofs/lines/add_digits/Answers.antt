use Rattle.std.proofs.Common.{◌∙◌, ◌++◌, [], ◌∷◌, List, ℕ, get_or, sym, ap, append-nil}
use Rattle.std.proofs.lemmas.List.{take_more}
use Rattle.hex.specs.Hex.{encode_lower}
use Rattle.run_answers.proofs.Digits.{digits_none, digits_next}
use Rattle.run_answers.proofs.lines.add_digits.Goals as goal

pub loop-byte-init : goal.loop-byte-init
loop-byte-init c = sym (append-nil c.args.text.now.items) ∙ ap (λ (x : List ℕ). c.args.text.now.items ++ x) (sym digits_none)

pub loop-byte-preserved : goal.loop-byte-preserved
loop-byte-preserved c =
    c.in_ok-extend_from_slice.ensures.items
    ∙ ap (λ (x : List ℕ). c.loop-byte.text.items ++ x) c.hex_byte.ensures
    ∙ ap (λ (x : List ℕ). x ++ encode_lower (get_or c.args.bytes.now c.loop-byte.byte-index 0 ∷ [])) c.loop-byte.invariant
    ∙ digits_next c.args.text.now.items _ _ (get_or c.args.bytes.now c.loop-byte.byte-index 0) (take_more c.args.bytes.now c.loop-byte.byte-index 0 c.loop-byte-test.true)
