use Rattle.std.proofs.Common.{◌≡◌, ◌||◌, [], ◌++◌, List, ℕ, ap, ◌∙◌, codes, refl}
use Rattle.hex.specs.Hex.{encode_lower}
use Rattle.fs_model.specs.Case.{CaseData}
use Rattle.rv_machine.specs.Machines.{MachineData}
use Rattle.report.proofs.Buffered.{moved_part, part_goes_on, puts_part}
use Rattle.plain_commands.specs.Sent.{sent_from}
use Rattle.plain_commands.specs.Trace.{output_line}
use Rattle.plain_commands.specs.Walk.{is_some_byte, output_end}
use Rattle.replay.specs.Injected.{injected_at}
use Rattle.timeline.specs.Places.{from_flip}
use Rattle.replay.proofs.Lines.{all_sent, output_parts, output_whole, puts_behind}
use Rattle.replay.proofs.site_texts.put_output.Goals as goal

pub stand_at_flip-requires : goal.stand_at_flip-requires
stand_at_flip-requires g c =
    let same : c.put_bytes.new.machine.case ≡ c.args.machine.now.case = c.put_bytes.ensures.case ∙ ap (λ (m : MachineData). m.case) c.rewind.ensures in
    rw same c.requires

pub returns-in_err-before-clause-case : goal.returns-in_err-before-clause-case
returns-in_err-before-clause-case g c = c.put_bytes.ensures.case ∙ ap (λ (m : MachineData). m.case) c.rewind.ensures

pub returns-in_err-behind-clause-case : goal.returns-in_err-behind-clause-case
returns-in_err-behind-clause-case g c =
    c.put_bytes-2.ensures.case ∙ c.stand_at_flip.ensures.case ∙ c.put_bytes.ensures.case ∙ ap (λ (m : MachineData). m.case) c.rewind.ensures

pub returns-clause-case : goal.returns-clause-case
returns-clause-case g c =
    c.put_bytes-2.ensures.case ∙ c.stand_at_flip.ensures.case ∙ c.put_bytes.ensures.case ∙ ap (λ (m : MachineData). m.case) c.rewind.ensures

pub returns-in_err-put-clause-bytes : goal.returns-in_err-put-clause-bytes
returns-in_err-put-clause-bytes g c = λ told.
    let case = c.args.machine.now.case in
    let site = c.args.site.now in
    let all = (injected_at case site c.args.went).output in
    let line : output_line all ≡ codes "output " ++ (encode_lower all ++ (encode_lower [] ++ output_end (is_some_byte all))) = output_whole all in
    rw line (puts_part _ _ _ _ _ c.from_residual.result c.from_residual.ensures.0
    (part_goes_on _ _ c.args.waiting.now.items (codes "output ") (encode_lower all ++ (encode_lower [] ++ output_end (is_some_byte all))) (c.in_err-put.ensures.bytes told)))

pub returns-in_err-before-clause-bytes : goal.returns-in_err-before-clause-bytes
returns-in_err-before-clause-bytes g c = λ told.
    let case = c.args.machine.now.case in
    let site = c.args.site.now in
    let first = sent_from c.rewind.new.self.case c.rewind.new.self.core site.cycle in
    let rest = sent_from case (from_flip case site).core c.args.went in
    let whole = all_sent case c.rewind.new.self.case case site c.rewind.new.self.core (from_flip case site).core c.args.went (ap (λ (m : MachineData). m.case) c.rewind.ensures) (ap (λ (m : MachineData). m.core) c.rewind.ensures) refl refl in
    let tail : List ℕ = encode_lower rest ++ output_end (is_some_byte first || is_some_byte rest) in
    rw (output_parts _ first rest _ _ _ whole refl refl refl)
    (puts_part _ _ _ _ _ c.from_residual-in_err-before.result c.from_residual-in_err-before.ensures.0
    (moved_part _ _ _ _ _ (codes "output ") (encode_lower first ++ tail) (c.in_ok-put.ensures.bytes told)
    (part_goes_on _ _ _ (encode_lower first) tail (c.in_err-before.ensures.bytes told))))

pub returns-in_err-behind-clause-bytes : goal.returns-in_err-behind-clause-bytes
returns-in_err-behind-clause-bytes g c = λ told.
    let case = c.args.machine.now.case in
    let site = c.args.site.now in
    let same = c.put_bytes.ensures.case ∙ ap (λ (m : MachineData). m.case) c.rewind.ensures in
    let first = sent_from c.rewind.new.self.case c.rewind.new.self.core site.cycle in
    let rest = sent_from c.stand_at_flip.new.machine.case c.stand_at_flip.new.machine.core c.args.went in
    let whole = all_sent case c.rewind.new.self.case c.stand_at_flip.new.machine.case site c.rewind.new.self.core c.stand_at_flip.new.machine.core c.args.went
    (ap (λ (m : MachineData). m.case) c.rewind.ensures) (ap (λ (m : MachineData). m.core) c.rewind.ensures)
    (c.stand_at_flip.ensures.case ∙ same) (c.stand_at_flip.ensures.core ∙ ap (λ (x : CaseData). (from_flip x site).core) same) in
    let end : List ℕ = output_end (is_some_byte first || is_some_byte rest) in
    rw (output_parts _ first rest _ _ _ whole refl refl refl)
    (puts_part _ _ _ _ _ c.from_residual-in_err-behind.result c.from_residual-in_err-behind.ensures.0
    (moved_part _ _ _ _ _ (codes "output ") (encode_lower first ++ (encode_lower rest ++ end)) (c.in_ok-put.ensures.bytes told)
    (moved_part _ _ _ _ _ (encode_lower first) (encode_lower rest ++ end) (c.in_ok-before.ensures.bytes told)
    (part_goes_on _ _ _ (encode_lower rest) end (c.in_err-behind.ensures.bytes told)))))

pub returns-clause-bytes : goal.returns-clause-bytes
returns-clause-bytes g c = λ told.
    let case = c.args.machine.now.case in
    let site = c.args.site.now in
    let same = c.put_bytes.ensures.case ∙ ap (λ (m : MachineData). m.case) c.rewind.ensures in
    let first = sent_from c.rewind.new.self.case c.rewind.new.self.core site.cycle in
    let rest = sent_from c.stand_at_flip.new.machine.case c.stand_at_flip.new.machine.core c.args.went in
    let whole = all_sent case c.rewind.new.self.case c.stand_at_flip.new.machine.case site c.rewind.new.self.core c.stand_at_flip.new.machine.core c.args.went
    (ap (λ (m : MachineData). m.case) c.rewind.ensures) (ap (λ (m : MachineData). m.core) c.rewind.ensures)
    (c.stand_at_flip.ensures.case ∙ same) (c.stand_at_flip.ensures.core ∙ ap (λ (x : CaseData). (from_flip x site).core) same) in
    rw (output_parts _ first rest c.either.result c.in_ok-before.before c.in_ok-behind.behind whole c.in_ok-before.ensures.some c.in_ok-behind.ensures.some c.either.ensures)
    (puts_behind _ _ _ _ _ _ (codes "output ") _ c.put-2.result (c.in_ok-put.ensures.bytes told)
    (puts_behind _ _ _ _ _ _ (encode_lower first) _ c.put-2.result (c.in_ok-before.ensures.bytes told)
    (puts_behind _ _ _ _ _ _ (encode_lower rest) (output_end c.either.result) c.put-2.result (c.in_ok-behind.ensures.bytes told)
    (let end = c.put-2.ensures.bytes told in rw c.output_end.ensures at end))))
