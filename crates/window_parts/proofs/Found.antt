-- The instructions of a part, by the addresses of its functions, and in the golden run of a case.
use Rattle.std.proofs.Common.{◌≡◌, ℕ, ◌<◌, Bool, List, length, map, refl, sym, ap, ◌∙◌, arith}
use Rattle.std.specs.Prelude.{Option, Some, None, IfSome, filter, slice_index}
use Rattle.std.specs.List.{range_with_len}
use Rattle.std.proofs.lemmas.List.{length-map}
use Rattle.std.proofs.lemmas.List.FromFn.{length-range_with_len}
use Rattle.fs_model.specs.Case.{CaseData}
use Rattle.fs_model.specs.Run.{after, cycles, cycles_of}
use Rattle.command_line.specs.Commands.{Text}
use Rattle.command_line.specs.Parts.{PartData}
use Rattle.elf_symbols.specs.declared.tables.Symbol.{Symbol}
use Rattle.golden_trace.specs.Goldens.{GoldenData, IsGolden}
use Rattle.window_counts.specs.Windows.{window_len}
use Rattle.window_parts.specs.declared.functions.Span.{Span}
use Rattle.window_parts.specs.Members.{in_function, is_member, is_named, members, no_part, part_window}
use Rattle.window_parts.specs.Parts.{HasNoPart, IsPartWindow}
use Rattle.window_parts.specs.declared.parts.NoPart.{NoPart}
use Rattle.window_parts.specs.Spans.{AreSpans, has_address, in_spans, is_member_by, span_of}
use Rattle.window_parts.proofs.Lists.{any_filtered, map_range}

in_spans_is : (name : Option Text) (symbols : List Symbol) (spans : List Span) (at : ℕ) → IfSome name (λ n. spans ≡ map span_of (filter (is_named n) symbols))
    → in_spans name spans at ≡ in_function name symbols at
in_spans_is None symbols spans at h = refl
in_spans_is (Some n) symbols spans at h = rw h (any_filtered (is_named n) (λ (s : Symbol). has_address at (span_of s)) span_of (has_address at) (λ s. refl) symbols)

pub member_by : (part : PartData) (symbols : List Symbol) (spans : List Span) (t at : ℕ) → AreSpans part symbols spans → is_member_by part spans t at ≡ is_member part symbols t at
unfolding is_member
member_by part symbols spans t at h = rw (in_spans_is part.function symbols spans at h) refl

pub members_by : (part : PartData) (symbols : List Symbol) (spans : List Span) (pcs : List ℕ) (n : ℕ) → AreSpans part symbols spans
    → map (λ t. is_member_by part spans t (slice_index pcs t)) (range_with_len 0 n) ≡ map (λ t. is_member part symbols t (slice_index pcs t)) (range_with_len 0 n)
members_by part symbols spans pcs n h =
    map_range (λ t. is_member_by part spans t (slice_index pcs t)) (λ t. is_member part symbols t (slice_index pcs t)) 0 n (λ t low high. member_by part symbols spans t (slice_index pcs t) h)

pub cycles_are : (c : CaseData) (g : GoldenData) → IsGolden c g → cycles c ≡ length g.touches
unfolding cycles_of
cycles_are c g h = rw h.ends refl

pub window_is : (part : PartData) (symbols : List Symbol) (c : CaseData) (g : GoldenData) → IsGolden c g → members part symbols g.pcs ≡ part_window part symbols c
unfolding part_window
window_is part symbols c g h =
    let long = h.as_many in
    let all = cycles_are c g h in
    let same : length g.pcs ≡ cycles c = long ∙ sym all in
    ap (λ (n : ℕ). map (λ t. is_member part symbols t (slice_index g.pcs t)) (range_with_len 0 n)) same
    ∙ map_range (λ t. is_member part symbols t (slice_index g.pcs t)) (λ t. is_member part symbols t (after c t).core.pc) 0 (cycles c)
    (λ t low high. let early : t < length g.touches = omega (arith, high, all) in ap (is_member part symbols t) (h.fetched t early))

pub members_length : (part : PartData) (symbols : List Symbol) (pcs : List ℕ) → length (members part symbols pcs) ≡ length pcs
members_length part symbols pcs = length-map (range_with_len 0 (length pcs)) (λ t. is_member part symbols t (slice_index pcs t)) ∙ length-range_with_len 0 (length pcs)

pub part_length : (part : PartData) (symbols : List Symbol) (c : CaseData) → length (part_window part symbols c) ≡ cycles c
unfolding part_window
part_length part symbols c = length-map (range_with_len 0 (cycles c)) (λ t. is_member part symbols t (after c t).core.pc) ∙ length-range_with_len 0 (cycles c)

-- ---- windows with an instruction, and without one

pub is_part : (part : PartData) (symbols : List Symbol) (c : CaseData) (window : List Bool) → window ≡ part_window part symbols c → 0 < window_len window → IsPartWindow part symbols c window
is_part part symbols c window is some = record { window_is = is; cycles_are = ap (λ (w : List Bool). length w) is ∙ part_length part symbols c; some = some }

pub no_part_is : (part : PartData) (symbols : List Symbol) (c : CaseData) (g : GoldenData) (window : List Bool) (n : ℕ) (why : NoPart) → IsGolden c g → window ≡ part_window part symbols c → window_len window ≡ 0
    → n ≡ length g.touches → why ≡ no_part part symbols n → HasNoPart part symbols c why
no_part_is part symbols c g window n why h is none count because = record {
  none = ap (λ (w : List Bool). window_len w) (sym is) ∙ none;
  why_is = because ∙ ap (no_part part symbols) (count ∙ sym (cycles_are c g h));
}
