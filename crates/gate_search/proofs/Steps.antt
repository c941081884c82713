-- What follows a gate, by the byte there and the count after it.
use Rattle.std.proofs.Common.{◌≡◌, ◌+◌, ◌-◌, ◌*◌, ◌<◌, ◌≤◌, ℕ, List, length, drop, get_or, Option, Some, None, slice_get, arith, sym, refl, ◌∙◌, ap}
use Rattle.std.proofs.lemmas.Option.{slice_get_within, get_or_from_slice_get}
use Rattle.fs_model.specs.declared.instructions.Size.TheVariants.{Half}
use Rattle.fs_model.specs.Memory.{number_at}
use Rattle.keep_format.specs.declared.raw_rows.RawRow.{RawRow}
use Rattle.keep_format.specs.KeepFile.{Batches, batches_from, onto, rows_from}
use Rattle.keep_format.specs.Reading.{gate_of}
use Rattle.keep_format.proofs.Walks.{walk_at_closed, walk_at_cut, walk_at_end, walk_step}

same_gate : (rows : List RawRow) (rest : Option Batches) → gate_of (onto rows rest) ≡ gate_of rest
same_gate rows None = refl
same_gate rows (Some rest) = refl

module _ (file : List ℕ) (at byte : ℕ) (here : slice_get file at ≡ Some byte) where
  abbrev within : at < length file
  within = slice_get_within file at byte here

  abbrev is_byte : get_or file at 0 ≡ byte
  is_byte = get_or_from_slice_get file at byte 0 here

  pub closed_here : (byte ≡ 165 → ⊥) → gate_of (batches_from at 0 (drop at file)) ≡ Some at
  closed_here shut = ap gate_of (walk_at_closed file at within (λ is. shut (sym is_byte ∙ is)))

  pub end_here : byte ≡ 165 → length file - at < 3 → gate_of (batches_from at 0 (drop at file)) ≡ None
  end_here is short = ap gate_of (walk_at_end file at within (is_byte ∙ is) short)

  pub cut_here : byte ≡ 165 → (count : ℕ) → count ≡ number_at Half file (at + 1) → 3 ≤ length file - at → length file - at < 3 + 10 * count
      → gate_of (batches_from at 0 (drop at file)) ≡ None
  cut_here is count counted room short = ap gate_of (walk_at_cut file at count within (is_byte ∙ is) counted (omega (arith, short)))

  pub step_here : byte ≡ 165 → (count : ℕ) → count ≡ number_at Half file (at + 1)
      → gate_of (batches_from (at + (3 + 10 * count)) 0 (drop (at + (3 + 10 * count)) file)) ≡ gate_of (batches_from at 0 (drop at file))
  step_here is count counted =
      sym (ap gate_of (walk_step file at count within (is_byte ∙ is) counted) ∙ same_gate (rows_from count (at + 3) (drop (at + 3) file)) _)
