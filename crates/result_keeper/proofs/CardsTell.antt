-- Two cases with one card are one.
use Rattle.std.proofs.Common.{◌≡◌, ℕ, ◌^◌, ◌<◌, Bool, true, false, List, [], ◌++◌, length, take, drop, get_or, refl, sym, ◌∙◌, ap, arith}
use Rattle.std.proofs.lemmas.List.{take_at, drop_at}
use Rattle.fs_model.specs.declared.instructions.Size.TheVariants.{Word}
use Rattle.fs_model.specs.Case.{CaseData}
use Rattle.fs_model.specs.Card.{kind_of, head_of, card, HasCard}
use Rattle.fs_model.specs.Memory.{number_at}
use Rattle.fs_model.proofs.Cards.{card_length}
use Rattle.keep_format.proofs.Written.{four_read}

pub card_short : (c : CaseData) → HasCard c → length (card c) < 2 ^ 32
card_short c has = let l = card_length c in omega (arith, l, has.case.map.rom_max, has.case.map.ram_max)

module _ (c : CaseData) (has : HasCard c) where
  entry_told : number_at Word (card c) 1 ≡ c.entry
  unfolding head_of
  entry_told = four_read c.entry [] has.entry

  rom_base_told : number_at Word (card c) 5 ≡ c.rom_base
  unfolding head_of
  rom_base_told = four_read c.rom_base [] (omega (arith, has.case.map.rom_min, has.case.map.rom_end))

  rom_told : number_at Word (card c) 9 ≡ length c.rom
  unfolding head_of
  rom_told = four_read (length c.rom) [] (omega (arith, has.case.map.rom_max))

  ram_base_told : number_at Word (card c) 13 ≡ c.ram_base
  unfolding head_of
  ram_base_told = four_read c.ram_base [] (omega (arith, has.case.map.ram_min, has.case.map.ram_end))

  limit_told : number_at Word (card c) 21 ≡ c.limit
  unfolding head_of
  limit_told = four_read c.limit [] (omega (arith, has.case.limit_max))

  kind_told : get_or (card c) 0 0 ≡ kind_of c.pc_cell c.ram_code
  unfolding head_of
  kind_told = refl

  memory_told : drop 25 (card c) ≡ c.rom ++ c.ram
  unfolding head_of
  memory_told = refl

kinds : (p r q s : Bool) → kind_of p r ≡ kind_of q s → (p ≡ q) × (r ≡ s)
kinds true true true true e = (refl, refl)
kinds true true true false e = absurd (omega (arith, e))
kinds true true false true e = absurd (omega (arith, e))
kinds true true false false e = absurd (omega (arith, e))
kinds true false true true e = absurd (omega (arith, e))
kinds true false true false e = (refl, refl)
kinds true false false true e = absurd (omega (arith, e))
kinds true false false false e = absurd (omega (arith, e))
kinds false true true true e = absurd (omega (arith, e))
kinds false true true false e = absurd (omega (arith, e))
kinds false true false true e = (refl, refl)
kinds false true false false e = absurd (omega (arith, e))
kinds false false true true e = absurd (omega (arith, e))
kinds false false true false e = absurd (omega (arith, e))
kinds false false false true e = absurd (omega (arith, e))
kinds false false false false e = (refl, refl)

case_of : ℕ → ℕ → ℕ → List ℕ → ℕ → List ℕ → Bool → Bool → CaseData
case_of entry limit rom_base rom ram_base ram pc_cell ram_code =
    record { entry = entry; limit = limit; rom_base = rom_base; rom = rom; ram_base = ram_base; ram = ram; pc_cell = pc_cell; ram_code = ram_code }

pub cards_tell : (c d : CaseData) → HasCard c → HasCard d → card c ≡ card d → c ≡ d
unfolding case_of
cards_tell c d has has' same =
    let entry : c.entry ≡ d.entry = sym (entry_told c has) ∙ ap (λ (l : List ℕ). number_at Word l 1) same ∙ entry_told d has' in
    let rom_base : c.rom_base ≡ d.rom_base = sym (rom_base_told c has) ∙ ap (λ (l : List ℕ). number_at Word l 5) same ∙ rom_base_told d has' in
    let rom_len : length c.rom ≡ length d.rom = sym (rom_told c has) ∙ ap (λ (l : List ℕ). number_at Word l 9) same ∙ rom_told d has' in
    let ram_base : c.ram_base ≡ d.ram_base = sym (ram_base_told c has) ∙ ap (λ (l : List ℕ). number_at Word l 13) same ∙ ram_base_told d has' in
    let limit : c.limit ≡ d.limit = sym (limit_told c has) ∙ ap (λ (l : List ℕ). number_at Word l 21) same ∙ limit_told d has' in
    let flags = kinds c.pc_cell c.ram_code d.pc_cell d.ram_code (sym (kind_told c has) ∙ ap (λ (l : List ℕ). get_or l 0 0) same ∙ kind_told d has') in
    let memory : c.rom ++ c.ram ≡ d.rom ++ d.ram = sym (memory_told c has) ∙ ap (λ (l : List ℕ). drop 25 l) same ∙ memory_told d has' in
    let rom : c.rom ≡ d.rom = sym (take_at c.rom c.ram (length c.rom) refl) ∙ ap (λ (l : List ℕ). take (length c.rom) l) memory ∙ take_at d.rom d.ram (length c.rom) (sym rom_len) in
    let ram : c.ram ≡ d.ram = sym (drop_at c.rom c.ram (length c.rom) refl) ∙ ap (λ (l : List ℕ). drop (length c.rom) l) memory ∙ drop_at d.rom d.ram (length c.rom) (sym rom_len) in
    ap (λ (x : ℕ). case_of x c.limit c.rom_base c.rom c.ram_base c.ram c.pc_cell c.ram_code) entry
    ∙ ap (λ (x : ℕ). case_of d.entry x c.rom_base c.rom c.ram_base c.ram c.pc_cell c.ram_code) limit
    ∙ ap (λ (x : ℕ). case_of d.entry d.limit x c.rom c.ram_base c.ram c.pc_cell c.ram_code) rom_base
    ∙ ap (λ (x : List ℕ). case_of d.entry d.limit d.rom_base x c.ram_base c.ram c.pc_cell c.ram_code) rom
    ∙ ap (λ (x : ℕ). case_of d.entry d.limit d.rom_base d.rom x c.ram c.pc_cell c.ram_code) ram_base
    ∙ ap (λ (x : List ℕ). case_of d.entry d.limit d.rom_base d.rom d.ram_base x c.pc_cell c.ram_code) ram
    ∙ ap (λ (x : Bool). case_of d.entry d.limit d.rom_base d.rom d.ram_base d.ram x c.ram_code) flags.0
    ∙ ap (λ (x : Bool). case_of d.entry d.limit d.rom_base d.rom d.ram_base d.ram d.pc_cell x) flags.1
