-- What a call may end with has one cause: an image is refused by one number or is that of one case, a golden run halts or has
-- one fault, and a device either failed or did not.
use Rattle.std.proofs.Common.{◌≡◌, ℕ, ◌+◌, List, Ok, sym, ◌∙◌, ap, arith}
use Rattle.fs_model.specs.Case.{CaseData}
use Rattle.fs_model.specs.Run.{Detect, Fault, Ending, Ended, golden}
use Rattle.fs_outside.specs.Faults.{Rises}
use Rattle.golden_trace.specs.declared.good.GoldenFault.{GoldenFault}
use Rattle.golden_trace.specs.declared.good.GoldenFault.TheVariants.{GoldenTrap, GoldenDetected, GoldenLong}
use Rattle.golden_trace.specs.Goldens.{IsFault}
use Rattle.command_line.specs.Line.{CaseLineData, RequestData, case_in}
use Rattle.elf_loader.specs.Numbers.{fault_number}
use Rattle.elf_symbols.specs.declared.tables.Symbol.{Symbol}
use Rattle.phases.specs.Baselines.{Halts}
use Rattle.phases.specs.Loading.{BadImage, BadSymbols, Faulty, IsBadImage, IsRefusedBy, LoadsBy, TooLong, flagged, symbol_fault, symbols_by}
use Rattle.phases.specs.Status.{HasNoFault}

-- ---- an image is refused by one number, or it is a case's

pub bad_image_once : (s : CaseLineData) (bytes : List ℕ) (n m : ℕ) → IsBadImage s bytes n → IsBadImage s bytes m → n ≡ m
bad_image_once s bytes n m (TooLong a long) (TooLong b long') = a ∙ sym b
bad_image_once s bytes n m (TooLong a long) (Faulty f b fits e) = absurd (omega arith)
bad_image_once s bytes n m (Faulty f a fits e) (TooLong b long) = absurd (omega arith)
bad_image_once s bytes n m (Faulty f a fits e) (Faulty g b fits' e') = let same : f ≡ g = cc in a ∙ ap fault_number same ∙ sym b

pub bad_image_or_loads : {A : Type 0} (s : CaseLineData) (bytes : List ℕ) (n : ℕ) (c : CaseData) → IsBadImage s bytes n → LoadsBy s bytes c → A
bad_image_or_loads s bytes n c (TooLong a long) h = absurd (let fits = h.fits in omega arith)
bad_image_or_loads s bytes n c (Faulty f a fits e) h = let loaded = h.image_is in cc

pub refused_once : (s : RequestData) (bytes : List ℕ) (n m : ℕ) → IsRefusedBy s bytes n → IsRefusedBy s bytes m → n ≡ m
refused_once s bytes n m (BadImage a) (BadImage b) = bad_image_once (case_in s) bytes n m a b
refused_once s bytes n m (BadImage a) (BadSymbols r b c loads e) = bad_image_or_loads (case_in s) bytes n c a loads
refused_once s bytes n m (BadSymbols r a c loads e) (BadImage b) = bad_image_or_loads (case_in s) bytes m c b loads
refused_once s bytes n m (BadSymbols r a c loads e) (BadSymbols q b d loads' e') = let same : r ≡ q = cc in a ∙ ap symbol_fault same ∙ sym b

pub refused_or_loads : {A : Type 0} (s : RequestData) (bytes : List ℕ) (n : ℕ) (c : CaseData) (symbols : List Symbol) → IsRefusedBy s bytes n → LoadsBy (case_in s) bytes c → symbols_by s bytes ≡ Ok symbols → A
refused_or_loads s bytes n c symbols (BadImage bad) h is = bad_image_or_loads (case_in s) bytes n c bad h
refused_or_loads s bytes n c symbols (BadSymbols r a d loads e) h is = cc

pub loads_once : (s : CaseLineData) (bytes : List ℕ) (c d : CaseData) → LoadsBy s bytes c → LoadsBy s bytes d → c ≡ d
loads_once s bytes c d a b =
    let e = a.image_is in
    let f = b.image_is in
    let same : a.bare ≡ b.bare = cc in
    a.case_is ∙ ap (flagged s) same ∙ sym b.case_is

-- ---- a golden run halts, or has one fault

pub fault_once : (f g : GoldenFault) (limit : ℕ) (e : Ending) → IsFault f limit e → IsFault g limit e → f ≡ g
fault_once (GoldenTrap t) (GoldenTrap u) limit e a b =
    let is : Ended (Fault a.0) (t + 1) a.1 ≡ Ended (Fault b.0) (u + 1) b.1 = sym a.2 ∙ b.2 in
    let same : t + 1 ≡ u + 1 = cc in
    ap GoldenTrap (omega arith)
fault_once (GoldenTrap t) (GoldenDetected u) limit e a b = let is = sym a.2 ∙ b.1 in cc
fault_once (GoldenTrap t) (GoldenLong u) limit e a b = let is = sym a.2 ∙ b.1 in cc
fault_once (GoldenDetected t) (GoldenTrap u) limit e a b = let is = sym a.1 ∙ b.2 in cc
fault_once (GoldenDetected t) (GoldenDetected u) limit e a b =
    let is : Ended Detect (t + 1) a.0 ≡ Ended Detect (u + 1) b.0 = sym a.1 ∙ b.1 in
    let same : t + 1 ≡ u + 1 = cc in
    ap GoldenDetected (omega arith)
fault_once (GoldenDetected t) (GoldenLong u) limit e a b = let is = sym a.1 ∙ b.1 in cc
fault_once (GoldenLong t) (GoldenTrap u) limit e a b = let is = sym a.1 ∙ b.2 in cc
fault_once (GoldenLong t) (GoldenDetected u) limit e a b = let is = sym a.1 ∙ b.1 in cc
fault_once (GoldenLong t) (GoldenLong u) limit e a b = ap GoldenLong (a.0 ∙ sym b.0)

pub fault_no_halt : {A : Type 0} (f : GoldenFault) (c : CaseData) → IsFault f c.limit (golden c) → Halts c → A
fault_no_halt (GoldenTrap t) c a h = let is = sym a.2 ∙ h.ends in cc
fault_no_halt (GoldenDetected t) c a h = let is = sym a.1 ∙ h.ends in cc
fault_no_halt (GoldenLong t) c a h = let is = sym a.1 ∙ h.ends in cc

-- ---- devices

pub no_rise : {A : Type 0} (before now : ℕ) → HasNoFault before now → Rises before now → A
no_rise before now h r = absurd (let same = h.same in let more = r.risen h.room in omega arith)
