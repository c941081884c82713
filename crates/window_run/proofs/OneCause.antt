-- An answer whose cause holds comes: no two causes hold at once where the campaign file is told.
use Rattle.std.proofs.Common.{◌≡◌, ◌⊎◌, inl, inr, ℕ, ◌<◌, Bool, List, Option, Some, None, Ok, Err, refl, sym, ap, subst, ◌∙◌, arith}
use Rattle.fs_model.specs.declared.outcomes.Outcome.{Outcome}
use Rattle.fs_model.specs.Case.{CaseData}
use Rattle.fs_model.specs.Run.{golden}
use Rattle.fs_outside.specs.Faults.{IsCaused}
use Rattle.golden_trace.specs.declared.good.GoldenFault.{GoldenFault}
use Rattle.golden_trace.specs.Goldens.{IsFault}
use Rattle.elf_symbols.specs.declared.tables.Symbol.{Symbol}
use Rattle.result_keeper.specs.Acceptance.{accept}
use Rattle.result_keeper.specs.declared.refusals.KeepRefusal.{KeepRefusal}
use Rattle.window_counts.specs.Windows.{window_len}
use Rattle.window_parts.specs.declared.parts.NoPart.{NoPart}
use Rattle.window_parts.specs.Parts.{HasNoPart, IsPartWindow}
use Rattle.command_line.specs.Window.{WindowLineData}
use Rattle.phases.specs.Baselines.{Halts}
use Rattle.phases.specs.Loading.{LoadsBy, symbol_fault}
use Rattle.phases.specs.Status.{HasNoFault, is_keep_fault, is_read_fault, is_write_fault}
use Rattle.phases.specs.declared.status.Status.{Status}
use Rattle.phases.specs.declared.status.Status.TheVariants as status
use Rattle.phases.proofs.Once.{bad_image_once, bad_image_or_loads, fault_no_halt, fault_once, loads_once, no_rise}
use Rattle.window_run.specs.Call.{WindowCall}
use Rattle.window_run.specs.Causes.{EndsOnLoaded, EndsOnPart, IsCauseInWindow, IsOwnInWindow, IsPartCause, IsWrongImage, LoadsPart, RefusesImage, WrongImage, WrongSymbols, symbols_named}
use Rattle.campaign.specs.Perform.{IsOver}
use Rattle.window_run.specs.Ends.{FinishesDue, IsWindowEnd, LeavesDue, StopsDue, window_jobs}
use Rattle.window_run.specs.WindowStatus.{is_ended_by}
use Rattle.window_run.specs.declared.status.WindowStatus.{WindowStatus}
use Rattle.window_run.specs.declared.status.WindowStatus.TheVariants.{Ended, Empty}

-- ---- the image

wrong_once : (line : WindowLineData) (bytes : List ℕ) (n m : ℕ) → IsWrongImage line bytes n → IsWrongImage line bytes m → n ≡ m
wrong_once line bytes n m (WrongImage a) (WrongImage b) = bad_image_once line.case bytes n m a b
wrong_once line bytes n m (WrongImage a) (WrongSymbols r b c loads e) = bad_image_or_loads line.case bytes n c a loads
wrong_once line bytes n m (WrongSymbols r a c loads e) (WrongImage b) = bad_image_or_loads line.case bytes m c b loads
wrong_once line bytes n m (WrongSymbols r a c loads e) (WrongSymbols q b d loads' e') = let same : r ≡ q = cc in a ∙ ap symbol_fault same ∙ sym b

wrong_or_loads : {A : Type 0} (line : WindowLineData) (bytes : List ℕ) (n : ℕ) (c : CaseData) (symbols : List Symbol) → IsWrongImage line bytes n → LoadsBy line.case bytes c
    → symbols_named line.part.function bytes ≡ Ok symbols → A
wrong_or_loads line bytes n c symbols (WrongImage bad) loads are = bad_image_or_loads line.case bytes n c bad loads
wrong_or_loads line bytes n c symbols (WrongSymbols r a d loads' e) loads are = cc

-- ---- the file

-- an answer that follows from the file
data OfFile (answer : Status) : Type 0 where
  AsRefused : (refusal : KeepRefusal) → answer ≡ status.BadKeep refusal → OfFile answer
  AsStopped : (kept jobs : ℕ) → answer ≡ status.Stopped kept jobs → OfFile answer
  AsDone : answer ≡ status.Done → OfFile answer

module _ (budget : Option ℕ) (window : List Bool) (file : List ℕ) (c : CaseData) where
  abbrev Ends : Status → Type 0
  Ends answer = IsWindowEnd (Unit {0}) budget window file c answer

  refused_or_opened : {A : Type 0} (refusal : KeepRefusal) (board : List (Option Outcome)) → accept file c ≡ Err refusal → accept file c ≡ Ok board → A
  refused_or_opened refusal board e f = cc

  board_once : (a b : List (Option Outcome)) → accept file c ≡ Ok a → accept file c ≡ Ok b → b ≡ a
  board_once a b e f = cc

  done_or_left : {A : Type 0} (kept jobs : ℕ) → FinishesDue budget window file c → LeavesDue budget window file c kept jobs → A
  done_or_left kept jobs a b =
      absurd (a.within (subst (λ (board : List (Option Outcome)). IsOver budget (window_jobs window c) board) (board_once a.board b.board a.opened b.opened) b.stopped.over))

  left_once : (kept jobs kept' jobs' : ℕ) → LeavesDue budget window file c kept jobs → LeavesDue budget window file c kept' jobs' → status.Stopped kept jobs ≡ status.Stopped kept' jobs'
  left_once kept jobs kept' jobs' a b =
      let stops = subst (λ (board : List (Option Outcome)). StopsDue budget window c board kept' jobs') (board_once a.board b.board a.opened b.opened) b.stopped in
      ap (λ (n : ℕ). status.Stopped n jobs) (a.stopped.kept_is ∙ sym stops.kept_is) ∙ ap (λ (n : ℕ). status.Stopped kept' n) (a.stopped.jobs_is ∙ sym stops.jobs_is)

  file_once : (a b : Status) → OfFile a → OfFile b → Ends a → Ends b → a ≡ b
  file_once a b of_a of_b h k = by of_a of_b
    where
      by : OfFile a → OfFile b → a ≡ b
      by (AsRefused r p) (AsRefused q s) =
          let e = subst Ends p h tt in
          let f = subst Ends s k tt in
          let same : r ≡ q = cc in
          p ∙ ap status.BadKeep same ∙ sym s
      by (AsRefused r p) (AsStopped m n s) = refused_or_opened r (subst Ends s k tt).board (subst Ends p h tt) (subst Ends s k tt).opened
      by (AsRefused r p) (AsDone s) = refused_or_opened r (subst Ends s k tt).board (subst Ends p h tt) (subst Ends s k tt).opened
      by (AsStopped m n p) (AsRefused q s) = refused_or_opened q (subst Ends p h tt).board (subst Ends s k tt) (subst Ends p h tt).opened
      by (AsStopped m n p) (AsStopped m' n' s) = p ∙ left_once m n m' n' (subst Ends p h tt) (subst Ends s k tt) ∙ sym s
      by (AsStopped m n p) (AsDone s) = done_or_left m n (subst Ends s k tt) (subst Ends p h tt)
      by (AsDone p) (AsRefused q s) = refused_or_opened q (subst Ends p h tt).board (subst Ends s k tt) (subst Ends p h tt).opened
      by (AsDone p) (AsStopped m n s) = done_or_left m n (subst Ends p h tt) (subst Ends s k tt)
      by (AsDone p) (AsDone s) = p ∙ sym s

-- ---- the part

module _ (line : WindowLineData) (symbols : List Symbol) (file : List ℕ) (c : CaseData) where
  empty_or_window : {A : Type 0} (why : NoPart) (window : List Bool) → HasNoPart line.part symbols c why → IsPartWindow line.part symbols c window → A
  empty_or_window why window none part =
      let same = ap window_len part.window_is in
      let some = part.some in
      let zero_long = none.none in
      absurd (omega (arith, same, some, zero_long))

  -- where the work on a case ends
  data AtPart (answer : WindowStatus) : Type 0 where
    AtGolden : (fault : GoldenFault) → answer ≡ Ended (status.BadGolden fault) → IsFault fault c.limit (golden c) → AtPart answer
    AtEmpty : (why : NoPart) → answer ≡ Empty why → Halts c → HasNoPart line.part symbols c why → AtPart answer
    AtFile : (here : Status) → answer ≡ Ended here → OfFile here → EndsOnPart (Unit {0}) line symbols file c here → AtPart answer

  at_part : (answer : WindowStatus) → IsOwnInWindow answer → IsPartCause (Unit {0}) line symbols file c answer → AtPart answer
  at_part (Ended (status.BadGolden f)) own h = AtGolden f refl h
  at_part (Ended (status.BadKeep r)) own h = AtFile (status.BadKeep r) refl (AsRefused r refl) h
  at_part (Ended (status.Stopped m n)) own h = AtFile (status.Stopped m n) refl (AsStopped m n refl) h
  at_part (Ended status.Done) own h = AtFile status.Done refl (AsDone refl) h
  at_part (Ended status.ReadFault) own h = absurd own
  at_part (Ended status.KeepFault) own h = absurd own
  at_part (Ended status.WriteFault) own h = absurd own
  at_part (Ended status.NoMemory) own h = absurd own
  at_part (Ended answer) own h = absurd h.ends
  at_part (Empty why) own h = AtEmpty why refl h.0 h.1

  files_once : (a b : Status) → OfFile a → OfFile b → EndsOnPart (Unit {0}) line symbols file c a → EndsOnPart (Unit {0}) line symbols file c b → a ≡ b
  files_once a b of_a of_b h k =
      let same : k.window ≡ h.window = k.part.window_is ∙ sym h.part.window_is in
      file_once line.running.stop_after h.window file c a b of_a of_b h.ends
      (subst (λ (w : List Bool). IsWindowEnd (Unit {0}) line.running.stop_after w file c b) same k.ends)

  once_at : (a b : WindowStatus) → AtPart a → AtPart b → a ≡ b
  once_at a b (AtGolden f p h) (AtGolden g q k) = p ∙ ap (λ (i : GoldenFault). Ended (status.BadGolden i)) (fault_once f g c.limit (golden c) h k) ∙ sym q
  once_at a b (AtGolden f p h) (AtEmpty why q halts k) = fault_no_halt f c h halts
  once_at a b (AtGolden f p h) (AtFile t q of k) = fault_no_halt f c h k.halts
  once_at a b (AtEmpty why p halts h) (AtGolden g q k) = fault_no_halt g c k halts
  once_at a b (AtEmpty why p halts h) (AtEmpty why' q halts' k) = p ∙ ap Empty (h.why_is ∙ sym k.why_is) ∙ sym q
  once_at a b (AtEmpty why p halts h) (AtFile t q of k) = empty_or_window why k.window h k.part
  once_at a b (AtFile s p of h) (AtGolden g q k) = fault_no_halt g c k h.halts
  once_at a b (AtFile s p of h) (AtEmpty why q halts k) = empty_or_window why h.window k h.part
  once_at a b (AtFile s p of h) (AtFile t q of' k) = p ∙ ap Ended (files_once s t of of' h k) ∙ sym q

-- ---- the call

module _ (call : WindowCall) where
  no_line : {A : Type 0} (a : WindowLineData) → call.said ≡ None → call.said ≡ Some a → A
  no_line a e f = cc

  same_line : (a b : WindowLineData) → call.said ≡ Some a → call.said ≡ Some b → b ≡ a
  same_line a b e f = cc

  number_once : (n m : ℕ) → RefusesImage call n → RefusesImage call m → n ≡ m
  number_once n m a b =
      wrong_once a.settings call.image n m a.wrong
      (subst (λ (s : WindowLineData). IsWrongImage s call.image m) (same_line a.settings b.settings a.line_is b.line_is) b.wrong)

  refused_no_case : {A : Type 0} (n : ℕ) (c : CaseData) → RefusesImage call n → LoadsPart call c → A
  refused_no_case n c a b =
      let same = same_line a.settings b.settings a.line_is b.line_is in
      wrong_or_loads a.settings call.image n c b.symbols a.wrong (subst (λ (s : WindowLineData). LoadsBy s.case call.image c) same b.loads)
      (subst (λ (s : WindowLineData). symbols_named s.part.function call.image ≡ Ok b.symbols) same b.symbols_are)

  -- two answers on a case that was loaded
  loaded_once : (a b : WindowStatus) → IsOwnInWindow a → IsOwnInWindow b → EndsOnLoaded (Unit {0}) call a → EndsOnLoaded (Unit {0}) call b → a ≡ b
  loaded_once a b own own' h k =
      let lines = same_line h.loads.settings k.loads.settings h.loads.line_is k.loads.line_is in
      let cases : k.case ≡ h.case =
      loads_once h.loads.settings.case call.image k.case h.case (subst (λ (s : WindowLineData). LoadsBy s.case call.image k.case) lines k.loads.loads) h.loads.loads in
      let are = subst (λ (s : WindowLineData). symbols_named s.part.function call.image ≡ Ok k.loads.symbols) lines k.loads.symbols_are in
      let are' = h.loads.symbols_are in
      let symbols : k.loads.symbols ≡ h.loads.symbols = cc in
      let cause =
      subst (λ (x : CaseData). IsPartCause (Unit {0}) h.loads.settings h.loads.symbols call.file x b) cases
      (subst (λ (l : List Symbol). IsPartCause (Unit {0}) h.loads.settings l call.file k.case b) symbols
      (subst (λ (s : WindowLineData). IsPartCause (Unit {0}) s k.loads.symbols call.file k.case b) lines k.cause)) in
      once_at h.loads.settings h.loads.symbols call.file h.case a b (at_part h.loads.settings h.loads.symbols call.file h.case a own h.cause)
      (at_part h.loads.settings h.loads.symbols call.file h.case b own' cause)

  data Reaches (answer : WindowStatus) : Type 0 where
    AtWords : answer ≡ Ended status.Usage → call.said ≡ None → Reaches answer
    AtImage : (number : ℕ) → answer ≡ Ended (status.BadImage number) → RefusesImage call number → Reaches answer
    OnCase : IsOwnInWindow answer → EndsOnLoaded (Unit {0}) call answer → Reaches answer

  reaches : (answer : WindowStatus) → IsOwnInWindow answer → IsCauseInWindow (Unit {0}) call answer → Reaches answer
  reaches (Ended status.Usage) own h = AtWords refl h
  reaches (Ended (status.BadImage n)) own h = AtImage n refl h
  reaches (Ended status.ReadFault) own h = absurd own
  reaches (Ended status.NoMemory) own h = absurd own
  reaches answer own h = OnCase own h

  once : (a b : WindowStatus) → Reaches a → Reaches b → a ≡ b
  once a b (AtWords p h) (AtWords q k) = p ∙ sym q
  once a b (AtWords p h) (AtImage m q k) = no_line k.settings h k.line_is
  once a b (AtWords p h) (OnCase own k) = no_line k.loads.settings h k.loads.line_is
  once a b (AtImage n p h) (AtWords q k) = no_line h.settings k h.line_is
  once a b (AtImage n p h) (AtImage m q k) = p ∙ ap (λ (i : ℕ). Ended (status.BadImage i)) (number_once n m h k) ∙ sym q
  once a b (AtImage n p h) (OnCase own k) = refused_no_case n k.case h k.loads
  once a b (OnCase own h) (AtWords q k) = no_line h.loads.settings k h.loads.line_is
  once a b (OnCase own h) (AtImage m q k) = refused_no_case m h.case k h.loads
  once a b (OnCase own h) (OnCase own' k) = loaded_once a b own own' h k

  module _ (read read' keep keep' write write' : ℕ) where
    pub answers : (result : WindowStatus) → IsCauseInWindow (Unit {0}) call result → IsCaused (is_ended_by is_read_fault result) read read' → IsCaused (is_ended_by is_keep_fault result) keep keep'
        → IsCaused (is_ended_by is_write_fault result) write write' → (expected : WindowStatus) → IsOwnInWindow expected → IsCauseInWindow (Unit {0}) call expected
        → HasNoFault read read' → HasNoFault keep keep' → HasNoFault write write' → (result ≡ expected) ⊎ (result ≡ Ended status.NoMemory)
    answers (Ended status.ReadFault) h r d w expected own k no_r no_d no_w = no_rise read read' no_r r
    answers (Ended status.KeepFault) h r d w expected own k no_r no_d no_w = no_rise keep keep' no_d d
    answers (Ended status.WriteFault) h r d w expected own k no_r no_d no_w = no_rise write write' no_w w
    answers (Ended status.NoMemory) h r d w expected own k no_r no_d no_w = inr refl
    answers result h r d w expected own k no_r no_d no_w = inl (once result expected (reaches result tt h) (reaches expected own k))

-- where the file is told, its cause is as if it were told in any case
told_end : (tells : Type 0) (budget : Option ℕ) (window : List Bool) (file : List ℕ) (c : CaseData) (answer : Status) → tells → IsWindowEnd tells budget window file c answer
    → IsWindowEnd (Unit {0}) budget window file c answer
told_end tells budget window file c (status.BadKeep r) told h = λ _. h told
told_end tells budget window file c (status.Stopped m n) told h = λ _. h told
told_end tells budget window file c status.Done told h = λ _. h told
told_end tells budget window file c status.WriteFault told h = λ _. h told
told_end tells budget window file c status.KeepFault told h = tt
told_end tells budget window file c status.NoMemory told h = tt
told_end tells budget window file c answer told h = absurd h

told_on : (tells : Type 0) (line : WindowLineData) (symbols : List Symbol) (file : List ℕ) (c : CaseData) (answer : Status) → tells → EndsOnPart tells line symbols file c answer
    → EndsOnPart (Unit {0}) line symbols file c answer
told_on tells line symbols file c answer told h =
    record { halts = h.halts; window = h.window; part = h.part; ends = told_end tells line.running.stop_after h.window file c answer told h.ends }

told_part : (tells : Type 0) (line : WindowLineData) (symbols : List Symbol) (file : List ℕ) (c : CaseData) (answer : WindowStatus) → tells → IsPartCause tells line symbols file c answer
    → IsPartCause (Unit {0}) line symbols file c answer
told_part tells line symbols file c (Ended (status.BadGolden f)) told h = h
told_part tells line symbols file c (Ended status.NoMemory) told h = tt
told_part tells line symbols file c (Ended answer) told h = told_on tells line symbols file c answer told h
told_part tells line symbols file c (Empty why) told h = h

told_loaded : (tells : Type 0) (call : WindowCall) (answer : WindowStatus) → tells → EndsOnLoaded tells call answer → EndsOnLoaded (Unit {0}) call answer
told_loaded tells call answer told h =
    record { case = h.case; loads = h.loads; cause = told_part tells h.loads.settings h.loads.symbols call.file h.case answer told h.cause }

pub told_cause : (tells : Type 0) (call : WindowCall) (answer : WindowStatus) → tells → IsCauseInWindow tells call answer → IsCauseInWindow (Unit {0}) call answer
told_cause tells call (Ended status.Usage) told h = h
told_cause tells call (Ended status.ReadFault) told h = h
told_cause tells call (Ended (status.BadImage n)) told h = h
told_cause tells call (Ended status.NoMemory) told h = tt
told_cause tells call answer told h = told_loaded tells call answer told h
