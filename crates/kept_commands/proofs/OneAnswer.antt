-- An answer whose cause holds comes: no two causes hold at once.
use Rattle.std.proofs.Common.{◌≡◌, ◌⊎◌, inl, inr, ℕ, Bool, true, false, List, Option, Some, None, Ok, refl, sym, ◌∙◌, ap, subst}
use Rattle.fs_model.specs.Case.{CaseData}
use Rattle.fs_model.specs.Run.{golden}
use Rattle.fs_outside.specs.Faults.{IsCaused}
use Rattle.golden_trace.specs.declared.good.GoldenFault.{GoldenFault}
use Rattle.golden_trace.specs.Goldens.{IsFault}
use Rattle.command_line.specs.declared.commands.Command.{Command}
use Rattle.command_line.specs.declared.commands.Command.TheVariants as command
use Rattle.command_line.specs.Request.{RequestData, case_in, command_in}
use Rattle.phases.specs.Baselines.{Halts}
use Rattle.command_line.specs.Commands.{names_keep, names_other, needs_halt}
use Rattle.phases.specs.Commands.{Serves}
use Rattle.elf_symbols.specs.declared.tables.Symbol.{Symbol}
use Rattle.phases.specs.Loading.{BadImage, BadSymbols, IsImageCause, IsRefusedBy, IsSymbolCause, LoadsBy, image_bytes, symbols_by}
use Rattle.phases.specs.Status.{HasNoFault, is_keep_fault, is_of_keep, is_of_other, is_other_fault, is_read_fault, is_store_fault, is_write_fault}
use Rattle.phases.specs.declared.status.Status.{Status}
use Rattle.phases.specs.declared.status.Status.TheVariants as status
use Rattle.phases.proofs.Once.{fault_no_halt, fault_once, loads_once, no_rise, refused_once, refused_or_loads}
use Rattle.kept_commands.specs.Keep.{KeepEnds}
use Rattle.kept_commands.specs.Merge.{MergeEnds, answer_for, both_boards}
use Rattle.kept_commands.specs.Call.{CallData}
use Rattle.kept_commands.specs.Causes.{IsBadRun, IsCause, IsGoodRun, IsOwn, IsRefusedImage, IsWorkCause, Loads}
use Rattle.kept_commands.specs.Words.{TellsFiles, portion_asked, fresh_of}
use Rattle.kept_commands.proofs.FilesOnce.{OfFile, AsOther, AsRefused, AsStopped, AsDone, file_once, merge_once}

pub same_line : (said : Option RequestData) (a b : RequestData) → said ≡ Some a → said ≡ Some b → a ≡ b
same_line said a b e f = cc

pub no_line : {A : Type 0} (said : Option RequestData) (a : RequestData) → said ≡ None → said ≡ Some a → A
no_line said a e f = cc

pub case_once : (call : CallData) (c d : CaseData) → Loads call c → Loads call d → c ≡ d
case_once call c d a b =
    let same = same_line call.said b.settings a.settings b.line_is a.line_is in
    loads_once (case_in a.settings) (image_bytes a.settings call.image) c d a.loads (subst (λ (s : RequestData). LoadsBy (case_in s) (image_bytes s call.image) d) same b.loads)

number_once : (call : CallData) (n m : ℕ) → IsRefusedImage call n → IsRefusedImage call m → n ≡ m
number_once call n m a b =
    let same = same_line call.said b.settings a.settings b.line_is a.line_is in
    refused_once a.settings (image_bytes a.settings call.image) n m a.refused (subst (λ s. IsRefusedBy s (image_bytes s call.image) m) same b.refused)

refused_no_case : {A : Type 0} (call : CallData) (n : ℕ) (c : CaseData) → IsRefusedImage call n → Loads call c → A
refused_no_case call n c a b =
    let same = same_line call.said b.settings a.settings b.line_is a.line_is in
    refused_or_loads a.settings (image_bytes a.settings call.image) n c b.symbols a.refused (subst (λ (s : RequestData). LoadsBy (case_in s) (image_bytes s call.image) c) same b.loads)
    (subst (λ s. symbols_by s (image_bytes s call.image) ≡ Ok b.symbols) same b.symbols_are)

bad_once : (call : CallData) (f g : GoldenFault) → IsBadRun call f → IsBadRun call g → f ≡ g
bad_once call f g a b =
    let same = case_once call b.case a.case b.loads a.loads in
    fault_once f g a.case.limit (golden a.case) a.faults (subst (λ c. IsFault g c.limit (golden c)) same b.faults)

bad_or_good : {A : Type 0} (tells told : Type 0) (call : CallData) (f : GoldenFault) (answer : Status) → IsBadRun call f → IsGoodRun tells told call answer → A
bad_or_good tells told call f answer a b =
    let same = case_once call b.case a.case b.loads a.loads in
    let lines = same_line call.said b.loads.settings a.loads.settings b.loads.line_is a.loads.line_is in
    let serves = b.serves (ap (λ (s : RequestData). needs_halt (command_in s)) lines ∙ a.needs) in
    fault_no_halt f a.case a.faults (subst Halts same serves)

-- ---- campaign files end the work in one way

-- a command that names another file names one that it is merged into
pub other_keeps : (asked : Command) → names_other asked ≡ true → names_keep asked ≡ true
other_keeps command.Merge is = refl
other_keeps asked is = absurd (cc)

not_both : {A : Type 0} (b : Bool) → b ≡ true → b ≡ false → A
not_both b p q = cc

module _ (tells told : Type 0) (call : CallData) (tell : TellsFiles call.said tells told) (a b : Status) (h : IsGoodRun tells told call a) (k : IsGoodRun tells told call b) where
  lines : k.loads.settings ≡ h.loads.settings
  lines = same_line call.said k.loads.settings h.loads.settings k.loads.line_is h.loads.line_is

  cases : k.case ≡ h.case
  cases = case_once call k.case h.case k.loads h.loads

  good_once : names_keep (command_in h.loads.settings) ≡ true → OfFile a → OfFile b → a ≡ b
  good_once names of_a of_b = by (names_other (command_in h.loads.settings)) refl
    where
      tells_it : tells
      tells_it = tell.0 (record { settings = h.loads.settings; line_is = h.loads.line_is; does = names })

      by : (others : Bool) → names_other (command_in h.loads.settings) ≡ others → a ≡ b
      by true is =
          let other_tells = tell.1 (record { settings = h.loads.settings; line_is = h.loads.line_is; does = is }) in
          let second =
          subst (λ (c : CaseData). MergeEnds tells told call.files.file call.files.other c b) cases (k.merges (ap (λ (s : RequestData). names_other (command_in s)) lines ∙ is)) in
          merge_once (answer_for (both_boards call.files.file call.files.other h.case)) a b of_a of_b ((h.merges is).1 tells_it other_tells) (second.1 tells_it other_tells)
      by false is =
          let names' = ap (λ (s : RequestData). names_keep (command_in s)) lines ∙ names in
          let is' = ap (λ (s : RequestData). names_other (command_in s)) lines ∙ is in
          let second = subst (λ (s : RequestData). KeepEnds (fresh_of s) (portion_asked s) call.files.file k.case b) lines (k.keeps names' is' tells_it) in
          file_once (fresh_of h.loads.settings) (portion_asked h.loads.settings) call.files.file h.case a b of_a of_b
          (λ of. not_both (names_other (command_in h.loads.settings)) (h.named_other of) is) (λ of. not_both (names_other (command_in k.loads.settings)) (k.named_other of) is')
          (h.keeps names is tells_it) (subst (λ (c : CaseData). KeepEnds (fresh_of h.loads.settings) (portion_asked h.loads.settings) call.files.file c b) cases second)

-- the answer is Done, or its command names a campaign file
done_or_names : (tells told : Type 0) (call : CallData) (answer : Status) → OfFile answer → (h : IsGoodRun tells told call answer)
    → (answer ≡ status.Done) ⊎ (names_keep (command_in h.loads.settings) ≡ true)
done_or_names tells told call answer (AsOther r is) h = inr (other_keeps (command_in h.loads.settings) (h.named_other (ap is_of_other is)))
done_or_names tells told call answer (AsRefused r is) h = inr (h.named (ap is_of_keep is))
done_or_names tells told call answer (AsStopped kept jobs is) h = inr (h.named (ap is_of_keep is))
done_or_names tells told call answer (AsDone is) h = inl is

-- ---- answers

module _ (tells told : Type 0) (call : CallData) where
  -- where in the work a call ends that answers for the words, the image and the campaign file alone
  data Reaches (answer : Status) : Type 0 where
    AtWords : answer ≡ status.Usage → call.said ≡ None → Reaches answer
    AtImage : (number : ℕ) → answer ≡ status.BadImage number → IsRefusedImage call number → Reaches answer
    AtGolden : (fault : GoldenFault) → answer ≡ status.BadGolden fault → IsBadRun call fault → Reaches answer
    AtEnd : OfFile answer → IsGoodRun tells told call answer → Reaches answer

  reaches : (answer : Status) → IsOwn answer → IsCause tells told call answer → Reaches answer
  reaches status.Usage own h = AtWords refl h
  reaches (status.BadImage n) own h = AtImage n refl h
  reaches (status.BadGolden f) own h = AtGolden f refl h
  reaches (status.BadOther r) own h = AtEnd (AsOther r refl) h
  reaches (status.BadKeep r) own h = AtEnd (AsRefused r refl) h
  reaches (status.Stopped kept jobs) own h = AtEnd (AsStopped kept jobs refl) h
  reaches status.Done own h = AtEnd (AsDone refl) h
  reaches answer own h = absurd own

  module _ (tell : TellsFiles call.said tells told) (a b : Status) where
    both_end : OfFile a → OfFile b → IsGoodRun tells told call a → IsGoodRun tells told call b → a ≡ b
    both_end of_a of_b h k = by (done_or_names tells told call a of_a h) (done_or_names tells told call b of_b k)
      where
        by : (a ≡ status.Done) ⊎ (names_keep (command_in h.loads.settings) ≡ true) → (b ≡ status.Done) ⊎ (names_keep (command_in k.loads.settings) ≡ true) → a ≡ b
        by (inl is) (inl js) = is ∙ sym js
        by (inl is) (inr names) =
            good_once tells told call tell a b h k
            (sym (ap (λ (s : RequestData). names_keep (command_in s)) (same_line call.said k.loads.settings h.loads.settings k.loads.line_is h.loads.line_is)) ∙ names) of_a of_b
        by (inr names) other = good_once tells told call tell a b h k names of_a of_b

    once : Reaches a → Reaches b → a ≡ b
    once (AtWords p h) (AtWords q k) = p ∙ sym q
    once (AtWords p h) (AtImage m q k) = no_line call.said k.settings h k.line_is
    once (AtWords p h) (AtGolden g q k) = no_line call.said k.loads.settings h k.loads.line_is
    once (AtWords p h) (AtEnd of_b k) = no_line call.said k.loads.settings h k.loads.line_is
    once (AtImage n p h) (AtWords q k) = no_line call.said h.settings k h.line_is
    once (AtImage n p h) (AtImage m q k) = p ∙ ap status.BadImage (number_once call n m h k) ∙ sym q
    once (AtImage n p h) (AtGolden g q k) = refused_no_case call n k.case h k.loads
    once (AtImage n p h) (AtEnd of_b k) = refused_no_case call n k.case h k.loads
    once (AtGolden f p h) (AtWords q k) = no_line call.said h.loads.settings k h.loads.line_is
    once (AtGolden f p h) (AtImage m q k) = refused_no_case call m h.case k h.loads
    once (AtGolden f p h) (AtGolden g q k) = p ∙ ap status.BadGolden (bad_once call f g h k) ∙ sym q
    once (AtGolden f p h) (AtEnd of_b k) = bad_or_good tells told call f b h k
    once (AtEnd of_a h) (AtWords q k) = no_line call.said h.loads.settings k h.loads.line_is
    once (AtEnd of_a h) (AtImage m q k) = refused_no_case call m h.case k h.loads
    once (AtEnd of_a h) (AtGolden g q k) = bad_or_good tells told call g a k h
    once (AtEnd of_a h) (AtEnd of_b k) = both_end of_a of_b h k

    -- what is given for the words, the image and the file alone is the answer whose cause holds
    pub own_once : IsOwn a → IsOwn b → IsCause tells told call a → IsCause tells told call b → a ≡ b
    own_once p q h k = once (reaches a p h) (reaches b q k)

module _ (tells told : Type 0) (call : CallData) (tell : TellsFiles call.said tells told) (read read' keep keep' other other' store store' write write' : ℕ) where
  pub answers : (result : Status) → IsCause tells told call result
      → IsCaused (is_read_fault result) read read' → IsCaused (is_keep_fault result) keep keep' → IsCaused (is_other_fault result) other other'
      → IsCaused (is_store_fault result) store store' → IsCaused (is_write_fault result) write write'
      → (expected : Status) → IsOwn expected → IsCause tells told call expected
      → HasNoFault read read' → HasNoFault keep keep' → HasNoFault other other' → HasNoFault store store' → HasNoFault write write' → (result ≡ expected) ⊎ (result ≡ status.NoMemory)
  answers status.ReadFault h r d o s w expected own k no_r no_d no_o no_s no_w = no_rise read read' no_r r
  answers status.KeepFault h r d o s w expected own k no_r no_d no_o no_s no_w = no_rise keep keep' no_d d
  answers status.OtherFault h r d o s w expected own k no_r no_d no_o no_s no_w = no_rise other other' no_o o
  answers status.StoreFault h r d o s w expected own k no_r no_d no_o no_s no_w = no_rise store store' no_s s
  answers status.WriteFault h r d o s w expected own k no_r no_d no_o no_s no_w = no_rise write write' no_w w
  answers status.NoMemory h r d o s w expected own k no_r no_d no_o no_s no_w = inr refl
  answers result h r d o s w expected own k no_r no_d no_o no_s no_w = inl (own_once tells told call tell result expected tt own h k)

-- what an image is refused for is a cause of that answer
pub of_image : (tells told : Type 0) (call : CallData) (settings : RequestData) (answer : Status) → call.said ≡ Some settings → IsImageCause (case_in settings) (image_bytes settings call.image) answer → IsCause tells told call answer
of_image tells told call settings (status.BadImage n) e h = record { settings = settings; line_is = e; refused = BadImage h }
of_image tells told call settings status.ReadFault e h = λ none. no_line call.said settings none e
of_image tells told call settings status.NoMemory e h = tt
of_image tells told call settings answer e h = absurd h

-- and so is what its symbols are
pub of_symbols : (tells told : Type 0) (call : CallData) (settings : RequestData) (c : CaseData) (answer : Status) → call.said ≡ Some settings → LoadsBy (case_in settings) (image_bytes settings call.image) c
    → IsSymbolCause settings (image_bytes settings call.image) answer → IsCause tells told call answer
of_symbols tells told call settings c (status.BadImage n) e loads (refusal, number_is, are) =
    record { settings = settings; line_is = e; refused = BadSymbols refusal number_is c loads are }
of_symbols tells told call settings c status.NoMemory e loads why = tt
of_symbols tells told call settings c answer e loads why = absurd why

-- ---- of a case that was loaded

-- its symbols are those of the bytes that were read
pub symbols_are : (settings : RequestData) (here bytes : List ℕ) (symbols : List Symbol) → here ≡ bytes → symbols_by settings here ≡ Ok symbols → symbols_by settings bytes ≡ Ok symbols
symbols_are settings here bytes symbols same are = subst (λ (b : List ℕ). symbols_by settings b ≡ Ok symbols) same are

abbrev pub loaded_case : (call : CallData) (settings : RequestData) (c : CaseData) (symbols : List Symbol) → call.said ≡ Some settings → LoadsBy (case_in settings) (image_bytes settings call.image) c
    → symbols_by settings (image_bytes settings call.image) ≡ Ok symbols → Loads call c
loaded_case call settings c symbols e h are = record { settings = settings; line_is = e; loads = h; symbols = symbols; symbols_are = are }

-- a command that names a campaign file needs a golden run that halts
keeps_halt : (asked : Command) (c : CaseData) → Halts c → Serves asked c
keeps_halt asked c halts need = halts

-- what a command's work on it ends with is a cause of that answer
module _ (tells told : Type 0) (call : CallData) (c : CaseData) (loads : Loads call c) where
  -- of a command that names one campaign file, two, or none
  pub with_file : (answer : Status) → names_keep (command_in loads.settings) ≡ true → names_other (command_in loads.settings) ≡ false → is_of_other answer ≡ false → Halts c
      → (tells → KeepEnds (fresh_of loads.settings) (portion_asked loads.settings) call.files.file c answer) → IsGoodRun tells told call answer
  with_file answer names alone no_other halts ends = record {
    case = c;
    loads = loads;
    serves = λ need. halts;
    named = λ of. names;
    named_other = λ of. not_both (is_of_other answer) of no_other;
    keeps = λ named none told. ends told;
    merges = λ named. not_both (names_other (command_in loads.settings)) named alone;
  }

  with_files : (answer : Status) → names_keep (command_in loads.settings) ≡ true → names_other (command_in loads.settings) ≡ true → Halts c
      → MergeEnds tells told call.files.file call.files.other c answer → IsGoodRun tells told call answer
  with_files answer names others halts ends = record {
    case = c;
    loads = loads;
    serves = λ need. halts;
    named = λ of. names;
    named_other = λ of. others;
    keeps = λ named none. not_both (names_other (command_in loads.settings)) others none;
    merges = λ named. ends;
  }

  without_file : (answer : Status) → is_of_keep answer ≡ false → is_of_other answer ≡ false → names_keep (command_in loads.settings) ≡ false → Serves (command_in loads.settings) c → IsGoodRun tells told call answer
  without_file answer none no_other names serves = record {
    case = c;
    loads = loads;
    serves = serves;
    named = λ of. not_both (is_of_keep answer) of none;
    named_other = λ of. not_both (is_of_other answer) of no_other;
    keeps = λ named alone told. not_both (names_keep (command_in loads.settings)) named names;
    merges = λ named. not_both (names_keep (command_in loads.settings)) (other_keeps (command_in loads.settings) named) names;
  }

  needs : names_keep (command_in loads.settings) ≡ true → needs_halt (command_in loads.settings) ≡ true
  needs names = by (command_in loads.settings) names
    where
      by : (asked : Command) → names_keep asked ≡ true → needs_halt asked ≡ true
      by command.Run is = refl
      by command.Report is = refl
      by command.Audit is = refl
      by command.Symbols is = refl
      by command.Merge is = refl
      by asked is = absurd (cc)

  bad : names_keep (command_in loads.settings) ≡ true → (f : GoldenFault) → IsFault f c.limit (golden c) → IsBadRun call f
  bad names f k = record { case = c; loads = loads; needs = needs names; faults = k }

  of_work : (names others : Bool) → names_keep (command_in loads.settings) ≡ names → names_other (command_in loads.settings) ≡ others → (answer : Status) → IsWorkCause names others tells told loads.settings call.files c answer
      → IsCause tells told call answer
  of_work true false is alone (status.BadGolden f) k = bad is f k
  of_work true false is alone status.KeepFault k = with_file status.KeepFault is alone refl k.0 k.1
  of_work true false is alone (status.BadKeep r) k = with_file (status.BadKeep r) is alone refl k.0 k.1
  of_work true false is alone (status.Stopped kept jobs) k = with_file (status.Stopped kept jobs) is alone refl k.0 k.1
  of_work true false is alone status.Done k = with_file status.Done is alone refl k.0 k.1
  of_work true false is alone status.WriteFault k = with_file status.WriteFault is alone refl k.0 k.1
  of_work true false is alone status.NoMemory k = tt
  of_work true false is alone answer k = absurd k
  of_work true true is others (status.BadGolden f) k = bad is f k
  of_work true true is others (status.BadOther r) k = with_files (status.BadOther r) is others k.0 k.1
  of_work true true is others status.OtherFault k = with_files status.OtherFault is others k.0 k.1
  of_work true true is others status.KeepFault k = with_files status.KeepFault is others k.0 k.1
  of_work true true is others (status.BadKeep r) k = with_files (status.BadKeep r) is others k.0 k.1
  of_work true true is others (status.Stopped kept jobs) k = with_files (status.Stopped kept jobs) is others k.0 k.1
  of_work true true is others status.Done k = with_files status.Done is others k.0 k.1
  of_work true true is others status.WriteFault k = with_files status.WriteFault is others k.0 k.1
  of_work true true is others status.NoMemory k = tt
  of_work true true is others answer k = absurd k
  of_work false others is alone (status.BadGolden f) k = record { case = c; loads = loads; needs = k.0; faults = k.1 }
  of_work false others is alone status.Done k = without_file status.Done refl refl is k
  of_work false others is alone status.WriteFault k = without_file status.WriteFault refl refl is k
  of_work false others is alone status.NoMemory k = tt
  of_work false others is alone answer k = absurd k

  abbrev pub EndsSo : Status → Type 0
  EndsSo answer = IsWorkCause (names_keep (command_in loads.settings)) (names_other (command_in loads.settings)) tells told loads.settings call.files c answer

  pub of_case : (answer : Status) → EndsSo answer → IsCause tells told call answer
  of_case answer k = of_work (names_keep (command_in loads.settings)) (names_other (command_in loads.settings)) refl refl answer k
