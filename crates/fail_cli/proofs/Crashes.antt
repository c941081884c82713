-- What a call leaves of its campaign file, by what its command leaves.
use Rattle.std.proofs.Common.{◌≡◌, ◌⊎◌, inl, inr, ℕ, true, false, List, Some, refl, ap, sym, subst, ◌∙◌}
use Rattle.fs_outside.specs.Past.{Past, IsImage, content}
use Rattle.fs_model.specs.Case.{CaseData}
use Rattle.command_line.specs.Said.{CaseLineData}
use Rattle.command_line.specs.Request.{CampaignData, MergingData, RequestData, command_in}
use Rattle.command_line.specs.Request as request
use Rattle.shard_merge.specs.Union.{BoardData}
use Rattle.phases.specs.Loading.{IsImageCause, IsSymbolCause}
use Rattle.phases.specs.Status.{IsImageStatus}
use Rattle.phases.specs.declared.status.Status.{Status}
use Rattle.phases.specs.declared.status.Status.TheVariants as status
use Rattle.kept_commands.specs.Crash.{AsAtEntry, IsCutOff, IsWorkedOn, KeepsAtEnd, WorkedStory}
use Rattle.kept_commands.specs.Run.{run_due}
use Rattle.kept_commands.proofs.Crashes.{nothing, retold}
use Rattle.kept_commands.specs.Merge.{BoardAtEnd, IsMergeCutOff, IsMerging, MergeStory, UnionAtEnd}
use Rattle.result_keeper.specs.Acceptance.{IsSound}
use Rattle.command_line.specs.Commands.{names_other, writes_keep}
use Rattle.fail_cli.specs.Crash.{CallStory, EndsBy, GivesOther, IsGiven, IsLeftAfter, IsLeftByCall, IsTold, LeftAtEnd, MergesBoth, WorkStory}
use Rattle.kept_commands.specs.Call.{CallData}
use Rattle.kept_commands.specs.Causes.{Loads}
use Rattle.kept_commands.specs.Words.{Does, DoesNot, ContinuesFile, TellsImage, TellsOther, fresh_of}
use Rattle.kept_commands.proofs.OneAnswer.{case_once, same_line}

-- what a crash might have left at entry
as_before : (sure : Type 0) (settings : RequestData) (other : List ℕ) (c : CaseData) (old : Past) (image : List ℕ) → IsImage old image → IsLeftAfter sure settings other c old image
as_before sure (request.Run case campaign) other c old image was = AsAtEntry was
as_before sure (request.Merge case merging) other c old image was = inl was
as_before sure settings other c old image was = was

-- a command that does not write to the file
pub other_work : (told : Type 0) (settings : RequestData) (other : List ℕ) (c : CaseData) (old new : Past) (answer : Status) → new ≡ old → writes_keep (command_in settings) ≡ false → WorkStory told settings other c old new answer
other_work told settings other c old new answer same reads =
    nothing (IsTold settings told) (IsGiven settings told other) (writes_keep (command_in settings) ≡ false) (fresh_of settings ≡ false) (λ sure. IsLeftAfter sure settings other c old)
    (writes_keep (command_in settings) ≡ true → LeftAtEnd settings other c old new answer) old new answer same
    (λ sure image was. as_before sure settings other c old image was) (λ _ writes. absurd (cc))

pub run_work : (told : Type 0) (case : CaseLineData) (campaign : CampaignData) (other : List ℕ) (c : CaseData) (old new : Past) (answer : Status)
    → WorkedStory (Unit {0}) campaign.fresh (run_due campaign c) c old new answer → WorkStory told (request.Run case campaign) other c old new answer
run_work told case campaign other c old new answer story =
    let settings = request.Run case campaign in
    let ends = KeepsAtEnd (IsCutOff campaign.fresh (run_due campaign c) c old new) (content new ≡ content old) c new answer in
    retold (Unit {0}) (IsTold settings told) (Unit {0}) (IsGiven settings told other) ⊥ (writes_keep (command_in settings) ≡ false) (campaign.fresh ≡ false) (fresh_of settings ≡ false)
    (λ sure. IsWorkedOn sure campaign.fresh (run_due campaign c) c old) (λ sure. IsLeftAfter sure settings other c old)
    ends (writes_keep (command_in settings) ≡ true → LeftAtEnd settings other c old new answer) old new answer
    (λ so. tt) (λ so. tt) (λ reads. cc) (λ goes. goes) (λ goes. goes) (λ sure image left. left) (λ so end _. end) story

pub merge_work : (told : Type 0) (case : CaseLineData) (merging : MergingData) (other : List ℕ) (c : CaseData) (old new : Past) (answer : Status)
    → MergeStory told merging.page other c old new answer → WorkStory told (request.Merge case merging) other c old new answer
merge_work told case merging other c old new answer story =
    let settings = request.Merge case merging in
    let ends = KeepsAtEnd (IsMergeCutOff merging.page other c old new) (content new ≡ content old) c new answer in
    retold told (IsTold settings told) (told × IsSound other) (IsGiven settings told other) ⊥ (writes_keep (command_in settings) ≡ false) (Unit {0}) (fresh_of settings ≡ false)
    (λ sure. IsMerging sure merging.page other c old) (λ sure. IsLeftAfter sure settings other c old)
    ends (writes_keep (command_in settings) ≡ true → LeftAtEnd settings other c old new answer) old new answer
    (λ so. so refl) (λ so. so refl) (λ reads. cc) (λ goes. tt) (λ goes. refl) (λ sure image left. left) (λ so end _. end) story

-- a line whose image is refused, or its symbols
image_end : (call : CallData) (settings : CaseLineData) (read : List ℕ) (now : Past) (answer : Status) → IsImageCause settings read answer → EndsBy call now now answer
image_end call settings read now status.ReadFault why = tt
image_end call settings read now (status.BadImage n) why = tt
image_end call settings read now status.NoMemory why = inl refl
image_end call settings read now answer why = absurd why

pub no_line_story : (tells told : Type 0) (call : CallData) (old : Past) (answer : Status) → (TellsImage call.said tells → EndsBy call old old answer) → CallStory tells told call old old answer
no_line_story tells told call old answer end =
    nothing (TellsOther call.said told) (GivesOther call told) (DoesNot writes_keep call.said) (ContinuesFile call.said)
    (λ sure image. IsImage old image ⊎ (TellsImage call.said tells → IsLeftByCall sure call old image))
    (TellsImage call.said tells → EndsBy call old old answer) old old answer refl (λ sure image was. inl was) (λ _. end)

pub no_image_story : (tells told : Type 0) (call : CallData) (settings : CaseLineData) (read : List ℕ) (old : Past) (answer : Status) → (TellsImage call.said tells → IsImageCause settings read answer)
    → CallStory tells told call old old answer
no_image_story tells told call settings read old answer why = no_line_story tells told call old answer (λ t. image_end call settings read old answer (why t))

symbols_end : (call : CallData) (settings : RequestData) (read : List ℕ) (now : Past) (answer : Status) → IsSymbolCause settings read answer → EndsBy call now now answer
symbols_end call settings read now (status.BadImage n) why = tt
symbols_end call settings read now status.NoMemory why = inl refl
symbols_end call settings read now answer why = absurd why

pub no_symbols_story : (tells told : Type 0) (call : CallData) (settings : RequestData) (read : List ℕ) (old : Past) (answer : Status) → IsSymbolCause settings read answer → CallStory tells told call old old answer
no_symbols_story tells told call settings read old answer why = no_line_story tells told call old answer (λ t. symbols_end call settings read old answer why)

run_end : (call : CallData) (old now : Past) (answer : Status) (c : CaseData) (loads : Loads call c)
    → (writes_keep (command_in loads.settings) ≡ true → LeftAtEnd loads.settings call.files.other c old now answer) → EndsBy call old now answer
run_end call old now (status.Stopped kept jobs) c loads end = record { case = c; loads = loads; keeps = end }
run_end call old now status.Done c loads end = record { case = c; loads = loads; keeps = end }
run_end call old now status.WriteFault c loads end = record { case = c; loads = loads; keeps = end }
run_end call old now status.KeepFault c loads end = record { case = c; loads = loads; keeps = end }
run_end call old now status.NoMemory c loads end = inr (record { case = c; loads = loads; keeps = end })
run_end call old now answer c loads end = tt

pub work_story : (tells told : Type 0) (call : CallData) (settings : RequestData) (c : CaseData) (old new : Past) (answer : Status) → call.said ≡ Some settings
    → (TellsImage call.said tells → (loads : Loads call c) × (loads.settings ≡ settings)) → WorkStory told settings call.files.other c old new answer → CallStory tells told call old new answer
work_story tells told call settings c old new answer is loads story =
    retold (IsTold settings told) (TellsOther call.said told) (IsGiven settings told call.files.other) (GivesOther call told)
    (writes_keep (command_in settings) ≡ false) (DoesNot writes_keep call.said) (fresh_of settings ≡ false) (ContinuesFile call.said)
    (λ sure. IsLeftAfter sure settings call.files.other c old) (λ sure image. IsImage old image ⊎ (TellsImage call.said tells → IsLeftByCall sure call old image))
    (writes_keep (command_in settings) ≡ true → LeftAtEnd settings call.files.other c old new answer) (TellsImage call.said tells → EndsBy call old new answer) old new answer
    (λ so names. so (named names)) (λ so names. so (named names)) (λ only. only settings is) (λ goes. goes settings is)
    (λ (goes : fresh_of settings ≡ false) (here : RequestData) (is' : call.said ≡ Some here). subst (λ (s : RequestData). fresh_of s ≡ false) (same_line call.said settings here is is') goes)
    (λ sure image left. inr (λ t. left_by_call sure image left (loads t)))
    (λ so end t. ended_by_call end (loads t)) story
  where
    named : names_other (command_in settings) ≡ true → Does names_other call.said
    named names = record { settings = settings; line_is = is; does = names }

    left_by_call : (sure : Type 0) (image : List ℕ) → IsLeftAfter sure settings call.files.other c old image → (loads : Loads call c) × (loads.settings ≡ settings) → IsLeftByCall sure call old image
    left_by_call sure image left (l, same) = record { case = c; loads = l; left = subst (λ (s : RequestData). IsLeftAfter sure s call.files.other c old image) (sym same) left }

    ended_by_call : (writes_keep (command_in settings) ≡ true → LeftAtEnd settings call.files.other c old new answer) → (loads : Loads call c) × (loads.settings ≡ settings) → EndsBy call old new answer
    ended_by_call end (l, same) =
        run_end call old new answer c l
        (λ writes. subst (λ (s : RequestData). LeftAtEnd s call.files.other c old new answer) (sym same) (end (sym (ap (λ (s : RequestData). writes_keep (command_in s)) same) ∙ writes)))

-- ---- both boards together

pub image_union : (c : CaseData) (board : BoardData) (now : Past) (answer : Status) → IsImageStatus answer → BoardAtEnd c board now answer
image_union c board now status.ReadFault is = tt
image_union c board now (status.BadImage n) is = tt
image_union c board now status.NoMemory is = tt
image_union c board now answer is = absurd is

-- what is said of the case that was loaded is said of the one that was asked for
pub of_merge : (call : CallData) (c : CaseData) (loads : Loads call c) (old new : Past) (answer : Status) → (names_other (command_in loads.settings) ≡ true → UnionAtEnd call.files.other c old new answer)
    → MergesBoth call old new answer
of_merge call c loads old new answer union here asked names =
    subst (λ (x : CaseData). UnionAtEnd call.files.other x old new answer) (case_once call c here loads asked)
    (union (ap (λ (s : RequestData). names_other (command_in s)) (same_line call.said loads.settings asked.settings loads.line_is asked.line_is) ∙ names))
