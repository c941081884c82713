-- The campaign files of a call end its work in one way.
use Rattle.std.proofs.Common.{◌≡◌, ℕ, Bool, true, List, Option, Result, Ok, Err, sym, ◌∙◌, ap, subst}
use Rattle.fs_model.specs.declared.outcomes.Outcome.{Outcome}
use Rattle.fs_model.specs.Case.{CaseData}
use Rattle.result_keeper.specs.declared.refusals.KeepRefusal.{KeepRefusal}
use Rattle.campaign.specs.Perform.{IsStopped}
use Rattle.phases.specs.Status.{is_of_other}
use Rattle.phases.specs.declared.status.OtherReason.{OtherReason}
use Rattle.phases.specs.declared.status.Status.{Status}
use Rattle.phases.specs.declared.status.Status.TheVariants as status
use Rattle.kept_commands.specs.Keep.{KeepEnds}
use Rattle.kept_commands.specs.Merge.{Comes}
use Rattle.kept_commands.specs.Run.{Portion}

-- the answers of files that are told
pub data OfFile (answer : Status) : Type 0 where
  AsOther : (reason : OtherReason) → answer ≡ status.BadOther reason → OfFile answer
  AsRefused : (refusal : KeepRefusal) → answer ≡ status.BadKeep refusal → OfFile answer
  AsStopped : (kept jobs : ℕ) → answer ≡ status.Stopped kept jobs → OfFile answer
  AsDone : answer ≡ status.Done → OfFile answer

board_once : (r : Result (List (Option Outcome)) KeepRefusal) (a b : List (Option Outcome)) → r ≡ Ok a → r ≡ Ok b → a ≡ b
board_once r a b e f = cc

refusal_once : (r : Result (List (Option Outcome)) KeepRefusal) (a b : KeepRefusal) → r ≡ Err a → r ≡ Err b → a ≡ b
refusal_once r a b e f = cc

refused_no_board : {A : Type 0} (r : Result (List (Option Outcome)) KeepRefusal) (a : KeepRefusal) (b : List (Option Outcome)) → r ≡ Err a → r ≡ Ok b → A
refused_no_board r a b e f = cc

stopped_once : (portion : Portion) (board : List (Option Outcome)) (a b c d : ℕ) → IsStopped portion.budget portion.jobs board a b → IsStopped portion.budget portion.jobs board c d
    → status.Stopped a b ≡ status.Stopped c d
stopped_once portion board a b c d h k =
    ap (λ (n : ℕ). status.Stopped n b) (h.kept_is ∙ sym k.kept_is) ∙ ap (λ (n : ℕ). status.Stopped c n) (h.jobs_is ∙ sym k.jobs_is)

-- ---- one file

pub file_once : (fresh : Bool) (portion : Portion) (file : List ℕ) (c : CaseData) (a b : Status) → OfFile a → OfFile b → (is_of_other a ≡ true → ⊥) → (is_of_other b ≡ true → ⊥) → KeepEnds fresh portion file c a → KeepEnds fresh portion file c b → a ≡ b
file_once fresh portion file c a b (AsOther r is) of_b m n h k = absurd (m (ap is_of_other is))
file_once fresh portion file c a b of_a (AsOther r js) m n h k = absurd (n (ap is_of_other js))
file_once fresh portion file c a b (AsRefused r is) (AsRefused s js) m n h k =
    let h' = subst (KeepEnds fresh portion file c) is h in
    let k' = subst (KeepEnds fresh portion file c) js k in
    is ∙ ap status.BadKeep (refusal_once _ r s h' k') ∙ sym js
file_once fresh portion file c a b (AsRefused r is) (AsStopped i j js) m n h k =
    let h' = subst (KeepEnds fresh portion file c) is h in
    let k' = subst (KeepEnds fresh portion file c) js k in
    refused_no_board _ r k'.board h' k'.opened
file_once fresh portion file c a b (AsRefused r is) (AsDone js) m n h k =
    let h' = subst (KeepEnds fresh portion file c) is h in
    let k' = subst (KeepEnds fresh portion file c) js k in
    refused_no_board _ r k'.board h' k'.opened
file_once fresh portion file c a b (AsStopped i j is) (AsRefused s js) m n h k =
    let h' = subst (KeepEnds fresh portion file c) is h in
    let k' = subst (KeepEnds fresh portion file c) js k in
    refused_no_board _ s h'.board k' h'.opened
file_once fresh portion file c a b (AsStopped i j is) (AsStopped i' j' js) m n h k =
    let h' = subst (KeepEnds fresh portion file c) is h in
    let k' = subst (KeepEnds fresh portion file c) js k in
    let same = board_once _ h'.board k'.board h'.opened k'.opened in
    is ∙ stopped_once portion k'.board i j i' j' (subst (λ board. IsStopped portion.budget portion.jobs board i j) same h'.stopped) k'.stopped ∙ sym js
file_once fresh portion file c a b (AsStopped i j is) (AsDone js) m n h k =
    let h' = subst (KeepEnds fresh portion file c) is h in
    let k' = subst (KeepEnds fresh portion file c) js k in
    let same = board_once _ h'.board k'.board h'.opened k'.opened in
    let stopped = subst (λ board. IsStopped portion.budget portion.jobs board i j) same h'.stopped in
    absurd (k'.within stopped.short)
file_once fresh portion file c a b (AsDone is) (AsRefused s js) m n h k =
    let h' = subst (KeepEnds fresh portion file c) is h in
    let k' = subst (KeepEnds fresh portion file c) js k in
    refused_no_board _ s h'.board k' h'.opened
file_once fresh portion file c a b (AsDone is) (AsStopped i j js) m n h k =
    let h' = subst (KeepEnds fresh portion file c) is h in
    let k' = subst (KeepEnds fresh portion file c) js k in
    let same = board_once _ h'.board k'.board h'.opened k'.opened in
    let stopped = subst (λ board. IsStopped portion.budget portion.jobs board i j) (sym same) k'.stopped in
    absurd (h'.within stopped.short)
file_once fresh portion file c a b (AsDone is) (AsDone js) m n h k = is ∙ sym js

-- ---- two files

-- the answer that is due is the one that comes
due_comes : (due answer : Status) → OfFile answer → Comes due answer → due ≡ answer
due_comes due answer (AsOther r is) comes = let h = subst (Comes due) is comes in h ∙ sym is
due_comes due answer (AsRefused r is) comes = let h = subst (Comes due) is comes in h ∙ sym is
due_comes due answer (AsStopped kept jobs is) comes = let h = subst (Comes due) is comes in h ∙ sym is
due_comes due answer (AsDone is) comes = let h = subst (Comes due) is comes in h ∙ sym is

pub merge_once : (due a b : Status) → OfFile a → OfFile b → Comes due a → Comes due b → a ≡ b
merge_once due a b of_a of_b h k = sym (due_comes due a of_a h) ∙ due_comes due b of_b k
