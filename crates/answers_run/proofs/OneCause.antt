-- An answer whose cause holds comes: no two causes hold at once where the campaign file is told.
use Rattle.std.proofs.Common.{◌≡◌, ◌⊎◌, inl, inr, ℕ, Some, None, Ok, Err, refl, sym, ap, subst, ◌∙◌}
use Rattle.fs_model.specs.Case.{CaseData}
use Rattle.fs_model.specs.Run.{golden}
use Rattle.fs_outside.specs.Faults.{IsCaused}
use Rattle.golden_trace.specs.declared.good.GoldenFault.{GoldenFault}
use Rattle.golden_trace.specs.Goldens.{IsFault}
use Rattle.result_keeper.specs.Acceptance.{accept}
use Rattle.result_keeper.specs.declared.refusals.KeepRefusal.{KeepRefusal}
use Rattle.command_line.specs.Answers.{AnswersLineData}
use Rattle.phases.specs.Baselines.{Halts}
use Rattle.phases.specs.Loading.{IsBadImage, LoadsBy}
use Rattle.phases.specs.Status.{HasNoFault, is_keep_fault, is_read_fault, is_write_fault}
use Rattle.phases.specs.declared.status.Status.{Status}
use Rattle.phases.specs.declared.status.Status.TheVariants as status
use Rattle.phases.proofs.Once.{bad_image_once, bad_image_or_loads, fault_no_halt, fault_once, loads_once, no_rise}
use Rattle.answers_run.specs.AnswersCall.{AnswersCall}
use Rattle.answers_run.specs.AnswersCauses.{EndsOnAnswers, GivesBoard, IsAnswersCause, IsAnswersOwn, LoadsForAnswers, RefusesForAnswers}

-- ---- words and an image

module _ (call : AnswersCall) where
  no_line : {A : Type 0} (a : AnswersLineData) → call.said ≡ None → call.said ≡ Some a → A
  no_line a e f = cc

  same_line : (a b : AnswersLineData) → call.said ≡ Some a → call.said ≡ Some b → b ≡ a
  same_line a b e f = cc

  same_case : (c d : CaseData) → LoadsForAnswers call c → LoadsForAnswers call d → d ≡ c
  same_case c d a b =
      loads_once a.settings.case call.image d c (subst (λ (s : AnswersLineData). LoadsBy s.case call.image d) (same_line a.settings b.settings a.line_is b.line_is) b.loads) a.loads

  number_once : (n m : ℕ) → RefusesForAnswers call n → RefusesForAnswers call m → n ≡ m
  number_once n m a b =
      bad_image_once a.settings.case call.image n m a.refused
      (subst (λ (s : AnswersLineData). IsBadImage s.case call.image m) (same_line a.settings b.settings a.line_is b.line_is) b.refused)

  refused_no_case : {A : Type 0} (n : ℕ) (c : CaseData) → RefusesForAnswers call n → LoadsForAnswers call c → A
  refused_no_case n c a b =
      bad_image_or_loads a.settings.case call.image n c a.refused
      (subst (λ (s : AnswersLineData). LoadsBy s.case call.image c) (same_line a.settings b.settings a.line_is b.line_is) b.loads)

-- ---- a case, and its file, which is told

module _ (tells : Type 0) (told : tells) (call : AnswersCall) where
  abbrev OfCase : Status → Type 0
  OfCase answer = EndsOnAnswers tells call answer

  bad_once : (f g : GoldenFault) → OfCase (status.BadGolden f) → OfCase (status.BadGolden g) → f ≡ g
  bad_once f g a b =
      fault_once f g a.case.limit (golden a.case) a.ends
      (subst (λ (c : CaseData). IsFault g c.limit (golden c)) (same_case call a.case b.case a.loads b.loads) b.ends)

  bad_no_halt : {A : Type 0} (f : GoldenFault) (c : CaseData) → OfCase (status.BadGolden f) → LoadsForAnswers call c → Halts c → A
  bad_no_halt f c a loads halts = fault_no_halt f a.case a.ends (subst Halts (same_case call a.case c a.loads loads) halts)

  refusal_once : (r s : KeepRefusal) → OfCase (status.BadKeep r) → OfCase (status.BadKeep s) → r ≡ s
  refusal_once r s a b =
      let one : accept call.file a.case ≡ Err r = a.ends.1 told in
      let other : accept call.file a.case ≡ Err s = subst (λ (c : CaseData). accept call.file c ≡ Err s) (same_case call a.case b.case a.loads b.loads) (b.ends.1 told) in
      cc

  refused_or_done : {A : Type 0} (r : KeepRefusal) → OfCase (status.BadKeep r) → OfCase status.Done → A
  refused_or_done r a b =
      let one : accept call.file a.case ≡ Err r = a.ends.1 told in
      let gives : GivesBoard call.file a.case = subst (λ (c : CaseData). GivesBoard call.file c) (same_case call a.case b.case a.loads b.loads) (b.ends.1 told) in
      let other : accept call.file a.case ≡ Ok gives.board = gives.opened in
      absurd (cc)

  -- ---- answers

  -- where a call ends that answers for the words, the image and the campaign file alone
  data Reaches (answer : Status) : Type 0 where
    AtWords : answer ≡ status.Usage → call.said ≡ None → Reaches answer
    AtImage : (number : ℕ) → answer ≡ status.BadImage number → RefusesForAnswers call number → Reaches answer
    AtGolden : (fault : GoldenFault) → answer ≡ status.BadGolden fault → OfCase (status.BadGolden fault) → Reaches answer
    AtFile : (refusal : KeepRefusal) → answer ≡ status.BadKeep refusal → OfCase (status.BadKeep refusal) → Reaches answer
    AtEnd : answer ≡ status.Done → OfCase status.Done → Reaches answer

  reaches : (answer : Status) → IsAnswersOwn answer → IsAnswersCause tells call answer → Reaches answer
  reaches status.Usage own h = AtWords refl h
  reaches (status.BadImage n) own h = AtImage n refl h
  reaches (status.BadGolden f) own h = AtGolden f refl h
  reaches (status.BadKeep r) own h = AtFile r refl h
  reaches status.Done own h = AtEnd refl h
  reaches status.ReadFault own h = absurd own
  reaches status.KeepFault own h = absurd own
  reaches status.WriteFault own h = absurd own
  reaches status.NoMemory own h = absurd own
  reaches answer own h = absurd h.ends

  -- no two causes hold at once
  once : (a b : Status) → Reaches a → Reaches b → a ≡ b
  once a b (AtWords p h) (AtWords q k) = p ∙ sym q
  once a b (AtWords p h) (AtImage m q k) = no_line call k.settings h k.line_is
  once a b (AtWords p h) (AtGolden g q k) = no_line call k.loads.settings h k.loads.line_is
  once a b (AtWords p h) (AtFile r q k) = no_line call k.loads.settings h k.loads.line_is
  once a b (AtWords p h) (AtEnd q k) = no_line call k.loads.settings h k.loads.line_is
  once a b (AtImage n p h) (AtWords q k) = no_line call h.settings k h.line_is
  once a b (AtImage n p h) (AtImage m q k) = p ∙ ap (λ (i : ℕ). status.BadImage i) (number_once call n m h k) ∙ sym q
  once a b (AtImage n p h) (AtGolden g q k) = refused_no_case call n k.case h k.loads
  once a b (AtImage n p h) (AtFile r q k) = refused_no_case call n k.case h k.loads
  once a b (AtImage n p h) (AtEnd q k) = refused_no_case call n k.case h k.loads
  once a b (AtGolden f p h) (AtWords q k) = no_line call h.loads.settings k h.loads.line_is
  once a b (AtGolden f p h) (AtImage m q k) = refused_no_case call m h.case k h.loads
  once a b (AtGolden f p h) (AtGolden g q k) = p ∙ ap (λ (i : GoldenFault). status.BadGolden i) (bad_once f g h k) ∙ sym q
  once a b (AtGolden f p h) (AtFile r q k) = bad_no_halt f k.case h k.loads k.ends.0
  once a b (AtGolden f p h) (AtEnd q k) = bad_no_halt f k.case h k.loads k.ends.0
  once a b (AtFile r p h) (AtWords q k) = no_line call h.loads.settings k h.loads.line_is
  once a b (AtFile r p h) (AtImage m q k) = refused_no_case call m h.case k h.loads
  once a b (AtFile r p h) (AtGolden g q k) = bad_no_halt g h.case k h.loads h.ends.0
  once a b (AtFile r p h) (AtFile s q k) = p ∙ ap (λ (i : KeepRefusal). status.BadKeep i) (refusal_once r s h k) ∙ sym q
  once a b (AtFile r p h) (AtEnd q k) = refused_or_done r h k
  once a b (AtEnd p h) (AtWords q k) = no_line call h.loads.settings k h.loads.line_is
  once a b (AtEnd p h) (AtImage m q k) = refused_no_case call m h.case k h.loads
  once a b (AtEnd p h) (AtGolden g q k) = bad_no_halt g h.case k h.loads h.ends.0
  once a b (AtEnd p h) (AtFile s q k) = refused_or_done s k h
  once a b (AtEnd p h) (AtEnd q k) = p ∙ sym q

  module _ (read read' keep keep' write write' : ℕ) where
    pub answers : (result expected : Status) → IsAnswersCause tells call result
        → IsCaused (is_read_fault result) read read' → IsCaused (is_keep_fault result) keep keep' → IsCaused (is_write_fault result) write write'
        → IsAnswersOwn expected → IsAnswersCause tells call expected
        → HasNoFault read read' → HasNoFault keep keep' → HasNoFault write write' → (result ≡ expected) ⊎ (result ≡ status.NoMemory)
    answers status.ReadFault expected h r d w own k no_read no_keep no_write = no_rise read read' no_read r
    answers status.KeepFault expected h r d w own k no_read no_keep no_write = no_rise keep keep' no_keep d
    answers status.WriteFault expected h r d w own k no_read no_keep no_write = no_rise write write' no_write w
    answers status.NoMemory expected h r d w own k no_read no_keep no_write = inr refl
    answers result expected h r d w own k no_read no_keep no_write = inl (once result expected (reaches result tt h) (reaches expected own k))
