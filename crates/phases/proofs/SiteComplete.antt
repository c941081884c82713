-- An answer that has its cause comes: no two have theirs at once.
use Rattle.std.proofs.Common.{◌≡◌, ◌⊎◌, inl, inr, ℕ, List, [], ◌∷◌, ◌++◌, All, refl, sym, ap, ◌∙◌, subst}
use Rattle.std.specs.Prelude.{Option, Some, None}
use Rattle.std.proofs.lemmas.List.Elements.{All-head, All-tail}
use Rattle.fs_model.specs.declared.sites.Site.{Site}
use Rattle.fs_model.specs.Case.{CaseData}
use Rattle.fs_model.specs.Run.{golden}
use Rattle.fs_outside.specs.Faults.{IsCaused}
use Rattle.golden_trace.specs.declared.good.GoldenFault.{GoldenFault}
use Rattle.golden_trace.specs.Goldens.{IsFault}
use Rattle.command_line.specs.Replay.{ReplayData}
use Rattle.phases.specs.Baselines.{Halts}
use Rattle.phases.specs.Loading.{IsBadImage, LoadsBy}
use Rattle.phases.specs.Status.{HasNoFault}
use Rattle.phases.specs.declared.status.Status.TheVariants as status
use Rattle.phases.proofs.Once.{bad_image_once, bad_image_or_loads, fault_no_halt, fault_once, loads_once, no_rise}
use Rattle.phases.specs.SiteCauses.{EndsOnCase, IsCause, IsOwn, IsRefused, Loads}
use Rattle.phases.specs.Sites.{IsFirstMissing, IsSite}
use Rattle.phases.specs.SiteStatus.{is_hearing, is_reading, is_writing}
use Rattle.phases.specs.declared.site_status.SiteStatus.{SiteStatus}
use Rattle.phases.specs.declared.site_status.SiteStatus.TheVariants.{Ended, NoSite, InputFault}

-- ---- words and an image

module _ (said : Option ReplayData) (bytes : List ℕ) where
  no_line : {A : Type 0} (a : ReplayData) → said ≡ None → said ≡ Some a → A
  no_line a e f = cc

  same_line : (a b : ReplayData) → said ≡ Some a → said ≡ Some b → b ≡ a
  same_line a b e f = cc

  same_settings : (c d : CaseData) (a : Loads said bytes c) (b : Loads said bytes d) → b.settings ≡ a.settings
  same_settings c d a b = same_line a.settings b.settings a.line_is b.line_is

  same_case : (c d : CaseData) → Loads said bytes c → Loads said bytes d → d ≡ c
  same_case c d a b =
      loads_once a.settings.case bytes d c (subst (λ (s : ReplayData). LoadsBy s.case bytes d) (same_settings c d a b) b.loads) a.loads

  number_once : (n m : ℕ) → IsRefused said bytes n → IsRefused said bytes m → n ≡ m
  number_once n m a b =
      bad_image_once a.settings.case bytes n m a.refused
      (subst (λ (s : ReplayData). IsBadImage s.case bytes m) (same_line a.settings b.settings a.line_is b.line_is) b.refused)

  refused_no_case : {A : Type 0} (n : ℕ) (c : CaseData) → IsRefused said bytes n → Loads said bytes c → A
  refused_no_case n c a b =
      bad_image_or_loads a.settings.case bytes n c a.refused
      (subst (λ (s : ReplayData). LoadsBy s.case bytes c) (same_line a.settings b.settings a.line_is b.line_is) b.loads)

  abbrev OfCase : SiteStatus → Type 0
  OfCase answer = EndsOnCase said bytes answer

  bad_once : (f g : GoldenFault) → OfCase (Ended (status.BadGolden f)) → OfCase (Ended (status.BadGolden g)) → f ≡ g
  bad_once f g a b =
      fault_once f g a.case.limit (golden a.case) a.ends
      (subst (λ (c : CaseData). IsFault g c.limit (golden c)) (same_case a.case b.case a.loads b.loads) b.ends)

  bad_no_halt : {A : Type 0} (f : GoldenFault) (c : CaseData) → OfCase (Ended (status.BadGolden f)) → Loads said bytes c → Halts c → A
  bad_no_halt f c a loads halts = fault_no_halt f a.case a.ends (subst Halts (same_case a.case c a.loads loads) halts)

-- ---- sites

module _ (c : CaseData) where
  middle : (before behind : List Site) (site : Site) → All (IsSite c) (before ++ (site ∷ behind)) → IsSite c site
  middle [] behind site all = All-head (IsSite c) site behind all
  middle (x ∷ before) behind site all = middle before behind site (All-tail (IsSite c) x (before ++ (site ∷ behind)) all)

  first_once : (before before' behind behind' : List Site) (site site' : Site) → before ++ (site ∷ behind) ≡ before' ++ (site' ∷ behind') → All (IsSite c) before → All (IsSite c) before'
      → (IsSite c site → ⊥) → (IsSite c site' → ⊥) → site ≡ site'
  first_once [] [] behind behind' site site' e all all' none none' = cc
  first_once [] (y ∷ before') behind behind' site site' e all all' none none' =
      let same : site ≡ y = cc in
      absurd (none (subst (IsSite c) (sym same) (All-head (IsSite c) y before' all')))
  first_once (x ∷ before) [] behind behind' site site' e all all' none none' =
      let same : x ≡ site' = cc in
      absurd (none' (subst (IsSite c) same (All-head (IsSite c) x before all)))
  first_once (x ∷ before) (y ∷ before') behind behind' site site' e all all' none none' =
      let rest : before ++ (site ∷ behind) ≡ before' ++ (site' ∷ behind') = cc in
      first_once before before' behind behind' site site' rest (All-tail (IsSite c) x before all) (All-tail (IsSite c) y before' all') none none'

  missing_once : (sites : List Site) (site site' : Site) → IsFirstMissing c sites site → IsFirstMissing c sites site' → site ≡ site'
  missing_once sites site site' h k = first_once h.before k.before h.behind k.behind site site' (sym h.sites_are ∙ k.sites_are) h.all_before k.all_before h.none k.none

module _ (said : Option ReplayData) (bytes : List ℕ) where
  -- the case has all sites that are asked for, or not
  not_both : {A : Type 0} (site : Site) → OfCase said bytes (Ended status.Done) → OfCase said bytes (NoSite site) → A
  not_both site h k =
      let case : k.case ≡ h.case = same_case said bytes h.case k.case h.loads k.loads in
      let settings : k.loads.settings ≡ h.loads.settings = same_settings said bytes h.case k.case h.loads k.loads in
      let missing : IsFirstMissing h.case h.loads.settings.sites site =
      subst (λ (s : ReplayData). IsFirstMissing h.case s.sites site) settings (subst (λ (c : CaseData). IsFirstMissing c k.loads.settings.sites site) case k.ends.1) in
      absurd (missing.none (middle h.case missing.before missing.behind site (subst (All (IsSite h.case)) missing.sites_are h.ends.1)))

  no_site_once : (site site' : Site) → OfCase said bytes (NoSite site) → OfCase said bytes (NoSite site') → site ≡ site'
  no_site_once site site' h k =
      let case : k.case ≡ h.case = same_case said bytes h.case k.case h.loads k.loads in
      let settings : k.loads.settings ≡ h.loads.settings = same_settings said bytes h.case k.case h.loads k.loads in
      missing_once h.case h.loads.settings.sites site site' h.ends.1
      (subst (λ (s : ReplayData). IsFirstMissing h.case s.sites site') settings (subst (λ (c : CaseData). IsFirstMissing c k.loads.settings.sites site') case k.ends.1))

  -- ---- answers

  -- where a call ends that answers for the words and the image alone
  data Reaches (answer : SiteStatus) : Type 0 where
    AtWords : answer ≡ Ended status.Usage → said ≡ None → Reaches answer
    AtImage : (number : ℕ) → answer ≡ Ended (status.BadImage number) → IsRefused said bytes number → Reaches answer
    AtGolden : (fault : GoldenFault) → answer ≡ Ended (status.BadGolden fault) → OfCase said bytes (Ended (status.BadGolden fault)) → Reaches answer
    AtNoSite : (site : Site) → answer ≡ NoSite site → OfCase said bytes (NoSite site) → Reaches answer
    AtSites : answer ≡ Ended status.Done → OfCase said bytes (Ended status.Done) → Reaches answer

  reaches : (answer : SiteStatus) → IsOwn answer → IsCause said bytes answer → Reaches answer
  reaches (Ended status.Usage) own h = AtWords refl h
  reaches (Ended (status.BadImage n)) own h = AtImage n refl h
  reaches (Ended (status.BadGolden f)) own h = AtGolden f refl h
  reaches (Ended status.Done) own h = AtSites refl h
  reaches (Ended status.ReadFault) own h = absurd own
  reaches (Ended status.WriteFault) own h = absurd own
  reaches (Ended status.NoMemory) own h = absurd own
  reaches (Ended answer) own h = absurd h.ends
  reaches (NoSite site) own h = AtNoSite site refl h
  reaches InputFault own h = absurd own

  -- no two causes hold at once
  once : (a b : SiteStatus) → Reaches a → Reaches b → a ≡ b
  once a b (AtWords p h) (AtWords q k) = p ∙ sym q
  once a b (AtWords p h) (AtImage m q k) = no_line said bytes k.settings h k.line_is
  once a b (AtWords p h) (AtGolden g q k) = no_line said bytes k.loads.settings h k.loads.line_is
  once a b (AtWords p h) (AtNoSite s q k) = no_line said bytes k.loads.settings h k.loads.line_is
  once a b (AtWords p h) (AtSites q k) = no_line said bytes k.loads.settings h k.loads.line_is
  once a b (AtImage n p h) (AtWords q k) = no_line said bytes h.settings k h.line_is
  once a b (AtImage n p h) (AtImage m q k) = p ∙ ap (λ (i : ℕ). Ended (status.BadImage i)) (number_once said bytes n m h k) ∙ sym q
  once a b (AtImage n p h) (AtGolden g q k) = refused_no_case said bytes n k.case h k.loads
  once a b (AtImage n p h) (AtNoSite s q k) = refused_no_case said bytes n k.case h k.loads
  once a b (AtImage n p h) (AtSites q k) = refused_no_case said bytes n k.case h k.loads
  once a b (AtGolden f p h) (AtWords q k) = no_line said bytes h.loads.settings k h.loads.line_is
  once a b (AtGolden f p h) (AtImage m q k) = refused_no_case said bytes m h.case k h.loads
  once a b (AtGolden f p h) (AtGolden g q k) = p ∙ ap (λ (i : GoldenFault). Ended (status.BadGolden i)) (bad_once said bytes f g h k) ∙ sym q
  once a b (AtGolden f p h) (AtNoSite s q k) = bad_no_halt said bytes f k.case h k.loads k.ends.0
  once a b (AtGolden f p h) (AtSites q k) = bad_no_halt said bytes f k.case h k.loads k.ends.0
  once a b (AtNoSite r p h) (AtWords q k) = no_line said bytes h.loads.settings k h.loads.line_is
  once a b (AtNoSite r p h) (AtImage m q k) = refused_no_case said bytes m h.case k h.loads
  once a b (AtNoSite r p h) (AtGolden g q k) = bad_no_halt said bytes g h.case k h.loads h.ends.0
  once a b (AtNoSite r p h) (AtNoSite s q k) = p ∙ ap NoSite (no_site_once r s h k) ∙ sym q
  once a b (AtNoSite r p h) (AtSites q k) = not_both r k h
  once a b (AtSites p h) (AtWords q k) = no_line said bytes h.loads.settings k h.loads.line_is
  once a b (AtSites p h) (AtImage m q k) = refused_no_case said bytes m h.case k h.loads
  once a b (AtSites p h) (AtGolden g q k) = bad_no_halt said bytes g h.case k h.loads h.ends.0
  once a b (AtSites p h) (AtNoSite s q k) = not_both s h k
  once a b (AtSites p h) (AtSites q k) = p ∙ sym q

  module _ (read read' hear hear' write write' : ℕ) where
    pub complete : (result expected : SiteStatus) → IsCause said bytes result → IsCaused (is_reading result) read read' → IsCaused (is_hearing result) hear hear' → IsCaused (is_writing result) write write'
        → IsOwn expected → IsCause said bytes expected → HasNoFault read read' → HasNoFault hear hear' → HasNoFault write write' → (result ≡ expected) ⊎ (result ≡ Ended status.NoMemory)
    complete (Ended status.ReadFault) expected h r i w own k no_read no_hear no_write = no_rise read read' no_read r
    complete (Ended status.WriteFault) expected h r i w own k no_read no_hear no_write = no_rise write write' no_write w
    complete (Ended status.NoMemory) expected h r i w own k no_read no_hear no_write = inr refl
    complete InputFault expected h r i w own k no_read no_hear no_write = no_rise hear hear' no_hear i
    complete result expected h r i w own k no_read no_hear no_write = inl (once result expected (reaches result tt h) (reaches expected own k))
