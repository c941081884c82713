-- What beginning a file leaves at any moment.
use Rattle.std.proofs.Common.{◌≡◌, ◌≢◌, ◌⊎◌, inl, inr, ⊎_elim, ℕ, ◌+◌, ◌^◌, ◌<◌, ◌≤◌, Bool, true, false, ◌&&◌, ◌==◌, List, [], ◌∷◌, ◌++◌, length, take, drop, Ok, Err, refl, sym, ◌∙◌, ap, subst, arith, append_assoc, add-zero}
use Rattle.std.proofs.lemmas.Bool.Decides.{eqb_tells}
use Rattle.fs_outside.specs.Past.{Past, Synced, content, overwritten, Torn, IsImage, IsSynced, LeavesOnly}
use Rattle.fs_outside.proofs.Moments.{started, ended, joined, weaker, after_sync, image_after_sync, image_if_synced}
use Rattle.keep_format.specs.declared.fault.FormatFault.TheVariants.{NotACampaign}
use Rattle.keep_format.specs.KeepFile.{FileData, is_campaign, head_bytes, header_of, file_data, kept}
use Rattle.keep_format.proofs.Heads.{read_again_lem}
use Rattle.result_keeper.proofs.Files.{file_kept}
use Rattle.result_keeper.specs.Begin.{IsClosed, NeedsClosing, IsSameOrNone, IsOneOfThree, IsHeaded, file_begun}
use Rattle.result_keeper.specs.Keep.{IsBodyOrGate}
use Rattle.result_keeper.specs.Accept.{IsBegun}
use Rattle.result_keeper.proofs.Written.{first_known}

-- the first byte opens a file

and_false : (a : Bool) → (a && false) ≡ false
and_false true = refl
and_false false = refl

campaign_first : (x : ℕ) (t : List ℕ) → is_campaign (x ∷ t) ≡ ((x == 0xA5) && is_campaign (0xA5 ∷ t))
campaign_first x [] = sym (and_false (x == 0xA5))
campaign_first x (a ∷ []) = sym (and_false (x == 0xA5))
campaign_first x (a ∷ b ∷ []) = sym (and_false (x == 0xA5))
campaign_first x (a ∷ b ∷ c ∷ []) = sym (and_false (x == 0xA5))
campaign_first x (a ∷ b ∷ c ∷ d ∷ []) = sym (and_false (x == 0xA5))
campaign_first x (a ∷ b ∷ c ∷ d ∷ e ∷ []) = sym (and_false (x == 0xA5))
campaign_first x (a ∷ b ∷ c ∷ d ∷ e ∷ f ∷ []) = sym (and_false (x == 0xA5))
campaign_first x (a ∷ b ∷ c ∷ d ∷ e ∷ f ∷ g ∷ rest) = refl

not_open : (x : ℕ) (t : List ℕ) → (x == 0xA5) ≡ false → is_campaign (x ∷ t) ≡ false
not_open x t shut = campaign_first x t ∙ ap (λ (b : Bool). b && is_campaign (0xA5 ∷ t)) shut

pub none_kept : (image : List ℕ) → is_campaign image ≡ false → kept image ≡ Err NotACampaign
none_kept image no_campaign = rw (header_none image no_campaign) refl
  where
    header_none : (image : List ℕ) → is_campaign image ≡ false → header_of image ≡ Err NotACampaign
    header_none image no_campaign = rw no_campaign refl

-- the gate is closed

closed_empty : (image : List ℕ) → length image ≤ 1 → is_campaign image ≡ false
closed_empty [] le = refl
closed_empty (x ∷ []) le = refl
closed_empty (x ∷ y ∷ image) le = absurd (omega (arith, le))

first_torn : (t image : List ℕ) → Torn (0xA5 ∷ t) 0 1 image → IsSameOrNone (0xA5 ∷ t) image
first_torn t [] torn = absurd (omega (arith, torn.no_shorter))
first_torn t (x ∷ u) torn =
    ⊎_elim
    (λ (y : ((x == 0xA5) ≡ true) × (x ≡ 0xA5)). inl (ap (λ b. b ∷ u) y.1 ∙ ap (λ (l : List ℕ). 0xA5 ∷ l) torn.after))
    (λ (n : ((x == 0xA5) ≡ false) × (x ≢ 0xA5)). inr (not_open x u n.0))
    (eqb_tells x 0xA5)

pub close_torn : (file image : List ℕ) → NeedsClosing file → Torn file 0 1 image → IsSameOrNone file image
close_torn file image (inl none) torn = inr (closed_empty image (let n = ap length none in omega (arith, torn.no_longer, n)))
close_torn file image (inr (rest, is)) torn =
    subst (λ (f : List ℕ). IsSameOrNone f image) (sym is) (first_torn rest image (subst (λ (f : List ℕ). Torn f 0 1 image) is torn))

pub closed_by : (file : List ℕ) → IsClosed (overwritten file 0 (0 ∷ []))
closed_by file = record { byte = 0; rest = drop 1 file; is = refl; shut = refl }

pub close_nothing : (past : Past) → IsSynced past → LeavesOnly past past (IsSameOrNone (content past))
close_nothing past is = started past (IsSameOrNone (content past)) (λ image now. inl (image_if_synced past image is now))

-- the header behind it

pub headed_whole : (card file : List ℕ) → length card < 2 ^ 32 → IsHeaded card file → file_data file ≡ Ok (record { card = card; rows = []; gate = 13 + length card })
headed_whole card file short (rest, is) =
    ap file_data is
    ∙ read_again_lem card [] 0 rest short tt refl (λ e. cc)
    ∙ ap (λ (g : ℕ). let d : FileData = record { card = card; rows = []; gate = g } in Ok d) (add-zero (13 + length card))

pub headed_kept : (card file : List ℕ) → length card < 2 ^ 32 → IsHeaded card file → kept file ≡ Ok (file_begun card)
headed_kept card file short headed = file_kept file card [] (13 + length card) (headed_whole card file short headed)

module _ (card head body : List ℕ) (short : length card < 2 ^ 32) (head_is : head ≡ head_bytes card ++ 0 ∷ []) (body_is : body ≡ drop 1 head) where
  whole : (rest : List ℕ) → 0xA5 ∷ (body ++ rest) ≡ head_bytes card ++ 0 ∷ rest
  whole rest =
      ap (λ (l : List ℕ). 0xA5 ∷ (l ++ rest)) (body_is ∙ ap (λ (l : List ℕ). drop 1 l) head_is)
      ∙ append_assoc (head_bytes card) (0 ∷ []) rest

  behind : (z : ℕ) (t : List ℕ) → overwritten (z ∷ t) 1 body ≡ z ∷ (body ++ drop (1 + length body) (z ∷ t))
  behind z t = refl

  closed_torn : (file image : List ℕ) → IsClosed file → Torn file 1 (length body) image → is_campaign image ≡ false
  closed_torn file image closed torn =
      let first : take 1 image ≡ closed.byte ∷ [] = torn.before ∙ ap (λ (l : List ℕ). take 1 l) closed.is in
      ap is_campaign (first_known image closed.byte first) ∙ not_open closed.byte (drop 1 image) closed.shut

  gate_case : (x : ℕ) (rest : List ℕ) → (is_campaign (x ∷ (body ++ rest)) ≡ false) ⊎ IsHeaded card (x ∷ (body ++ rest))
  gate_case x rest =
      ⊎_elim
      (λ (y : ((x == 0xA5) ≡ true) × (x ≡ 0xA5)). inr (rest, ap (λ b. b ∷ (body ++ rest)) y.1 ∙ whole rest))
      (λ (n : ((x == 0xA5) ≡ false) × (x ≢ 0xA5)). inl (not_open x (body ++ rest) n.0))
      (eqb_tells x 0xA5)

  open_torn : (z : ℕ) (rest image : List ℕ) → Torn (z ∷ (body ++ rest)) 0 1 image → (is_campaign image ≡ false) ⊎ IsHeaded card image
  open_torn z rest [] torn = absurd (omega (arith, torn.no_shorter))
  open_torn z rest (x ∷ u) torn = subst (λ (l : List ℕ). (is_campaign (x ∷ l) ≡ false) ⊎ IsHeaded card (x ∷ l)) (sym torn.after) (gate_case x rest)

  pub begin_torn : (file image : List ℕ) → IsClosed file → IsBodyOrGate file 0 body image → (is_campaign image ≡ false) ⊎ IsHeaded card image
  begin_torn file image closed (inl torn) = inl (closed_torn file image closed torn)
  begin_torn file image closed (inr torn) =
      open_torn closed.byte (drop (1 + length body) (closed.byte ∷ closed.rest)) image (subst (λ (f : List ℕ). Torn (overwritten f 1 body) 0 1 image) closed.is torn)

  pub begin_done : (file : List ℕ) → IsClosed file → IsHeaded card (overwritten (overwritten file 1 body) 0 (0xA5 ∷ []))
  begin_done file closed =
      let rest = drop (1 + length body) (closed.byte ∷ closed.rest) in
      (rest, ap (λ (f : List ℕ). overwritten (overwritten f 1 body) 0 (0xA5 ∷ [])) closed.is ∙ whole rest)

  -- all of it, from a disk on which nothing is unsynced
  pub begin_leaves : (old mid new : Past) → IsSynced old → IsImage old (content old) → IsClosed (content mid) → LeavesOnly old mid (IsSameOrNone (content old)) → LeavesOnly mid new (IsBodyOrGate (content mid) 0 body)
      → LeavesOnly old new (IsOneOfThree old card)
  begin_leaves old mid new synced reads closed first second =
      joined old mid new (IsOneOfThree old card)
      (weaker old mid (IsSameOrNone (content old)) (IsOneOfThree old card) (λ image s. close_leaves old image reads s) first)
      (weaker mid new (IsBodyOrGate (content mid) 0 body) (IsOneOfThree old card)
      (λ image s. ⊎_elim (λ n. inr (inl (none_kept image n))) (λ h. inr (inr (headed_kept card image short h))) (begin_torn (content mid) image closed s)) second)
    where
      close_leaves : (old : Past) (image : List ℕ) → IsImage old (content old) → IsSameOrNone (content old) image → IsOneOfThree old card image
      close_leaves old image reads (inl same) = inl (subst (IsImage old) (sym same) reads)
      close_leaves old image reads (inr none) = inr (inl (none_kept image none))

-- an opening that only reads
pub settle_same : (old new : Past) → new ≡ old → LeavesOnly old new (IsImage old)
settle_same old new is = subst (λ p. LeavesOnly old p (IsImage old)) (sym is) (started old (IsImage old) (λ image now. now))

pub settle_synced : (old mid new : Past) → mid ≡ Synced old → new ≡ mid → IsImage old (content old) → LeavesOnly old new (IsImage old)
settle_synced old mid new synced is reads =
    let synced_leaves = after_sync old old (IsImage old) (started old (IsImage old) (λ image now. now)) (λ image now. subst (IsImage old) (sym (image_after_sync old image now)) reads) in
    subst (λ p. LeavesOnly old p (IsImage old)) (sym (is ∙ synced)) synced_leaves

-- nothing is written
pub stays : (past : Past) (P : List ℕ → Type 0) → ((image : List ℕ) → IsImage past image → P image) → LeavesOnly past past P
stays past P imp = started past P imp

pub stays_one : (past : Past) (card : List ℕ) → LeavesOnly past past (IsOneOfThree past card)
stays_one past card = started past (IsOneOfThree past card) (λ image now. inl now)

-- an opening and what follows it
pub opened_one : (old mid new : Past) (card : List ℕ) → LeavesOnly old mid (IsImage old) → LeavesOnly mid new (IsOneOfThree mid card) → LeavesOnly old new (IsOneOfThree old card)
opened_one old mid new card first second =
    joined old mid new (IsOneOfThree old card)
    (weaker old mid (IsImage old) (IsOneOfThree old card) (λ image i. inl i) first)
    (weaker mid new (IsOneOfThree mid card) (IsOneOfThree old card) (λ image three. ⊎_elim (λ now. inl (ended old mid (IsImage old) first image now)) (λ other. inr other) three) second)

-- an opening that begins nothing
module _ (old mid new : Past) (fresh : Bool) (same : content mid ≡ content old) (not_begun : IsBegun fresh (content old) → ⊥) (untouched : (IsBegun fresh (content mid) → ⊥) → new ≡ mid) where
  unwritten : new ≡ mid
  unwritten = untouched (λ b. not_begun (subst (IsBegun fresh) same b))

  pub opened_same : content new ≡ content old
  opened_same = ap content unwritten ∙ same

  pub opened_kept : LeavesOnly old mid (IsImage old) → LeavesOnly old new (IsImage old)
  opened_kept leaves = subst (λ p. LeavesOnly old p (IsImage old)) (sym unwritten) leaves
