-- The walk over all the words of a flat command, and what they are read as.
use Rattle.std.proofs.Common.{◌≡◌, Bool, true, false, not, ◌&&◌, List, [], ◌∷◌, ◌++◌, map, refl, ap, sym, subst, ◌∙◌, append-nil, codes, ◌⊎◌, inl, inr}
use Rattle.std.specs.Prelude.{Option, Some, None, if◌then◌else◌, option_and_then}
use Rattle.std.specs.List.{AllByRecursion}
use Rattle.std.specs.Str.{bytes_eq}
use Rattle.clap.specs.Lexer.{long_of}
use Rattle.clap.specs.Walk.{Held, Row, Walk, has_row, idle, option}
use Rattle.command_line.specs.Commands.{Text}
use Rattle.command_line.specs.Grammar.{Kind, Use, after_kind, are_new, ends, flag_kind, gives, if_last, is_among, is_value, word_kind, long_kind, opens, option_kind, other, read_words, then_use}
use Rattle.command_line.proofs.Rows.{names, option_again, row_among, row_of_use, used_option}
use Rattle.command_line.proofs.Lookups.{id_option}
use Rattle.command_line.proofs.Turns.{HasChar, at, by_kind, held, not_true, rows_settled, settles, turn, turn_ends_waiting, turn_idle, turn_trailing, turn_unfit, turn_value, waits}

-- the rows of the uses so far and of those that follow, where no name comes twice
abbrev pub out : List Use → Option (List Use) → Option (List Row)
out us None = None
out us (Some more) = if are_new (names us) more then Some (map row_of_use (us ++ more)) else None

if_none : {A : Type 0} (b : Bool) (x : Option A) → x ≡ None → (if b then x else None) ≡ None
if_none true x e = e
if_none false x e = refl

-- both sides under one test
if_both : {A B : Type 0} (f : A → Option B) (b : Bool) (x : A) (y : Option B) → (b ≡ true → f x ≡ y)
    → option_and_then f (if b then Some x else None) ≡ (if b then y else None)
if_both f true x y h = h refl
if_both f false x y h = refl

gives_if : {A B : Type 0} (f : A → Option B) (s c d : Bool) (x : A) (y : Option B) → (s ≡ true → c ≡ d) → (s ≡ true → d ≡ true → f x ≡ y)
    → option_and_then f (if s && c then Some x else None) ≡ (if s then (if d then y else None) else None)
gives_if f true c d x y e h = rw (e refl) (if_both f d x y (h refl))
gives_if f false c d x y e h = refl

names_snoc : (us : List Use) (u : Use) → names (us ++ u ∷ []) ≡ names us ++ u.name ∷ []
names_snoc [] u = refl
names_snoc (x ∷ us) u = ap (λ s. x.name ∷ s) (names_snoc us u)

rows_snoc : (us : List Use) (u : Use) → map row_of_use (us ++ u ∷ []) ≡ map row_of_use us ++ row_of_use u ∷ []
rows_snoc [] u = refl
rows_snoc (x ∷ us) u = ap (λ s. row_of_use x ∷ s) (rows_snoc us u)

uses_snoc : (us : List Use) (u : Use) (more : List Use) → (us ++ u ∷ []) ++ more ≡ us ++ u ∷ more
uses_snoc [] u more = refl
uses_snoc (x ∷ us) u more = ap (λ s. x ∷ s) (uses_snoc us u more)

-- one use more, and then those that follow
out_then : (us : List Use) (u : Use) (r : Option (List Use)) → out us (then_use u r)
    ≡ (if not (is_among (names us) u.name) then out (us ++ u ∷ []) r else None)
out_then us u None = sym (if_none (not (is_among (names us) u.name)) None refl)
out_then us u (Some more) =
    rw (names_snoc us u, uses_snoc us u more)
    (elim (not (is_among (names us) u.name)) as (λ (b : Bool). (if b && are_new (names us ++ u.name ∷ []) more then Some (map row_of_use (us ++ u ∷ more)) else None)
    ≡ (if b then (if are_new (names us ++ u.name ∷ []) more then Some (map row_of_use (us ++ u ∷ more)) else None) else None))
    [ true ↦ refl | false ↦ refl ])

not_named : (us : List Use) (n : Text) → not (is_among (names us) n) ≡ not (has_row n (map row_of_use us))
not_named us n = ap not (sym (row_among us n))

module _ (title : Text) (ns fs : List Text) where
  abbrev pub run : Walk → List Text → Option (List Row)
  run w [] = if settles title ns fs w.held then Some (rows_settled title ns fs w.held) else None
  run w (word ∷ rest) = option_and_then (λ v. run v rest) (turn title ns fs w word)

  run_trailing : (h : Held) (rest : List Text) → settles title ns fs h ≡ false → (n : Text)
      → run (record (at h (option n)) { is_trailing = true }) rest ≡ None
  run_trailing h [] e n = rw e refl
  run_trailing h (word ∷ rest) e n = rw (turn_trailing title ns fs h (option n) word) refl

  option_opens_known : (n name : Text) (v : Option Text) → is_among ns name ≡ true → option_kind name v ≡ opens n → is_among ns n ≡ true
  option_opens_known n name None h e = let same : name ≡ n = cc in subst (λ (k : Text). is_among ns k ≡ true) same h
  option_opens_known n name (Some v) h e = cc

  flag_opens_known : (n name : Text) (v : Option Text) → flag_kind name v ≡ opens n → is_among ns n ≡ true
  flag_opens_known n name None e = cc
  flag_opens_known n name (Some v) e = cc

  named_opens_known : (n : Text) (q : Option (Text × Option Text)) → long_kind ns fs q ≡ opens n → is_among ns n ≡ true
  named_opens_known n None e = cc
  named_opens_known n (Some q) e =
      elim (is_among ns q.0) as (λ (b : Bool). is_among ns q.0 ≡ b
      → (if b then option_kind q.0 q.1 else (if is_among fs q.0 then flag_kind q.0 q.1 else other)) ≡ opens n → is_among ns n ≡ true) [
        | true ↦ λ h t. option_opens_known n q.0 q.1 h t
        | false ↦ λ h t. elim (is_among fs q.0) as (λ (b : Bool). (if b then flag_kind q.0 q.1 else other) ≡ opens n → is_among ns n ≡ true)
            [ true ↦ λ t. flag_opens_known n q.0 q.1 t | false ↦ λ t. cc ] t
      ] refl e

  -- an option that a word names is one of the options
  opens_known : (n word : Text) → word_kind ns fs word ≡ opens n → is_among ns n ≡ true
  opens_known n word e =
      elim (bytes_eq word (codes "--")) as (λ (b : Bool). (if b then ends else long_kind ns fs (long_of word)) ≡ opens n → is_among ns n ≡ true)
      [ true ↦ λ t. cc | false ↦ λ t. named_opens_known n (long_of word) t ] e

  -- what the walk comes to from a state where nothing waits, and from one where an option waits
  abbrev IdleRun : List Text → Type 0
  IdleRun ws = (r : List Row) (p : Option (Text × List Text)) (us : List Use)
      → (settles title ns fs (held r p) ≡ true → rows_settled title ns fs (held r p) ≡ map row_of_use us)
      → run (at (held r p) idle) ws ≡ (if settles title ns fs (held r p) then out us (read_words ns fs None ws) else None)

  abbrev WaitingRun : List Text → Type 0
  WaitingRun ws = (us : List Use) (n : Text) → is_among ns n ≡ true
      → run (at (held (map row_of_use us) (Some (n, []))) (option n)) ws ≡ out us (read_words ns fs (Some n) ws)

  idle_end : IdleRun []
  idle_end r p us h = some_rows (settles title ns fs (held r p)) (rows_settled title ns fs (held r p)) us h
    where
      some_rows : (b : Bool) (rows : List Row) (us : List Use) → (b ≡ true → rows ≡ map row_of_use us)
          → (if b then Some rows else None) ≡ (if b then Some (map row_of_use (us ++ [])) else None)
      some_rows true rows us h = ap (λ x. Some x) (h refl ∙ ap (map row_of_use) (sym (append-nil us)))
      some_rows false rows us h = refl

  waiting_end : WaitingRun []
  waiting_end us n known = rw (waits title ns fs (map row_of_use us) n known) refl

  ends_run : (r : List Row) (p : Option (Text × List Text)) (us : List Use) (ws : List Text)
      → (settles title ns fs (held r p) ≡ true → rows_settled title ns fs (held r p) ≡ map row_of_use us)
      → run (record (at (held r p) idle) { is_trailing = true }) ws ≡ (if settles title ns fs (held r p) then out us (if_last ws) else None)
  ends_run r p us [] h = idle_end r p us h
  ends_run r p us (word ∷ rest) h =
      rw (turn_trailing title ns fs (held r p) idle word) (sym (if_none (settles title ns fs (held r p)) None refl))

  kind_run : (r : List Row) (p : Option (Text × List Text)) (us : List Use) (ws : List Text)
      → (settles title ns fs (held r p) ≡ true → rows_settled title ns fs (held r p) ≡ map row_of_use us) → IdleRun ws → WaitingRun ws
      → (k : Kind) → ((n : Text) → k ≡ opens n → is_among ns n ≡ true)
      → option_and_then (λ v. run v ws) (by_kind title ns fs (held r p) k)
      ≡ (if settles title ns fs (held r p) then out us (after_kind k ws (λ waiting. read_words ns fs waiting ws)) else None)
  kind_run r p us ws h rest waiting ends known = ends_run r p us ws h
  kind_run r p us ws h rest waiting (opens n) known =
      if_both (λ v. run v ws) (settles title ns fs (held r p)) _ (out us (read_words ns fs (Some n) ws))
      (λ t. rw (h t) (waiting us n (known n refl)))
  kind_run r p us ws h rest waiting (gives u) known =
      rw (out_then us u (read_words ns fs None ws))
      (gives_if (λ v. run v ws) (settles title ns fs (held r p)) (not (has_row u.name (rows_settled title ns fs (held r p)))) (not (is_among (names us) u.name))
      _ (out (us ++ u ∷ []) (read_words ns fs None ws))
      (λ t. ap (λ rows. not (has_row u.name rows)) (h t) ∙ sym (not_named us u.name))
      (λ t _. rest (rows_settled title ns fs (held r p) ++ row_of_use u ∷ []) None (us ++ u ∷ [])
      (λ _. ap (λ s. s ++ row_of_use u ∷ []) (h t) ∙ sym (rows_snoc us u))))
  kind_run r p us ws h rest waiting other known = sym (if_none (settles title ns fs (held r p)) None refl)

  idle_step : (word : Text) (ws : List Text) → HasChar word → IdleRun ws → WaitingRun ws → IdleRun (word ∷ ws)
  idle_step word ws hc rest waiting r p us h =
      rw (turn_idle title ns fs r p word hc) (kind_run r p us ws h rest waiting (word_kind ns fs word) (λ n e. opens_known n word e))

  value_settles : (rows : List Row) (n v : Text) → is_among ns n ≡ true → settles title ns fs (held rows (Some (n, v ∷ []))) ≡ not (has_row n rows)
  value_settles rows n v known = rw (id_option ns fs n known) (option_again n v rows)

  value_rows : (rows : List Row) (n v : Text) → is_among ns n ≡ true → has_row n rows ≡ false
      → rows_settled title ns fs (held rows (Some (n, v ∷ []))) ≡ rows ++ row_of_use (record { name = n; value = v }) ∷ []
  value_rows rows n v known fresh = rw (id_option ns fs n known) (used_option n v rows fresh)

  value_run : (us : List Use) (n v : Text) (ws : List Text) → is_among ns n ≡ true → IdleRun ws
      → run (at (held (map row_of_use us) (Some (n, v ∷ []))) idle) ws
      ≡ out us (then_use (record { name = n; value = v }) (read_words ns fs None ws))
  value_run us n v ws known rest =
      let u : Use = record { name = n; value = v } in
      let rows = map row_of_use us in
      let again = value_settles rows n v known in
      rest rows (Some (n, v ∷ [])) (us ++ u ∷ [])
      (λ t. value_rows rows n v known (not_true (has_row n rows) (sym again ∙ t)) ∙ sym (rows_snoc us u))
      ∙ (ap (λ b. if b then out (us ++ u ∷ []) (read_words ns fs None ws) else None) (again ∙ sym (not_named us n))
      ∙ sym (out_then us u (read_words ns fs None ws)))

  unfit_run : (us : List Use) (n word : Text) (ws : List Text) → is_among ns n ≡ true
      → (turn title ns fs (at (held (map row_of_use us) (Some (n, []))) (option n)) word ≡ None) ⊎ (word ≡ codes "--")
      → run (at (held (map row_of_use us) (Some (n, []))) (option n)) (word ∷ ws) ≡ None
  unfit_run us n word ws known (inl t) = rw t refl
  unfit_run us n word ws known (inr t) =
      let h = held (map row_of_use us) (Some (n, [])) in
      rw (ap (turn title ns fs (at h (option n))) t ∙ turn_ends_waiting title ns fs h n)
      (run_trailing h ws (waits title ns fs (map row_of_use us) n known) n)

  waiting_step : (word : Text) (ws : List Text) → HasChar word → IdleRun ws → WaitingRun (word ∷ ws)
  waiting_step word ws hc rest us n known =
      let h = held (map row_of_use us) (Some (n, [])) in
      elim (is_value word) as (λ (b : Bool). is_value word ≡ b → run (at h (option n)) (word ∷ ws)
      ≡ out us (if b then then_use (record { name = n; value = word }) (read_words ns fs None ws) else None)) [
        | true ↦ λ e. rw (turn_value title ns fs (map row_of_use us) n word known e) (value_run us n word ws known rest)
        | false ↦ λ e. unfit_run us n word ws known (turn_unfit title ns fs h n word hc refl (waits title ns fs (map row_of_use us) n known) e)
      ] refl

  pub runs : (ws : List Text) → AllByRecursion HasChar ws → IdleRun ws × WaitingRun ws
  runs [] h = (idle_end, waiting_end)
  runs (word ∷ ws) h =
      let rest = runs ws h.1 in
      (idle_step word ws h.0 rest.0 rest.1, waiting_step word ws h.0 rest.0)
