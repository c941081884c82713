-- What `clap` makes of one word of a flat command.
use Rattle.std.proofs.Common.{◌≡◌, ℕ, Bool, true, false, not, ◌&&◌, List, [], ◌∷◌, ◌++◌, map, refl, ap, sym, subst, ◌∙◌, codes, ◌⊎◌, inl, inr, arith}
use Rattle.std.specs.Prelude.{Option, Some, None, is_some, if◌then◌else◌, slice_get, option_and_then, ◌==◌}
use Rattle.std.specs.Str.{bytes_eq, chars}
use Rattle.std.proofs.Math.Bool.{and-true}
use Rattle.std.proofs.lemmas.Slice.Eq.{bytes_eq-Decides}
use Rattle.std.proofs.lemmas.Bool.Decides.{nat_tests}
use Rattle.clap.specs.Kinds.{Kinds, or_else}
use Rattle.clap.specs.Lexer.{long_of, long_of_rest, name_and_value, short_of, short_of_rest, strip_byte}
use Rattle.clap.specs.Faults.{bundle_fault, flags_fault, long_fault, option_fault, react_fault, settle_fault, step_fault, turn_fault, use_fault}
use Rattle.clap.specs.Walk.{Held, Row, Rule, Waiting, Walk, after_flag, after_step, arg_by_long, has_row, idle, long_met, option, settled, takes_values, walked}
use Rattle.clap.specs.declared.error.kind.ErrorKind.TheVariants as kind
use Rattle.command_line.specs.Commands.{Text}
use Rattle.command_line.specs.Options.{is_none}
use Rattle.command_line.specs.Grammar.{Kind, ends, is_value, flag_kind, gives, is_among, word_kind, long_kind, named_kind, opens, option_kind, other}
use Rattle.command_line.proofs.Lookups.{flag_built, id_option, long_flag, long_option, long_past, no_index, no_long_flag, no_short, option_built, rules, shape_for}
use Rattle.command_line.proofs.Rows.{flag_again, flag_use, option_again, row_of_use, used_flag, used_option}

-- a word that begins with one hyphen and goes on has a first character after it
abbrev pub HasChar : Text → Type 0
HasChar word = (flags : Text) → short_of word ≡ Some flags → (y : ℕ) × (slice_get (chars flags) 0 ≡ Some y)

pub none_or_else : (a b : Kinds) → is_none (or_else a b) ≡ (is_none a && is_none b)
none_or_else [] b = refl
none_or_else (k ∷ ks) b = refl

some_if : {A : Type 0} (b : Bool) (x y : A) → (b ≡ true → x ≡ y) → (if b then Some x else None) ≡ (if b then Some y else None)
some_if true x y h = ap (λ z. Some z) (h refl)
some_if false x y h = refl

and_first : (a b : Bool) → (a && b) ≡ true → b ≡ true
and_first true b h = h
and_first false b h = cc

pub not_true : (b : Bool) → not b ≡ true → b ≡ false
not_true true h = cc
not_true false h = refl

same_byte : (c : ℕ) → (c == 45) ≡ true → c ≡ 45
same_byte c t = grind (arith, nat_tests, t)

hyphen : (b : ℕ) → not (b == 45) ≡ false → b ≡ 45
hyphen b t = grind (arith, nat_tests, t)

same_bytes : (n : Text) → bytes_eq n n ≡ true
same_bytes n = (bytes_eq-Decides n n).1 refl

abbrev pub held : List Row → Option (Text × List Text) → Held
held r p = record { rows = r; pending = p; skip = 0 }

abbrev pub at : Held → Waiting → Walk
at h w = record { held = h; waiting = w; position = 1; is_trailing = false; stopped = None }

module _ (title : Text) (ns fs : List Text) where
  abbrev pub turn : Walk → Text → Option Walk
  turn w word = if is_none (turn_fault (shape_for title ns fs) [] w word) then Some (walked (rules ns fs) [] w word) else None

  -- what is pending can be used
  abbrev pub settles : Held → Bool
  settles h = is_none (settle_fault (rules ns fs) false h)

  abbrev pub rows_settled : Held → List Row
  rows_settled h = (settled (rules ns fs) h).rows

  -- the walk after a word of this kind
  abbrev pub by_kind : Held → Kind → Option Walk
  by_kind h ends = Some (record (at h idle) { is_trailing = true })
  by_kind h (opens name) = if settles h then Some (at (held (rows_settled h) (Some (name, []))) (option name)) else None
  by_kind h (gives u) =
      if settles h && not (has_row u.name (rows_settled h)) then Some (at (held (rows_settled h ++ row_of_use u ∷ []) None) idle) else None
  by_kind h other = None

  -- a long word, with the argument that it names
  abbrev after_long : Waiting → Option Rule → Option Text → Held → Text → Option Walk
  after_long waiting found v h word =
      let met = after_flag (rules ns fs) waiting word (long_met (rules ns fs) found v h).0 (long_met (rules ns fs) found v h).1 in
      if is_none (long_fault (rules ns fs) false found v h) && is_none (step_fault (shape_for title ns fs) 1 met.0 met.1)
      then Some (after_step (rules ns fs) word (at h waiting) met.0 met.1) else None

  turn_ends : (h : Held) (word : Text) → bytes_eq word (codes "--") ≡ true → turn (at h idle) word ≡ by_kind h ends
  unfolding walked
  turn_ends h word e = rw e refl

  turn_long : (h : Held) (word name : Text) (v : Option Text) → bytes_eq word (codes "--") ≡ false → long_of word ≡ Some (name, v)
      → turn (at h idle) word ≡ after_long idle (arg_by_long (rules ns fs) name) v h word
  unfolding walked
  turn_long h word name v e l = rw (e, l) (rw none_or_else refl)

  option_opens : (r : List Row) (p : Option (Text × List Text)) (word n : Text)
      → after_long idle (Some (option_built n)) None (held r p) word ≡ by_kind (held r p) (opens n)
  option_opens r p word n = rw (and-true (settles (held r p))) refl

  option_gives : (r : List Row) (p : Option (Text × List Text)) (word n v : Text)
      → after_long idle (Some (option_built n)) (Some v) (held r p) word ≡ by_kind (held r p) (gives (record { name = n; value = v }))
  option_gives r p word n v =
      rw (
        and-true _,
        none_or_else (settle_fault (rules ns fs) false (held r p)) (use_fault false (option_built n) (v ∷ []) (rows_settled (held r p))),
        option_again n v (rows_settled (held r p)),
      )
      (some_if (settles (held r p) && not (has_row n (rows_settled (held r p)))) _ _
      (λ t. ap (λ rows. at (held rows None) idle)
      (used_option n v (rows_settled (held r p)) (not_true _ (and_first _ _ t)))))

  flag_gives : (r : List Row) (p : Option (Text × List Text)) (word n : Text)
      → after_long idle (Some (flag_built n)) None (held r p) word ≡ by_kind (held r p) (gives (flag_use n))
  flag_gives r p word n =
      rw (
        and-true _,
        none_or_else (settle_fault (rules ns fs) false (held r p)) (use_fault false (flag_built n) [] (rows_settled (held r p))),
        flag_again n (rows_settled (held r p)),
      )
      (some_if (settles (held r p) && not (has_row n (rows_settled (held r p)))) _ _
      (λ t. ap (λ rows. at (held rows None) idle)
      (used_flag n (rows_settled (held r p)) (not_true _ (and_first _ _ t)))))

  flag_other : (r : List Row) (p : Option (Text × List Text)) (word n v : Text)
      → after_long idle (Some (flag_built n)) (Some v) (held r p) word ≡ None
  flag_other r p word n v = refl

  option_any : (r : List Row) (p : Option (Text × List Text)) (word n : Text) (v : Option Text)
      → after_long idle (Some (option_built n)) v (held r p) word ≡ by_kind (held r p) (option_kind n v)
  option_any r p word n None = option_opens r p word n
  option_any r p word n (Some v) = option_gives r p word n v

  flag_any : (r : List Row) (p : Option (Text × List Text)) (word n : Text) (v : Option Text)
      → after_long idle (Some (flag_built n)) v (held r p) word ≡ by_kind (held r p) (flag_kind n v)
  flag_any r p word n None = flag_gives r p word n
  flag_any r p word n (Some v) = flag_other r p word n v

  past_options : (r : List Row) (p : Option (Text × List Text)) (word n : Text) (v : Option Text)
      → after_long idle (arg_by_long (map flag_built fs) n) v (held r p) word
      ≡ by_kind (held r p) (if is_among fs n then flag_kind n v else other)
  past_options r p word n v =
      elim (is_among fs n) as (λ (b : Bool). is_among fs n ≡ b → after_long idle (arg_by_long (map flag_built fs) n) v (held r p) word
      ≡ by_kind (held r p) (if b then flag_kind n v else other))
      [ true ↦ λ e. rw (long_flag fs n e) (flag_any r p word n v) | false ↦ λ e. rw (no_long_flag fs n e) refl ] refl

  named : (r : List Row) (p : Option (Text × List Text)) (word n : Text) (v : Option Text)
      → after_long idle (arg_by_long (rules ns fs) n) v (held r p) word ≡ by_kind (held r p) (named_kind ns fs n v)
  named r p word n v =
      elim (is_among ns n) as (λ (b : Bool). is_among ns n ≡ b → after_long idle (arg_by_long (rules ns fs) n) v (held r p) word
      ≡ by_kind (held r p) (if b then option_kind n v else (if is_among fs n then flag_kind n v else other)))
      [ true ↦ λ e. rw (long_option ns fs n e) (option_any r p word n v) | false ↦ λ e. rw (long_past ns fs n e) (past_options r p word n v) ] refl

  -- a word that is no long one, where nothing waits
  turn_plain : (h : Held) (word : Text) → bytes_eq word (codes "--") ≡ false → long_of word ≡ None → short_of word ≡ None
      → turn (at h idle) word ≡ None
  unfolding walked
  turn_plain h word e l s = rw (e, l, s) (rw (no_index ns fs 1) refl)

  -- no argument has a short name, so that a word of short flags is refused
  bundle_refused : (flags : Text) (h : Held) (y : ℕ) → h.skip ≡ 0 → slice_get (chars flags) 0 ≡ Some y
      → is_none (bundle_fault (rules ns fs) false flags h) ≡ false
  unfolding flags_fault chars
  bundle_refused [] h y z c = cc
  bundle_refused (b ∷ flags) h y z c = rw (z, c, no_short ns fs y) refl

  turn_short : (r : List Row) (p : Option (Text × List Text)) (word flags : Text) (y : ℕ) → bytes_eq word (codes "--") ≡ false → long_of word ≡ None
      → short_of word ≡ Some flags → slice_get (chars flags) 0 ≡ Some y → turn (at (held r p) idle) word ≡ None
  unfolding walked
  turn_short r p word flags y e l s c =
      rw (e, l, s) (rw (none_or_else (bundle_fault (rules ns fs) false flags (held r p)) _, bundle_refused flags (held r p) y refl c) refl)

  no_long : (r : List Row) (p : Option (Text × List Text)) (word : Text) → HasChar word → bytes_eq word (codes "--") ≡ false → long_of word ≡ None
      → turn (at (held r p) idle) word ≡ None
  no_long r p word hc e l =
      elim (short_of word) as (λ (s : Option Text). short_of word ≡ s → turn (at (held r p) idle) word ≡ None)
      [ None ↦ λ s. turn_plain (held r p) word e l s | Some flags ↦ λ s. turn_short r p word flags (hc flags s).0 e l s (hc flags s).1 ] refl

  no_ends : (r : List Row) (p : Option (Text × List Text)) (word : Text) → HasChar word → bytes_eq word (codes "--") ≡ false
      → turn (at (held r p) idle) word ≡ by_kind (held r p) (long_kind ns fs (long_of word))
  no_ends r p word hc e =
      elim (long_of word) as (λ (l : Option (Text × Option Text)). long_of word ≡ l → turn (at (held r p) idle) word ≡ by_kind (held r p) (long_kind ns fs l))
      [ None ↦ λ l. no_long r p word hc e l | Some q ↦ λ l. turn_long (held r p) word q.0 q.1 e l ∙ named r p word q.0 q.1 ] refl

  -- a word where nothing waits for a value
  pub turn_idle : (r : List Row) (p : Option (Text × List Text)) (word : Text) → HasChar word
      → turn (at (held r p) idle) word ≡ by_kind (held r p) (word_kind ns fs word)
  turn_idle r p word hc =
      elim (bytes_eq word (codes "--")) as (λ (b : Bool). bytes_eq word (codes "--") ≡ b
      → turn (at (held r p) idle) word ≡ by_kind (held r p) (if b then ends else long_kind ns fs (long_of word)))
      [ true ↦ λ e. turn_ends (held r p) word e | false ↦ λ e. no_ends r p word hc e ] refl

  -- any word after `--`
  pub turn_trailing : (h : Held) (waiting : Waiting) (word : Text) → turn (record (at h waiting) { is_trailing = true }) word ≡ None
  unfolding walked
  turn_trailing h waiting word = rw (no_index ns fs 1) refl

  value_words : (word : Text) → is_value word ≡ true
      → (bytes_eq word (codes "--") ≡ false) × (long_of word ≡ None) × (short_of word ≡ None)
  value_words [] h = (refl, refl, refl)
  value_words (b ∷ []) h =
      elim (b == 45) as (λ (x : Bool). ((x && false) ≡ false)
      × (option_and_then long_of_rest (option_and_then (strip_byte 45) (if x then Some [] else None)) ≡ None)
      × (option_and_then short_of_rest (if x then Some [] else None) ≡ None))
      [ true ↦ (refl, refl, refl) | false ↦ (refl, refl, refl) ]
  value_words (b ∷ c ∷ rest) h =
      let other : (b == 45) ≡ false = not_true (b == 45) h in
      rw other (refl, refl, refl)

  -- the value of an option
  pub turn_value : (r : List Row) (n word : Text) → is_among ns n ≡ true → is_value word ≡ true
      → turn (at (held r (Some (n, []))) (option n)) word ≡ Some (at (held r (Some (n, word ∷ []))) idle)
  unfolding walked
  turn_value r n word known v =
      let w = value_words word v in
      let id = id_option ns fs n known in
      rw (w.0, w.1, w.2, id) (rw (same_bytes n) refl)

  -- an option that waits for its value cannot be used
  pub waits : (r : List Row) (n : Text) → is_among ns n ≡ true → settles (held r (Some (n, []))) ≡ false
  waits r n known = rw (id_option ns fs n known) refl

  or_else_refused : (x y : Kinds) → is_none x ≡ false → is_none (or_else x y) ≡ false
  or_else_refused x y e = none_or_else x y ∙ ap (λ b. b && is_none y) e

  option_refused : (h : Held) (a : Rule) (v : Option Text) → settles h ≡ false → is_none (option_fault (rules ns fs) false a v h) ≡ false
  option_refused h a None e = e
  option_refused h a (Some v) e = or_else_refused (settle_fault (rules ns fs) false h) _ e

  flag_refused : (h : Held) (a : Rule) (v : Option Text) → settles h ≡ false
      → is_none (if is_some v then kind.TooManyValues ∷ [] else react_fault (rules ns fs) false a [] h) ≡ false
  flag_refused h a None e = or_else_refused (settle_fault (rules ns fs) false h) _ e
  flag_refused h a (Some v) e = refl

  -- so a long word is refused there
  long_refused : (h : Held) (found : Option Rule) (v : Option Text) → settles h ≡ false → is_none (long_fault (rules ns fs) false found v h) ≡ false
  long_refused h None v e = refl
  long_refused h (Some a) v e =
      elim (takes_values a) as (λ (b : Bool). is_none (if b then option_fault (rules ns fs) false a v h
      else (if is_some v then kind.TooManyValues ∷ [] else react_fault (rules ns fs) false a [] h)) ≡ false)
      [ true ↦ option_refused h a v e | false ↦ flag_refused h a v e ]

  long_unfit : (h : Held) (n word name : Text) (v : Option Text) → settles h ≡ false → bytes_eq word (codes "--") ≡ false → long_of word ≡ Some (name, v)
      → turn (at h (option n)) word ≡ None
  unfolding walked
  long_unfit h n word name v e d l =
      rw (d, l) (rw (
        none_or_else (long_fault (rules ns fs) false (arg_by_long (rules ns fs) name) v h) _,
        long_refused h (arg_by_long (rules ns fs) name) v e,
      ) refl)

  short_unfit : (h : Held) (n word flags : Text) (y : ℕ) → h.skip ≡ 0 → bytes_eq word (codes "--") ≡ false → long_of word ≡ None → short_of word ≡ Some flags
      → slice_get (chars flags) 0 ≡ Some y → turn (at h (option n)) word ≡ None
  unfolding walked
  short_unfit h n word flags y z d l s c =
      rw (d, l, s) (rw (none_or_else (bundle_fault (rules ns fs) false flags h) _, bundle_refused flags h y z c) refl)

  two_hyphens : (h : Held) (n : Text) (c : ℕ) (rest : Text) → settles h ≡ false → (c == 45) ≡ true
      → (turn (at h (option n)) (45 ∷ c ∷ rest) ≡ None) ⊎ (45 ∷ c ∷ rest ≡ codes "--")
  two_hyphens h n c [] e t = inr (ap (λ k. 45 ∷ k ∷ []) (same_byte c t))
  two_hyphens h n c (d ∷ ds) e t =
      inl (long_unfit h n (45 ∷ c ∷ d ∷ ds) (name_and_value (d ∷ ds)).0 (name_and_value (d ∷ ds)).1 e (rw t refl) (rw t refl))

  hyphen_unfit : (h : Held) (n : Text) (c : ℕ) (rest : Text) → h.skip ≡ 0 → settles h ≡ false → HasChar (45 ∷ c ∷ rest)
      → (turn (at h (option n)) (45 ∷ c ∷ rest) ≡ None) ⊎ (45 ∷ c ∷ rest ≡ codes "--")
  hyphen_unfit h n c rest z e hc =
      elim (c == 45) as (λ (b : Bool). (c == 45) ≡ b → (turn (at h (option n)) (45 ∷ c ∷ rest) ≡ None) ⊎ (45 ∷ c ∷ rest ≡ codes "--")) [
        | true ↦ λ t. two_hyphens h n c rest e t
        | false ↦ λ t. let s : short_of (45 ∷ c ∷ rest) ≡ Some (c ∷ rest) = rw t refl in
            let first = hc (c ∷ rest) s in
            inl (short_unfit h n (45 ∷ c ∷ rest) (c ∷ rest) first.0 z (rw t refl) (rw t refl) s first.1)
      ] refl

  -- a word that is no value, where an option waits for one: it is refused, or it is `--`
  pub turn_unfit : (h : Held) (n word : Text) → HasChar word → h.skip ≡ 0 → settles h ≡ false → is_value word ≡ false
      → (turn (at h (option n)) word ≡ None) ⊎ (word ≡ codes "--")
  turn_unfit h n [] hc z e v = cc
  turn_unfit h n (b ∷ []) hc z e v = cc
  turn_unfit h n (b ∷ c ∷ rest) hc z e v =
      let is_hyphen : b ≡ 45 = hyphen b v in
      subst (λ (x : ℕ). HasChar (x ∷ c ∷ rest) → (turn (at h (option n)) (x ∷ c ∷ rest) ≡ None) ⊎ (x ∷ c ∷ rest ≡ codes "--"))
      (sym is_hyphen) (hyphen_unfit h n c rest z e) hc

  -- `--`, where an option waits for its value
  pub turn_ends_waiting : (h : Held) (n : Text) → turn (at h (option n)) (codes "--") ≡ Some (record (at h (option n)) { is_trailing = true })
  unfolding walked
  turn_ends_waiting h n = refl
